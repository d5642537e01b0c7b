-- Refusals that come first: each law by the cases of the tests in it. Assumes nothing.
use Prim.Native.Nat.{ℕ, zero, suc, ◌*◌, ◌≤◌, ◌<◌}
use mathlib.Core.Path.{◌≡◌, refl, sym, ◌∙◌}
use mathlib.Core.Bool.{Bool, true, false, ◌||◌}
use native.Mathlib.Nat.{mul-le-mul_left}
use native.Mathlib.Omega.{arith}
use lib.Dec.{ltb, eqb}
use borrow.Author.Tests.{ltb-false, eqb-true}
use Rattle.route.specs.Grid.{pick}
use Rattle.route.specs.Numbers.{channels}
use Rattle.route.specs.declared.refusals.Refusal.{Refusal}
use Rattle.route.specs.declared.refusals.Refusal.TheVariants.{BadSide, BadRule, BadNode, BadArrival, SameNode, BadFlits, BadSize, NotNow, BadMemory, Full, NoPath, BadList, BadMove}
use Rattle.route.specs.Served.{off_side, unless, bad_mesh, bad_list, code}
use Rattle.route.proofs.Tests.{neither}

-- a refusal is given as it is; with 0 the call is served
pub refuses : {A : Type 0} (refuse : ℕ → A) (served : A) (k : ℕ) → (k ≡ 0 → ⊥) → unless refuse k served ≡ refuse k
refuses refuse served zero h = absurd (h refl)
refuses refuse served (suc k) h = refl

-- no refusal has the number 0
pub code_high : (e : Refusal) → 0 < code e
code_high BadSide = omega arith
code_high BadRule = omega arith
code_high BadNode = omega arith
code_high BadArrival = omega arith
code_high SameNode = omega arith
code_high BadFlits = omega arith
code_high BadSize = omega arith
code_high NotNow = omega arith
code_high BadMemory = omega arith
code_high Full = omega arith
code_high NoPath = omega arith
code_high BadList = omega arith
code_high BadMove = omega arith

-- so that a refusal is given as it is
pub refuses_by : {A : Type 0} (refuse : ℕ → A) (served : A) (e : Refusal) → unless refuse (code e) served ≡ refuse (code e)
refuses_by refuse served e = refuses refuse served (code e) (λ z. omega (arith, code_high e))

-- ---- a mesh
-- sides and a rule that the calls serve
pub record Served (C R rule : ℕ) : Type 0 where
  pub columns_low : 2 ≤ C
  pub columns_high : C ≤ 16
  pub rows_low : 2 ≤ R
  pub rows_high : R ≤ 16
  pub rule_known : rule < 5
  pub nodes_high : C * R ≤ C * 16

side_served : (length : ℕ) → off_side length ≡ false → (2 ≤ length) × (length ≤ 16)
side_served length h = let b = neither h in (ltb-false length 2 b.0, ltb-false 16 length b.1)

-- what no refusal has taught
pub served : (C R rule : ℕ) {k : ℕ} → k ≡ bad_mesh C R rule → k ≡ 0 → Served C R rule
served C R rule hk h = at (off_side C || off_side R) (ltb 4 rule) refl refl (sym hk ∙ h)
  where
    at : (x y : Bool) → off_side C || off_side R ≡ x → ltb 4 rule ≡ y → ◌≡◌ {A = ℕ} (pick x 1 (pick y 2 0)) 0 → Served C R rule
    at true y p q e = absurd (omega arith)
    at false true p q e = absurd (omega arith)
    at false false p q e =
        let b = neither p in
        let c = side_served C b.0 in
        let r = side_served R b.1 in
        record {
          columns_low = c.0;
          columns_high = c.1;
          rows_low = r.0;
          rows_high = r.1;
          rule_known = omega (arith, ltb-false 4 rule q);
          nodes_high = mul-le-mul_left C r.1;
        }

-- what no refusal of a list has taught
pub list_served : (C R rule length : ℕ) {k : ℕ} → k ≡ bad_list C R rule length → k ≡ 0 → Served C R rule × (length ≡ channels C R)
list_served C R rule length hk h = at (bad_mesh C R rule) refl (sym hk ∙ h)
  where
    at : (j : ℕ) → bad_mesh C R rule ≡ j → unless (λ i. i) j (pick (eqb length (channels C R)) 0 7) ≡ 0 → Served C R rule × (length ≡ channels C R)
    at (suc j) q e = absurd (omega arith)
    at zero q e = (served C R rule (sym q) refl, fits (eqb length (channels C R)) refl e)
      where
        fits : (b : Bool) → eqb length (channels C R) ≡ b → ◌≡◌ {A = ℕ} (pick b 0 7) 0 → length ≡ channels C R
        fits true p i = eqb-true length (channels C R) p
        fits false p i = absurd (omega arith)
