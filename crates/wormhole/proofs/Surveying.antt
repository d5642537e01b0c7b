-- One pass over the records knows the lowest empty one of those that it has seen, by cases of what it sees. Assumes nothing.
use Prim.Native.Nat.{ℕ, zero, suc, ◌+◌, ◌≤◌, ◌<◌}
use mathlib.Core.Path.{◌≡◌, refl, sym, ap, ◌∙◌}
use mathlib.Core.Bool.{Bool, true, false, not, false≢true}
use mathlib.Core.List.{List, [], ◌∷◌}
use native.Mathlib.Omega.{arith}
use lib.Dec.{T, ltb, eqb}
use lib.ListN.{length, get_or}
use mir.Facts.{eqb_yes}
use borrow.Author.Tests.{eq-eqb, lt-ltb, le-ltb, ltb-true, ltb-false}
use Rattle.std.specs.Prelude.{Option, None, Some, IfSome}
use Rattle.std.specs.Option.{is_some, unwrap_or}
use Rattle.route.specs.Grid.{pick}
use Rattle.wormhole.specs.declared.records.Record.{Record}
use Rattle.wormhole.specs.Memory.{none}
use Rattle.wormhole.specs.Calls.{lowest}
use Rattle.wormhole.proofs.Every.{lowest_high}

-- none lower is empty
lowest_first : (rs : List Record) (i : ℕ) → i < length rs → (get_or rs i none).live ≡ 0 → lowest rs ≤ i
unfolding lowest
lowest_first [] i h e = absurd (omega (arith, h))
lowest_first (r ∷ rs) zero h e = rw (eq-eqb r.live 0 e) (omega arith)
lowest_first (r ∷ rs) (suc i) h e = at (eqb r.live 0) (lowest_first rs i (omega (arith, h)) e)
  where
    at : {l : ℕ} (b : Bool) → l ≤ i → pick b 0 (suc l) ≤ suc i
    at true e = omega arith
    at false e = omega (arith, e)

-- the lowest empty record is not live, nor is what is read where none is empty
pub lowest_unused : (l : List Record) → (get_or l (lowest l) none).live ≡ 0
unfolding lowest
lowest_unused [] = refl
lowest_unused (r ∷ l) = go (lowest_unused l) (eqb r.live 0) (λ t. eqb_yes t)
  where
    go : (get_or l (lowest l) none).live ≡ 0 → (b : Bool) → (T b → r.live ≡ 0) → (get_or (r ∷ l) (pick b 0 (suc (lowest l))) none).live ≡ 0
    go later true is_empty = is_empty tt
    go later false is_empty = later

-- the lowest empty one of the first i, or how many records there are where none of these is
abbrev pub found : List Record → ℕ → ℕ
found rs i = pick (ltb (lowest rs) i) (lowest rs) (length rs)

pub found_none : (rs : List Record) → length rs ≡ found rs 0
found_none rs = rw (le-ltb (lowest rs) 0 (omega arith)) refl

-- one more is seen
module _ (rs : List Record) (i : ℕ) (h : i < length rs) {r : Record} (er : r ≡ get_or rs i none) {e : ℕ} (ee : e ≡ found rs i) where
  -- of those before it none was empty, or the lowest is known
  before : (ltb (lowest rs) i ≡ true → e ≡ lowest rs) × (ltb (lowest rs) i ≡ false → e ≡ length rs)
  before = (λ s. rw s at ee, λ s. rw s at ee)

  -- it is the first that is empty
  pub found_here : r.live ≡ 0 → i < e → i ≡ found rs (i + 1)
  found_here z l = by (ltb (lowest rs) i) refl
    where
      by : (b : Bool) → ltb (lowest rs) i ≡ b → i ≡ found rs (i + 1)
      by true s = absurd (omega (arith, l, before.0 s, ltb-true (lowest rs) i s))
      by false s =
          let low = lowest_first rs i h (sym (ap Record.live er) ∙ z) in
          let same : lowest rs ≡ i = omega (arith, low, ltb-false (lowest rs) i s) in
          rw (lt-ltb (lowest rs) (i + 1) (omega (arith, same))) (sym same)

  -- it is not
  pub found_kept : (r.live ≡ 0 → e ≤ i) → e ≡ found rs (i + 1)
  found_kept k = by (ltb (lowest rs) i) refl
    where
      at : ltb (lowest rs) i ≡ false → (b : Bool) → ltb (lowest rs) (i + 1) ≡ b → e ≡ pick b (lowest rs) (length rs)
      at s false x = before.1 s
      at s true x =
          let same : lowest rs ≡ i = omega (arith, ltb-true (lowest rs) (i + 1) x, ltb-false (lowest rs) i s) in
          let dead : r.live ≡ 0 = ap Record.live (er ∙ ap (λ j. get_or rs j none) (sym same)) ∙ lowest_unused rs in
          absurd (omega (arith, h, k dead, before.1 s))

      by : (b : Bool) → ltb (lowest rs) i ≡ b → e ≡ found rs (i + 1)
      by true s = before.0 s ∙ rw (lt-ltb (lowest rs) (i + 1) (omega (arith, ltb-true (lowest rs) i s))) refl
      by false s = at s (ltb (lowest rs) (i + 1)) refl

pub found_all : (rs : List Record) (i : ℕ) → length rs ≤ i → found rs i ≡ lowest rs
found_all rs i h = by (ltb (lowest rs) i) refl
  where
    by : (b : Bool) → ltb (lowest rs) i ≡ b → pick b (lowest rs) (length rs) ≡ lowest rs
    by true e = refl
    by false e = omega (arith, h, ltb-false (lowest rs) i e, lowest_high rs)

-- ---- as the code has it, where there is one
pub none_of : (o : Option ℕ) (n : ℕ) {b : Bool} → is_some o ≡ not b → b ≡ true → unwrap_or o n ≡ n
none_of None n e h = refl
none_of (Some j) n {b} e h = absurd (false≢true (sym (e ∙ ap not h)))

pub one_of : (o : Option ℕ) (n i : ℕ) {b : Bool} → is_some o ≡ not b → b ≡ false → IfSome o (λ j. j < i) → unwrap_or o n ≤ i
one_of None n i {b} e h l = absurd (false≢true (e ∙ ap not h))
one_of (Some j) n i e h l = omega (arith, l)

-- what is below a number is below a greater one
pub lower : (o : Option ℕ) (i n : ℕ) → i ≤ n → IfSome o (λ j. j < i) → IfSome o (λ j. j < n)
lower None i n l h = h
lower (Some j) i n l h = omega (arith, l, h)
