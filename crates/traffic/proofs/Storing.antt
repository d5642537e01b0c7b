-- Records that are replaced from the first on: those of the packets, then empty ones. By induction on both lists. Assumes nothing.
use Prim.Native.Nat.{ℕ, zero, suc, ◌+◌, ◌≤◌}
use mathlib.Core.Path.{◌≡◌, refl, ◌∙◌, ap}
use mathlib.Core.List.{List, [], ◌∷◌}
use native.Mathlib.Nat.{sub-zero, suc-sub-suc}
use native.Mathlib.Numerals.{add-one}
use native.Mathlib.Omega.{arith}
use lib.ListN.{length, set, get_or}
use Rattle.wormhole.specs.declared.records.Record.{Record}
use Rattle.wormhole.specs.Memory.{none}
use Rattle.traffic.specs.Calls.{filled}

-- records of which the first n are replaced
unfoldable pub stored : List Record → List Record → ℕ → List Record
stored ps rs zero = rs
stored ps rs (suc i) = set (stored ps rs i) i (get_or ps i none)

-- one more
pub stored_more : (ps rs : List Record) (i : ℕ) {ys zs : List Record} {r : Record} → ys ≡ stored ps rs i → r ≡ get_or ps i none → zs ≡ set ys i r → zs ≡ stored ps rs (i + 1)
unfolding stored
stored_more ps rs i e n h = rw add-one (h ∙ rw (e, n) refl)

stored_next : (p : Record) (ps : List Record) (r : Record) (rs : List Record) (n : ℕ) → stored (p ∷ ps) (r ∷ rs) (suc n) ≡ p ∷ stored ps rs n
unfolding stored
stored_next p ps r rs zero = refl
stored_next p ps r rs (suc n) = ap (λ (xs : List Record). set xs (suc n) (get_or ps n none)) (stored_next p ps r rs n)

stored_none : (r : Record) (rs : List Record) (n : ℕ) → stored [] (r ∷ rs) (suc n) ≡ none ∷ stored [] rs n
unfolding stored
stored_none r rs zero = refl
stored_none r rs (suc n) = ap (λ (xs : List Record). set xs (suc n) none) (stored_none r rs n)

-- all of them
pub stored_all : (ps rs : List Record) → length ps ≤ length rs → stored ps rs (length rs) ≡ filled ps (length rs)
unfolding stored
stored_all [] [] h = refl
stored_all (p ∷ ps) [] h = absurd (omega arith)
stored_all [] (r ∷ rs) h =
    stored_none r rs (length rs) ∙ (ap (λ (xs : List Record). none ∷ xs) (stored_all [] rs (omega arith)) ∙ rw (sub-zero (length rs), sub-zero (suc (length rs))) refl)
stored_all (p ∷ ps) (r ∷ rs) h =
    stored_next p ps r rs (length rs) ∙ (ap (λ (xs : List Record). p ∷ xs) (stored_all ps rs (omega arith)) ∙ rw (suc-sub-suc (length rs) (length ps)) refl)
