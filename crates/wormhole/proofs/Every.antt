-- A test of each element of a list: what holds of all holds of each, and back; it is made one element after another; last, the lowest empty record. Assumes nothing.
use Prim.Native.Nat.{ℕ, zero, suc, ◌+◌, ◌≤◌, ◌<◌}
use mathlib.Core.Path.{◌≡◌, refl, sym, subst, ◌∙◌}
use mathlib.Core.Bool.{Bool, true, false, ◌&&◌}
use mathlib.Core.List.{List, [], ◌∷◌}
use native.Mathlib.Numerals.{add-one}
use native.Mathlib.Omega.{arith}
use lib.Dec.{T, eqb}
use lib.ListN.{length, get_or, drop, drop_of_length-le}
use lib.Seq.{drop-cons}
use mir.Facts.{yes_and}
use Rattle.route.specs.Grid.{pick}
use Rattle.wormhole.specs.declared.records.Record.{Record}
use Rattle.wormhole.specs.Range.{every}
use Rattle.wormhole.specs.Calls.{lowest}

pub both : (a b : Bool) → a && b ≡ true → (a ≡ true) × (b ≡ true)
both true b e = (refl, e)
both false b e = absurd (subst T (sym e) tt)

-- a test that holds of each element, and of the default, holds of what is read at any number
pub every_at : {A : Type 0} (test : A → Bool) (d : A) → test d ≡ true → (l : List A) → every test l ≡ true → (i : ℕ) → test (get_or l i d) ≡ true
unfolding every
every_at test d h [] e i = h
every_at test d h (x ∷ l) e zero = (both (test x) (every test l) e).0
every_at test d h (x ∷ l) e (suc i) = every_at test d h l (both (test x) (every test l) e).1 i

-- a test that holds of each element holds of all
pub every_of : {A : Type 0} (test : A → Bool) (d : A) (l : List A) → ((i : ℕ) → i < length l → T (test (get_or l i d))) → T (every test l)
unfolding every
every_of test d [] h = tt
every_of test d (x ∷ l) h = yes_and (test x) (every test l) (h 0 (omega arith)) (every_of test d l (λ i low. h (suc i) (omega arith)))

-- a test answers for what it was asked of, however that is written
pub asked_of : {A : Type 0} (test : A → Bool) {x y : A} {b : Bool} → test x ≡ b → x ≡ y → test y ≡ b
asked_of test e h = rw h at e

-- ---- one element after another: so far the answer is that of what is left
module _ {A : Type 0} (test : A → Bool) (d : A) (l : List A) (i : ℕ) (so_far : every test l ≡ every test (drop i l)) where
  module _ (h : i < length l) where
    next : every test l ≡ test (get_or l i d) && every test (drop (i + 1) l)
    unfolding every
    next = so_far ∙ rw (add-one i, drop-cons l i d h) refl

    pub stops : test (get_or l i d) ≡ false → false ≡ every test l
    stops e = sym (next ∙ rw e refl)

    pub goes_on : test (get_or l i d) ≡ true → every test l ≡ every test (drop (i + 1) l)
    goes_on e = next ∙ rw e refl

  pub ends : length l ≤ i → true ≡ every test l
  unfolding every
  ends h = sym (so_far ∙ rw (drop_of_length-le l h) refl)

-- ---- the lowest empty record's number is no higher than how many records there are
pub lowest_high : (rs : List Record) → lowest rs ≤ length rs
unfolding lowest
lowest_high [] = omega arith
lowest_high (r ∷ rs) = at (eqb r.live 0) (lowest_high rs)
  where
    at : {l n : ℕ} (b : Bool) → l ≤ n → pick b 0 (suc l) ≤ suc n
    at true e = omega arith
    at false e = omega (arith, e)
