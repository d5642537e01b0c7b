-- The least number that passes a test: one induction says what it is, and the rest follows by comparing two numbers. Assumes nothing.
use Prim.Native.Nat.{ℕ, zero, suc, ◌≤◌, ◌<◌}
use mathlib.Core.Path.{◌≡◌, refl, sym, subst, ◌∙◌}
use mathlib.Core.Bool.{Bool, true, false}
use mathlib.Core.Logic.{⊎_elim}
use native.Mathlib.Nat.{eq-or-lt_of_le}
use native.Mathlib.Omega.{arith}
use lib.Dec.{T, ltb}
use borrow.Author.Tests.{ltb-true, ltb-false}
use Rattle.route.specs.Grid.{pick}
use Rattle.route.specs.Check.{least}

-- nothing before it passes, and below n it passes itself
pub record Least (test : ℕ → Bool) (n k : ℕ) : Type 0 where
  pub high : k ≤ n
  pub before : (j : ℕ) → j < k → test j ≡ false
  pub passes : k < n → test k ≡ true

pub is_least : (test : ℕ → Bool) (n : ℕ) → Least test n (least test n)
unfolding least
is_least test zero = record { high = omega arith; before = λ j i. absurd (omega arith); passes = λ i. absurd (omega arith) }
is_least test (suc n) = at (least test n) (is_least test n) (ltb (least test n) n) (test n) refl refl
  where
    at : (k : ℕ) → Least test n k → (a b : Bool) → ltb k n ≡ a → test n ≡ b → Least test (suc n) (pick a k (pick b n (suc n)))
    at k h true b p q = record { high = omega (arith, h.high); before = h.before; passes = λ i. h.passes (ltb-true k n p) }
    at k h false true p q =
        record { high = omega arith; before = λ j i. h.before j (omega (arith, ltb-false k n p)); passes = λ i. q }
    at k h false false p q =
        record {
          high = omega arith;
          before = λ j i. let l : j ≤ n = omega arith in
              ⊎_elim (λ e. rw e q) (λ l. h.before j (omega (arith, ltb-false k n p))) (eq-or-lt_of_le l);
          passes = λ i. absurd (omega arith);
        }

-- a test does not give both answers
apart : {P : Type 0} {b : Bool} → b ≡ true → b ≡ false → P
apart h i = absurd (subst T (sym h ∙ i) tt)

-- what is so is the least
pub the_least : (test : ℕ → Bool) (n k : ℕ) → Least test n k → least test n ≡ k
the_least test n k g = at (least test n) (is_least test n)
  where
    at : (j : ℕ) → Least test n j → j ≡ k
    at j h = by (ltb j k) refl
      where
        by : (b : Bool) → ltb j k ≡ b → j ≡ k
        by true e = let i : j < k = ltb-true j k e in apart (h.passes (omega (arith, g.high))) (g.before j i)
        by false e =
            let i : k ≤ j = ltb-false j k e in
            ⊎_elim sym (λ l. apart (g.passes (omega (arith, h.high))) (h.before k l)) (eq-or-lt_of_le i)
