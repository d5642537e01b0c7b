-- Laws of tests: each by the cases of its Booleans. Assumes nothing.
use Prim.Native.Nat.{ℕ, ◌≤◌, ◌<◌}
use mathlib.Core.Path.{◌≡◌, refl, sym, subst, ◌∙◌}
use mathlib.Core.Bool.{Bool, true, false, ◌||◌}
use mathlib.Core.Logic.{◌↔◌}
use lib.Dec.{T, leb}
use borrow.Author.Tests.{le-leb, lt-leb}

pub or_l : (a b : Bool) → T a → T (a || b)
or_l true b t = tt
or_l false b t = elim t [ ]

pub or_r : (a b : Bool) → T b → T (a || b)
or_r true b t = tt
or_r false b t = t

-- what adds nothing may be left out
pub absorb : (a b : Bool) → (T b → T a) → a ≡ a || b
absorb true b f = refl
absorb false true f = absurd (f tt)
absorb false false f = refl

-- two tests that hold together are one
pub tests_alike : (a b : Bool) → T a ↔ T b → a ≡ b
tests_alike true true f = refl
tests_alike true false f = absurd (f.0 tt)
tests_alike false true f = absurd (f.1 tt)
tests_alike false false f = refl

pub neither : {a b : Bool} → a || b ≡ false → (a ≡ false) × (b ≡ false)
neither {a = false} h = (refl, h)
neither {a = true} h = absurd (subst T h tt)

pub passes : (b : Bool) → T b → b ≡ true
passes true t = refl
passes false t = elim t [ ]

pub fails : (b : Bool) → (T b → ⊥) → b ≡ false
fails true f = absurd (f tt)
fails false f = refl

-- a comparison, by what its answers mean
pub leb_is : {r : Bool} {a b : ℕ} → (r ≡ true → a ≤ b) → (r ≡ false → b < a) → r ≡ leb a b
leb_is {r = true} {a} {b} f g = sym (le-leb a b (f refl))
leb_is {r = false} {a} {b} f g = sym (lt-leb a b (g refl))

-- ---- what a branch has taught of a test that a callee made
pub no_if : {r x : Bool} → r ≡ x → r ≡ false → x ≡ false
no_if e h = sym e ∙ h

pub yes_if : {r x : Bool} → r ≡ x → r ≡ true → x ≡ true
yes_if e h = sym e ∙ h
