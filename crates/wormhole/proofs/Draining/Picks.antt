-- A choice by a test whose outcome is known: by the cases of the test. Assumes nothing.
use mathlib.Core.Path.{◌≡◌, refl}
use mathlib.Core.Bool.{Bool, true, false}
use lib.Dec.{T}
use Rattle.route.specs.Grid.{pick}

pub picked : {A : Type 0} (b : Bool) (u v : A) → T b → pick b u v ≡ u
picked true u v t = refl
picked false u v t = absurd t

pub passed : {A : Type 0} (b : Bool) (u v : A) → (T b → ⊥) → pick b u v ≡ v
passed true u v fails = absurd (fails tt)
passed false u v fails = refl

pub decided : (b : Bool) → Dec (T b)
decided true = yes tt
decided false = no (λ t. t)
