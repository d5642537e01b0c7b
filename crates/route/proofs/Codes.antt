-- What the code's numbers of directions, turns and rules stand for: computed at each number. Assumes nothing.
use Prim.Native.Nat.{ℕ, zero, suc, ◌+◌, ◌*◌, ◌/◌, ◌%◌, ◌^◌, ◌<◌}
use mathlib.Core.Path.{◌≡◌, refl, sym, subst}
use mathlib.Core.Bool.{Bool, true, false}
use mathlib.Core.List.{[], ◌∷◌}
use native.Mathlib.Nat.{zero-add}
use native.Mathlib.Omega.{arith}
use lib.ListN.{get_or}
use lib.Dec.{T, eqb}
use denote.Enum.Bare.{sameb}
use Rattle.route.specs.contracts.directions.Direction.{the_type}
use Rattle.route.specs.declared.directions.Direction.{Direction}
use Rattle.route.specs.declared.directions.Direction.TheVariants.{West, East, South, North}
use Rattle.route.specs.Grid.{horiz, vert, Dir, go}
use Rattle.route.specs.Turns.{parity_at, Turn, going, allowed, bit}
use Rattle.route.specs.Numbers.{number, dir_of, facing}
use Rattle.route.specs.Check.{bends}
use Rattle.route.specs.Coded.{turned, bits}
use Rattle.route.proofs.Every.{dirs, turns, four}

-- ---- turns
-- on one axis straight on is allowed, and back is not; `sameb` is the code's `==`
pub straight_or_back : (turns : Turn → Bool) (a d : Direction) → bends (facing a) (facing d) ≡ false → sameb the_type a d ≡ allowed turns (going (facing a)) (facing d)
straight_or_back turns West West h = refl
straight_or_back turns West East h = refl
straight_or_back turns East West h = refl
straight_or_back turns East East h = refl
straight_or_back turns South South h = refl
straight_or_back turns South North h = refl
straight_or_back turns North South h = refl
straight_or_back turns North North h = refl
straight_or_back turns West South h = absurd (subst T h tt)
straight_or_back turns West North h = absurd (subst T h tt)
straight_or_back turns East South h = absurd (subst T h tt)
straight_or_back turns East North h = absurd (subst T h tt)
straight_or_back turns South West h = absurd (subst T h tt)
straight_or_back turns South East h = absurd (subst T h tt)
straight_or_back turns North West h = absurd (subst T h tt)
straight_or_back turns North East h = absurd (subst T h tt)

-- from one axis to the other the turn decides
pub by_turn : (turns : Turn → Bool) (a d : Dir) → bends a d ≡ true → turns (turned a d) ≡ allowed turns (going a) d
by_turn turns (go horiz s) (go vert t) h = refl
by_turn turns (go vert s) (go horiz t) h = refl
by_turn turns (go horiz s) (go horiz t) h = absurd (subst T (sym h) tt)
by_turn turns (go vert s) (go vert t) h = absurd (subst T (sym h) tt)

-- the bit of a turn in a column of the parity p
pub bit_of : (w p : ℕ) (t : Turn) → p < 2 → eqb (w / 2 ^ (8 * p + bit t) % 2) 1 ≡ bits w (parity_at p) t
bit_of w zero t i = simp zero-add
bit_of w (suc zero) t i = refl
bit_of w (suc (suc p)) t i = absurd (omega arith)

-- ---- directions
pub dir_of_number : (d : Dir) → dir_of (number d) ≡ d
dir_of_number = dirs (λ d. dir_of (number d) ≡ d) (refl, refl, refl, refl)

pub number_of_dir : (d : ℕ) → d < 4 → number (dir_of d) ≡ d
number_of_dir = four (λ d. number (dir_of d) ≡ d) (refl, refl, refl, refl)

-- the code's four directions, in their order
pub each_way : (d : Direction) (k : ℕ) → k < 4 → facing (get_or (West ∷ East ∷ South ∷ North ∷ []) k d) ≡ dir_of k
each_way d = four (λ k. facing (get_or (West ∷ East ∷ South ∷ North ∷ []) k d) ≡ dir_of k) (refl, refl, refl, refl)
