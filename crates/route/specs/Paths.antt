-- Legal paths, shortest ones, and the routing answer. Assumes nothing.
use Rattle.std.specs.Prelude.{ℕ, zero, suc, Bool, false, ◌&&◌, ◌||◌, List, [], ◌∷◌, ◌≡◌, length, T, eqb}
use Rattle.route.specs.declared.places.Place.{Place}
use Rattle.route.specs.Grid.{horiz, vert, Dir, west, east, south, north, coord, hop, dist}
use Rattle.route.specs.Turns.{Arrival, going}
use Rattle.route.specs.Mesh.{Mesh, exists, turn}
use Rattle.route.specs.Numbers.{number}

-- two places are one
abbrev pub same_place : Place → Place → Bool
same_place n t = eqb (coord horiz n) (coord horiz t) && eqb (coord vert n) (coord vert t)

-- a run of channels leads from n, where the packet arrives so, to t: each channel exists, and each turn is allowed at its node
abbrev pub legal : Mesh → Place → Arrival → Place → List Dir → Bool
legal m n a t [] = same_place n t
legal m n a t (d ∷ p) = exists m n d && (turn m (coord horiz n) a d && legal m (hop d n) (going d) t p)

-- a legal path is shortest if it has as many channels as the distance
pub record Shortest (m : Mesh) (n : Place) (a : Arrival) (t : Place) (p : List Dir) : Type 0 where
  pub lawful : T (legal m n a t p)
  pub least : length p ≡ dist n t

-- some direction passes a test
abbrev pub some_dir : (Dir → Bool) → Bool
some_dir test = test west || (test east || (test south || test north))

-- some run of k channels passes a test
unfoldable pub some_run : ℕ → (List Dir → Bool) → Bool
some_run zero test = test []
some_run (suc k) test = some_dir (λ d. some_run k (λ p. test (d ∷ p)))

-- a run begins with d
abbrev pub begins : Dir → List Dir → Bool
begins d [] = false
begins d (e ∷ p) = eqb (number d) (number e)

-- d is in the answer: some shortest legal path begins with it
unfoldable pub answer : Mesh → Place → Arrival → Place → Dir → Bool
answer m n a t d = some_run (dist n t) (λ p. begins d p && legal m n a t p)
