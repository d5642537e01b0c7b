-- The difference, whichever is the greater. Assumes nothing.
use native.Mathlib.Omega.{arith}
use Rattle.route.specs.Grid.{gap}
use Rattle.route.proofs.places.Row.hops.Goals as goal

pub returns : goal.returns
unfolding gap
returns c = omega arith
