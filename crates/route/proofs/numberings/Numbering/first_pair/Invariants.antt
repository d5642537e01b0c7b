-- The channels upward: from none that was passed over do the numbers fall. Assumes nothing.
use Prim.Native.Nat.{ℕ, ◌<◌}
use mathlib.Core.Path.{◌≡◌}
use mathlib.Core.Bool.{false}
use lib.Dec.{ltb}
use Rattle.route.specs.Numbers.{channels}
use Rattle.route.specs.Check.{first_after}
use Rattle.route.specs.Coded.{meant}
use Rattle.route.proofs.numberings.Numbering.first_pair.Given as goal

abbrev pub invariant-loop-incoming : goal.invariant-loop-incoming
invariant-loop-incoming l = (j : ℕ) → j < l.incoming → ltb (first_after (meant l.self.mesh) l.list j) (channels l.self.mesh.columns l.self.mesh.rows) ≡ false
