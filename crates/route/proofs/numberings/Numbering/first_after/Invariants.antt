-- The four directions upward: what was passed over does not fall. Assumes nothing.
use Prim.Native.Nat.{ℕ, ◌+◌, ◌*◌, ◌<◌}
use mathlib.Core.Path.{◌≡◌}
use mathlib.Core.Bool.{false}
use Rattle.route.specs.Numbers.{node}
use Rattle.route.specs.Check.{falls}
use Rattle.route.specs.Coded.{meant}
use Rattle.route.proofs.numberings.Numbering.first_after.Given as goal

abbrev pub invariant-loop-way : goal.invariant-loop-way
invariant-loop-way l = (o : ℕ) → o < 4 * node l.self.mesh.columns l.start + l.way-index → falls (meant l.self.mesh) l.list l.incoming o ≡ false
