-- The mesh of the rule's table. Assumes nothing.
use mathlib.Core.Path.{ap}
use Rattle.route.proofs.meshes.mesh_of.Goals as goal

pub returns : goal.returns
returns c = ap (λ t. record { columns = c.args.columns; rows = c.args.rows; first = 0; table = t }) c.table.ensures
