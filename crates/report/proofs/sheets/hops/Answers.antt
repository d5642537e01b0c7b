-- The columns' difference and the rows', added. Assumes nothing.
use native.Mathlib.Omega.{arith}
use Rattle.route.specs.Grid.{dist}
use Rattle.report.proofs.sheets.hops.Goals as goal

pub returns : goal.returns
unfolding dist
returns c = omega arith
