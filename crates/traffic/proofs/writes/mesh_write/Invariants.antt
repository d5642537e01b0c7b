-- After so many turns of the loop the page is as `wrote` says, with that many records on it. Assumes nothing.
use mathlib.Core.Path.{◌≡◌}
use Rattle.traffic.proofs.Whole.{wrote}
use Rattle.traffic.proofs.writes.mesh_write.Given as goal

abbrev pub invariant-loop-r : goal.invariant-loop-r
invariant-loop-r l = l.page ≡ wrote l.m.columns l.initial.page l.records l.r-index
