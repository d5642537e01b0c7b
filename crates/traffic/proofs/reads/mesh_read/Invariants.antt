-- After i turns of the loop the records are `stored` of the list's packets, i of them. Assumes nothing.
use mathlib.Core.Path.{◌≡◌}
use Rattle.traffic.specs.Lists.{after_lead, packets}
use Rattle.traffic.proofs.Storing.{stored}
use Rattle.traffic.proofs.reads.mesh_read.Given as goal

abbrev pub invariant-loop-i : goal.invariant-loop-i
invariant-loop-i l = l.records ≡ stored (packets l.m.columns (after_lead l.list)) l.initial.records l.i
