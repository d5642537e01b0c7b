-- After i turns the first i records are the list's. Assumes nothing.
use Rattle.std.proofs.Common.{◌≡◌, replicate}
use Rattle.wormhole.specs.Memory.{none}
use Rattle.traffic.specs.Lists.{after_lead, packets}
use Rattle.traffic.proofs.Storing.{stored}
use Rattle.report.specs.Coded.{recs, counts}
use Rattle.report.proofs.drains.load.Given as goal

abbrev pub invariant-loop-i : goal.invariant-loop-i
invariant-loop-i l =
    (recs l.all ≡ stored (packets l.m.columns (after_lead l.list)) (replicate 64 none) l.i) × (counts l.all ≡ replicate 64 0)
