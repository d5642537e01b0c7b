-- After t turns the tally is `turns` of t. Assumes nothing.
use Rattle.std.proofs.Common.{◌≡◌}
use Rattle.report.specs.Sweeps.{turns}
use Rattle.report.specs.Coded.{tally}
use Rattle.report.proofs.drains.sweep.Given as goal

abbrev pub invariant-loop-t : goal.invariant-loop-t
invariant-loop-t l = tally l.words l.all ≡ turns l.fn.plan.columns l.fn.plan.rows l.fn.plan.rule (tally l.initial.words l.initial.all) l.t
