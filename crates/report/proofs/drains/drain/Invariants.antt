-- What is reached has as many sweeps left, and they leave what the first sweep's tally drains to. Assumes nothing.
use Rattle.std.proofs.Common.{◌≡◌, ◌-◌}
use Rattle.report.specs.Sweeps.{drained}
use Rattle.report.specs.Coded.{tally, Reached}
use Rattle.report.proofs.drains.drain.Given as goal

abbrev pub invariant-loop : goal.invariant-loop
invariant-loop l = record {
  reached : Reached l.plan.columns l.plan.rows l.plan.rule (tally l.words l.all);
  left : drained l.plan.columns l.plan.rows l.plan.rule (396801 - l.counter) (tally l.words l.all)
      ≡ drained l.plan.columns l.plan.rows l.plan.rule 396801 (tally l.initial.words l.initial.all);
}
