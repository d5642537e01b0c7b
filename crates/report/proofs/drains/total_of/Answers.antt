-- The chain is std's sum of the counts. Assumes nothing.
use Rattle.std.proofs.Common.{rules, ◌≡◌, ◌<◌, ◌∙◌}
use Rattle.std.proofs.iter.runs.Made.{chains}
use Rattle.std.specs.List.{sum_by}
use Rattle.report.specs.declared.turns.Counted.{Counted}
use Rattle.report.proofs.Totals.{sum_counts, sum_fits}
use Rattle.report.proofs.drains.total_of.Goals as goal

pub sum-requires-clause-fits : goal.sum-requires-clause-fits
sum-requires-clause-fits c =
    let few : sum_by (λ (d : Counted). d.moves) c.args.all.now < 4294967296 = sum_fits c.args.all.now c.requires in
    search (rules, chains)

pub returns : goal.returns
returns c =
    let e : c.sum.result ≡ sum_by (λ (d : Counted). d.moves) c.args.all.now = search (rules, chains) in
    e ∙ sum_counts c.args.all.now
