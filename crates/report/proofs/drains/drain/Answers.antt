-- Each sweep is one of `drained`. Assumes nothing.
use Rattle.std.proofs.Common.{rules, ◌≡◌, refl, length, replicate}
use Rattle.report.proofs.Reaching.{few_made}
use Rattle.report.proofs.Settling.{begins, ends, plan_mesh, reached_sweep, few_swept, settled, unsettled, run_out}
use Rattle.report.proofs.drains.drain.Goals as goal

pub loop-init : goal.loop-init
loop-init c =
    let words : c.fill.new.self ≡ replicate (length c.args.words.now) 0 = search rules in
    record { reached = search (begins, words); left = refl }

pub total_of-before-requires : goal.total_of-before-requires
total_of-before-requires c = search few_made

pub sweep-requires-clause-mesh : goal.sweep-requires-clause-mesh
sweep-requires-clause-mesh c = search plan_mesh

pub total_of-requires : goal.total_of-requires
total_of-requires c = search few_swept

pub returns-then-total_of-before : goal.returns-then-total_of-before
returns-then-total_of-before c =
    let words : c.fill.new.self ≡ replicate (length c.args.words.now) 0 = search rules in
    search (ends, words, settled)

pub loop-preserved : goal.loop-preserved
loop-preserved c = record { reached = search reached_sweep; left = search unsettled }

pub returns : goal.returns
returns c =
    let words : c.fill.new.self ≡ replicate (length c.args.words.now) 0 = search rules in
    search (ends, words, run_out)
