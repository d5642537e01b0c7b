-- Each return by the tests before it. Assumes nothing.
use Rattle.report.proofs.Reporting.{prints_refused, drain_so, few_drained, prints_stalled, prints_drained}
use Rattle.report.proofs.reports.put_report.Goals as goal

pub returns-in-Err : goal.returns-in-Err
returns-in-Err c = prints_refused _ _ _ c.in-Err.refusal c.in-Err.ensures.refusal c.from.ensures c.put_said.ensures

pub drain-requires : goal.drain-requires
drain-requires c =
    let e = c.in-Ok.ensures in
    record { mesh = e.mesh; readable = drain_so c.args.list.now c.args.words.now c.args.page.now e.refusal e.mesh c.words_needed-need.ensures.value }

pub returns-else-is_idle : goal.returns-else-is_idle
returns-else-is_idle c =
    let e = c.in-Ok.ensures in
    prints_stalled c.args.list.now c.args.words.now c.args.page.now e.refusal e.mesh c.words_needed-need.ensures.value _ _ c.drain.ensures c.is_idle.ensures c.if-is_idle.false c.put_text.ensures

pub put_sheet-requires-clause-few : goal.put_sheet-requires-clause-few
put_sheet-requires-clause-few c =
    let e = c.in-Ok.ensures in
    few_drained c.args.list.now c.args.words.now c.args.page.now e.refusal e.mesh c.words_needed-need.ensures.value _ _ c.drain.ensures

pub returns-then-is_idle : goal.returns-then-is_idle
returns-then-is_idle c =
    let e = c.in-Ok.ensures in
    prints_drained c.args.list.now c.args.words.now c.args.page.now e.refusal e.mesh c.words_needed-need.ensures.value _ _ c.drain.ensures c.is_idle.ensures c.if-is_idle.true c.put_sheet.ensures
