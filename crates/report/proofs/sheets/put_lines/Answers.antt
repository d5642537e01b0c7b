-- Each turn puts one more line. Assumes nothing.
use Rattle.std.proofs.Common.{arith, get_or}
use Rattle.std.proofs.Common.{length-take}
use Rattle.traffic.specs.Lists.{after_lead}
use Rattle.report.specs.Coded.{counts}
use Rattle.report.proofs.Counting.{counts_taken}
use Rattle.report.proofs.Spelling.{lines_more, lines_all}
use Rattle.report.proofs.sheets.put_lines.Goals as goal

pub loop-i-preserved : goal.loop-i-preserved
loop-i-preserved c =
    let x = c.args in
    let l = c.loop-i in
    lines_more x.page.now l.page (after_lead x.list.now) (λ j. get_or (counts x.all.now) j 0) l.i
    l.invariant c.header_of.ensures (counts_taken x.all.now c.packets_of.result l.i _ c.loop-i-test.true) c.put_line.ensures

pub returns : goal.returns
returns c =
    let x = c.args in
    let l = c.loop-i in
    lines_all x.page.now l.page (after_lead x.list.now) (λ j. get_or (counts x.all.now) j 0) l.i l.invariant
    (omega (arith, c.loop-i-test.false, length-take c.packets_of.result x.all.now))
