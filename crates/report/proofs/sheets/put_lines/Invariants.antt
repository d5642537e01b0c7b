-- The lines from packet i on are still to be put. Assumes nothing.
use Rattle.std.proofs.Common.{◌≡◌, ℕ, get_or, drop}
use Rattle.traffic.specs.Lists.{after_lead}
use Rattle.traffic.specs.Coded.{puts}
use Rattle.report.specs.Text.{lines}
use Rattle.report.specs.Coded.{counts}
use Rattle.report.proofs.sheets.put_lines.Given as goal

abbrev pub invariant-loop-i : goal.invariant-loop-i
invariant-loop-i l =
    let hs = after_lead l.list in
    let made : ℕ → ℕ = λ j. get_or (counts l.all) j 0 in
    puts l.page (lines l.i (drop l.i hs) made) ≡ puts l.initial.page (lines 0 hs made)
