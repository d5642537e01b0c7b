-- The page is what is left: by `same` it is still over the lent bytes, so that these end as its own. A sheet is never longer than they are. Assumes
-- nothing.
use mathlib.Core.Path.{refl}
use Rattle.std.proofs.Common.{rules}
use Rattle.report.proofs.Reporting.{report_lent, report_length, report_done, report_refused}
use Rattle.report.proofs.reports.mesh_report.Goals as goal

pub returns-then-out-lt-SHEET_BYTES : goal.returns-then-out-lt-SHEET_BYTES
returns-then-out-lt-SHEET_BYTES c = search report_refused

pub overflow_cast-result : goal.overflow_cast-result
overflow_cast-result c =
    let x = c.args in
    let e = c.put_report.ensures in
    record { fits = report_length x.list.now x.words.now x.out.now c.if-out-lt-SHEET_BYTES.false _ refl _ _ (rw c.new-page.ensures at e) c.len.ensures }

pub returns : goal.returns
returns c =
    let x = c.args in
    let e = c.put_report.ensures in
    let p = rw c.new-page.ensures at e in
    let same = report_lent x.list.now x.words.now x.out.now c.if-out-lt-SHEET_BYTES.false _ refl _ _ p in
    report_done x.list.now x.words.now x.out.now c.if-out-lt-SHEET_BYTES.false _ refl _ _ p c.len.ensures (search rules)
