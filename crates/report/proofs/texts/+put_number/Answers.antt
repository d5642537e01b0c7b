-- A number below 10 is its one digit; else the tenth's digits are put, and then the last. Assumes nothing.
use mathlib.Core.Path.{◌∙◌}
use Rattle.report.proofs.Spelling.{put_one, put_tenth}
use Rattle.report.proofs.texts.+put_number.Goals as goal
use Rattle.report.proofs.texts.+put_number.Goals.{then-n-ge10, else-n-ge10}

pub returns : goal.returns
returns t c = elim c.if-n-ge10.branch [
  | then-n-ge10 w ↦ put_tenth c.args.page.now c.args.n w.if-n-ge10.true (w.page-is ∙ w.put_number.ensures) c.put.ensures
  | else-n-ge10 w ↦ put_one c.args.page.now c.args.n w.if-n-ge10.false (rw w.page-is at c.put.ensures)
]
