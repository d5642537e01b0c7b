-- The heading, the lines and the total are put one after another. Assumes nothing.
use Rattle.report.proofs.Spelling.{put_sheet}
use Rattle.report.proofs.sheets.put_sheet.Goals as goal

pub returns : goal.returns
returns c = search put_sheet
