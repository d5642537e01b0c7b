-- A line is put piece by piece. Assumes nothing.
use Rattle.report.proofs.Spelling.{put_line}
use Rattle.report.proofs.sheets.put_line.Goals as goal

pub returns : goal.returns
returns c = search put_line
