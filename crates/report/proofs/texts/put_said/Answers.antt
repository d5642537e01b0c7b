-- The word, the number and the newline are put one after another. Assumes nothing.
use Rattle.report.proofs.Spelling.{put_said}
use Rattle.report.proofs.texts.put_said.Goals as goal

pub returns : goal.returns
returns c = search put_said
