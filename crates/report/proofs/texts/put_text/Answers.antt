-- Each turn puts one more byte. Assumes nothing.
use Rattle.report.proofs.Spelling.{text_more, text_all}
use Rattle.report.proofs.texts.put_text.Goals as goal

pub loop-byte-preserved : goal.loop-byte-preserved
loop-byte-preserved c = search text_more

pub returns : goal.returns
returns c = search text_all
