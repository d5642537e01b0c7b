-- A word of the list is a word of the section. Assumes nothing.
use Rattle.wormhole.proofs.Sections.{holds_at}
use Rattle.wormhole.proofs.words.WordsMut.holds.Goals as goal

pub returns : goal.returns
returns c = search holds_at
