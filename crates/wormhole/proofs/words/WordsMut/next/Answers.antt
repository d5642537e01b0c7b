-- A word of the list is a word of the section. Assumes nothing.
use Rattle.wormhole.proofs.Sections.{next_at}
use Rattle.wormhole.proofs.words.WordsMut.next.Goals as goal

pub returns : goal.returns
returns c = search next_at
