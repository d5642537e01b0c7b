-- A word of the list is a word of the section. Assumes nothing.
use Rattle.wormhole.proofs.Sections.{owner_at}
use Rattle.wormhole.proofs.words.Words.owner.Goals as goal

pub returns : goal.returns
returns c = search owner_at
