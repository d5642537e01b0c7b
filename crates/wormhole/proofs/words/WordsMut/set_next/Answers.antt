-- A store in the list is a store in the section. Assumes nothing.
use mathlib.Core.Path.{refl}
use Rattle.wormhole.proofs.Sections.{link_at}
use Rattle.wormhole.proofs.words.WordsMut.set_next.Goals as goal

pub returns : goal.returns
returns c = record { count = refl; reference = refl; sections = search link_at }
