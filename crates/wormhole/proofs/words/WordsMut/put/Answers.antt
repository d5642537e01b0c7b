-- Three stores. Assumes nothing.
use mathlib.Core.Path.{refl}
use Rattle.wormhole.proofs.Sections.{put_at}
use Rattle.wormhole.proofs.words.WordsMut.put.Goals as goal

pub returns : goal.returns
returns c = record { count = refl; reference = refl; sections = search put_at }
