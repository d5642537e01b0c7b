-- The next is read before the words are cleared. Assumes nothing.
use Rattle.wormhole.proofs.Emptied.{released}
use Rattle.wormhole.proofs.releases.release.Goals as goal

pub returns : goal.returns
returns c = let e = c.put.ensures in record { count = e.count; reference = e.reference; step = search released }
