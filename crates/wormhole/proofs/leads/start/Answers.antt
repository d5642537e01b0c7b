-- The channel is claimed, and the record says so. Assumes nothing.
use Rattle.wormhole.proofs.Leading.{starting}
use Rattle.wormhole.proofs.leads.start.Goals as goal

pub returns : goal.returns
returns c = let e = c.claim.ensures in record { count = e.count; reference = e.reference; step = search starting }
