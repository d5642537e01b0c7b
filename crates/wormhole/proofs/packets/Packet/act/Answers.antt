-- Each return by the kind that led there. Assumes nothing.
use Rattle.wormhole.specs.Steps.{may, act}
use Rattle.wormhole.proofs.ByKind.{channel_low, may_follows}
use Rattle.wormhole.proofs.packets.Packet.act.Goals as goal

pub lead-requires-clause-may : goal.lead-requires-clause-may
unfolding may
lead-requires-clause-may c = rw c.in-Lead.is at c.requires.allowed

pub follow-requires-clause-k_bound : goal.follow-requires-clause-k_bound
follow-requires-clause-k_bound c = channel_low c.args.self.mesh c.in-Follow.channel (rw c.in-Follow.is at c.requires.takes)

pub follow-requires-clause-may : goal.follow-requires-clause-may
unfolding may
follow-requires-clause-may c = may_follows _ _ c.args.i _ (rw c.in-Follow.is at c.requires.allowed)

pub feed-requires-clause-may : goal.feed-requires-clause-may
unfolding may
feed-requires-clause-may c = rw c.in-Feed.is at c.requires.allowed

pub eat-requires-clause-may : goal.eat-requires-clause-may
unfolding may
eat-requires-clause-may c = rw c.in-Eat.is at c.requires.allowed

pub returns-in-Lead : goal.returns-in-Lead
unfolding act
returns-in-Lead c = rw c.in-Lead.is c.lead.ensures

pub returns-in-Follow : goal.returns-in-Follow
unfolding act
returns-in-Follow c = rw c.in-Follow.is c.follow.ensures

pub returns-in-Feed : goal.returns-in-Feed
unfolding act
returns-in-Feed c = rw c.in-Feed.is c.feed.ensures

pub returns-in-Eat : goal.returns-in-Eat
unfolding act
returns-in-Eat c = rw c.in-Eat.is c.eat.ensures
