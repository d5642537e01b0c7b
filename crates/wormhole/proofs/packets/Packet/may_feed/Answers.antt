-- Each return by the test before it. Assumes nothing.
use Rattle.wormhole.proofs.Serving.{rear_within}
use Rattle.wormhole.proofs.Flowing.{feed_none, feed_rear}
use Rattle.wormhole.proofs.packets.Packet.may_feed.Goals as goal

pub returns-then-r-eq0 : goal.returns-then-r-eq0
returns-then-r-eq0 c = search feed_none

pub has_room-requires : goal.has_room-requires
has_room-requires c = search rear_within

pub returns : goal.returns
returns c = search feed_rear
