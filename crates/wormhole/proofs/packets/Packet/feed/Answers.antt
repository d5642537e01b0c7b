-- What the test of the move tells is what the store asks for. Assumes nothing.
use mathlib.Core.Path.{refl}
use borrow.Author.Rules.{rules}
use Rattle.wormhole.proofs.Serving.{written}
use Rattle.wormhole.proofs.Flowing.{feed_waiting, fed, feed_some, feed_in, feed_room}
use Rattle.wormhole.proofs.packets.Packet.feed.Goals as goal

pub overflow_sub-r : goal.overflow_sub-r
overflow_sub-r c = search feed_some

pub fill-requires : goal.fill-requires
fill-requires c = record { k_lt_n = search feed_in; k_bound = search feed_room }

pub overflow_sub-result : goal.overflow_sub-result
overflow_sub-result c = search feed_waiting

pub returns : goal.returns
returns c =
    let x = c.args in
    fed x.self.mesh _ _ c.channels-n.ensures.value x.self.state _ (written _ _ refl c.fill.ensures (search rules))
