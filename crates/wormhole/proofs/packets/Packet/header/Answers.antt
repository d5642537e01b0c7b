-- At the source at once; else by what the record tells of the front channel. Assumes nothing.
use native.Mathlib.Omega.{arith}
use Rattle.route.specs.Coded.{meant}
use Rattle.route.proofs.Promises.{place_inside}
use Rattle.wormhole.proofs.Serving.{tells}
use Rattle.wormhole.proofs.Leading.{source_place, source_arrival, front_below, front_start, front_exists, front_place, front_end, front_arrival}
use Rattle.wormhole.proofs.packets.Packet.header.Goals as goal

pub place_of-requires : goal.place_of-requires
place_of-requires c =
    let t = tells c.args.self.mesh c.args.self.state c.args.self.served in
    record { columns_nonzero = t.columns_low; node_bound = omega (arith, t.wide, t.source) }

pub returns-then-r-eq0 : goal.returns-then-r-eq0
returns-then-r-eq0 c =
    let x = c.args in
    let t = tells x.self.mesh x.self.state c.args.self.served in
    let e = c.if-r-eq0.true in
    record { place = source_place x.self.mesh x.self.state e _ c.place_of.ensures; arrival = source_arrival x.self.mesh x.self.state e; inside = rw c.place_of.ensures (place_inside (meant x.self.mesh) x.self.state.source t.source) }

pub channel_of-channel-requires : goal.channel_of-channel-requires
channel_of-channel-requires c =
    let x = c.args in
    let t = tells x.self.mesh x.self.state c.args.self.served in
    record { columns_nonzero = t.columns_low; number_bound = omega (arith, front_below x.self.mesh x.self.state t c.if-r-eq0.false, t.wide) }

pub hop-requires : goal.hop-requires
hop-requires c =
    let x = c.args in
    let t = tells x.self.mesh x.self.state c.args.self.served in
    let b = c.channel_of-channel.ensures in
    record { inside = front_start x.self.mesh x.self.state t c.if-r-eq0.false _ _ b.start b.way; exists = front_exists x.self.mesh x.self.state t c.if-r-eq0.false _ _ b.start b.way }

pub returns : goal.returns
returns c =
    let x = c.args in
    let t = tells x.self.mesh x.self.state c.args.self.served in
    let b = c.channel_of-channel.ensures in
    let e = c.if-r-eq0.false in
    record { place = front_place x.self.mesh x.self.state t e _ _ b.start b.way _ c.hop.ensures; arrival = front_arrival x.self.mesh x.self.state t e _ _ b.start b.way; inside = front_end x.self.mesh x.self.state t e _ _ b.start b.way _ c.hop.ensures }
