-- The direction's bit in the set of outputs. Assumes nothing.
use native.Mathlib.Omega.{arith}
use Rattle.route.specs.Numbers.{facing}
use Rattle.route.specs.Coded.{meant}
use Rattle.route.proofs.Promises.{place_inside, dir_below}
use Rattle.wormhole.proofs.Serving.{tells}
use Rattle.wormhole.proofs.Leading.{open_way}
use Rattle.wormhole.proofs.packets.Packet.is_open.Goals as goal

pub place_of-requires : goal.place_of-requires
place_of-requires c =
    let t = tells c.args.self.mesh c.args.self.state c.args.self.served in
    record { columns_nonzero = t.columns_low; node_bound = omega (arith, t.wide, t.destination) }

pub outputs_at-outputs-requires : goal.outputs_at-outputs-requires
outputs_at-outputs-requires c =
    let x = c.args in
    rw c.place_of.ensures (place_inside (meant x.self.mesh) x.self.state.destination (tells x.self.mesh x.self.state c.args.self.served).destination)

pub returns : goal.returns
returns c =
    let h = c.header-header.ensures in
    rw c.number.ensures (open_way _ c.args.self.state _ _ _ _ _ h.place h.arrival c.place_of.ensures c.outputs_at-outputs.ensures (dir_below (facing c.args.direction)))
