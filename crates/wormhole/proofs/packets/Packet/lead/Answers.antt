-- What the test of the move tells is what the stores ask for; from the source or from the front. Assumes nothing.
use mathlib.Core.Path.{refl}
use native.Mathlib.Omega.{arith}
use borrow.Author.Rules.{rules}
use Rattle.wormhole.proofs.Serving.{Told, tells, moved}
use Rattle.wormhole.proofs.Leading.{front_below, lead_waiting, lead_flit, led_out, led_on}
use Rattle.wormhole.proofs.packets.Packet.lead.Goals as goal

pub start-requires : goal.start-requires
start-requires c =
    let x = c.args in
    let t : Told x.self.mesh x.self.state = search tells in
    record { t_lt_n = omega arith; t_bound = omega arith; le_waiting = search lead_waiting }

pub returns-then-r-eq0 : goal.returns-then-r-eq0
returns-then-r-eq0 c =
    let x = c.args in
    let e = moved _ _ refl c.start.ensures (search rules) in
    led_out x.self.mesh x.i x.self.state _ _ _ _ _ c.channels-n.ensures.value _ c.ahead-t.ensures.value c.if-r-eq0.true e

pub advance-requires : goal.advance-requires
advance-requires c =
    let x = c.args in
    let t : Told x.self.mesh x.self.state = search tells in
    let low = front_below x.self.mesh x.self.state t (search rules) in
    record { t_lt_n = omega arith; t_bound = omega arith; k_lt_n = omega arith; k_bound = omega arith; k_nonzero = search lead_flit }

pub returns : goal.returns
returns c =
    let x = c.args in
    let e = moved _ _ refl c.advance.ensures (search rules) in
    led_on x.self.mesh x.i x.self.state _ _ _ _ _ c.channels-n.ensures.value _ c.ahead-t.ensures.value c.if-r-eq0.false e
