-- Each return by the tests before it. Assumes nothing.
use mathlib.Core.Path.{refl, sym, ◌∙◌}
use native.Mathlib.Omega.{arith}
use borrow.Author.Tests.{not-true, not-false}
use Rattle.wormhole.proofs.Serving.{tells}
use Rattle.wormhole.proofs.Leading.{front_below}
use Rattle.wormhole.proofs.Flowing.{eat_none, eat_away, eat_empty, eat_left}
use Rattle.wormhole.proofs.packets.Packet.may_eat.Goals as goal

pub returns-then-r-eq0 : goal.returns-then-r-eq0
returns-then-r-eq0 c = search eat_none

pub place_of-requires : goal.place_of-requires
place_of-requires c =
    let t = tells c.args.self.mesh c.args.self.state c.args.self.served in
    record { columns_nonzero = t.columns_low; node_bound = omega (arith, t.wide, t.destination) }

pub returns-then-ne : goal.returns-then-ne
returns-then-ne c =
    let h = c.header.ensures in
    eat_away _ _ _ c.channels-n.ensures.value _ c.if-r-eq0.false _ _ h.place c.place_of.ensures _ refl (not-true _ (sym c.ne.ensures ∙ c.if-ne.true))

pub holds-requires : goal.holds-requires
holds-requires c =
    let x = c.args in
    omega (arith, front_below x.self.mesh x.self.state (tells x.self.mesh x.self.state x.self.served) c.if-r-eq0.false)

pub returns-then-holds-eq0 : goal.returns-then-holds-eq0
returns-then-holds-eq0 c =
    let h = c.header.ensures in
    eat_empty _ _ _ c.channels-n.ensures.value _ c.if-r-eq0.false _ _ h.place c.place_of.ensures _ refl (not-false _ (sym c.ne.ensures ∙ c.if-ne.false)) _ c.holds.ensures (omega arith)

pub returns : goal.returns
returns c =
    let h = c.header.ensures in
    eat_left _ _ _ c.channels-n.ensures.value _ c.if-r-eq0.false _ _ h.place c.place_of.ensures _ refl (not-false _ (sym c.ne.ensures ∙ c.if-ne.false)) _ c.holds.ensures (omega arith)
