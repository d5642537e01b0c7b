-- The refusals by their tests; else the lowest empty record gets the packet. Assumes nothing.
use native.Mathlib.Omega.{arith}
use Rattle.std.proofs.lemmas.Result.{err_from_is_err_and}
use Rattle.wormhole.proofs.Whole.{offer_refused, offer_unfit, offer_full, offer_done}
use Rattle.wormhole.proofs.offers.mesh_offer.Goals as goal

pub returns-in_err-memory : goal.returns-in_err-memory
returns-in_err-memory c =
    let p = err_from_is_err_and c.from_residual.result c.from_residual.ensures.1 in
    rw (p.1, p.2) (offer_refused _ _ _ _ _ _ _ _ c.in_err-memory.field-0.0 c.in_err-memory.ensures.refusal)

pub returns-in_err-check_packet : goal.returns-in_err-check_packet
returns-in_err-check_packet c =
    let e = c.in_ok-memory.ensures in
    let r = c.from_residual-in_err-check_packet in
    let p = err_from_is_err_and r.result r.ensures.1 in
    rw (p.1, p.2) (offer_unfit _ _ _ _ _ _ _ _ e.refusal e.mesh c.in_err-check_packet.field-0.0 c.in_err-check_packet.ensures)

pub returns-in_default : goal.returns-in_default
returns-in_default c =
    let e = c.in_ok-memory.ensures in
    offer_full _ _ _ _ _ _ _ _ e.refusal e.mesh c.in_ok-check_packet.ensures (omega (arith, rw c.in_default.is at e.lowest))

pub returns : goal.returns
returns c =
    let e = c.in_ok-memory.ensures in
    rw c.fresh.ensures (offer_done _ _ _ _ _ _ _ _ e.refusal e.mesh c.in_ok-check_packet.ensures (omega (arith, rw c.in-Some.is at e.bound)) (omega (arith, rw c.in-Some.is at e.lowest)))
