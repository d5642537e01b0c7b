-- A turn fills one more record; after them what the parts leave is the whole. Assumes nothing.
use mathlib.Core.Path.{◌≡◌, refl}
use native.Mathlib.Omega.{arith}
use borrow.Author.Rules.{rules}
use lib.ListN.{length, replicate}
use Rattle.std.proofs.lemmas.Result.{err_from_is_err_and}
use Rattle.traffic.proofs.Storing.{stored, stored_more}
use Rattle.traffic.proofs.Whole.{read_refused, read_done}
use Rattle.traffic.proofs.reads.mesh_read.Goals as goal

pub returns-in_err-m : goal.returns-in_err-m
returns-in_err-m c =
    let p = err_from_is_err_and c.from_residual.result c.from_residual.ensures.1 in
    rw (p.1, p.2) (read_refused _ _ _ c.in_err-m.field-0.0 c.in_err-m.ensures.refusal)

pub loop-i-init : goal.loop-i-init
unfolding stored
loop-i-init c = refl

pub loop-i-preserved : goal.loop-i-preserved
loop-i-preserved c = stored_more _ _ c.loop-i.i c.loop-i.invariant c.packet_at.ensures refl

pub returns : goal.returns
returns c =
    let e = c.in_ok-m.ensures in
    let zeros : c.fill.new.self ≡ replicate (length c.args.words.now) 0 = search rules in
    rw c.plan.ensures (read_done _ _ _ e.refusal e.mesh zeros c.loop-i.invariant (omega arith) c.lead_of.ensures c.packets_of.ensures.value)
