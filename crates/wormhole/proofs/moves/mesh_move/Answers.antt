-- The refusals by their tests, in their order; else the packet's move. Assumes nothing.
use mathlib.Core.Path.{refl, sym, ◌∙◌}
use native.Mathlib.Omega.{arith}
use Rattle.std.proofs.lemmas.Result.{err_from_is_err_and}
use Rattle.wormhole.proofs.ByKind.{act_same, allowed_same, allowed_live, allowed_may, known_same, record_served, memory_served}
use Rattle.wormhole.proofs.Whole.{move_refused, move_nobody, move_unknown, move_not_now, move_done}
use Rattle.wormhole.proofs.moves.mesh_move.Goals as goal

pub returns-in_err-m : goal.returns-in_err-m
returns-in_err-m c =
    let p = err_from_is_err_and c.from_residual.result c.from_residual.ensures.1 in
    rw (p.1, p.2) (move_refused _ _ _ _ _ _ _ _ _ c.in_err-m.field-0.0 c.in_err-m.ensures.refusal)

pub returns-then-records-i : goal.returns-then-records-i
returns-then-records-i c = move_nobody _ _ _ _ _ _ _ _ _ c.in_ok-m.ensures.refusal c.if-records-i.true

pub returns-in_default : goal.returns-in_default
returns-in_default c =
    let e = c.in_ok-m.ensures in
    move_unknown _ _ _ _ _ _ _ _ _ e.refusal (omega arith) _ e.mesh c.in_default.ensures.known

pub may_move-requires : goal.may_move-requires
may_move-requires c =
    let x = c.args in
    let e = c.in_ok-m.ensures in
    let v = c.in-Some.ensures in
    record { fitting = record_served _ _ _ _ x.records.now e.refusal _ e.mesh x.«record»; memory = memory_served _ _ _ _ x.records.now e.refusal _ e.mesh; takes = known_same _ c.in-Some.step _ _ _ v.step ∙ sym v.known }

pub returns-then-not-may_move : goal.returns-then-not-may_move
returns-then-not-may_move c =
    let e = c.in_ok-m.ensures in
    let v = c.in-Some.ensures in
    move_not_now _ _ _ _ _ _ _ _ _ e.refusal (omega arith) _ e.mesh v.known refl (c.may_move.ensures ∙ allowed_same c.in-Some.step _ _ _ v.step _ _ _ _) c.if-not-may_move.true

pub invariant_of-packet : goal.invariant_of-packet
invariant_of-packet c =
    let x = c.args in
    let e = c.in_ok-m.ensures in
    let ok = sym c.may_move.ensures ∙ c.if-not-may_move.false in
    record { served = record { fitting = record_served _ _ _ _ x.records.now e.refusal _ e.mesh x.«record»; live = allowed_live _ _ x.«record» _ _ _ _ ok } }

pub act-requires : goal.act-requires
act-requires c =
    let x = c.args in
    let e = c.in_ok-m.ensures in
    let v = c.in-Some.ensures in
    record {
      memory = memory_served _ _ _ _ x.records.now e.refusal _ e.mesh;
      takes = known_same _ c.in-Some.step _ _ _ v.step ∙ sym v.known;
      allowed = allowed_may _ _ _ _ _ _ _ (sym c.may_move.ensures ∙ c.if-not-may_move.false);
    }

pub returns : goal.returns
returns c =
    let e = c.in_ok-m.ensures in
    let v = c.in-Some.ensures in
    move_done _ _ _ _ _ _ _ _ _ e.refusal (omega arith) _ e.mesh v.known refl (c.may_move.ensures ∙ allowed_same c.in-Some.step _ _ _ v.step _ _ _ _) c.if-not-may_move.false _ _ (c.act.ensures ∙ act_same c.in-Some.step _ _ _ v.step _ _ _ _)
