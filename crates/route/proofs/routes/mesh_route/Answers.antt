-- The refusals in their order, each by its test; then the set that `outputs_at` gives. Assumes nothing.
use native.Mathlib.Omega.{arith}
use Rattle.std.proofs.lemmas.Result.{err_from_is_err_and}
use Rattle.route.proofs.Returns.{refused_mesh, refused_3, refused_4, refused_11, given}
use Rattle.route.proofs.routes.mesh_route.Goals as goal

pub returns-in_err-m : goal.returns-in_err-m
returns-in_err-m c =
    let p = err_from_is_err_and c.from_residual.result c.from_residual.ensures.1 in
    rw (p.1, p.2) (refused_mesh _ _ _ _ _ _ c.in_err-m.field-0.0 c.in_err-m.ensures.refusal)

pub returns-then-nodes-node : goal.returns-then-nodes-node
returns-then-nodes-node c =
    let e = c.in_ok-m.ensures in
    refused_3 _ _ _ _ _ _ e.refusal e.mesh c.nodes-nodes.ensures c.if-nodes-node.true

pub returns-in_default : goal.returns-in_default
returns-in_default c =
    let e = c.in_ok-m.ensures in
    refused_4 _ _ _ _ _ _ e.refusal e.mesh c.nodes-nodes.ensures c.if-nodes-node.false c.place_of-here.ensures c.in_default.ensures.known

pub returns-then-outputs-eq0 : goal.returns-then-outputs-eq0
returns-then-outputs-eq0 c =
    let e = c.in_ok-m.ensures in
    let a = c.in-Some.ensures in
    refused_11 _ _ _ _ _ _ e.refusal e.mesh c.nodes-nodes.ensures c.if-nodes-node.false c.place_of-here.ensures a.known a.arrival c.place_of.ensures c.outputs_at-outputs.ensures (omega arith)

pub returns : goal.returns
returns c =
    let e = c.in_ok-m.ensures in
    let a = c.in-Some.ensures in
    given _ _ _ _ _ _ e.refusal e.mesh c.nodes-nodes.ensures c.if-nodes-node.false c.place_of-here.ensures a.known a.arrival c.place_of.ensures c.outputs_at-outputs.ensures (omega arith)
