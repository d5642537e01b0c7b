-- The stores one after another are the step. Assumes nothing.
use mathlib.Core.Path.{◌∙◌}
use native.Mathlib.Omega.{arith}
use Rattle.wormhole.proofs.Leading.{advancing}
use Rattle.wormhole.proofs.leads.advance.Goals as goal

pub returns : goal.returns
returns c =
    let x = c.args in
    let d = c.drain.ensures in
    let n = c.set_next.ensures in
    let t = c.claim.ensures in
    let l = c.leave.ensures in
    record {
      count = l.count ∙ t.count ∙ n.count ∙ d.count;
      reference = l.reference ∙ t.reference ∙ n.reference ∙ d.reference;
      step = advancing _ x.i x.r x.t x.k d.sections n.sections t.sections l.step (omega arith) (omega arith);
    }
