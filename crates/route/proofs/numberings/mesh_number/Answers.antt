-- The refusals by their tests; else the list that `fill` leaves. Assumes nothing.
use Rattle.std.proofs.lemmas.Result.{err_from_is_err_and}
use Rattle.route.proofs.Listed.{not_numbered, is_numbered}
use Rattle.route.proofs.numberings.mesh_number.Goals as goal

pub returns-in_err-numbering : goal.returns-in_err-numbering
returns-in_err-numbering c =
    let p = err_from_is_err_and c.from_residual.result c.from_residual.ensures.1 in
    rw (p.1, p.2) (not_numbered _ _ _ _ c.in_err-numbering.field-0.0 c.in_err-numbering.ensures.refusal)

pub returns : goal.returns
returns c =
    let e = c.in_ok-numbering.ensures in
    is_numbered _ _ _ _ e.refusal _ e.mesh (rw e.rule at c.fill.ensures)
