-- The refusals by their tests; else the pair that `first_pair` finds. Assumes nothing.
use Rattle.std.proofs.lemmas.Result.{err_from_is_err_and}
use Rattle.route.proofs.Listed.{not_checked, is_checked}
use Rattle.route.proofs.checks.mesh_check.Goals as goal

pub returns-in_err-numbering : goal.returns-in_err-numbering
returns-in_err-numbering c =
    let p = err_from_is_err_and c.from_residual.result c.from_residual.ensures.1 in
    rw (p.1, p.2) (not_checked _ _ _ _ c.in_err-numbering.field-0.0 c.in_err-numbering.ensures.refusal)

pub returns : goal.returns
returns c =
    let e = c.in_ok-numbering.ensures in
    is_checked _ _ _ _ e.refusal _ e.mesh c.first_pair.ensures
