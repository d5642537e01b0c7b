-- The refusals by their tests; else all is empty. Assumes nothing.
use mathlib.Core.Path.{◌≡◌, ◌∙◌, ap}
use borrow.Author.Rules.{rules}
use lib.ListN.{length, replicate}
use Rattle.std.proofs.lemmas.Result.{err_from_is_err_and}
use Rattle.wormhole.proofs.Whole.{none_is, reset_refused, reset_done}
use Rattle.wormhole.proofs.resets.mesh_reset.Goals as goal

pub returns-in_err-sized : goal.returns-in_err-sized
returns-in_err-sized c =
    let p = err_from_is_err_and c.from_residual.result c.from_residual.ensures.1 in
    rw (p.1, p.2) (reset_refused _ _ _ _ c.in_err-sized.field-0.0 c.in_err-sized.ensures.refusal)

pub returns : goal.returns
returns c =
    let words : c.fill.new.self ≡ replicate (length c.args.words.now) 0 = search rules in
    let records : c.fill-2.new.self ≡ replicate (length c.args.records.now) c.default.result = search rules in
    reset_done _ _ _ _ c.in_ok-sized.ensures.refusal words (records ∙ ap (replicate (length c.args.records.now)) (none_is c.default.result c.default.ensures))
