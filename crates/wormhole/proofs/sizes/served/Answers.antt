-- The refusals by their tests, in their order. Assumes nothing.
use mathlib.Core.Path.{sym, ◌∙◌}
use Rattle.std.proofs.lemmas.Result.{err_from_is_err_and}
use Rattle.wormhole.proofs.Refusing.{memory_records, memory_words, memory_good, they_fit}
use Rattle.wormhole.proofs.sizes.served.Goals as goal

pub returns-in_err-empty-clause-refusal : goal.returns-in_err-empty-clause-refusal
returns-in_err-empty-clause-refusal c =
    let e = c.in_ok-mesh.ensures in
    let r = c.from_residual-in_err-empty in
    let p = err_from_is_err_and r.result r.ensures.1 in
    rw (p.1, p.2) (memory_records _ _ _ _ _ e.refusal e.mesh c.in_err-empty.field-0.0 c.in_err-empty.ensures.refusal)

pub returns-then-not-words_fit-clause-refusal : goal.returns-then-not-words_fit-clause-refusal
returns-then-not-words_fit-clause-refusal c =
    let e = c.in_ok-mesh.ensures in
    memory_words _ _ _ _ _ e.refusal e.mesh (sym c.words_fit.ensures ∙ c.if-not-words_fit.true)

pub returns-clause-refusal : goal.returns-clause-refusal
returns-clause-refusal c =
    let e = c.in_ok-mesh.ensures in
    memory_good _ _ _ _ _ e.refusal e.mesh (sym c.words_fit.ensures ∙ c.if-not-words_fit.false) (they_fit _ _ _ _ _ e.refusal e.mesh c.in_ok-empty.ensures.refusal)
