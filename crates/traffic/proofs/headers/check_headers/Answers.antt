-- The headers before header i are not refused; each turn asks one more. Assumes nothing.
use mathlib.Core.Path.{refl}
use native.Mathlib.Omega.{arith}
use Rattle.std.proofs.lemmas.Result.{err_from_is_err_and}
use Rattle.traffic.proofs.Heads.{asked_all, asked_more, asked_stop}
use Rattle.traffic.proofs.headers.check_headers.Goals as goal

pub returns-in_err-check_header : goal.returns-in_err-check_header
returns-in_err-check_header c =
    let p = err_from_is_err_and c.from_residual.result c.from_residual.ensures.1 in
    rw (p.1, p.2) (asked_stop _ _ _ c.loop-i.i c.loop-i.invariant (omega arith) c.header_at.ensures c.in_err-check_header.ensures c.in_err-check_header.field-0.0 refl)

pub loop-i-preserved : goal.loop-i-preserved
loop-i-preserved c = asked_more _ _ _ c.loop-i.i c.loop-i.invariant (omega arith) c.header_at.ensures c.in_ok-check_header.ensures refl

pub returns : goal.returns
returns c = asked_all _ _ _ c.loop-i.i c.loop-i.invariant (omega arith)
