-- A turn writes one more record, which can be written; after them what the parts leave is the whole. By `same` the page is still over the lent
-- bytes, so that these end as its own. Assumes nothing.
use mathlib.Core.Path.{refl}
use native.Mathlib.Omega.{arith}
use Rattle.std.proofs.Common.{rules}
use Rattle.std.proofs.lemmas.Result.{err_from_is_err_and}
use Rattle.traffic.proofs.Whole.{wrote, wrote_more, write_refused, write_columns, write_rows, write_fits, write_short, write_lent, write_done, lead_put}
use Rattle.traffic.proofs.writes.mesh_write.Goals as goal

pub returns-in_err-m : goal.returns-in_err-m
returns-in_err-m c =
    let p = err_from_is_err_and c.from_residual.result c.from_residual.ensures.1 in
    rw (p.1, p.2) (write_refused _ _ _ _ _ _ c.in_err-m.field-0.0 c.in_err-m.ensures.refusal)

pub loop-r-init : goal.loop-r-init
unfolding wrote
loop-r-init c = refl

pub put_record-requires : goal.put_record-requires
put_record-requires c =
    let x = c.args in
    let e = c.in_ok-m.ensures in
    record {
      columns_bound = write_columns _ _ x.plan.rule x.words.now x.records.now x.out.now e.refusal e.mesh;
      rows_bound = write_rows _ _ x.plan.rule x.words.now x.records.now x.out.now e.refusal e.mesh;
      fits = write_fits _ _ x.plan.rule x.words.now x.records.now x.out.now e.refusal e.mesh c.loop-r.r-index;
    }

pub loop-r-preserved : goal.loop-r-preserved
loop-r-preserved c = wrote_more _ _ c.args.records.now c.loop-r.r-index c.loop-r.invariant refl c.put_record.ensures

pub overflow_cast-result : goal.overflow_cast-result
overflow_cast-result c =
    let x = c.args in
    let e = c.in_ok-m.ensures in
    let p = lead_put x.plan.columns x.plan.rows x.plan.rule _ c.new-page.ensures c.put.ensures c.put-2.ensures in
    record { fits = omega (arith, c.len.ensures, write_short _ _ _ x.words.now x.records.now _ e.refusal e.mesh _ refl p c.loop-r.invariant (omega arith)) }

pub returns : goal.returns
returns c =
    let x = c.args in
    let e = c.in_ok-m.ensures in
    let p = lead_put x.plan.columns x.plan.rows x.plan.rule _ c.new-page.ensures c.put.ensures c.put-2.ensures in
    let same = write_lent _ _ _ x.words.now x.records.now _ e.refusal e.mesh _ refl p c.loop-r.invariant (omega arith) in
    write_done _ _ _ x.words.now x.records.now _ e.refusal e.mesh _ refl p c.loop-r.invariant (omega arith) c.len.ensures (search rules)
