-- Each turn asks one record more, and sees whether it is the first empty one. Assumes nothing.
use Prim.Native.Nat.{◌+◌}
use mathlib.Core.Path.{refl, sym, ◌∙◌, ap}
use native.Mathlib.Omega.{arith}
use lib.ListN.{length}
use borrow.Author.Tests.{eq-eqb, eqb-true}
use Rattle.route.specs.Grid.{pick}
use Rattle.route.specs.Coded.{meant}
use Rattle.wormhole.specs.Memory.{none}
use Rattle.wormhole.specs.Range.{record_fits}
use Rattle.wormhole.proofs.Every.{both, stops, goes_on, ends}
use Rattle.wormhole.proofs.Surveying.{found_none, found_here, found_kept, found_all, none_of, one_of, lower}
use Rattle.wormhole.proofs.ranges.survey.Goals as goal
use Rattle.wormhole.proofs.ranges.survey.Goals.{then-r-is_none, else-r-is_none}

pub loop-i-init : goal.loop-i-init
loop-i-init c = record { fit = refl; lowest = found_none c.args.records.now; bound = tt }

pub returns-then-not-record_fits-clause-refusal : goal.returns-then-not-record_fits-clause-refusal
returns-then-not-record_fits-clause-refusal c =
    ap (λ b. pick b 0 9)
    (stops (record_fits (meant c.args.m)) none c.args.records.now c.loop-i.i c.loop-i.invariant.fit (omega arith) (sym c.record_fits.ensures ∙ c.if-not-record_fits.true))

pub loop-i-preserved : goal.loop-i-preserved
loop-i-preserved c =
    let rs = c.args.records.now in
    let i = c.loop-i.i in
    let n = c.loop-i.invariant in
    record {
      fit = goes_on (record_fits (meant c.args.m)) none rs i n.fit (omega arith) (sym c.record_fits.ensures ∙ c.if-not-record_fits.false);
      lowest =
          elim c.if-r-is_none.branch [
            | then-r-is_none w ↦
                let b = both _ _ w.if-r-is_none.true in
                let here = found_here rs i (omega arith) refl n.lowest (eqb-true _ _ b.0) (omega (arith, none_of c.loop-i.empty (length rs) c.is_none.ensures b.1)) in
                rw w.empty-is (omega (arith, here))
            | else-r-is_none w ↦
                rw w.empty-is (found_kept rs i (omega arith) refl n.lowest (λ z. one_of c.loop-i.empty (length rs) i c.is_none.ensures (rw (eq-eqb _ 0 z) at w.if-r-is_none.false) n.bound))
          ];
      bound =
          elim c.if-r-is_none.branch [
            | then-r-is_none w ↦ rw w.empty-is (omega arith)
            | else-r-is_none w ↦ rw w.empty-is (lower c.loop-i.empty i (i + 1) (omega arith) n.bound)
          ];
    }

pub returns-clause-refusal : goal.returns-clause-refusal
returns-clause-refusal c = ap (λ b. pick b 0 9) (ends (record_fits (meant c.args.m)) none c.args.records.now c.loop-i.i c.loop-i.invariant.fit (omega arith))

pub returns-clause-bound : goal.returns-clause-bound
returns-clause-bound c = lower c.loop-i.empty c.loop-i.i (length c.args.records.now) (omega arith) c.loop-i.invariant.bound

pub returns-clause-lowest : goal.returns-clause-lowest
returns-clause-lowest c = c.loop-i.invariant.lowest ∙ found_all c.args.records.now c.loop-i.i (omega arith)
