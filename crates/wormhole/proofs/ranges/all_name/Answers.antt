-- Each turn asks one word more. Assumes nothing.
use mathlib.Core.Path.{sym, ◌∙◌}
use native.Mathlib.Omega.{arith}
use Rattle.route.specs.Coded.{meant}
use Rattle.wormhole.specs.Range.{names}
use Rattle.wormhole.proofs.Every.{asked_of, stops, goes_on, ends}
use Rattle.wormhole.proofs.ranges.all_name.Goals as goal

pub returns-then-not-names : goal.returns-then-not-names
returns-then-not-names c =
    stops (names (meant c.args.m)) 0 c.args.section.now c.loop-word.word-index c.loop-word.invariant (omega arith) (asked_of (names (meant c.args.m)) (sym c.names.ensures ∙ c.if-not-names.true) (omega arith))

pub loop-word-preserved : goal.loop-word-preserved
loop-word-preserved c =
    goes_on (names (meant c.args.m)) 0 c.args.section.now c.loop-word.word-index c.loop-word.invariant (omega arith) (asked_of (names (meant c.args.m)) (sym c.names.ensures ∙ c.if-not-names.false) (omega arith))

pub returns : goal.returns
returns c = ends (names (meant c.args.m)) 0 c.args.section.now c.loop-word.word-index c.loop-word.invariant (omega arith)
