-- Each turn asks one word more. Assumes nothing.
use native.Mathlib.Omega.{arith}
use borrow.Author.Tests.{le-leb, lt-leb}
use Rattle.wormhole.specs.Range.{at_most}
use Rattle.wormhole.proofs.Every.{stops, goes_on, ends}
use Rattle.wormhole.proofs.ranges.all_at_most.Goals as goal

pub returns-then-most-word : goal.returns-then-most-word
unfolding at_most
returns-then-most-word c = stops (at_most c.args.most) 0 c.args.section.now c.loop-word.word-index c.loop-word.invariant (omega arith) (lt-leb _ _ c.if-most-word.true)

pub loop-word-preserved : goal.loop-word-preserved
unfolding at_most
loop-word-preserved c = goes_on (at_most c.args.most) 0 c.args.section.now c.loop-word.word-index c.loop-word.invariant (omega arith) (le-leb _ _ c.if-most-word.false)

pub returns : goal.returns
returns c = ends (at_most c.args.most) 0 c.args.section.now c.loop-word.word-index c.loop-word.invariant (omega arith)
