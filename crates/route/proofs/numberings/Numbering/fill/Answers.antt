-- What is filled are the numbers of the channels so far, and the rest is as it was. Assumes nothing.
use native.Mathlib.Omega.{arith}
use Rattle.route.proofs.House.{fill_more}
use Rattle.route.proofs.numberings.Numbering.fill.Goals as goal

pub loop-number-preserved : goal.loop-number-preserved
loop-number-preserved c = fill_more _ _ _ _ c.loop-number.invariant (omega arith) _ c.word.ensures (omega arith)
