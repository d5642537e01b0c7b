-- So far the answer is that of the words that are left. Assumes nothing.
use mathlib.Core.Path.{◌≡◌}
use lib.ListN.{drop}
use Rattle.wormhole.specs.Range.{every, at_most}
use Rattle.wormhole.proofs.ranges.all_at_most.Given as goal

abbrev pub invariant-loop-word : goal.invariant-loop-word
invariant-loop-word l = every (at_most l.most) l.section ≡ every (at_most l.most) (drop l.word-index l.section)
