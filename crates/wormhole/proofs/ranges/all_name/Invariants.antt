-- So far the answer is that of the words that are left. Assumes nothing.
use mathlib.Core.Path.{◌≡◌}
use lib.ListN.{drop}
use Rattle.route.specs.Coded.{meant}
use Rattle.wormhole.specs.Range.{every, names}
use Rattle.wormhole.proofs.ranges.all_name.Given as goal

abbrev pub invariant-loop-word : goal.invariant-loop-word
invariant-loop-word l = every (names (meant l.m)) l.section ≡ every (names (meant l.m)) (drop l.word-index l.section)
