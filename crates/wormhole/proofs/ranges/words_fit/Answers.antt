-- Each return by the sections that have been asked before it. Assumes nothing.
use Rattle.wormhole.proofs.InRange.{owner_above, holds_above, next_asked}
use Rattle.wormhole.proofs.ranges.words_fit.Goals as goal

pub returns-then-not-all_at_most : goal.returns-then-not-all_at_most
returns-then-not-all_at_most c = search owner_above

pub returns-then-not-all_at_most-2 : goal.returns-then-not-all_at_most-2
returns-then-not-all_at_most-2 c = search holds_above

pub returns : goal.returns
returns c = search next_asked
