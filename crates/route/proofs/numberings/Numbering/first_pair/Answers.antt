-- The channels upward: from none that was passed over do the numbers fall. Assumes nothing.
use native.Mathlib.Omega.{arith}
use Rattle.route.proofs.Falls.{pass_on, names, accepts}
use Rattle.route.proofs.numberings.Numbering.first_pair.Goals as goal

pub returns-in-Some : goal.returns-in-Some
returns-in-Some c = names _ _ c.loop-incoming.incoming c.loop-incoming.invariant c.in-Some.ensures.first c.in-Some.ensures.bound (omega arith)

pub loop-incoming-preserved : goal.loop-incoming-preserved
loop-incoming-preserved c = pass_on _ _ c.loop-incoming.incoming c.loop-incoming.invariant c.in_default.ensures.first (omega arith)

pub returns : goal.returns
returns c = accepts _ _ c.loop-incoming.incoming c.loop-incoming.invariant (omega arith)
