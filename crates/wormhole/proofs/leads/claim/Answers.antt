-- One store of three words, each by its number. Assumes nothing.
use native.Mathlib.Omega.{arith}
use Rattle.wormhole.proofs.Leading.{claiming}
use Rattle.wormhole.proofs.leads.claim.Goals as goal

pub returns : goal.returns
returns c = let x = c.args in let e = c.put.ensures in record { count = e.count; reference = e.reference; sections = claiming _ x.t x.i e.sections (omega arith) (omega arith) (omega arith) }
