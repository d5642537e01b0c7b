-- One store, of one flit fewer. Assumes nothing.
use mathlib.Core.Path.{refl}
use native.Mathlib.Omega.{arith}
use Rattle.wormhole.proofs.Sections.{holds_at, drain_at}
use Rattle.wormhole.proofs.words.WordsMut.drain.Goals as goal

pub overflow_sub-self : goal.overflow_sub-self
overflow_sub-self c = let x = c.args in omega (arith, holds_at x.self.now.n x.k x.self.now.words.now c.requires.k_lt_n)

pub returns : goal.returns
returns c = record { count = refl; reference = refl; sections = search drain_at }
