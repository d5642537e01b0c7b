-- One store, of one flit more. Assumes nothing.
use mathlib.Core.Path.{refl}
use native.Mathlib.Omega.{arith}
use Rattle.wormhole.proofs.Sections.{holds_at, fill_at}
use Rattle.wormhole.proofs.words.WordsMut.fill.Goals as goal

pub overflow_add-self-2 : goal.overflow_add-self-2
overflow_add-self-2 c = let x = c.args in record { fits = omega (arith, holds_at x.self.now.n x.k x.self.now.words.now c.requires.k_lt_n) }

pub returns : goal.returns
returns c = record { count = refl; reference = refl; sections = search fill_at }
