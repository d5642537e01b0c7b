-- Each return by the tests before it. Assumes nothing.
use mathlib.Core.Path.{refl, ◌∙◌}
use native.Mathlib.Omega.{arith}
use borrow.Author.Tests.{eq-eqb, ne_eqb}
use Rattle.wormhole.specs.Range.{record_fits}
use Rattle.wormhole.proofs.ranges.record_fits.Goals as goal

pub returns-then-not-names : goal.returns-then-not-names
unfolding record_fits
returns-then-not-names c = rw (rw (c.names.ensures, c.names-2.ensures) at c.if-not-names.true) refl

pub returns-then-r-eq0 : goal.returns-then-r-eq0
unfolding record_fits
returns-then-r-eq0 c =
    let z = c.default.ensures in
    rw (rw (c.names.ensures, c.names-2.ensures) at c.if-not-names.false, eq-eqb c.args.r.live 0 (omega arith))
    (c.eq.ensures ∙ rw (z.0, z.1.0, z.1.1.0, z.1.1.1.0, z.1.1.1.1.0, z.1.1.1.1.1.0, z.1.1.1.1.1.1.0, z.1.1.1.1.1.1.1, eq-eqb c.args.r.live 0 (omega arith)) refl)

pub returns : goal.returns
unfolding record_fits
returns c = rw (rw (c.names.ensures, c.names-2.ensures) at c.if-not-names.false, ne_eqb c.args.r.live 0 (omega arith), c.packet_fits.ensures) refl
