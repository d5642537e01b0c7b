-- Each return by the tests before it. Assumes nothing.
use mathlib.Core.Path.{refl}
use native.Mathlib.Omega.{arith}
use Rattle.wormhole.proofs.Emptied.{kept_inside, kept_fed, kept_filled, given_up}
use Rattle.wormhole.proofs.releases.leave.Goals as goal

pub returns-then-r-k : goal.returns-then-r-k
returns-then-r-k c = let x = c.args in record { count = refl; reference = refl; step = kept_inside _ x.r x.k _ (omega arith) }

pub returns-then-r-ne0 : goal.returns-then-r-ne0
returns-then-r-ne0 c = let x = c.args in record { count = refl; reference = refl; step = kept_fed _ x.r x.k _ (omega arith) (omega arith) }

pub returns-then-holds-ne0 : goal.returns-then-holds-ne0
returns-then-holds-ne0 c =
    let x = c.args in
    record { count = refl; reference = refl; step = kept_filled _ x.r x.k _ _ c.holds.ensures (omega arith) (omega arith) (omega arith) }

pub returns : goal.returns
returns c =
    let x = c.args in
    let e = c.release.ensures in
    record { count = e.count; reference = e.reference; step = given_up _ x.r x.k _ _ c.holds.ensures (omega arith) (omega arith) _ (omega arith) e.step }
