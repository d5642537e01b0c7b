-- Each return by the tests before it. Assumes nothing.
use native.Mathlib.Omega.{arith}
use borrow.Author.Rules.{rules}
use borrow.Author.Tests.{leb-true, leb-false, ltb-true, ltb-false}
use Rattle.wormhole.specs.Coded.{seen}
use Rattle.wormhole.proofs.Flowing.{roomy}
use Rattle.wormhole.proofs.follows.has_room.Goals as goal

pub returns : goal.returns
returns c =
    let x = c.args in
    roomy (seen x.words) x.word c.holds.result (search rules) c.holds.ensures (λ t. omega (arith, leb-true, ltb-true)) (λ t. omega (arith, leb-false, ltb-false))
