-- Each return by the test that led there; a channel that leaves a place inside the mesh has its word in the list. Assumes nothing.
use native.Mathlib.Omega.{arith}
use borrow.Author.Tests.{leb-true, leb-false}
use Rattle.route.specs.Numbers.{facing}
use Rattle.route.specs.Coded.{meant}
use Rattle.route.proofs.Nodes.{node_below, channel_below, words_fit}
use Rattle.route.proofs.Falls.{below, inside, level, no_way, barred, compared}
use Rattle.route.proofs.numberings.Numbering.falls.Goals as goal

pub returns-then-not-bends : goal.returns-then-not-bends
returns-then-not-bends c = level _ _ _ c.requires.ends _ c.of_channel-way.ensures c.bends.ensures c.if-not-bends.true

pub exists-requires : goal.exists-requires
exists-requires c = inside _ _ c.requires.ends

pub returns-then-not-exists : goal.returns-then-not-exists
returns-then-not-exists c = no_way _ _ _ c.requires.ends _ c.exists.ensures c.if-not-exists.true

pub returns-then-not-turn_ok : goal.returns-then-not-turn_ok
returns-then-not-turn_ok c = barred _ _ _ c.requires.ends _ c.of_channel-way.ensures c.turn_ok.ensures c.if-not-turn_ok.true

pub bounds-list-incoming : goal.bounds-list-incoming
bounds-list-incoming c = omega (arith, below _ _ c.requires.ends)

pub number-requires : goal.number-requires
number-requires c =
    let m = c.args.self.mesh in
    omega (arith, node_below (meant m) c.args.out.start (inside _ _ c.requires.ends), words_fit m.columns m.rows (omega arith) (omega arith))

pub bounds-list-number : goal.bounds-list-number
bounds-list-number c = omega (arith, channel_below (meant c.args.self.mesh) c.args.out.start (facing c.args.out.way) (inside _ _ c.requires.ends))

pub returns : goal.returns
returns c =
    compared _ _ _ c.requires.ends _ c.of_channel-way.ensures c.bends.ensures c.if-not-bends.false c.exists.ensures c.if-not-exists.false c.turn_ok.ensures c.if-not-turn_ok.false
    (λ q. let z = rw c.number.ensures at q in omega (arith, leb-true)) (λ q. let z = rw c.number.ensures at q in omega (arith, leb-false))
