-- Each return by the tests before it. Assumes nothing.
use native.Mathlib.Omega.{arith}
use Rattle.wormhole.proofs.Flowing.{follow_other, follow_none, follow_next, next_low}
use Rattle.wormhole.proofs.follows.may_follow.Goals as goal

pub returns-then-owner-i : goal.returns-then-owner-i
returns-then-owner-i c = search follow_other

pub returns-then-holds-eq0 : goal.returns-then-holds-eq0
returns-then-holds-eq0 c = search follow_none

pub has_room-requires : goal.has_room-requires
has_room-requires c =
    let x = c.args in
    next_low x.m _ _ x.k _ c.requires.memory c.channels-n.ensures.value (omega arith) c.next.ensures

pub returns : goal.returns
returns c = search follow_next
