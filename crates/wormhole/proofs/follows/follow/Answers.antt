-- What the test of the move tells is what the stores ask for; together they are the step. Assumes nothing.
use mathlib.Core.Path.{◌∙◌}
use borrow.Author.Rules.{rules}
use Rattle.wormhole.proofs.Serving.{number_small, moved}
use Rattle.wormhole.proofs.Flowing.{follow_flit, followed, follow_some, follow_in, follow_room}
use Rattle.wormhole.proofs.follows.follow.Goals as goal

pub drain-requires : goal.drain-requires
drain-requires c = record { k_lt_n = search rules; k_nonzero = search follow_flit }

pub overflow_sub-next : goal.overflow_sub-next
overflow_sub-next c = search follow_some

pub fill-requires : goal.fill-requires
fill-requires c =
    record { k_lt_n = rw c.drain.ensures.count (search follow_in); k_bound = search follow_room }

pub leave-requires : goal.leave-requires
leave-requires c = record { k_lt_n = rw (c.fill.ensures.count, c.drain.ensures.count) (search rules); k_bound = search number_small }

pub returns : goal.returns
returns c =
    let x = c.args in
    let d = c.drain.ensures in
    let f = c.fill.ensures in
    let e = moved _ _ (f.count ∙ d.count) c.leave.ensures (search rules) in
    followed x.m _ _ c.channels-n.ensures.value x.r _ x.k _ _ _ _ c.next-next.ensures d.sections f.sections e
