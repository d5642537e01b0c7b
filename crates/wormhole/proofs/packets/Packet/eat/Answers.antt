-- What the test of the move tells is what the stores ask for; together they are the step. Assumes nothing.
use borrow.Author.Rules.{rules}
use Rattle.wormhole.proofs.Serving.{moved}
use Rattle.wormhole.proofs.Flowing.{eat_front, eat_flit, ate, eat_fits, eat_in, eat_small}
use Rattle.wormhole.proofs.packets.Packet.eat.Goals as goal

pub overflow_sub-k : goal.overflow_sub-k
overflow_sub-k c = search eat_front

pub drain-requires : goal.drain-requires
drain-requires c = record { k_lt_n = search eat_in; k_nonzero = search eat_flit }

pub overflow_add-bitten : goal.overflow_add-bitten
overflow_add-bitten c = search eat_fits

pub leave-released-requires : goal.leave-released-requires
leave-released-requires c = record { k_lt_n = rw c.drain.ensures.count (search eat_in); k_bound = search eat_small }

pub returns : goal.returns
returns c =
    let x = c.args in
    let d = c.drain.ensures in
    let e = moved _ _ d.count c.leave-released.ensures (search rules) in
    ate x.self.mesh _ _ c.channels-n.ensures.value x.self.state _ _ _ _ d.sections e (search rules)
