-- Each return by whether the channel exists. Assumes nothing.
use native.Mathlib.Omega.{arith}
use Rattle.route.proofs.Nodes.{not_channel, a_channel}
use Rattle.route.proofs.House.{no_word, word}
use Rattle.route.proofs.numberings.Numbering.word.Goals as goal

pub returns-then-not-exists : goal.returns-then-not-exists
returns-then-not-exists c =
    let b = c.channel_of-c.ensures in
    no_word _ _ _ (not_channel _ _ (omega arith) b.start b.way c.exists.ensures c.if-not-exists.true)

pub returns : goal.returns
returns c =
    let b = c.channel_of-c.ensures in
    word _ _ _ (a_channel _ _ (omega arith) b.start b.way c.exists.ensures c.if-not-exists.false) b.start b.way c.house.ensures
