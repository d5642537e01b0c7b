-- Above the count no number is a channel's; below it the channel's own place and direction decide. Assumes nothing.
use native.Mathlib.Omega.{arith}
use borrow.Author.Tests.{le-ltb, lt-ltb}
use mathlib.Core.Path.{refl}
use Rattle.route.specs.Channels.{is_channel}
use Rattle.route.specs.Numbers.{channels}
use Rattle.route.proofs.channels.is_channel.Goals as goal

pub returns-then-channels-number : goal.returns-then-channels-number
unfolding is_channel
returns-then-channels-number c = rw (le-ltb c.args.number (channels c.args.m.columns c.args.m.rows) (omega arith)) refl

pub returns : goal.returns
unfolding is_channel
returns c =
    let b = c.channel_of-channel.ensures in
    rw (lt-ltb c.args.number (channels c.args.m.columns c.args.m.rows) (omega arith)) (rw (b.start, b.way) at c.exists.ensures)
