-- Each return by the kind that led there. Assumes nothing.
use borrow.Author.Tests.{eq-eqb}
use Rattle.wormhole.specs.Steps.{may}
use Rattle.wormhole.proofs.ByKind.{channel_low}
use Rattle.wormhole.proofs.steps.may_move.Goals as goal

pub may_follow-requires-clause-k_bound : goal.may_follow-requires-clause-k_bound
may_follow-requires-clause-k_bound c = channel_low c.args.m c.in-Follow.channel (rw c.in-Follow.is at c.requires.takes)

pub returns-in-Lead : goal.returns-in-Lead
unfolding may
returns-in-Lead c = rw (c.in-Lead.is, eq-eqb c.args.r.live 1 c.if-r-ne1.false) c.may_lead.ensures

pub returns-in-Follow : goal.returns-in-Follow
unfolding may
returns-in-Follow c = rw (c.in-Follow.is, eq-eqb c.args.r.live 1 c.if-r-ne1.false) c.may_follow.ensures

pub returns-in-Feed : goal.returns-in-Feed
unfolding may
returns-in-Feed c = rw (c.in-Feed.is, eq-eqb c.args.r.live 1 c.if-r-ne1.false) c.may_feed.ensures

pub returns-in-Eat : goal.returns-in-Eat
unfolding may
returns-in-Eat c = rw (c.in-Eat.is, eq-eqb c.args.r.live 1 c.if-r-ne1.false) c.may_eat.ensures
