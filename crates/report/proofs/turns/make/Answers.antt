-- What the machine leaves, and one move more. Assumes nothing.
use Rattle.std.proofs.Common.{arith}
use Rattle.wormhole.specs.Coded.{built, laid}
use Rattle.report.proofs.Turning.{made_counted}
use Rattle.report.proofs.turns.make.Goals as goal

pub returns : goal.returns
returns c =
    let a = c.args in
    let f = c.act in
    made_counted (built a.m) (laid a.m a.words.now) a.v a.c (laid a.m f.new.words) f.result _ f.ensures (omega arith)
