-- Each turn loads one packet more. Assumes nothing.
use Rattle.std.proofs.Common.{rules, ◌≡◌, refl, length, replicate}
use Rattle.wormhole.proofs.Whole.{none_is}
use Rattle.report.proofs.Loading.{none_loaded, none_counted, one_loaded, still_none, all_loaded}
use Rattle.report.proofs.drains.load.Goals as goal

pub loop-i-init : goal.loop-i-init
loop-i-init c =
    let d = c.default.ensures in
    let all : c.fill.new.self ≡ replicate (length c.args.all.now) c.default.result = search rules in
    rw (all, c.told-all) (none_loaded _ c.default.result (none_is c.default.result.packet d.0), none_counted c.default.result d.1)

pub loop-i-preserved : goal.loop-i-preserved
loop-i-preserved c = (search one_loaded, still_none c.loop-i.all c.loop-i.i _ _ refl c.loop-i.invariant.1)

pub returns-clause-packets : goal.returns-clause-packets
returns-clause-packets c = search all_loaded
