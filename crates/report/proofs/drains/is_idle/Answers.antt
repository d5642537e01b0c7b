-- The chain is std's test of all packets. Assumes nothing.
use Rattle.std.proofs.Common.{rules, ◌≡◌, ◌↔◌, nat_eq, true}
use Rattle.std.proofs.iter.runs.Made.{chains}
use Rattle.std.specs.List.{AllPass}
use Rattle.report.specs.declared.turns.Counted.{Counted}
use Rattle.report.proofs.Totals.{idle_so}
use Rattle.report.proofs.drains.is_idle.Goals as goal

pub returns : goal.returns
returns c =
    let e : (c.all.result ≡ true) ↔ AllPass (λ (d : Counted). nat_eq d.packet.live 0) c.args.all.now = search (rules, chains) in
    idle_so c.args.all.now c.all.result e
