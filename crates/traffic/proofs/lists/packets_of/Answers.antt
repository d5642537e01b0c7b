-- As many headers as the bytes after the lead have threes. Assumes nothing.
use mathlib.Core.Path.{refl, sym, ◌∙◌}
use native.Mathlib.Omega.{arith}
use lib.ListN.{length, drop, length-drop}
use Rattle.traffic.proofs.Heads.{length_headers}
use Rattle.traffic.proofs.Refusals.{listing}
use Rattle.traffic.proofs.lists.packets_of.Goals as goal

pub returns : goal.returns
returns c =
    let l = c.args.list.now in
    let k = listing (length l) c.requires in
    record { value = sym (length_headers (drop 2 l) ∙ rw (length-drop 2 l) refl); bound = omega arith }
