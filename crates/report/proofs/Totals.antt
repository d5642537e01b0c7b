-- Counted packets as a list of std's words: the sum of their counts, and whether all have arrived. Assumes nothing.
use Prim.Native.Nat.{◌<◌, ◌≤◌}
use mathlib.Core.Path.{◌≡◌, refl, sym, ◌∙◌, ap}
use mathlib.Core.Bool.{Bool, true, false, ◌&&◌}
use mathlib.Core.List.{List, [], ◌∷◌}
use native.Mathlib.Omega.{arith}
use lib.Dec.{eqb}
use Rattle.std.proofs.Common.{◌↔◌}
use Rattle.std.specs.List.{sum_by, list_all, AllPass}
use Rattle.std.proofs.lemmas.List.Sums.{sum_by-cons, AllPass-from_list_all, list_all-from_AllPass}
use Rattle.wormhole.specs.Range.{every}
use Rattle.report.specs.declared.turns.Counted.{Counted}
use Rattle.report.specs.Sweeps.{sum, idle}
use Rattle.report.specs.Coded.{recs, counts}

-- all moves that were counted
pub sum_counts : (cs : List Counted) → sum_by (λ (c : Counted). c.moves) cs ≡ sum (counts cs)
unfolding sum counts
sum_counts [] = refl
sum_counts (c ∷ cs) = omega (arith, sum_by-cons (λ (d : Counted). d.moves) c cs, sum_counts cs)

-- and they fit
pub sum_fits : (cs : List Counted) → sum (counts cs) ≤ 396800 → sum_by (λ (c : Counted). c.moves) cs < 4294967296
sum_fits cs few = omega (arith, sum_counts cs, few)

-- std's test of all packets
idle_all : (cs : List Counted) → list_all (λ (c : Counted). eqb c.packet.live 0) cs ≡ idle (recs cs)
unfolding idle every recs
idle_all [] = refl
idle_all (c ∷ cs) = ap (λ (b : Bool). eqb c.packet.live 0 && b) (idle_all cs)

same : (a b : Bool) → (a ≡ true → b ≡ true) → (b ≡ true → a ≡ true) → a ≡ b
same true b f g = sym (f refl)
same false true f g = g refl
same false false f g = refl

-- whether every packet has arrived
pub idle_so : (cs : List Counted) (b : Bool) → ((b ≡ true) ↔ AllPass (λ (c : Counted). eqb c.packet.live 0) cs) → b ≡ idle (recs cs)
idle_so cs b h =
    let p = λ (c : Counted). eqb c.packet.live 0 in
    same b (list_all p cs) (λ e. list_all-from_AllPass p cs (h.0 e)) (λ e. h.1 (AllPass-from_list_all p cs e)) ∙ idle_all cs
