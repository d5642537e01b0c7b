-- The five rules leave a way open: each allows the turns from the row to the column in every column, or those back, which is computed
-- rule by rule; and either is enough for the closed form. Assumes nothing.
use Prim.Native.Nat.{ℕ, zero, suc, ◌+◌, ◌<◌}
use mathlib.Core.Logic.{◌⊎◌, inl, inr, ⊎_elim}
use mathlib.Core.Bool.{Bool, ◌&&◌, ◌||◌}
use native.Mathlib.Omega.{arith}
use mir.Facts.{and_yes, or_yes}
use lib.Dec.{T}
use Rattle.route.specs.declared.places.Place.{Place}
use Rattle.route.specs.Grid.{horiz, vert, Sense, coord, gap, dist}
use Rattle.route.specs.Turns.{Parity, even, odd, parity, corner, local, Rule, rule_table}
use Rattle.route.specs.Mesh.{turn, ruled}
use Rattle.route.proofs.Every.{AllS, senses, AllR, rules}
use Rattle.route.proofs.Tests.{or_l}
use Rattle.route.proofs.Closed.{across, along}
use Rattle.route.proofs.Exact.{aims, leads}

abbrev hv : Rule → Sense → Sense → Parity → Bool
hv k s u p = rule_table k p (corner horiz s u)

abbrev vh : Rule → Sense → Sense → Parity → Bool
vh k s u p = rule_table k p (corner vert u s)

abbrev firm : Rule → Sense → Sense → Bool
firm k s u = (hv k s u even && hv k s u odd) || (vh k s u even && vh k s u odd)

all_firm : (k : Rule) (s u : Sense) → T (firm k s u)
all_firm k s u = rules (λ k. T (firm k s u)) (senses (λ s. AllR (λ k. T (firm k s u))) (senses (λ u. AllS (λ s. AllR (λ k. T (firm k s u)))) (omega arith) u) s) k

either_parity : (f : Parity → Bool) → T (f even && f odd) → (p : Parity) → T (f p)
either_parity f h even = (and_yes (f even) (f odd) h).0
either_parity f h odd = (and_yes (f even) (f odd) h).1

-- turns that are allowed in every column leave a way
opens : (hv vh : ℕ → Bool) (dx dy : ℕ) → 0 < dx + dy → ((x : ℕ) → T (hv x)) ⊎ ((x : ℕ) → T (vh x)) → T (across hv vh dx dy) ⊎ T (along vh dx dy)
unfolding across along
opens hv vh zero zero away f = absurd (omega arith)
opens hv vh zero (suc dy) away f = inr tt
opens hv vh (suc dx) zero away f = inl tt
opens hv vh (suc zero) (suc dy) away f = ⊎_elim (λ g. inl (g 0)) (λ g. inr (g 1)) f
opens hv vh (suc (suc dx)) (suc dy) away f = ⊎_elim (λ g. inl (or_l (hv 0) (hv 1 && vh 1) (g 0))) (λ g. inr (g (suc (suc dx)))) f

-- a packet that starts at one node for another may go along the row or along the column
pub open_way : (k : Rule) (C R f : ℕ) (n t : Place) → 0 < dist n t
    → T (leads (ruled k C R f) n local t horiz) ⊎ T (leads (ruled k C R f) n local t vert)
unfolding turn dist
open_way k C R f n t away =
    let s = aims n t horiz in
    let u = aims n t vert in
    opens (λ x. hv k s u (parity (coord horiz t + x + f))) (λ x. vh k s u (parity (coord horiz t + x + f)))
    (gap (coord horiz n) (coord horiz t)) (gap (coord vert n) (coord vert t)) away
    (⊎_elim (λ h. inl (λ x. either_parity (hv k s u) h (parity (coord horiz t + x + f))))
    (λ h. inr (λ x. either_parity (vh k s u) h (parity (coord horiz t + x + f))))
    (or_yes (hv k s u even && hv k s u odd) (vh k s u even && vh k s u odd) (all_firm k s u)))
