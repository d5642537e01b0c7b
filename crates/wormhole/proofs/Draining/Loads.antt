-- What the channels of one packet hold, each flit weighed by its channel: a sum over all channels, of which a store changes one term. With weight 1 it
-- counts flits, with the moves that a flit has yet to make it counts moves. Assumes nothing.
use Prim.Native.Nat.{ℕ, suc, ◌+◌, ◌-◌, ◌*◌, ◌≤◌, ◌<◌}
use mathlib.Core.Path.{◌≡◌, refl, sym, ap, ◌∙◌}
use mathlib.Core.Logic.{◌≢◌}
use native.Mathlib.Decide.{ℕ_discrete}
use native.Mathlib.Omega.{arith}
use lib.Dec.{eqb, eqb→eq}
use mir.Facts.{yes_eqb}
use Rattle.route.specs.Grid.{pick}
use Rattle.wormhole.proofs.Draining.Picks.{picked, passed}
use Rattle.wormhole.proofs.Draining.Sums.{Upd, unchanged, Σ<, sum_same, sum_change, sum_at_least, sum_zero}

-- of n channels, those of packet i, a flit in channel k weighing c k
module _ (n i : ℕ) (c : ℕ → ℕ) where
  cell : (ℕ → ℕ) → (ℕ → ℕ) → ℕ → ℕ
  cell own hold k = pick (eqb (own k) (suc i)) (hold k * c k) 0

  pub load : (ℕ → ℕ) → (ℕ → ℕ) → ℕ
  load own hold = Σ< n (cell own hold)

  module _ (own hold : ℕ → ℕ) where
    cell_mine : (k : ℕ) → own k ≡ suc i → cell own hold k ≡ hold k * c k
    unfolding cell
    cell_mine k e = picked (eqb (own k) (suc i)) (hold k * c k) 0 (yes_eqb e)

    cell_other : (k : ℕ) → own k ≢ suc i → cell own hold k ≡ 0
    unfolding cell
    cell_other k ne = passed (eqb (own k) (suc i)) (hold k * c k) 0 (λ t. ne (eqb→eq (own k) (suc i) t))

    pub load_none : ((k : ℕ) → own k ≢ suc i) → load own hold ≡ 0
    unfolding load
    load_none nothing = sum_zero (cell own hold) n (λ k l. cell_other k (nothing k))

    pub load_at_least : (k : ℕ) → k < n → own k ≡ suc i → hold k * c k ≤ load own hold
    unfolding load
    load_at_least k l e = omega (arith, sum_at_least (cell own hold) n k l, cell_mine k e)

  -- the same flits in the same channels
  pub load_kept : (own hold own' hold' : ℕ → ℕ) → ((k : ℕ) → own k ≡ suc i → (own' k ≡ suc i) × (hold' k ≡ hold k))
      → ((k : ℕ) → own' k ≡ suc i → own k ≡ suc i) → load own' hold' ≡ load own hold
  unfolding load
  load_kept own hold own' hold' keep back = sum_same (cell own hold) (cell own' hold') n (λ k l. by k (ℕ_discrete (own k) (suc i)))
    where
      by : (k : ℕ) → Dec (own k ≡ suc i) → cell own' hold' k ≡ cell own hold k
      by k (yes e) =
          let p = keep k e in
          cell_mine own' hold' k p.0 ∙ (ap (λ (h : ℕ). h * c k) p.1 ∙ sym (cell_mine own hold k e))
      by k (no ne) = cell_other own' hold' k (λ e. ne (back k e)) ∙ sym (cell_other own hold k ne)

  -- ---- a store at channel k
  module _ {own own' hold hold' : ℕ → ℕ} {k o h : ℕ} (uo : Upd own own' k o) (uh : Upd hold hold' k h) (l : k < n) where
    change : load own' hold' + cell own hold k ≡ load own hold + cell own' hold' k
    unfolding load cell
    change = sum_change (cell own hold) (cell own' hold') n k l (λ j ne. rw (uo.off j ne, uh.off j ne) refl)

    after : own' k ≡ suc i → cell own' hold' k ≡ h * c k
    after e = cell_mine own' hold' k e ∙ ap (λ (x : ℕ). x * c k) uh.at

    -- it stays the packet's
    pub load_stays : own k ≡ suc i → own' k ≡ suc i → load own' hold' + hold k * c k ≡ load own hold + h * c k
    load_stays e e' = omega (arith, change, cell_mine own hold k e, after e')

    -- it becomes the packet's
    pub load_new : own k ≢ suc i → o ≡ suc i → load own' hold' ≡ load own hold + h * c k
    load_new ne e = omega (arith, change, cell_other own hold k ne, after (uo.at ∙ e))

    -- it was the packet's, and empty
    pub load_gone : own k ≡ suc i → hold k ≡ 0 → o ≡ 0 → load own' hold' ≡ load own hold
    load_gone e z e' =
        omega (arith, change, cell_mine own hold k e ∙ ap (λ (x : ℕ). x * c k) z, cell_other own' hold' k (λ m. omega (arith, m, uo.at, e')))

  -- one flit more, and one fewer
  module _ (own : ℕ → ℕ) {hold hold' : ℕ → ℕ} {k : ℕ} (l : k < n) (e : own k ≡ suc i) where
    pub load_more : Upd hold hold' k (hold k + 1) → load own hold' ≡ load own hold + c k
    load_more u = omega (arith, load_stays (unchanged own k) u l e e)

    pub load_less : 1 ≤ hold k → Upd hold hold' k (hold k - 1) → load own hold' + c k ≡ load own hold
    load_less some u = by (hold k - 1) (omega arith) (load_stays (unchanged own k) u l e e)
      where
        by : (h : ℕ) → hold k ≡ suc h → load own hold' + hold k * c k ≡ load own hold + h * c k → load own hold' + c k ≡ load own hold
        by h p q = let s : load own hold' + suc h * c k ≡ load own hold + h * c k = rw p at q in omega (arith, s)
