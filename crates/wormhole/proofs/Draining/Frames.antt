-- The frame of a step of packet i: what it leaves to other packets, to free channels and to the lengths. Each store is one, by what a list
-- reads after a store, and they compose. Assumes nothing.
use Prim.Native.Nat.{ℕ, suc, ◌<◌}
use mathlib.Core.Path.{◌≡◌, refl, sym, ap, ◌∙◌}
use mathlib.Core.Logic.{◌≢◌}
use mathlib.Core.List.{List}
use native.Mathlib.Decide.{ℕ_discrete}
use native.Mathlib.Omega.{arith}
use lib.ListN.{length, get_or, set, length-set}
use lib.Seq.{get_or-set_same, get_or-set_other}
use Rattle.wormhole.specs.Memory.{Sections, owner_of, holds_of, next_of, own, hold, link, put}
use Rattle.wormhole.proofs.Draining.Sums.{Upd}

-- a list as a function, after a store
pub stored : (l : List ℕ) (k v : ℕ) {x : ℕ} → v ≡ x → k < length l → Upd (λ j. get_or l j 0) (λ j. get_or (set l k v) j 0) k x
stored l k v e low = record { at = get_or-set_same l k v 0 low ∙ e; off = λ j ne. get_or-set_other l k j v 0 ne }

-- a channel without an owner is all zero
abbrev pub Free : Sections → Type 0
Free s = (k : ℕ) → owner_of s k ≡ 0 → (holds_of s k ≡ 0) × (next_of s k ≡ 0)

pub record Frame (i : ℕ) (s s' : Sections) : Type 0 where
  pub owners : length s'.owner ≡ length s.owner
  pub holds : length s'.holds ≡ length s.holds
  pub nexts : length s'.next ≡ length s.next
  pub keep : (k : ℕ) → owner_of s k ≢ 0 → owner_of s k ≢ suc i
      → (owner_of s' k ≡ owner_of s k) × (holds_of s' k ≡ holds_of s k) × (next_of s' k ≡ next_of s k)
  pub back : (k : ℕ) → owner_of s' k ≢ 0 → owner_of s' k ≢ suc i → owner_of s' k ≡ owner_of s k
  pub free : Free s → Free s'

pub frame_refl : (i : ℕ) (s : Sections) → Frame i s s
frame_refl i s =
    record {
      owners = refl;
      holds = refl;
      nexts = refl;
      keep = λ k a b. (refl, refl, refl);
      back = λ k a b. refl;
      free = λ f. f;
    }

pub frame_then : (i : ℕ) (s t u : Sections) → Frame i s t → Frame i t u → Frame i s u
frame_then i s t u p q =
    record {
      owners = q.owners ∙ p.owners;
      holds = q.holds ∙ p.holds;
      nexts = q.nexts ∙ p.nexts;
      keep = λ k a b.
          let c = p.keep k a b in
          let d = q.keep k (λ e. a (sym c.0 ∙ e)) (λ e. b (sym c.0 ∙ e)) in
          (d.0 ∙ c.0, d.1 ∙ c.1, d.2 ∙ c.2);
      back = λ k a b.
          let c = q.back k a b in
          c ∙ p.back k (λ e. a (c ∙ e)) (λ e. b (c ∙ e));
      free = λ f. q.free (p.free f);
    }

-- ---- the stores
module _ (i : ℕ) (s : Sections) (k : ℕ) where
  -- in a channel of the packet
  module _ (v : ℕ) (mine : owner_of s k ≡ suc i) where
    other : (j : ℕ) → owner_of s j ≢ suc i → j ≢ k
    other j ne e = ne (ap (owner_of s) e ∙ mine)

    unowned : (j : ℕ) → owner_of s j ≡ 0 → j ≢ k
    unowned j z = other j (λ e. omega arith)

    pub frame_hold : Frame i s (hold s k v)
    unfolding hold
    frame_hold =
        record {
          owners = refl;
          holds = length-set s.holds k v;
          nexts = refl;
          keep = λ j a b. (refl, get_or-set_other s.holds k j v 0 (other j b), refl);
          back = λ j a b. refl;
          free = λ f j z. (get_or-set_other s.holds k j v 0 (unowned j z) ∙ (f j z).0, (f j z).1);
        }

    pub frame_link : Frame i s (link s k v)
    unfolding link
    frame_link =
        record {
          owners = refl;
          holds = refl;
          nexts = length-set s.next k v;
          keep = λ j a b. (refl, refl, get_or-set_other s.next k j v 0 (other j b));
          back = λ j a b. refl;
          free = λ f j z. ((f j z).0, get_or-set_other s.next k j v 0 (unowned j z) ∙ (f j z).1);
        }

  -- in a channel that is free or the packet's, and is so afterwards
  module _ (o h x : ℕ) (lo : k < length s.owner) (lh : k < length s.holds) (lx : k < length s.next)
      (before : owner_of s k ≢ 0 → owner_of s k ≢ suc i → ⊥) (afterwards : o ≢ 0 → o ≢ suc i → ⊥) (zeros : o ≡ 0 → (h ≡ 0) × (x ≡ 0)) where
    pub frame_put : Frame i s (put s k o h x)
    unfolding put own hold link
    frame_put =
        record {
          owners = length-set s.owner k o;
          holds = length-set s.holds k h;
          nexts = length-set s.next k x;
          keep = λ j p q.
              let ne : j ≢ k = λ e. before (λ z. p (ap (owner_of s) e ∙ z)) (λ z. q (ap (owner_of s) e ∙ z)) in
              (get_or-set_other s.owner k j o 0 ne, get_or-set_other s.holds k j h 0 ne, get_or-set_other s.next k j x 0 ne);
          back = λ j p q. back j p q (ℕ_discrete j k);
          free = λ f j z. free f j z (ℕ_discrete j k);
        }
      where
        owner' : ℕ → ℕ
        owner' j = get_or (set s.owner k o) j 0

        back : (j : ℕ) → owner' j ≢ 0 → owner' j ≢ suc i → Dec (j ≡ k) → owner' j ≡ owner_of s j
        back j p q (yes e) =
            let v : owner' j ≡ o = ap owner' e ∙ get_or-set_same s.owner k o 0 lo in
            absurd (afterwards (λ z. p (v ∙ z)) (λ z. q (v ∙ z)))
        back j p q (no ne) = get_or-set_other s.owner k j o 0 ne

        free : Free s → (j : ℕ) → owner' j ≡ 0 → Dec (j ≡ k) → (get_or (set s.holds k h) j 0 ≡ 0) × (get_or (set s.next k x) j 0 ≡ 0)
        free f j z (yes e) =
            let v : owner' j ≡ o = ap owner' e ∙ get_or-set_same s.owner k o 0 lo in
            let w = zeros (sym v ∙ z) in
            (rw e (get_or-set_same s.holds k h 0 lh ∙ w.0), rw e (get_or-set_same s.next k x 0 lx ∙ w.1))
        free f j z (no ne) =
            let w = f j (sym (get_or-set_other s.owner k j o 0 ne) ∙ z) in
            (get_or-set_other s.holds k j h 0 ne ∙ w.0, get_or-set_other s.next k j x 0 ne ∙ w.1)
