-- The header: where it is, which way it may go and what it leaves, each return from the tests before it. Assumes nothing.
use Prim.Native.Nat.{ℕ, zero, suc, ◌+◌, ◌-◌, ◌*◌, ◌/◌, ◌%◌, ◌^◌, ◌≤◌, ◌<◌}
use mathlib.Core.Path.{◌≡◌, refl, sym, ◌∙◌, subst}
use mathlib.Core.Bool.{Bool, true, false, not, ◌&&◌}
use mathlib.Core.List.{List}
use native.Mathlib.Omega.{arith}
use lib.Dec.{T, leb, eqb}
use borrow.Author.Tests.{leb-true}
use Rattle.route.specs.declared.places.Place.{Place}
use Rattle.route.specs.declared.meshes.Mesh.{Mesh as Coded}
use Rattle.route.specs.Grid.{pick, Dir, west, east, south, north, hop}
use Rattle.route.specs.Turns.{Arrival, local, going}
use Rattle.route.specs.Mesh.{Mesh, Inside, exists}
use Rattle.route.specs.Numbers.{place_of, channels, dir_of}
use Rattle.route.specs.Paths.{same_place, answer}
use Rattle.route.specs.Route.{values, outputs}
use Rattle.route.specs.Channels.{start, way, far}
use Rattle.route.specs.Coded.{meant}
use Rattle.route.proofs.Promises.{start_inside, hop_inside, channel_is}
use Rattle.wormhole.specs.declared.records.Record.{Record}
use Rattle.wormhole.specs.Memory.{Sections, sections, owner_of, holds_of, put, link, drain, anew}
use Rattle.wormhole.specs.Steps.{Stepped, stepped, leave, head, arrival, goal, ready, ahead, onward, may_lead, claim, start as begin, advance, lead}
use Rattle.wormhole.specs.Coded.{built, laid}
use Rattle.wormhole.proofs.Every.{both}
use Rattle.wormhole.proofs.Serving.{named_none, named_some, a_channel, Told}

-- ---- where it is
module _ (m : Coded) (r : Record) where
  abbrev C : ℕ
  C = m.columns

  module _ (e : r.front ≡ 0) where
    pub source_place : (p : Place) → p ≡ place_of C r.source → p ≡ head (meant m) r
    source_place p h = h ∙ sym (named_none (place_of C r.source) (far C) r.front e)

    pub source_arrival : local ≡ arrival r
    source_arrival = sym (named_none local (λ k. going (way k)) r.front e)

  module _ (t : Told m r) (e : r.front ≡ 0 → ⊥) where
    -- the front channel
    front_is : (r.front - 1 < channels C m.rows) × T (exists (meant m) (start C (r.front - 1)) (way (r.front - 1)))
    front_is = channel_is (meant m) (r.front - 1) (subst T (sym (a_channel (meant m) r.front t.front_names e)) tt)

    pub front_below : r.front - 1 < channels C m.rows
    front_below = front_is.0

    module _ (s : Place) (d : Dir) (es : s ≡ start C (r.front - 1)) (ed : d ≡ way (r.front - 1)) where
      pub front_start : Inside (meant m) s
      front_start = rw es (start_inside (meant m) (r.front - 1) front_is.0)

      pub front_exists : exists (meant m) s d ≡ true
      front_exists = go (exists (meant m) s d) (rw (es, ed) front_is.1)
        where
          go : (b : Bool) → T b → b ≡ true
          go true h = refl
          go false h = absurd h

      module _ (p : Place) (ep : p ≡ hop d s) where
        pub front_place : p ≡ head (meant m) r
        front_place = ep ∙ rw (es, ed) (sym (named_some (place_of C r.source) (far C) r.front e))

        pub front_end : Inside (meant m) p
        front_end = rw ep (hop_inside (meant m) s d front_start (subst T (sym front_exists) tt))

      pub front_arrival : going d ≡ arrival r
      front_arrival = rw ed (sym (named_some local (λ k. going (way k)) r.front e))

-- ---- is a flit there to move?
module _ (s : Sections) (r : Record) where
  pub ready_source : r.front ≡ 0 → leb 1 r.waiting ≡ ready s r
  ready_source e = sym (named_none (leb 1 r.waiting) (λ k. leb 1 (holds_of s k)) r.front e)

  pub ready_front : (h : ℕ) → (r.front ≡ 0 → ⊥) → h ≡ holds_of s (r.front - 1) → leb 1 h ≡ ready s r
  ready_front h e eh = rw eh (sym (named_some (leb 1 r.waiting) (λ k. leb 1 (holds_of s k)) r.front e))

-- ---- which way it may go: the bit of a direction in a set of outputs
bit : Bool → ℕ
bit b = pick b 1 0

valued : (v : ℕ) (b : Bool) → pick b v 0 ≡ v * bit b
unfolding bit
valued v true = omega arith
valued v false = omega arith

bit_low : (b : Bool) → bit b ≤ 1
unfolding bit
bit_low true = omega arith
bit_low false = omega arith

bit_is : (b : Bool) → eqb (bit b) 1 ≡ b
unfolding bit
bit_is true = refl
bit_is false = refl

module _ (member : Dir → Bool) where
  in_values : (d : ℕ) → d < 4 → eqb (values member / 2 ^ d % 2) 1 ≡ member (dir_of d)
  in_values d low = go d low
    where
      w : ℕ
      w = bit (member west)

      e : ℕ
      e = bit (member east)

      s : ℕ
      s = bit (member south)

      n : ℕ
      n = bit (member north)

      sum : (values member ≡ w + 2 * e + 4 * s + 8 * n) × ((w ≤ 1) × (e ≤ 1)) × ((s ≤ 1) × (n ≤ 1))
      sum = (
        omega (arith, valued 1 (member west), valued 2 (member east), valued 4 (member south), valued 8 (member north)),
        (bit_low (member west), bit_low (member east)),
        (bit_low (member south), bit_low (member north)),
      )

      at : (v k : ℕ) (b : Bool) → v / k % 2 ≡ bit b → eqb (v / k % 2) 1 ≡ b
      at v k b q = rw q (bit_is b)

      go : (d : ℕ) → d < 4 → eqb (values member / 2 ^ d % 2) 1 ≡ member (dir_of d)
      go zero h = let q = sum in at (values member) 1 (member west) (omega arith)
      go (suc zero) h = let q = sum in at (values member) 2 (member east) (omega arith)
      go (suc (suc zero)) h = let q = sum in at (values member) 4 (member south) (omega arith)
      go (suc (suc (suc zero))) h = let q = sum in at (values member) 8 (member north) (omega arith)
      go (suc (suc (suc (suc d)))) h = absurd (omega arith)

in_outputs : (m : Mesh) (n : Place) (a : Arrival) (t : Place) (d : ℕ) → d < 4 → eqb (outputs m n a t / 2 ^ d % 2) 1 ≡ not (same_place n t) && answer m n a t (dir_of d)
unfolding outputs
in_outputs m n a t d low = go (same_place n t) d low
  where
    go : (b : Bool) (d : ℕ) → d < 4 → eqb (pick b 16 (values (answer m n a t)) / 2 ^ d % 2) 1 ≡ not b && answer m n a t (dir_of d)
    go false d l = in_values (answer m n a t) d l
    go true zero l = refl
    go true (suc zero) l = refl
    go true (suc (suc zero)) l = refl
    go true (suc (suc (suc zero))) l = refl
    go true (suc (suc (suc (suc d)))) l = absurd (omega arith)

pub open_way : (m : Mesh) (r : Record) (o d : ℕ) (a : Arrival) (p q : Place) → p ≡ head m r → a ≡ arrival r → q ≡ goal m r → o ≡ outputs m p a q → d < 4
    → eqb (o / 2 ^ d % 2) 1 ≡ onward m r d
open_way m r o d a p q ep ea eq eo low = rw (eo, ep, ea, eq) (in_outputs m (head m r) (arrival r) (goal m r) d low)

-- ---- may it take that channel?
module _ (m : Coded) (r : Record) (d n : ℕ) (w : List ℕ) (hn : n ≡ channels m.columns m.rows) where
  abbrev s : Sections
  s = laid m w

  module _ {a : Bool} (ea : a ≡ ready (sections n w) r) where
    pub lead_unready : a ≡ false → false ≡ may_lead (built m) s r d
    unfolding may_lead
    lead_unready h = rw (rw hn at (sym ea ∙ h)) refl

    module _ (ha : a ≡ true) {b : Bool} (eb : b ≡ onward (meant m) r d) where
      is_ready : ready s r ≡ true
      is_ready = rw hn at (sym ea ∙ ha)

      pub lead_shut : b ≡ false → false ≡ may_lead (built m) s r d
      unfolding may_lead
      lead_shut h = rw (is_ready, sym eb ∙ h) refl

      pub lead_free : {t o : ℕ} → b ≡ true → t ≡ ahead (meant m) r d → o ≡ owner_of (sections n w) t → eqb o 0 ≡ may_lead (built m) s r d
      unfolding may_lead
      lead_free h et eo = rw (is_ready, eo, et, hn, sym eb ∙ h) refl

-- ---- it takes it
pub claiming : (s : Sections) {s' : Sections} (t i : ℕ) {o h x : ℕ} → s' ≡ put s t o h x → o ≡ i + 1 → h ≡ 1 → x ≡ 0 → s' ≡ claim s t i
unfolding claim
claiming s t i e eo eh ex = rw (e, eo, eh, ex) refl

pub starting : (s : Sections) {s' : Sections} (i : ℕ) (r : Record) (t : ℕ) → s' ≡ claim s t i
    → stepped s' (anew r (r.waiting - 1) r.eaten (t + 1) (t + 1)) ≡ begin s i r t
starting s i r t e = rw e refl

pub advancing : (s : Sections) {s₁ s₂ s₃ : Sections} (i : ℕ) (r : Record) (t k : ℕ) {j f : ℕ} {a : Stepped} → s₁ ≡ drain s k → s₂ ≡ link s₁ k (t + 1) → s₃ ≡ claim s₂ t i
    → a ≡ leave s₃ (anew r r.waiting r.eaten r.rear (t + 1)) j f → j ≡ k → f ≡ k + 1 → a ≡ advance s i r t k
advancing s i r t k {j} {f} {a} e₁ e₂ e₃ e ej ef = rw (e₃, e₂, e₁, ej, ef) at e

module _ (m : Coded) (i : ℕ) (r : Record) (d n : ℕ) (w v : List ℕ) (q : Record) (hn : n ≡ channels m.columns m.rows) where
  abbrev t₀ : Sections
  t₀ = laid m w

  module _ (may : may_lead (built m) t₀ r d ≡ true) where
    flit_ready : ready t₀ r ≡ true
    unfolding may_lead
    flit_ready = (both (ready t₀ r) _ may).0

    pub lead_waiting : r.front ≡ 0 → 1 ≤ r.waiting
    lead_waiting e = leb-true 1 r.waiting (ready_source t₀ r e ∙ flit_ready)

    pub lead_flit : (r.front ≡ 0 → ⊥) → 0 < holds_of (sections n w) (r.front - 1)
    lead_flit e = rw hn (leb-true 1 (holds_of t₀ (r.front - 1)) (ready_front t₀ r (holds_of t₀ (r.front - 1)) e refl ∙ flit_ready))

  module _ (t : ℕ) (et : t ≡ ahead (meant m) r d) where
    pub led_out : r.front ≡ 0 → stepped (sections n v) q ≡ begin (sections n w) i r t → stepped (laid m v) q ≡ lead (built m) t₀ i r d
    unfolding lead
    led_out e h = rw (hn, et) at h ∙ sym (named_none (begin t₀ i r (ahead (meant m) r d)) (advance t₀ i r (ahead (meant m) r d)) r.front e)

    pub led_on : (r.front ≡ 0 → ⊥) → stepped (sections n v) q ≡ advance (sections n w) i r t (r.front - 1)
        → stepped (laid m v) q ≡ lead (built m) t₀ i r d
    unfolding lead
    led_on e h = rw (hn, et) at h ∙ sym (named_some (begin t₀ i r (ahead (meant m) r d)) (advance t₀ i r (ahead (meant m) r d)) r.front e)
