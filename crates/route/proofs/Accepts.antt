-- What the check's answer says: the first pair is the least of the least, so what comes before it rises, and with no pair all does; and
-- the house numbering rises. Assumes nothing.
use Prim.Native.Nat.{ℕ, zero, suc, ◌+◌, ◌*◌, ◌≤◌, ◌<◌}
use mathlib.Core.Path.{◌≡◌, refl, sym, subst, ◌∙◌}
use mathlib.Core.Bool.{Bool, true, false, ◌&&◌, and-false}
use mathlib.Core.List.{List, [], ◌∷◌}
use mathlib.Core.Logic.{◌⊎◌, ⊎_elim}
use native.Mathlib.Nat.{eq-or-lt_of_le}
use native.Mathlib.Omega.{arith}
use mir.Facts.{and_yes}
use lib.ListN.{length, get_or, get_or-append}
use lib.Seq.{get_or_at}
use lib.Dec.{T, ltb, leb, leb→le}
use borrow.Author.Tests.{ltb-true, ltb-false, le-ltb, leb-false}
use Rattle.route.specs.Grid.{pick, horiz, coord}
use Rattle.route.specs.Turns.{going, Rule}
use Rattle.route.specs.Mesh.{Mesh, turn, ruled}
use Rattle.route.specs.Numbers.{rule_of, channels}
use Rattle.route.specs.Served.{unless, bad_list}
use Rattle.route.specs.Channels.{start, way, is_channel, in_turn}
use Rattle.route.specs.House.{house, house_of, upto, numbering, Numbered, numbered}
use Rattle.route.specs.Check.{bends, falls, first_after, first_from, no_pair, first_pair, checked}
use Rattle.route.proofs.Tests.{passes, fails}
use Rattle.route.proofs.Least.{Least, is_least}
use Rattle.route.proofs.Unless.{list_served}
use Rattle.route.proofs.Nodes.{start_inside, channel_is, joined}
use Rattle.route.proofs.House.{length_upto}
use Rattle.route.proofs.Rises.{rises, bounded}
use Rattle.route.proofs.Falls.{no_channel, none_falls, accepts}

module _ (m : Mesh) (l : List ℕ) where
  -- no number beyond those of the channels is in a pair that falls
  off_list : (o : ℕ) → ltb o (channels m.columns m.rows) ≡ false → is_channel m o ≡ false
  unfolding is_channel
  off_list o h = rw h refl

  beyond : (i o : ℕ) → is_channel m o ≡ false → falls m l i o ≡ false
  unfolding falls in_turn
  beyond i o h = rw (h, and-false) refl

  -- from a channel that the search has passed over, none falls
  none_after : (i : ℕ) → ltb (first_after m l i) (channels m.columns m.rows) ≡ false → (o : ℕ) → falls m l i o ≡ false
  none_after i h o = by (ltb o (channels m.columns m.rows)) refl
    where
      by : (b : Bool) → ltb o (channels m.columns m.rows) ≡ b → falls m l i o ≡ false
      by true e =
          let a : o < channels m.columns m.rows = ltb-true o (channels m.columns m.rows) e in
          (is_least (falls m l i) (channels m.columns m.rows)).before o (omega (arith, ltb-false (first_after m l i) (channels m.columns m.rows) h))
      by false e = beyond i o (off_list o e)

  -- ---- 14: the pair falls, and none before it does
  abbrev Earlier : ℕ → ℕ → ℕ → ℕ → Type 0
  Earlier i o j p = (i < j) ⊎ ((i ≡ j) × (o < p))

  pub record First (j p : ℕ) : Type 0 where
    pub falling : falls m l j p ≡ true
    pub rest : (i o : ℕ) → Earlier i o j p → falls m l i o ≡ false

  pub first : (first_pair m l).refusal ≡ 14 → First (first_pair m l).incoming (first_pair m l).outgoing
  unfolding first_pair
  first = at (first_from m l) (is_least _ (channels m.columns m.rows)) (ltb (first_from m l) (channels m.columns m.rows)) refl
    where
      at : (j : ℕ) → Least (λ i. ltb (first_after m l i) (channels m.columns m.rows)) (channels m.columns m.rows) j → (b : Bool) → ltb j (channels m.columns m.rows) ≡ b
          → let r = pick b (record { refusal = 14; incoming = j; outgoing = first_after m l j }) (no_pair 0) in r.refusal ≡ 14 → First r.incoming r.outgoing
      at j h false e z = absurd (omega arith)
      at j h true e z =
          let k : first_after m l j < channels m.columns m.rows = ltb-true (first_after m l j) (channels m.columns m.rows) (h.passes (ltb-true j (channels m.columns m.rows) e)) in
          let g = is_least (falls m l j) (channels m.columns m.rows) in
          record {
            falling = g.passes k;
            rest = λ i o. ⊎_elim (λ a. none_after i (h.before i a) o) (λ a. subst (λ x. falls m l x o ≡ false) (sym a.0) (g.before o a.1));
          }

  -- ---- 0: the numbers rise
  abbrev pub Rising : Type 0
  Rising = (i o : ℕ) → T (in_turn m i o) → T (bends (way i) (way o)) → get_or l i 0 < get_or l o 0

  none_falling : Rising → (i o : ℕ) → falls m l i o ≡ false
  unfolding falls
  none_falling h i o =
      fails (falls m l i o) (λ t.
      let a = and_yes (in_turn m i o && bends (way i) (way o)) (leb (get_or l o 0) (get_or l i 0)) t in
      let b = and_yes (in_turn m i o) (bends (way i) (way o)) a.0 in
      omega (arith, leb→le (get_or l o 0) (get_or l i 0) a.1, h i o b.0 b.1))

  pub accepted : Rising → first_pair m l ≡ no_pair 0
  accepted h =
      sym (accepts m l (channels m.columns m.rows) (λ i a. le-ltb (first_after m l i) (channels m.columns m.rows) (omega (arith, none_falls m l i refl (none_falling h i)))) (omega arith))

  rise_if : ((i o : ℕ) → falls m l i o ≡ false) → Rising
  unfolding falls
  rise_if h i o t b = leb-false (get_or l o 0) (get_or l i 0) (rw (passes (in_turn m i o) t, passes (bends (way i) (way o)) b) at (h i o))

  pub rising : (first_pair m l).refusal ≡ 0 → Rising
  unfolding first_pair
  rising = at (first_from m l) (is_least _ (channels m.columns m.rows)) (ltb (first_from m l) (channels m.columns m.rows)) refl
    where
      at : (j : ℕ) → Least (λ i. ltb (first_after m l i) (channels m.columns m.rows)) (channels m.columns m.rows) j → (b : Bool) → ltb j (channels m.columns m.rows) ≡ b
          → (pick b (record { refusal = 14; incoming = j; outgoing = first_after m l j }) (no_pair 0)).refusal ≡ 0 → Rising
      at j h true e z = absurd (omega arith)
      at j h false e z = rise_if (λ i. by i (ltb i (channels m.columns m.rows)) refl)
        where
          by : (i : ℕ) (b : Bool) → ltb i (channels m.columns m.rows) ≡ b → (o : ℕ) → falls m l i o ≡ false
          by i true a = none_after i (h.before i (omega (arith, ltb-true i (channels m.columns m.rows) a, ltb-false j (channels m.columns m.rows) e)))
          by i false a = no_channel m l i (off_list i a)

-- ---- the house numbering
getD_upto : (f : ℕ → ℕ) (n i : ℕ) → i < n → get_or (upto f n) i 0 ≡ f i
getD_upto f zero i h = absurd (omega arith)
getD_upto f (suc n) i h =
    let k : i ≤ n = omega arith in
    ⊎_elim (λ e. rw e (get_or_at (upto f n) (f n) [] 0 n (length_upto f n)))
    (λ a. get_or-append (upto f n) (f n ∷ []) 0 i (omega (arith, length_upto f n)) ∙ getD_upto f n i a) (eq-or-lt_of_le k)

-- by the number of the channel, along everything that may be used in turn
pub house_rises : (k : Rule) (C R f i o : ℕ) → let m = ruled k C R f in T (in_turn m i o) → house_of k m i < house_of k m o
unfolding house_of
house_rises k C R f i o t =
    let m = ruled k C R f in
    let j = joined m i o t in
    let a = channel_is m i j.from in
    rw (passes (is_channel m i) j.from, passes (is_channel m o) j.to)
    (subst (λ n. T (turn m (coord horiz n) (going (way i)) (way o)) → house k m (start C i) (way i) < house k m n (way o)) j.meets
    (rises k C R f (start C i) (way i) (way o) (start_inside m i a.0) a.1) j.turned)

pub house_bounded : (k : Rule) (m : Mesh) (i : ℕ) → house_of k m i < 2 * ((m.columns + 1) * (m.rows + 1))
unfolding house_of
house_bounded k m i = at (is_channel m i) refl
  where
    at : (b : Bool) → is_channel m i ≡ b → pick b (house k m (start m.columns i) (way i)) 0 < 2 * ((m.columns + 1) * (m.rows + 1))
    at true e = bounded k m (start m.columns i) (way i) (start_inside m i (channel_is m i (rw e tt)).0)
    at false e = omega arith

-- in the list
pub list_rises : (k : Rule) (C R f : ℕ) → let m = ruled k C R f in (i o : ℕ) → T (in_turn m i o) → get_or (numbering k m) i 0 < get_or (numbering k m) o 0
list_rises k C R f i o t =
    let m = ruled k C R f in
    let j = joined m i o t in
    let a = getD_upto (house_of k m) (channels m.columns m.rows) i (channel_is m i j.from).0 in
    let b = getD_upto (house_of k m) (channels m.columns m.rows) o (channel_is m o j.to).0 in
    omega (arith, house_rises k C R f i o t)

-- what the numbering call wrote, the check accepts
pub house_accepted : (C R rule : ℕ) (l : List ℕ) → (numbered C R rule l).refusal ≡ 0 → checked C R rule (numbered C R rule l).list ≡ no_pair 0
unfolding numbered checked
house_accepted C R rule l = at (bad_list C R rule (length l)) refl
  where
    m : Mesh
    m = ruled (rule_of rule) C R 0

    house_list : List ℕ
    house_list = numbering (rule_of rule) m

    at : (k : ℕ) → bad_list C R rule (length l) ≡ k
        → let n = unless {A = Numbered} (λ i. record { refusal = i; list = l }) k (record { refusal = 0; list = house_list }) in
        n.refusal ≡ 0 → unless no_pair (bad_list C R rule (length n.list)) (first_pair m n.list) ≡ no_pair 0
    at (suc k) e z = absurd (omega arith)
    at zero e z =
        let a : length house_list ≡ length l = length_upto (house_of (rule_of rule) m) (channels m.columns m.rows) ∙ sym (list_served C R rule (length l) (sym e) refl).1 in
        rw (a, e) (accepted m house_list (λ i o t b. list_rises (rule_of rule) C R 0 i o t))
