-- Where a numbering falls: the channels after a given one are those that leave its end, of which each of the code's tests decides on
-- one; and the first that falls is found by going through them upward. Assumes nothing.
use Prim.Native.Nat.{ℕ, ◌+◌, ◌*◌, ◌/◌, ◌≤◌, ◌<◌}
use mathlib.Core.Path.{◌≡◌, refl, ap, sym, subst, ◌∙◌}
use mathlib.Core.Bool.{Bool, true, false, ◌&&◌, and-false}
use mathlib.Core.List.{List}
use mathlib.Core.Logic.{⊎_elim}
use native.Mathlib.Nat.{eq-or-lt_of_le}
use native.Mathlib.Omega.{arith}
use mir.Facts.{and_yes}
use lib.ListN.{get_or}
use lib.Dec.{ltb, leb}
use borrow.Author.Tests.{ltb-true, ltb-false, lt-ltb, le-ltb, eq-eqb}
use Rattle.route.specs.declared.places.Place.{Place}
use Rattle.route.specs.Grid.{horiz, vert, Dir, coord, hop}
use Rattle.route.specs.Turns.{going}
use Rattle.route.specs.Mesh.{Mesh, Inside, exists, turn}
use Rattle.route.specs.Numbers.{node, dir_of, channels}
use Rattle.route.specs.Paths.{same_place}
use Rattle.route.specs.Channels.{channel, start, way, far, is_channel, in_turn}
use Rattle.route.specs.Check.{bends, falls, first_after, first_from, no_pair, first_pair}
use Rattle.route.specs.Coded.{Ends}
use Rattle.route.proofs.Tests.{fails, leb_is, no_if, yes_if}
use Rattle.route.proofs.Codes.{number_of_dir}
use Rattle.route.proofs.Least.{the_least}
use Rattle.route.proofs.Nodes.{hop_inside, start_inside, start_node, channel_start, channel_way, channel_below, channel_is, joined, a_channel}

-- ---- the channels after one
same_place_self : (n : Place) → same_place n n ≡ true
same_place_self n = rw (eq-eqb (coord horiz n) (coord horiz n) refl, eq-eqb (coord vert n) (coord vert n) refl) refl

-- a channel that exists and its end, as the code has found them
pub ending : (m : Mesh) (i : ℕ) {s t : Place} {w : Dir} {b : Bool} → i < channels m.columns m.rows → s ≡ start m.columns i → w ≡ way i → b ≡ exists m s w → b ≡ true
    → t ≡ hop w s → Ends m i t
ending m i low hs hw hb h ht = record { known = a_channel m i low hs hw hb h; ends = rw (hs, hw) at ht }

module _ (m : Mesh) (i : ℕ) {s : Place} (e : Ends m i s) where
  pub below : i < channels m.columns m.rows
  below = (channel_is m i (rw e.known tt)).0

  pub inside : Inside m s
  inside = rw e.ends (hop_inside m (start m.columns i) (way i) (start_inside m i below) (channel_is m i (rw e.known tt)).1)

module _ (m : Mesh) (l : List ℕ) (i : ℕ) where
  abbrev C : ℕ
  C = m.columns

  pub no_channel : is_channel m i ≡ false → (o : ℕ) → falls m l i o ≡ false
  unfolding falls in_turn
  no_channel h o = rw h refl

  module _ {s : Place} (e : Ends m i s) where
    -- none leaves another node
    elsewhere : (o : ℕ) → (o / 4 ≡ node C s → ⊥) → falls m l i o ≡ false
    unfolding falls
    elsewhere o h =
        fails (falls m l i o) (λ t.
        let a = (and_yes (in_turn m i o && bends (way i) (way o)) (leb (get_or l o 0) (get_or l i 0)) t).0 in
        let j = joined m i o (and_yes (in_turn m i o) (bends (way i) (way o)) a).0 in
        h (sym (start_node C o) ∙ ap (node C) (sym (e.ends ∙ j.meets))))

    -- the one that leaves s by d
    module _ (d : Dir) where
      abbrev o : ℕ
      o = channel C s d

      by_tests : falls m l i o ≡ ((exists m s d && turn m (coord horiz s) (going (way i)) d) && bends (way i) d) && leb (get_or l o 0) (get_or l i 0)
      unfolding falls in_turn is_channel
      by_tests =
          ap (λ n. asked n (way o)) (channel_start C s d (inside m i e).0)
          ∙ ap (asked s) (channel_way C s d)
          ∙ rw (e.known, lt-ltb o (channels m.columns m.rows) (channel_below m s d (inside m i e)), sym e.ends, same_place_self s) refl
        where
          asked : Place → Dir → Bool
          asked n e =
              (((is_channel m i && (ltb o (channels m.columns m.rows) && exists m n e)) && (same_place (far C i) n && turn m (coord horiz n) (going (way i)) e)) && bends (way i) e)
              && leb (get_or l o 0) (get_or l i 0)

      -- no such channel
      pub no_way : {x : Bool} → x ≡ exists m s d → x ≡ false → false ≡ falls m l i o
      no_way hx h = rw (by_tests, no_if hx h) refl

      -- w is the way of channel i, as the code has found it
      module _ {w : Dir} (hw : w ≡ way i) where
        -- straight on or back
        pub level : {b : Bool} → b ≡ bends w d → b ≡ false → false ≡ falls m l i o
        level hb h = rw (by_tests, rw hw at (no_if hb h), and-false) refl

        -- the turn is not allowed
        pub barred : {y : Bool} → y ≡ turn m (coord horiz s) (going w) d → y ≡ false → false ≡ falls m l i o
        barred hy h = rw (by_tests, rw hw at (no_if hy h), and-false) refl

        -- an allowed turn by 90 degrees: the numbers decide
        pub compared : {b x y r : Bool} → b ≡ bends w d → b ≡ true → x ≡ exists m s d → x ≡ true
            → y ≡ turn m (coord horiz s) (going w) d → y ≡ true
            → (r ≡ true → get_or l o 0 ≤ get_or l i 0) → (r ≡ false → get_or l i 0 < get_or l o 0) → r ≡ falls m l i o
        compared hb g hx h hy k if_true if_false =
            leb_is if_true if_false
            ∙ sym (rw (by_tests, rw hw at (yes_if hb g), yes_if hx h, rw hw at (yes_if hy k)) refl)

    -- ---- the first that falls: w of the four directions have been looked at
    abbrev Passed : ℕ → Type 0
    Passed w = (o : ℕ) → o < 4 * node C s + w → falls m l i o ≡ false

    pub none_passed : Passed 0
    none_passed o h = elsewhere o (λ e. omega arith)

    module _ (w : ℕ) (low : w < 4) (passed : Passed w) {d : Dir} (hd : d ≡ dir_of w) where
      next : channel C s d ≡ 4 * node C s + w
      next = rw hd (omega (arith, number_of_dir w low))

      pub pass : {b : Bool} → b ≡ falls m l i (channel C s d) → b ≡ false → Passed (w + 1)
      pass hb h o j =
          let k : o ≤ 4 * node C s + w = omega arith in
          ⊎_elim (λ e. subst (λ x. falls m l i x ≡ false) (next ∙ sym e) (no_if hb h)) (passed o) (eq-or-lt_of_le k)

      pub found : {b : Bool} → b ≡ falls m l i (channel C s d) → b ≡ true → channel C s d ≡ first_after m l i
      found hb h =
          sym (the_least (falls m l i) (channels m.columns m.rows) (channel C s d) (record {
            high = omega (arith, channel_below m s d (inside m i e));
            before = λ o j. passed o (omega (arith, next));
            passes = λ j. yes_if hb h;
          }))

    pub all_passed : (w : ℕ) → 4 ≤ w → Passed w → (o : ℕ) → falls m l i o ≡ false
    all_passed w h passed o = by (ltb o (4 * node C s + w)) refl
      where
        by : (b : Bool) → ltb o (4 * node C s + w) ≡ b → falls m l i o ≡ false
        by true e = passed o (ltb-true o (4 * node C s + w) e)
        by false e = elsewhere o (λ q. omega (arith, ltb-false o (4 * node C s + w) e))

  pub none_falls : {n : ℕ} → n ≡ channels m.columns m.rows → ((o : ℕ) → falls m l i o ≡ false) → n ≡ first_after m l i
  none_falls e h =
      e ∙ sym (the_least (falls m l i) (channels m.columns m.rows) (channels m.columns m.rows) (record { high = omega arith; before = λ o j. h o; passes = λ j. absurd (omega arith) }))

-- ---- the first pair: the channels below i have been looked at
module _ (m : Mesh) (l : List ℕ) (i : ℕ) (passed : (j : ℕ) → j < i → ltb (first_after m l j) (channels m.columns m.rows) ≡ false) where
  abbrev fallen : ℕ → Bool
  fallen j = ltb (first_after m l j) (channels m.columns m.rows)

  pub pass_on : {o : ℕ} → o ≡ first_after m l i → channels m.columns m.rows ≤ o → (j : ℕ) → j < i + 1 → fallen j ≡ false
  pass_on e h j k =
      let q : j ≤ i = omega arith in
      ⊎_elim (λ z. subst (λ x. fallen x ≡ false) (sym z) (le-ltb (first_after m l i) (channels m.columns m.rows) (rw e at h))) (passed j) (eq-or-lt_of_le q)

  pub names : {o : ℕ} → o ≡ first_after m l i → o < channels m.columns m.rows → i < channels m.columns m.rows → record { refusal = 14; incoming = i; outgoing = o } ≡ first_pair m l
  unfolding first_pair
  names e h k =
      let q : first_after m l i < channels m.columns m.rows = rw e at h in
      let z : first_from m l ≡ i = the_least fallen (channels m.columns m.rows) i (record { high = omega arith; before = passed; passes = λ p. lt-ltb (first_after m l i) (channels m.columns m.rows) q }) in
      rw (z, lt-ltb i (channels m.columns m.rows) k, sym e) refl

  pub accepts : channels m.columns m.rows ≤ i → no_pair 0 ≡ first_pair m l
  unfolding first_pair
  accepts h =
      let z : first_from m l ≡ channels m.columns m.rows = the_least fallen (channels m.columns m.rows) (channels m.columns m.rows) (record { high = omega arith; before = λ j p. passed j (omega arith); passes = λ p. absurd (omega arith) }) in
      rw (z, le-ltb (channels m.columns m.rows) (channels m.columns m.rows) (omega arith)) refl
