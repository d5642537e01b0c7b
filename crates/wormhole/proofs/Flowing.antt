-- Follow, feed and eat: each return from the tests before it, and what the test of a move tells. Assumes nothing.
use Prim.Native.Nat.{ℕ, zero, suc, ◌+◌, ◌-◌, ◌≤◌, ◌<◌}
use mathlib.Core.Path.{◌≡◌, refl, sym, ◌∙◌}
use mathlib.Core.Bool.{Bool, true, false, ◌&&◌, false≢true}
use mathlib.Core.List.{List, [], ◌∷◌}
use native.Mathlib.Omega.{arith}
use mir.Syntax.{w8}
use mir.Val.{Fits}
use lib.Dec.{leb, ltb, eqb}
use lib.ListN.{get_or, set}
use borrow.Author.Tests.{eq-eqb, ne_eqb, leb-true, ltb-true, le-leb, lt-leb, lt-ltb, le-ltb}
use Rattle.route.specs.declared.places.Place.{Place}
use Rattle.route.specs.declared.meshes.Mesh.{Mesh as Coded}
use Rattle.route.specs.Numbers.{place_of, channels}
use Rattle.route.specs.Paths.{same_place}
use Rattle.route.specs.Channels.{far}
use Rattle.route.specs.Coded.{meant}
use Rattle.wormhole.specs.declared.records.Record.{Record}
use Rattle.wormhole.specs.Memory.{depth, Sections, sections, owner_of, holds_of, next_of, hold, drain, fill, anew, named}
use Rattle.wormhole.specs.Steps.{stepped, leave, head, goal, room, can_follow, may_follow, follow, may_feed, feed, may_eat, bite, finished, eat}
use Rattle.wormhole.specs.Coded.{built, laid, Served, Memory}
use Rattle.wormhole.proofs.Every.{both}
use Rattle.wormhole.proofs.Serving.{named_none, named_some, names_low, next_names, tells}

-- ---- room in a channel
pub roomy : (s : Sections) (x h : ℕ) {b : Bool} → (x ≡ 0 → ⊥) → h ≡ holds_of s (x - 1) → (b ≡ true → h < depth) → (b ≡ false → depth ≤ h) → b ≡ room depth s x
roomy s x h {b} e eh low full = test b refl ∙ sym (named_some false (λ k. ltb (holds_of s k) depth) x e)
  where
    test : (c : Bool) → b ≡ c → c ≡ ltb (holds_of s (x - 1)) depth
    test true q = sym (lt-ltb (holds_of s (x - 1)) depth (rw eh at (low q)))
    test false q = sym (le-ltb (holds_of s (x - 1)) depth (rw eh at (full q)))

-- what it tells of a word that it names a channel with room
pub record Open (s : Sections) (x : ℕ) : Type 0 where
  pub some : 1 ≤ x
  pub below : holds_of s (x - 1) < depth

opened : (s : Sections) (x : ℕ) → room depth s x ≡ true → Open s x
opened s zero e = absurd (false≢true e)
opened s (suc k) e = let f : suc k - 1 ≡ k = omega arith in record { some = omega arith; below = rw f (ltb-true (holds_of s k) depth e) }

-- a channel from which a flit is taken has no more than before
less : (l : List ℕ) (k j : ℕ) → get_or (set l k (get_or l k 0 - 1)) j 0 ≤ get_or l j 0
less [] k j = omega arith
less (x ∷ l) zero zero = omega arith
less (x ∷ l) zero (suc j) = omega arith
less (x ∷ l) (suc k) zero = omega arith
less (x ∷ l) (suc k) (suc j) = less l k j

drained_low : (s t : Sections) (k j : ℕ) → t ≡ drain s k → holds_of s j < depth → holds_of t j < 65535
unfolding drain hold
drained_low s t k j e h = rw e (omega (arith, less s.holds k j))

-- a next names a channel below the count
pub next_low : (m : Coded) (w : List ℕ) (n k x : ℕ) → Memory m w → n ≡ channels m.columns m.rows → k < n → x ≡ next_of (sections n w) k → x ≤ n
next_low m w n k x h hn l ex = rw (ex, hn) (names_low (meant m) (next_of (laid m w) k) (next_names m w k h (omega arith)))

-- ---- the words of a mesh
module _ (m : Coded) (n : ℕ) (w : List ℕ) (hn : n ≡ channels m.columns m.rows) where
  abbrev s : Sections
  s = laid m w

  -- ---- follow
  module _ (i k : ℕ) (o : ℕ) (eo : o ≡ owner_of (sections n w) k) where
    pub follow_other : (o ≡ i + 1 → ⊥) → false ≡ may_follow (built m) s i k
    unfolding may_follow
    follow_other h = rw (ne_eqb (owner_of s k) (i + 1) (rw (eo, hn) at h)) refl

    module _ (ours : o ≡ i + 1) (h : ℕ) (eh : h ≡ holds_of (sections n w) k) where
      owned : eqb (owner_of s k) (i + 1) ≡ true
      owned = eq-eqb (owner_of s k) (i + 1) (rw (eo, hn) at ours)

      pub follow_none : h ≡ 0 → false ≡ may_follow (built m) s i k
      unfolding may_follow can_follow
      follow_none z = rw (owned, lt-leb 1 (holds_of s k) (omega (arith, rw hn at eh))) refl

      pub follow_next : (h ≡ 0 → ⊥) → (x : ℕ) (b : Bool) → x ≡ next_of (sections n w) k → b ≡ room depth (sections n w) x → b ≡ may_follow (built m) s i k
      unfolding may_follow can_follow
      follow_next z x b ex eb = rw (owned, le-leb 1 (holds_of s k) (omega (arith, rw hn at eh))) (rw (ex, hn) at eb)

  module _ (k : ℕ) (can : can_follow (built m) s k ≡ true) where
    follow_tells : (1 ≤ holds_of s k) × Open s (next_of s k)
    unfolding can_follow
    follow_tells =
        let e = both (leb 1 (holds_of s k)) (room depth s (next_of s k)) can in
        (leb-true 1 (holds_of s k) e.0, opened s (next_of s k) e.1)

    pub follow_flit : 0 < holds_of (sections n w) k
    follow_flit = rw hn follow_tells.0

    module _ (x : ℕ) (ex : x ≡ next_of (sections n w) k) where
      follow_open : Open (sections n w) x
      follow_open = rw (ex, hn) follow_tells.1

      pub follow_some : 1 ≤ x
      follow_some = follow_open.some

      pub follow_in : Memory m w → k < channels m.columns m.rows → x - 1 < n
      follow_in h l = omega (arith, next_low m w n k x h hn (omega arith) ex, follow_open.some)

      pub follow_room : (t : Sections) → t ≡ drain (sections n w) k → holds_of t (x - 1) < 65535
      follow_room t e = drained_low (sections n w) t k (x - 1) e follow_open.below

  pub followed : (r q : Record) (k x : ℕ) (t₁ t₂ : Sections) (v : List ℕ) → x ≡ next_of (sections n w) k → t₁ ≡ drain (sections n w) k
      → t₂ ≡ fill t₁ (x - 1) → stepped (sections n v) q ≡ leave t₂ r k r.front → stepped (laid m v) q ≡ follow s r k
  unfolding follow
  followed r q k x t₁ t₂ v ex e₁ e₂ e₃ =
      let e : stepped (sections n v) q ≡ leave (fill (drain (sections n w) k) (next_of (sections n w) k - 1)) r k r.front = rw (e₂, e₁, ex) at e₃ in
      rw hn at e

  -- ---- feed
  module _ (r : Record) where
    pub feed_none : r.waiting ≡ 0 → false ≡ may_feed (built m) s r
    unfolding may_feed
    feed_none e = rw (lt-leb 1 r.waiting (omega (arith, e))) refl

    pub feed_rear : (b : Bool) → (r.waiting ≡ 0 → ⊥) → b ≡ room depth (sections n w) r.rear → b ≡ may_feed (built m) s r
    unfolding may_feed
    feed_rear b e eb = rw (le-leb 1 r.waiting (omega (arith, e))) (rw hn at eb)

    module _ (may : may_feed (built m) s r ≡ true) where
      pub feed_waiting : 1 ≤ r.waiting
      unfolding may_feed
      feed_waiting = leb-true 1 r.waiting (both (leb 1 r.waiting) (room depth s r.rear) may).0

      feed_open : Open (sections n w) r.rear
      unfolding may_feed
      feed_open = rw hn (opened s r.rear (both (leb 1 r.waiting) (room depth s r.rear) may).1)

      pub feed_some : 1 ≤ r.rear
      feed_some = feed_open.some

      pub feed_in : Served m r → r.rear - 1 < n
      feed_in p = omega (arith, (tells m r p).rear_low, feed_open.some)

      pub feed_room : holds_of (sections n w) (r.rear - 1) < 65535
      feed_room = omega (arith, feed_open.below)

    pub fed : (v : List ℕ) → sections n v ≡ fill (sections n w) (r.rear - 1)
        → stepped (laid m v) (anew r (r.waiting - 1) r.eaten r.rear r.front) ≡ feed s r
    unfolding feed
    fed v e = rw (rw hn at e) refl

    -- ---- eat
    abbrev there : ℕ → Bool
    there k = same_place (far m.columns k) (goal (meant m) r) && (leb 1 (holds_of s k) && ltb r.eaten r.flits)

    pub eat_none : r.front ≡ 0 → false ≡ may_eat (built m) s r
    unfolding may_eat
    eat_none e = sym (named_none false there r.front e)

    module _ (front : r.front ≡ 0 → ⊥) (p q : Place) (ep : p ≡ head (meant m) r) (eq : q ≡ goal (meant m) r) (b : Bool) (eb : b ≡ same_place p q) where
      abbrev k : ℕ
      k = r.front - 1

      arrived : b ≡ same_place (far m.columns k) (goal (meant m) r)
      arrived = rw (ep, eq, named_some (place_of m.columns r.source) (far m.columns) r.front front) at eb

      pub eat_away : b ≡ false → false ≡ may_eat (built m) s r
      unfolding may_eat
      eat_away h = rw (named_some false there r.front front, sym arrived ∙ h) refl

      module _ (h : b ≡ true) (f : ℕ) (ef : f ≡ holds_of (sections n w) k) where
        pub eat_empty : f ≡ 0 → false ≡ may_eat (built m) s r
        unfolding may_eat
        eat_empty z = rw (named_some false there r.front front, sym arrived ∙ h, lt-leb 1 (holds_of s k) (omega (arith, rw hn at ef))) refl

        pub eat_left : (f ≡ 0 → ⊥) → ltb r.eaten r.flits ≡ may_eat (built m) s r
        unfolding may_eat
        eat_left z = rw (named_some false there r.front front, sym arrived ∙ h, le-leb 1 (holds_of s k) (omega (arith, rw hn at ef))) refl

    module _ (may : may_eat (built m) s r ≡ true) where
      eat_tells : (1 ≤ r.front) × (1 ≤ holds_of s (r.front - 1)) × (r.eaten < r.flits)
      unfolding may_eat
      eat_tells = tell r.front may
        where
          tell : (x : ℕ) → named x false there ≡ true → (1 ≤ x) × (1 ≤ holds_of s (x - 1)) × (r.eaten < r.flits)
          tell zero e = absurd (false≢true e)
          tell (suc k) e =
              let f = (both (same_place (far m.columns k) (goal (meant m) r)) (leb 1 (holds_of s k) && ltb r.eaten r.flits) e).1 in
              let g = both (leb 1 (holds_of s k)) (ltb r.eaten r.flits) f in
              let h : suc k - 1 ≡ k = omega arith in
              (omega arith, rw h (leb-true 1 (holds_of s k) g.0), ltb-true r.eaten r.flits g.1)

      pub eat_front : 1 ≤ r.front
      eat_front = eat_tells.0

      pub eat_flit : 0 < holds_of (sections n w) (r.front - 1)
      eat_flit = rw hn eat_tells.1

      pub eat_fits : Fits w8 r.flits → Fits w8 (r.eaten + 1)
      eat_fits h = record { fits = omega (arith, eat_tells.2, h.fits) }

      pub eat_in : Served m r → r.front - 1 < n
      eat_in p = omega (arith, (tells m r p).front_low, eat_tells.0)

      pub eat_small : Served m r → r.front - 1 < 65535
      eat_small p = let t = tells m r p in omega (arith, t.front_low, t.few)

    pub ate : (q z : Record) (t : Sections) (v : List ℕ) → t ≡ drain (sections n w) (r.front - 1)
        → stepped (sections n v) q ≡ leave t (bite r) (r.front - 1) r.front → z ≡ finished (bite r) q
        → stepped (laid m v) z ≡ eat s r
    unfolding eat
    ate q z t v e₁ e₂ ez =
        let k = r.front - 1 in
        let e : stepped (sections n v) q ≡ leave (drain (sections n w) k) (bite r) k r.front = rw e₁ at e₂ in
        rw (ez, sym (rw hn at e)) refl
