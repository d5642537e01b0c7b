-- The tests of the step rules say what a network's steps ask, both ways: a move that may be made is one of the five steps, and each of the five
-- may be made. By the cases of a packet's front, and of the kind. Assumes nothing.
use Prim.Native.Nat.{ℕ, zero, suc, ◌+◌, ◌≤◌}
use mathlib.Core.Path.{◌≡◌, refl}
use mathlib.Core.Bool.{Bool, false, not, ◌&&◌}
use mathlib.Core.Logic.{◌≢◌}
use lib.Dec.{T, leb, ltb, eqb, T_not, not_T}
use native.Mathlib.Omega.{arith}
use mir.Facts.{and_yes, yes_and, leb_yes, ltb_yes, eqb_yes, yes_leb, yes_ltb, yes_eqb}
use Rattle.route.specs.declared.places.Place.{Place}
use Rattle.route.specs.Grid.{Dir, dist}
use Rattle.route.specs.Turns.{Arrival, local, going}
use Rattle.route.specs.Numbers.{place_of, number, dir_of}
use Rattle.route.specs.Paths.{same_place, answer}
use Rattle.route.specs.Channels.{channel, way, far, is_channel}
use Rattle.route.proofs.Promises.{dir_below, dir_of_number}
use Rattle.wormhole.specs.declared.records.Record.{Record}
use Rattle.wormhole.specs.Memory.{Net, Sections, owner_of, holds_of, next_of, named}
use Rattle.wormhole.specs.Steps.{Stepped, ready, may_lead, start, advance, lead, room, can_follow, may_follow, follow, may_feed, feed, may_eat, eat, known, may, act}
use Rattle.wormhole.proofs.Draining.Network.{Network}
use Rattle.wormhole.proofs.Draining.Meshes.{Ranked, network}
use Rattle.wormhole.proofs.Draining.Invariant.{aim}
use Rattle.wormhole.proofs.Draining.Stepping.{Step, starts, advances, follows, feeds, eats}

module _ (N : Net) (deep : 1 ≤ N.depth) (G : Ranked N.mesh) where
  abbrev M : Network
  M = network N deep G

  abbrev C : ℕ
  C = N.mesh.columns

  module _ (s : Sections) (i : ℕ) (r : Record) where
    -- what the tests of a lead say of a header at n that came there by a
    led : (ready : Bool) (n : Place) (a : Arrival) (d : Dir)
        → T (ready && ((not (same_place n (aim M r)) && answer N.mesh n a (aim M r) d) && eqb (owner_of s (channel C n d)) 0))
        → T ready × (dist n (aim M r) ≢ 0) × T (answer N.mesh n a (aim M r) d) × (owner_of s (channel C n d) ≡ 0)
    led ready n a d may =
        let there = same_place n (aim M r) in
        let given = answer N.mesh n a (aim M r) d in
        let e = and_yes ready ((not there && given) && eqb (owner_of s (channel C n d)) 0) may in
        let f = and_yes (not there && given) (eqb (owner_of s (channel C n d)) 0) e.1 in
        let g = and_yes (not there) given f.0 in
        (e.0, (λ z. T_not there g.0 ((M.home n (aim M r)).1 z)), g.1, eqb_yes f.1)

    lead_step : (t : Stepped) (d x : ℕ) → r.front ≡ x
        → let n = named x (place_of C r.source) (far C) in
        let a = named x local (λ k. going (way k)) in
        T (named x (leb 1 r.waiting) (λ k. leb 1 (holds_of s k))
        && ((not (same_place n (aim M r)) && answer N.mesh n a (aim M r) (dir_of d)) && eqb (owner_of s (channel C n (dir_of d))) 0))
        → t ≡ named x (start s i r (channel C n (dir_of d))) (advance s i r (channel C n (dir_of d))) → Step M s i r t
    lead_step t d zero fr may e =
        let l = led (leb 1 r.waiting) (place_of C r.source) local (dir_of d) may in
        starts (dir_of d) fr (leb_yes l.0) l.1 l.2 l.3 e
    lead_step t d (suc k) fr may e =
        let l = led (leb 1 (holds_of s k)) (far C k) (going (way k)) (dir_of d) may in
        advances k (dir_of d) fr (leb_yes l.0) l.1 l.2 l.3 e

    follow_step : (t : Stepped) (k x : ℕ) → next_of s k ≡ x → T (is_channel N.mesh k)
        → T (eqb (owner_of s k) (i + 1) && (leb 1 (holds_of s k) && room N.depth s x)) → t ≡ follow s r k → Step M s i r t
    follow_step t k zero nx real may e =
        absurd (and_yes (leb 1 (holds_of s k)) false (and_yes (eqb (owner_of s k) (i + 1)) (leb 1 (holds_of s k) && false) may).1).1
    follow_step t k (suc y) nx real may e =
        let a = and_yes (eqb (owner_of s k) (i + 1)) (leb 1 (holds_of s k) && ltb (holds_of s y) N.depth) may in
        let b = and_yes (leb 1 (holds_of s k)) (ltb (holds_of s y) N.depth) a.1 in
        let o : owner_of s k ≡ i + 1 = eqb_yes a.0 in
        follows k y real (omega (arith, o)) (leb_yes b.0) nx (ltb_yes b.1) e

    feed_step : (t : Stepped) (x : ℕ) → r.rear ≡ x → T (leb 1 r.waiting && room N.depth s x) → t ≡ feed s r → Step M s i r t
    feed_step t zero re may e = absurd (and_yes (leb 1 r.waiting) false may).1
    feed_step t (suc q) re may e =
        let a = and_yes (leb 1 r.waiting) (ltb (holds_of s q) N.depth) may in
        feeds q re (leb_yes a.0) (ltb_yes a.1) e

    eat_step : (t : Stepped) (x : ℕ) → r.front ≡ x
        → T (named x false (λ k. same_place (far C k) (aim M r) && (leb 1 (holds_of s k) && ltb r.eaten r.flits))) → t ≡ eat s r → Step M s i r t
    eat_step t zero fr may e = absurd may
    eat_step t (suc f) fr may e =
        let a = and_yes (same_place (far C f) (aim M r)) (leb 1 (holds_of s f) && ltb r.eaten r.flits) may in
        let b = and_yes (leb 1 (holds_of s f)) (ltb r.eaten r.flits) a.1 in
        eats f fr ((M.home (far C f) (aim M r)).0 a.0) (leb_yes b.0) (ltb_yes b.1) e

    -- what may be made is a step
    pub read : (kind k d : ℕ) → T (known N.mesh kind k d) → T (may N s i r kind k d) → Step M s i r (act N s i r kind k d)
    unfolding may act may_lead lead may_follow can_follow may_feed may_eat
    read zero k d can yes_it = lead_step (act N s i r 0 k d) d r.front refl yes_it refl
    read (suc zero) k d can yes_it = follow_step (act N s i r 1 k d) k (next_of s k) refl can yes_it refl
    read (suc (suc zero)) k d can yes_it = feed_step (act N s i r 2 k d) r.rear refl yes_it refl
    read (suc (suc (suc kind))) k d can yes_it = eat_step (act N s i r (suc (suc (suc kind))) k d) r.front refl yes_it refl

    -- ---- and back
    -- a move that may be made, by its kind, channel and direction
    pub record Allowed : Type 0 where
      pub kind : ℕ
      pub channel : ℕ
      pub direction : ℕ
      pub known : T (known N.mesh kind channel direction)
      pub may : T (may N s i r kind channel direction)

    lead_may : (d x : ℕ) → r.front ≡ x → (n : Place) (a : Arrival) (ready : Bool) → named x (place_of C r.source) (far C) ≡ n
        → named x local (λ k. going (way k)) ≡ a → named x (leb 1 r.waiting) (λ k. leb 1 (holds_of s k)) ≡ ready → T ready → dist n (aim M r) ≢ 0
        → T (answer N.mesh n a (aim M r) (dir_of d)) → owner_of s (channel C n (dir_of d)) ≡ 0 → T (may_lead N s r d)
    unfolding may_lead
    lead_may d x fr n a ready en ea er some ne given free =
        rw (fr, en, ea, er)
        (yes_and ready ((not (same_place n (aim M r)) && answer N.mesh n a (aim M r) (dir_of d)) && eqb (owner_of s (channel C n (dir_of d))) 0) some
        (yes_and (not (same_place n (aim M r)) && answer N.mesh n a (aim M r) (dir_of d)) (eqb (owner_of s (channel C n (dir_of d))) 0)
        (yes_and (not (same_place n (aim M r))) (answer N.mesh n a (aim M r) (dir_of d))
        (not_T (same_place n (aim M r)) (λ t. ne ((M.home n (aim M r)).0 t))) given) (yes_eqb free)))

    -- each of the five steps may be made
    pub written : (t : Stepped) → Step M s i r t → Allowed
    unfolding may may_follow can_follow may_feed may_eat
    written t (starts d fr some ne given free e) =
        record {
          kind = 0;
          channel = 0;
          direction = number d;
          known = yes_ltb (dir_below d);
          may = lead_may (number d) 0 fr (place_of C r.source) local (leb 1 r.waiting) refl refl refl (yes_leb some) ne (rw (dir_of_number d) given) (rw (dir_of_number d) free);
        }
    written t (advances k d fr some ne given free e) =
        record {
          kind = 0;
          channel = 0;
          direction = number d;
          known = yes_ltb (dir_below d);
          may = lead_may (number d) (suc k) fr (far C k) (going (way k)) (leb 1 (holds_of s k)) refl refl refl (yes_leb some) ne (rw (dir_of_number d) given) (rw (dir_of_number d) free);
        }
    written t (follows k y real mine some nx free e) =
        record {
          kind = 1;
          channel = k;
          direction = 0;
          known = real;
          may =
              rw nx
              (yes_and (eqb (owner_of s k) (i + 1)) (leb 1 (holds_of s k) && ltb (holds_of s y) N.depth)
              (yes_eqb {a = owner_of s k} {b = i + 1} (omega (arith, mine)))
              (yes_and (leb 1 (holds_of s k)) (ltb (holds_of s y) N.depth) (yes_leb some) (yes_ltb free)));
        }
    written t (feeds q re some free e) =
        record {
          kind = 2;
          channel = 0;
          direction = 0;
          known = tt;
          may = rw re (yes_and (leb 1 r.waiting) (ltb (holds_of s q) N.depth) (yes_leb some) (yes_ltb free));
        }
    written t (eats f fr here some fewer e) =
        record {
          kind = 3;
          channel = 0;
          direction = 0;
          known = tt;
          may =
              rw fr
              (yes_and (same_place (far C f) (aim M r)) (leb 1 (holds_of s f) && ltb r.eaten r.flits) ((M.home (far C f) (aim M r)).1 here)
              (yes_and (leb 1 (holds_of s f)) (ltb r.eaten r.flits) (yes_leb some) (yes_ltb fewer)));
        }
