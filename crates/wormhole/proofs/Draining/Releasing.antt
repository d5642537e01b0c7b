-- After a flit has left a channel: the release rule keeps the packet's run and its flits, and takes no move from those left. Shared by lead,
-- follow and eat; by the cases of the rule's test and of the channel's next. Assumes nothing.
use Prim.Native.Nat.{ℕ, zero, suc, ◌+◌, ◌≤◌, ◌<◌}
use mathlib.Core.Path.{◌≡◌, refl, sym, ap, ◌∙◌}
use mathlib.Core.Logic.{◌≢◌}
use mathlib.Core.Bool.{Bool, ◌&&◌}
use native.Mathlib.Decide.{ℕ_discrete}
use native.Mathlib.Omega.{arith}
use lib.Dec.{T, eqb, eqb→eq}
use lib.ListN.{length}
use mir.Facts.{and_yes, yes_and, yes_eqb}
use Rattle.route.specs.Grid.{pick}
use Rattle.wormhole.specs.declared.records.Record.{Record}
use Rattle.wormhole.specs.Memory.{Sections, owner_of, holds_of, next_of, own, hold, link, put, anew}
use Rattle.wormhole.specs.Steps.{Stepped, stepped, shortened, release, leave}
use Rattle.wormhole.proofs.Draining.Picks.{picked, passed, decided}
use Rattle.wormhole.proofs.Draining.Network.{Network}
use Rattle.wormhole.proofs.Draining.Sums.{Upd}
use Rattle.wormhole.proofs.Draining.Shape.{Shape, shape_shorten, shape_end}
use Rattle.wormhole.proofs.Draining.Fill.{Fill, yet_shorten, fill_shorten, fill_end}
use Rattle.wormhole.proofs.Draining.Frames.{stored, Frame, frame_refl, frame_put}
use Rattle.wormhole.proofs.Draining.Invariant.{Nothing, aim, away, Held, Holding, left_of}

-- packet i, whose record is r, after the rule: it holds channels, or has given up the last, which had no next, with all its flits eaten
pub data After (M : Network) (s : Sections) (i : ℕ) (r : Record) (next : ℕ) : Type 0 where
  still : Holding M s i r → After M s i r next
  gone : next ≡ 0 → r.eaten ≡ r.flits → Nothing s i → After M s i r next

-- what the rule left, of a channel k and a record r
pub record Released (M : Network) (i k : ℕ) (s : Sections) (r : Record) (t : Stepped) : Type 0 where
  pub frame : Frame i s t.words
  pub rear : ℕ
  pub front : ℕ
  pub is : t.packet ≡ anew r r.waiting r.eaten rear front
  pub after : After M t.words i (anew r r.waiting r.eaten rear front) (next_of s k)
  pub same : left_of M t.words i r ≡ left_of M s i r

module _ (M : Network) (i k front : ℕ) (s : Sections) (r : Record) (q f : ℕ) (H : Held M s i r q f) (mine : owner_of s k ≡ suc i)
    (lo : k < length s.owner) (lh : k < length s.holds) (lx : k < length s.next)
    (next_full : (y : ℕ) → next_of s k ≡ suc y → 1 ≤ holds_of s y) where
  -- the rule's test
  abbrev gives_up : Bool
  gives_up = eqb r.rear (k + 1) && (eqb r.waiting 0 && eqb (holds_of s k) 0)

  -- it holds
  released : q ≡ k → r.waiting ≡ 0 → holds_of s k ≡ 0 → Released M i k s r (release s r k front)
  unfolding release put own hold link
  released qk w z =
      record {
        frame = frame_put i s k 0 0 0 lo lh lx (λ a b. b mine) (λ a b. a refl) (λ a. (refl, refl));
        rear = r'.rear;
        front = r'.front;
        is = refl;
        after = after (next_of s k) refl;
        same = yet_shorten S F w z uo uh;
      }
    where
      s' : Sections
      s' = put s k 0 0 0

      r' : Record
      r' = shortened r k front (next_of s k)

      uo : Upd (owner_of s) (owner_of s') k 0
      uo = stored s.owner k 0 refl lo

      uh : Upd (holds_of s) (holds_of s') k 0
      uh = stored s.holds k 0 refl lh

      ux : Upd (next_of s) (next_of s') k 0
      ux = stored s.next k 0 refl lx

      S : Shape M i (aim M r) (owner_of s) (next_of s) k f
      S = rw qk at H.shape

      F : Fill M i (aim M r) (away M r) (owner_of s) (holds_of s) r.flits r.waiting r.eaten k f
      F = rw qk at H.fill

      -- the front stays, since there is a next
      front_stays : (y : ℕ) → next_of s k ≡ suc y → r'.front ≡ r.front
      front_stays y e =
          passed (eqb front (k + 1) && eqb (next_of s k) 0) 0 r.front
          (λ t. omega (arith, e, eqb→eq (next_of s k) 0 (and_yes (eqb front (k + 1)) (eqb (next_of s k) 0) t).1))

      after : (next : ℕ) → next_of s k ≡ next → After M s' i r' (next_of s k)
      after zero e = let nothing = shape_end S e uo in gone e (fill_end S F w z uo uh nothing) nothing
      after (suc y) e =
          let Sy = shape_shorten S e uo ux in
          still
          (record {
            q = y;
            f = f;
            held =
                record { rear = omega (arith, e); front = omega (arith, front_stays y e, H.front); shape = Sy; fill = fill_shorten S F w z uo uh e };
            full = λ v. omega (arith, next_full y e, uh.off y (λ p. omega (arith, ap (owner_of s') p, uo.at, Sy.rear)));
          })

  -- a packet with nothing at the source has a flit in its rear, but for the channel that a flit has left
  pub release_law : (r.waiting ≡ 0 → q ≢ k → 1 ≤ holds_of s q) → Released M i k s r (leave s r k front)
  unfolding leave
  release_law full = go (decided gives_up)
    where
      kept : (T gives_up → ⊥) → r.waiting ≡ 0 → Dec (q ≡ k) → Dec (holds_of s q ≡ 0) → 1 ≤ holds_of s q
      kept fails w (yes p) (yes z) =
          absurd
          (fails (yes_and (eqb r.rear (k + 1)) (eqb r.waiting 0 && eqb (holds_of s k) 0) (yes_eqb {a = r.rear} {b = k + 1} (omega (arith, H.rear)))
          (yes_and (eqb r.waiting 0) (eqb (holds_of s k) 0) (yes_eqb w) (yes_eqb (ap (holds_of s) (sym p) ∙ z)))))
      kept fails w (yes p) (no ne) = omega arith
      kept fails w (no ne) d = full w ne

      go : Dec (T gives_up) → Released M i k s r (pick gives_up (release s r k front) (stepped s r))
      go (yes t) =
          let a = and_yes (eqb r.rear (k + 1)) (eqb r.waiting 0 && eqb (holds_of s k) 0) t in
          let b = and_yes (eqb r.waiting 0) (eqb (holds_of s k) 0) a.1 in
          rw (picked gives_up (release s r k front) (stepped s r) t)
          (released (omega (arith, eqb→eq r.rear (k + 1) a.0, H.rear)) (eqb→eq r.waiting 0 b.0) (eqb→eq (holds_of s k) 0 b.1))
      go (no fails) =
          rw (passed gives_up (release s r k front) (stepped s r) fails)
          (record {
            frame = frame_refl i s;
            rear = r.rear;
            front = r.front;
            is = refl;
            after = still (record { q = q; f = f; held = H; full = λ w. kept fails w (ℕ_discrete q k) (ℕ_discrete (holds_of s q) 0) });
            same = refl;
          })
