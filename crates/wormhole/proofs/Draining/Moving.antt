-- Each step keeps its packet's part of the invariant and takes one from the moves that are left to it: the laws of run and flits at the step's
-- stores, then the law of the release. Assumes nothing.
use Prim.Native.Nat.{ℕ, suc, ◌+◌, ◌-◌, ◌≤◌, ◌<◌}
use mathlib.Core.Path.{◌≡◌, refl, ap, ◌∙◌}
use mathlib.Core.Logic.{◌≢◌}
use mathlib.Core.List.{List}
use native.Mathlib.Omega.{arith}
use lib.Dec.{T, eqb, eqb→eq}
use lib.ListN.{length}
use lib.Seq.{lt-length-set}
use mir.Facts.{yes_eqb}
use Rattle.route.specs.Turns.{local, going}
use Rattle.wormhole.specs.declared.records.Record.{Record}
use Rattle.wormhole.specs.Memory.{Sections, owner_of, holds_of, next_of, own, hold, link, put, drain, fill, none, anew}
use Rattle.wormhole.specs.Steps.{Stepped, stepped, leave, claim, start, advance, follow, feed, bite, finished, eat}
use Rattle.wormhole.proofs.Draining.Picks.{picked, passed, decided}
use Rattle.wormhole.proofs.Draining.Network.{Network}
use Rattle.wormhole.proofs.Draining.Sums.{Upd}
use Rattle.wormhole.proofs.Draining.Loads.{load_at_least}
use Rattle.wormhole.proofs.Draining.Shape.{gap, Ahead, Shape, shape_start, shape_advance}
use Rattle.wormhole.proofs.Draining.Fill.{Fill, yet, yet_none, one, fill_start, fill_feed, fill_follow, fill_eat, fill_advance}
use Rattle.wormhole.proofs.Draining.Frames.{stored, Frame, frame_then, frame_hold, frame_link, frame_put}
use Rattle.wormhole.proofs.Draining.Invariant.{Nothing, aim, away, Fine, Waiting, Held, Slot, unused, waits, holds, Invariant, left_of, Kept}
use Rattle.wormhole.proofs.Draining.Releasing.{After, still, gone, Released, release_law}
use Rattle.wormhole.proofs.Draining.Stepping.{Step, starts, advances, follows, feeds, eats}

module _ (M : Network) (s : Sections) (rs : List Record) (I : Invariant M s rs) (i : ℕ) (r : Record) (fine : Fine M r) where
  refined : (w e q f : ℕ) → Fine M (anew r w e q f)
  refined w e q f =
      record {
        live = fine.live;
        source = fine.source;
        destination = fine.destination;
        apart = fine.apart;
        some = fine.some;
        most = fine.most;
      }

  long : (k : ℕ) → k < M.numbers → (k < length s.owner) × (k < length s.holds) × (k < length s.next)
  long k l = (omega (arith, I.owners), omega (arith, I.holdings), omega (arith, I.nexts))

  -- after the release, where the channel's next is a channel
  on : (k y : ℕ) (s¹ : Sections) (w e q f : ℕ) (t : Stepped) → Frame i s s¹ → suc (left_of M s¹ i (anew r w e q f)) ≡ left_of M s i r
      → next_of s¹ k ≡ suc y → Released M i k s¹ (anew r w e q f) t → Kept M i s r t
  on k y s¹ w e q f t F less nx L =
      record {
        frame = frame_then i s s¹ t.words F L.frame;
        slot = rw L.is (go L.after);
        less = rw L.is (ap suc L.same ∙ less);
      }
    where
      go : After M t.words i (anew r w e L.rear L.front) (next_of s¹ k) → Slot M t.words i (anew r w e L.rear L.front)
      go (still X) = holds (refined w e L.rear L.front) X
      go (gone z all nothing) = absurd (omega arith)

  -- ---- from the source into channel t
  start_law : (t : ℕ) → Waiting s i r → 1 ≤ r.waiting → owner_of s t ≡ 0 → Ahead M (aim M r) (away M r) t → Kept M i s r (start s i r t)
  unfolding claim put own hold link
  start_law t W some z A =
      record {
        frame = frame_put i s t (i + 1) 1 0 (long t l).0 (long t l).1 (long t l).2 (λ a b. a z) (λ a b. b (omega arith)) (λ a. absurd (omega arith));
        slot =
            holds (refined (r.waiting - 1) r.eaten (t + 1) (t + 1))
            (record {
              q = t;
              f = t;
              held =
                  record {
                    rear = omega arith;
                    front = omega arith;
                    shape = shape_start W.nothing uo (stored s.next t 0 refl (long t l).2).at A;
                    fill = rw W.eaten both.0;
                  };
              full = λ w. omega (arith, uh.at);
            });
        less = both.1;
      }
    where
      s' : Sections
      s' = claim s t i

      l : t < M.numbers
      l = M.below t A.real

      uo : Upd (owner_of s) (owner_of s') t (suc i)
      uo = stored s.owner t (i + 1) (omega arith) (long t l).0

      uh : Upd (holds_of s) (holds_of s') t 1
      uh = stored s.holds t 1 refl (long t l).1

      both : Fill M i (aim M r) (away M r) (owner_of s') (holds_of s') r.flits (r.waiting - 1) 0 t t
          × (suc (yet M i (aim M r) (away M r) (owner_of s') (holds_of s') (r.waiting - 1)) ≡ left_of M s i r)
      both = fill_start W.nothing W.waiting some A uo uh

  -- ---- the other steps are of a packet that holds the channels from q to f
  module _ (q f : ℕ) (H : Held M s i r q f) (full : r.waiting ≡ 0 → 1 ≤ holds_of s q) where
    S : Shape M i (aim M r) (owner_of s) (next_of s) q f
    S = H.shape

    low : (k : ℕ) → owner_of s k ≡ suc i → k < M.numbers
    low k m = M.below k (S.at k m).real

    -- into the rear
    feed_law : 1 ≤ r.waiting → holds_of s q < M.depth → Kept M i s r (feed s r)
    unfolding feed fill hold
    feed_law some room =
        let e : r.rear - 1 ≡ q = omega (arith, H.rear) in
        rw e
        (record {
          frame = frame_hold i s q (holds_of s q + 1) S.rear;
          slot =
              holds (refined (r.waiting - 1) r.eaten r.rear r.front)
              (record {
                q = q;
                f = f;
                held = record { rear = H.rear; front = H.front; shape = S; fill = both.0 };
                full = λ z. omega (arith, u.at);
              });
          less = both.1;
        })
      where
        s' : Sections
        s' = fill s q

        u : Upd (holds_of s) (holds_of s') q (holds_of s q + 1)
        u = stored s.holds q (holds_of s q + 1) refl (long q (low q S.rear)).1

        both : Fill M i (aim M r) (away M r) (owner_of s) (holds_of s') r.flits (r.waiting - 1) r.eaten q f
            × (suc (yet M i (aim M r) (away M r) (owner_of s) (holds_of s') (r.waiting - 1)) ≡ left_of M s i r)
        both = fill_feed S H.fill some room u

    -- from channel k to its next, y
    follow_law : (k y : ℕ) → owner_of s k ≡ suc i → 1 ≤ holds_of s k → next_of s k ≡ suc y → holds_of s y < M.depth → Kept M i s r (follow s r k)
    unfolding follow fill drain hold
    follow_law k y mine some nx room =
        let e : next_of s k - 1 ≡ y = omega (arith, nx) in
        rw e
        (on k y s² r.waiting r.eaten r.rear r.front (leave s² r k r.front)
        (frame_then i s s¹ s² (frame_hold i s k (holds_of s k - 1) mine) (frame_hold i s¹ y (holds_of s¹ y + 1) near.0))
        both.1 nx
        (release_law M i k r.front s² r q f (record { rear = H.rear; front = H.front; shape = S; fill = both.0 }) mine
        (long k lk).0 l2 (long k lk).2
        (λ z p. let v : y ≡ z = omega (arith, nx) in rw (← v) (omega (arith, u2.at)))
        (λ w ne. omega (arith, full w, both.2 q ne))))
      where
        s¹ : Sections
        s¹ = drain s k

        s² : Sections
        s² = fill s¹ y

        near : (owner_of s y ≡ suc i) × (suc (gap M (aim M r) y) ≡ gap M (aim M r) k)
        near = (S.at k mine).nearer y nx

        lk : k < M.numbers
        lk = low k mine

        l1 : y < length s¹.holds
        l1 = lt-length-set s.holds k (holds_of s k - 1) (long y (low y near.0)).1

        l2 : k < length s².holds
        l2 = lt-length-set s¹.holds y (holds_of s¹ y + 1) (lt-length-set s.holds k (holds_of s k - 1) (long k lk).1)

        u1 : Upd (holds_of s) (holds_of s¹) k (holds_of s k - 1)
        u1 = stored s.holds k (holds_of s k - 1) refl (long k lk).1

        u2 : Upd (holds_of s¹) (holds_of s²) y (holds_of s¹ y + 1)
        u2 = stored s¹.holds y (holds_of s¹ y + 1) refl l1

        apart : y ≢ k
        apart p = omega (arith, ap (gap M (aim M r)) p, near.1)

        both : Fill M i (aim M r) (away M r) (owner_of s) (holds_of s²) r.flits r.waiting r.eaten q f
            × (suc (left_of M s² i r) ≡ left_of M s i r) × ((j : ℕ) → j ≢ k → holds_of s j ≤ holds_of s² j)
        both = fill_follow S H.fill mine nx some (omega (arith, u1.off y apart)) u1 u2

    -- from the front to channel t
    advance_law : (t : ℕ) → 1 ≤ holds_of s f → owner_of s t ≡ 0 → Ahead M (aim M r) (gap M (aim M r) f) t → M.rank f < M.rank t
        → Kept M i s r (advance s i r t f)
    unfolding claim put own hold link drain
    advance_law t some z A up =
        on f t s¹ r.waiting r.eaten r.rear (t + 1) (leave s¹ r¹ f (f + 1))
        (frame_then i s sa s¹ (frame_hold i s f (holds_of s f - 1) S.front)
        (frame_then i sa sb s¹ (frame_link i sa f (t + 1) S.front)
        (frame_put i sb t (i + 1) 1 0 (long t lt).0 lht lxt (λ a b. a z) (λ a b. b (omega arith)) (λ a. absurd (omega arith)))))
        both.1 nx
        (release_law M i f (f + 1) s¹ r¹ q t
        (record {
          rear = H.rear;
          front = omega arith;
          shape = shape_advance S z uo ux1 ux2 A up;
          fill = both.0;
        })
        (uo.off f apart ∙ S.front)
        (lt-length-set s.owner t (i + 1) (long f lf).0)
        (lt-length-set sb.holds t 1 (lt-length-set s.holds f (holds_of s f - 1) (long f lf).1))
        (lt-length-set sb.next t 0 (lt-length-set s.next f (t + 1) (long f lf).2))
        (λ y p. let v : t ≡ y = omega (arith, nx) in rw (← v) (omega (arith, uh2.at)))
        (λ w ne. omega (arith, full w, both.2 q S.rear ne)))
      where
        r¹ : Record
        r¹ = anew r r.waiting r.eaten r.rear (t + 1)

        sa : Sections
        sa = drain s f

        sb : Sections
        sb = link sa f (t + 1)

        s¹ : Sections
        s¹ = claim sb t i

        lf : f < M.numbers
        lf = low f S.front

        lt : t < M.numbers
        lt = M.below t A.real

        lht : t < length sb.holds
        lht = lt-length-set s.holds f (holds_of s f - 1) (long t lt).1

        lxt : t < length sb.next
        lxt = lt-length-set s.next f (t + 1) (long t lt).2

        uo : Upd (owner_of s) (owner_of s¹) t (suc i)
        uo = stored s.owner t (i + 1) (omega arith) (long t lt).0

        uh1 : Upd (holds_of s) (holds_of sb) f (holds_of s f - 1)
        uh1 = stored s.holds f (holds_of s f - 1) refl (long f lf).1

        uh2 : Upd (holds_of sb) (holds_of s¹) t 1
        uh2 = stored sb.holds t 1 refl lht

        ux1 : Upd (next_of s) (next_of sb) f (suc t)
        ux1 = stored s.next f (t + 1) (omega arith) (long f lf).2

        ux2 : Upd (next_of sb) (next_of s¹) t 0
        ux2 = stored sb.next t 0 refl lxt

        apart : f ≢ t
        apart p = omega (arith, ap (owner_of s) p, z, S.front)

        nx : next_of s¹ f ≡ suc t
        nx = ux2.off f apart ∙ ux1.at

        both : Fill M i (aim M r) (away M r) (owner_of s¹) (holds_of s¹) r.flits r.waiting r.eaten q t
            × (suc (left_of M s¹ i r) ≡ left_of M s i r) × ((j : ℕ) → owner_of s j ≡ suc i → j ≢ f → holds_of s¹ j ≡ holds_of s j)
        both = fill_advance S H.fill z A some uo uh1 uh2

    -- from the front to the destination
    eat_law : gap M (aim M r) f ≡ 0 → 1 ≤ holds_of s f → Kept M i s r (eat s r)
    unfolding eat drain hold
    eat_law here some =
        let e : r.front - 1 ≡ f = omega (arith, H.front) in
        rw e (go (decided (eqb (r.eaten + 1) r.flits)))
      where
        s¹ : Sections
        s¹ = drain s f

        t : Stepped
        t = leave s¹ (bite r) f r.front

        lf : f < M.numbers
        lf = low f S.front

        u : Upd (holds_of s) (holds_of s¹) f (holds_of s f - 1)
        u = stored s.holds f (holds_of s f - 1) refl (long f lf).1

        both : Fill M i (aim M r) (away M r) (owner_of s) (holds_of s¹) r.flits r.waiting (r.eaten + 1) q f
            × (suc (left_of M s¹ i r) ≡ left_of M s i r)
        both = fill_eat S H.fill here some u

        L : Released M i f s¹ (bite r) t
        L =
            release_law M i f r.front s¹ (bite r) q f (record { rear = H.rear; front = H.front; shape = S; fill = both.0 }) S.front
            (long f lf).0 (lt-length-set s.holds f (holds_of s f - 1) (long f lf).1) (long f lf).2
            (λ y p. absurd (omega (arith, p, S.end)))
            (λ w ne. omega (arith, full w, u.off q ne))

        frame : Frame i s t.words
        frame = frame_then i s s¹ t.words (frame_hold i s f (holds_of s f - 1) S.front) L.frame

        r² : Record
        r² = anew r r.waiting (r.eaten + 1) L.rear L.front

        -- with the last flit eaten nothing is held
        ended : r.eaten + 1 ≡ r.flits → After M t.words i r² (next_of s¹ f) → Nothing t.words i
        ended all (gone z a nothing) = nothing
        ended all (still X) =
            let S' = X.held.shape in
            let l = M.below X.q (S'.at X.q S'.rear).real in
            let g = load_at_least M.numbers i one (owner_of t.words) (holds_of t.words) X.q l S'.rear in
            let a = X.held.fill.sum in
            absurd (omega (arith, X.full (omega arith)))

        go : Dec (T (eqb (r.eaten + 1) r.flits)) → Kept M i s r (stepped t.words (finished (bite r) t.packet))
        go (yes all) =
            let nothing = ended (eqb→eq (r.eaten + 1) r.flits all) L.after in
            let w : r.waiting ≡ 0 = omega (arith, both.0.sum, eqb→eq (r.eaten + 1) r.flits all) in
            let z = yet_none M i (aim M r) (away M r) (owner_of t.words) (holds_of t.words) r.waiting w nothing in
            rw (picked (eqb (r.eaten + 1) r.flits) none t.packet all)
            (record {
              frame = frame;
              slot = unused refl nothing;
              less =
                  omega
                  (arith, yet_none M i (aim M none) (away M none) (owner_of t.words) (holds_of t.words) 0 refl nothing, z, L.same, both.1);
            })
        go (no more) =
            rw (passed (eqb (r.eaten + 1) r.flits) none t.packet more, L.is)
            (record {
              frame = frame;
              slot = still_there L.after;
              less = ap suc L.same ∙ both.1;
            })
          where
            still_there : After M t.words i r² (next_of s¹ f) → Slot M t.words i r²
            still_there (still X) = holds (refined r.waiting (r.eaten + 1) L.rear L.front) X
            still_there (gone z all nothing) = absurd (more (yes_eqb all))

  -- ---- every step
  pub kept : (t : Stepped) → Slot M s i r → Step M s i r t → Kept M i s r t
  kept t (unused e nothing) step = absurd (omega (arith, fine.live, ap (λ (x : Record). x.live) e))
  kept t (waits fine' W) (starts d fr some ne yes_d free e) =
      let n = M.place r.source in
      let inside = M.node_inside r.source fine.source in
      let real = M.leads n local (aim M r) d inside yes_d in
      rw e
      (start_law (M.channel n d) W some free
      (record { real = real; closer = M.closer n local (aim M r) d inside yes_d; on = M.onward n local (aim M r) d inside yes_d }))
  kept t (waits fine' W) (advances k d fr some ne yes_d free e) = absurd (omega (arith, fr, W.front))
  kept t (waits fine' W) (follows k y real mine some nx room e) = absurd (W.nothing k mine)
  kept t (waits fine' W) (feeds q re some room e) = absurd (omega (arith, re, W.rear))
  kept t (waits fine' W) (eats f fr here some more e) = absurd (omega (arith, fr, W.front))
  kept t (holds fine' X) (starts d fr some ne yes_d free e) = absurd (omega (arith, fr, X.held.front))
  kept t (holds fine' X) (advances k d fr some ne yes_d free e) =
      let fk : k ≡ f = omega (arith, fr, X.held.front) in
      advanced (rw fk at some) (rw fk at yes_d) (rw fk at free) (rw fk at e)
    where
      f : ℕ
      f = X.f

      advanced : 1 ≤ holds_of s f → T (M.answer (M.far f) (going (M.way f)) (aim M r) d) → owner_of s (M.channel (M.far f) d) ≡ 0
          → t ≡ advance s i r (M.channel (M.far f) d) f → Kept M i s r t
      advanced some yes_d free e =
          let n = M.far f in
          let a = going (M.way f) in
          let S = X.held.shape in
          let exists = (S.at f S.front).real in
          let inside = M.far_inside f exists in
          rw e
          (advance_law X.q f X.held X.full (M.channel n d) some free
          (record {
            real = M.leads n a (aim M r) d inside yes_d;
            closer = M.closer n a (aim M r) d inside yes_d;
            on = M.onward n a (aim M r) d inside yes_d;
          })
          (M.rises f (aim M r) d exists yes_d))
  kept t (holds fine' X) (follows k y real mine some nx room e) = rw e (follow_law X.q X.f X.held X.full k y mine some nx room)
  kept t (holds fine' X) (feeds x re some room e) =
      let xq : x ≡ X.q = omega (arith, re, X.held.rear) in
      rw e (feed_law X.q X.f X.held X.full some (rw xq at room))
  kept t (holds fine' X) (eats x fr here some more e) =
      let xf : x ≡ X.f = omega (arith, fr, X.held.front) in
      rw e (eat_law X.q X.f X.held X.full (rw xf at here) (rw xf at some))
