-- One packet's flits: at the source, in its channels, eaten. What a move does to them and to the moves that are left, by the sums over its
-- channels. Assumes nothing.
use Prim.Native.Nat.{ℕ, zero, suc, ◌+◌, ◌-◌, ◌*◌, ◌≤◌, ◌<◌}
use mathlib.Core.Path.{◌≡◌, refl, sym, ap, ◌∙◌}
use mathlib.Core.Logic.{◌≢◌}
use native.Mathlib.Decide.{ℕ_discrete}
use native.Mathlib.Omega.{arith}
use Rattle.route.specs.declared.places.Place.{Place}
use Rattle.wormhole.proofs.Draining.Network.{Network}
use Rattle.wormhole.proofs.Draining.Sums.{Upd}
use Rattle.wormhole.proofs.Draining.Loads.{load, load_none, load_kept, load_new, load_gone, load_more, load_less}
use Rattle.wormhole.proofs.Draining.Shape.{gap, Ahead, Shape}

-- each flit counts once
abbrev pub one : ℕ → ℕ
one k = 1

-- the moves that a flit in channel k has yet to make
abbrev pub heavy : Network → Place → ℕ → ℕ
heavy M g k = suc (gap M g k)

-- packet i, whose source is so far away from the goal: of its flits w are at the source and e are eaten
pub record Fill (M : Network) (i : ℕ) (g : Place) (away : ℕ) (own hold : ℕ → ℕ) (flits w e q f : ℕ) : Type 0 where
  pub cap : (k : ℕ) → own k ≡ suc i → hold k ≤ M.depth
  pub near : 0 < w → suc (gap M g q) ≡ away
  pub head : gap M g f ≢ 0 → 1 ≤ hold f
  pub sum : w + load M.numbers i one own hold + e ≡ flits

-- the moves that its flits have yet to make
unfoldable pub yet : Network → ℕ → Place → ℕ → (ℕ → ℕ) → (ℕ → ℕ) → ℕ → ℕ
yet M i g away own hold w = w * suc away + load M.numbers i (heavy M g) own hold

pub yet_none : (M : Network) (i : ℕ) (g : Place) (away : ℕ) (own hold : ℕ → ℕ) (w : ℕ) → w ≡ 0 → ((k : ℕ) → own k ≢ suc i) → yet M i g away own hold w ≡ 0
unfolding yet
yet_none M i g away own hold w z nothing = rw z (omega (arith, load_none M.numbers i (heavy M g) own hold nothing))

-- one flit fewer at the source
fewer : (away w : ℕ) → 1 ≤ w → w * suc away ≡ suc away + (w - 1) * suc away
fewer away zero some = absurd (omega arith)
fewer away (suc w) some = let e : suc w - 1 ≡ w = omega arith in rw e (omega arith)

module _ {M : Network} {i : ℕ} {g : Place} {away : ℕ} where
  -- nothing of the packet has changed
  pub fill_kept : {own hold own' hold' : ℕ → ℕ} {flits w e q f : ℕ} → ((k : ℕ) → own k ≡ suc i → (own' k ≡ suc i) × (hold' k ≡ hold k))
      → ((k : ℕ) → own' k ≡ suc i → own k ≡ suc i) → own f ≡ suc i → Fill M i g away own hold flits w e q f → Fill M i g away own' hold' flits w e q f
  fill_kept {own} {hold} {own'} {hold'} {flits} {w} {e} {q} {f} keep back mine F =
      record {
        cap = λ k m. omega (arith, (keep k (back k m)).1, F.cap k (back k m));
        near = F.near;
        head = λ ne. omega (arith, (keep f mine).1, F.head ne);
        sum = omega (arith, load_kept M.numbers i one own hold own' hold' keep back, F.sum);
      }

  -- the first flit leaves the source for channel t
  pub fill_start : {own own' hold hold' : ℕ → ℕ} {flits w t : ℕ} → ((k : ℕ) → own k ≢ suc i) → w ≡ flits → 1 ≤ w → Ahead M g away t
      → Upd own own' t (suc i) → Upd hold hold' t 1
      → Fill M i g away own' hold' flits (w - 1) 0 t t × (suc (yet M i g away own' hold' (w - 1)) ≡ yet M i g away own hold w)
  unfolding yet
  fill_start {own} {own'} {hold} {hold'} {flits} {w} {t} nothing all some A uo uh =
      let n = M.numbers in
      let l = M.below t A.real in (
        record {
          cap = λ k m. cap k m (ℕ_discrete k t);
          near = λ v. A.closer;
          head = λ ne. omega (arith, uh.at);
          sum = omega (arith, load_none n i one own hold nothing, load_new n i one uo uh l (nothing t) refl);
        },
        omega (arith, A.closer, fewer away w some, load_none n i (heavy M g) own hold nothing, load_new n i (heavy M g) uo uh l (nothing t) refl),
      )
    where
      cap : (k : ℕ) → own' k ≡ suc i → Dec (k ≡ t) → hold' k ≤ M.depth
      cap k m (yes p) = omega (arith, uh.at, ap hold' p, M.deep)
      cap k m (no ne) = absurd (nothing k (sym (uo.off k ne) ∙ m))

  -- ---- a packet that holds the channels from q to f
  module _ {own next hold : ℕ → ℕ} {flits w e q f : ℕ} (S : Shape M i g own next q f) (F : Fill M i g away own hold flits w e q f) where
    low : (k : ℕ) → own k ≡ suc i → k < M.numbers
    low k m = M.below k (S.at k m).real

    -- feed: a flit enters the rear
    pub fill_feed : {hold' : ℕ → ℕ} → 1 ≤ w → hold q < M.depth → Upd hold hold' q (hold q + 1)
        → Fill M i g away own hold' flits (w - 1) e q f × (suc (yet M i g away own hold' (w - 1)) ≡ yet M i g away own hold w)
    unfolding yet
    fill_feed {hold'} some room u =
        let n = M.numbers in
        let l = low q S.rear in (
          record {
            cap = λ k m. cap k m (ℕ_discrete k q);
            near = λ z. F.near some;
            head = λ ne. omega (arith, F.head ne, up f (ℕ_discrete f q));
            sum = omega (arith, F.sum, load_more n i one own l S.rear u);
          },
          omega (arith, F.near some, fewer away w some, load_more n i (heavy M g) own l S.rear u),
        )
      where
        up : (k : ℕ) → Dec (k ≡ q) → hold k ≤ hold' k
        up k (yes p) = omega (arith, u.at, ap hold p, ap hold' p)
        up k (no ne) = omega (arith, u.off k ne)

        cap : (k : ℕ) → own k ≡ suc i → Dec (k ≡ q) → hold' k ≤ M.depth
        cap k m (yes p) = omega (arith, u.at, ap hold' p)
        cap k m (no ne) = omega (arith, u.off k ne, F.cap k m)

    -- follow: a flit goes from k to its next, y
    pub fill_follow : {hold¹ hold² : ℕ → ℕ} {k y : ℕ} → own k ≡ suc i → next k ≡ suc y → 1 ≤ hold k → hold¹ y < M.depth
        → Upd hold hold¹ k (hold k - 1) → Upd hold¹ hold² y (hold¹ y + 1)
        → Fill M i g away own hold² flits w e q f × (suc (yet M i g away own hold² w) ≡ yet M i g away own hold w) × ((j : ℕ) → j ≢ k → hold j ≤ hold² j)
    unfolding yet
    fill_follow {hold¹} {hold²} {k} {y} mine nx some room u1 u2 =
        let n = M.numbers in
        let c = (S.at k mine).nearer y nx in
        let lk = low k mine in
        let ly = low y c.0 in (
          record {
            cap = λ j m. cap j m (ℕ_discrete j y) (ℕ_discrete j k);
            near = F.near;
            head = λ ne. omega (arith, F.head ne, up f (λ p. omega (arith, ap next p, S.end, nx)) (ℕ_discrete f y));
            sum = omega (arith, F.sum, load_less n i one own lk mine some u1, load_more n i one own ly c.0 u2);
          },
          omega (arith, c.1, load_less n i (heavy M g) own lk mine some u1, load_more n i (heavy M g) own ly c.0 u2),
          (λ j ne. up j ne (ℕ_discrete j y)),
        )
      where
        up : (j : ℕ) → j ≢ k → Dec (j ≡ y) → hold j ≤ hold² j
        up j ne (yes p) = omega (arith, u2.at, ap hold² p, u1.off j ne, ap hold¹ p)
        up j ne (no ny) = omega (arith, u2.off j ny, u1.off j ne)

        cap : (j : ℕ) → own j ≡ suc i → Dec (j ≡ y) → Dec (j ≡ k) → hold² j ≤ M.depth
        cap j m (yes p) d = omega (arith, u2.at, ap hold² p)
        cap j m (no ny) (yes p) = omega (arith, u2.off j ny, ap hold¹ p, u1.at, F.cap k mine)
        cap j m (no ny) (no nk) = omega (arith, u2.off j ny, u1.off j nk, F.cap j m)

    -- eat: a flit leaves the front, which leads to the goal
    pub fill_eat : {hold' : ℕ → ℕ} → gap M g f ≡ 0 → 1 ≤ hold f → Upd hold hold' f (hold f - 1)
        → Fill M i g away own hold' flits w (e + 1) q f × (suc (yet M i g away own hold' w) ≡ yet M i g away own hold w)
    unfolding yet
    fill_eat {hold'} here some u =
        let n = M.numbers in
        let l = low f S.front in (
          record {
            cap = λ k m. cap k m (ℕ_discrete k f);
            near = F.near;
            head = λ ne. absurd (ne here);
            sum = omega (arith, F.sum, load_less n i one own l S.front some u);
          },
          omega (arith, here, load_less n i (heavy M g) own l S.front some u),
        )
      where
        cap : (k : ℕ) → own k ≡ suc i → Dec (k ≡ f) → hold' k ≤ M.depth
        cap k m (yes p) = omega (arith, u.at, ap hold' p, F.cap f S.front)
        cap k m (no ne) = omega (arith, u.off k ne, F.cap k m)

    -- lead: a flit goes from the front to channel t
    pub fill_advance : {own' hold¹ hold² : ℕ → ℕ} {t : ℕ} → own t ≡ 0 → Ahead M g (gap M g f) t → 1 ≤ hold f → Upd own own' t (suc i)
        → Upd hold hold¹ f (hold f - 1) → Upd hold¹ hold² t 1
        → Fill M i g away own' hold² flits w e q t × (suc (yet M i g away own' hold² w) ≡ yet M i g away own hold w)
        × ((j : ℕ) → own j ≡ suc i → j ≢ f → hold² j ≡ hold j)
    unfolding yet
    fill_advance {own'} {hold¹} {hold²} {t} z A some uo u1 u2 =
        let n = M.numbers in
        let lf = low f S.front in
        let lt = M.below t A.real in (
          record {
            cap = λ j m. cap j m (ℕ_discrete j t) (ℕ_discrete j f);
            near = F.near;
            head = λ ne. omega (arith, u2.at);
            sum = omega (arith, F.sum, load_less n i one own lf S.front some u1, load_new n i one uo u2 lt (omega arith) refl);
          },
          omega (arith, A.closer, load_less n i (heavy M g) own lf S.front some u1, load_new n i (heavy M g) uo u2 lt (omega arith) refl),
          (λ j m ne. u2.off j (λ p. omega (arith, ap own p, m, z)) ∙ u1.off j ne),
        )
      where
        cap : (j : ℕ) → own' j ≡ suc i → Dec (j ≡ t) → Dec (j ≡ f) → hold² j ≤ M.depth
        cap j m (yes p) d = omega (arith, u2.at, ap hold² p, M.deep)
        cap j m (no nt) (yes p) = omega (arith, u2.off j nt, ap hold¹ p, u1.at, F.cap f S.front)
        cap j m (no nt) (no nf) = omega (arith, u2.off j nt, u1.off j nf, F.cap j (sym (uo.off j nt) ∙ m))

    -- the rear, which is empty, is given up with no flit at the source
    module _ {own' hold' : ℕ → ℕ} (ew : w ≡ 0) (z : hold q ≡ 0) (uo : Upd own own' q 0) (uh : Upd hold hold' q 0) where
      -- that takes no move from those that are left
      pub yet_shorten : yet M i g away own' hold' w ≡ yet M i g away own hold w
      unfolding yet
      yet_shorten = omega (arith, load_gone M.numbers i (heavy M g) uo uh (low q S.rear) S.rear z refl)

      as_many : load M.numbers i one own' hold' ≡ load M.numbers i one own hold
      as_many = load_gone M.numbers i one uo uh (low q S.rear) S.rear z refl

      pub fill_shorten : {y : ℕ} → next q ≡ suc y → Fill M i g away own' hold' flits w e y f
      fill_shorten {y} nx =
          record {
            cap = λ k m.
                let ne : k ≢ q = λ v. omega (arith, ap own' v, uo.at, m) in
                omega (arith, uh.off k ne, F.cap k (sym (uo.off k ne) ∙ m));
            near = λ v. absurd (omega arith);
            head = λ ne. omega (arith, F.head ne, uh.off f (λ v. omega (arith, ap next v, S.end, nx)));
            sum = omega (arith, F.sum, as_many);
          }

      -- where that was the last channel, all flits are eaten
      pub fill_end : ((k : ℕ) → own' k ≢ suc i) → e ≡ flits
      fill_end nothing = omega (arith, F.sum, as_many, load_none M.numbers i one own' hold' nothing)
