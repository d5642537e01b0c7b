-- One packet's channels: a run from its rear to its front, told channel by channel, so that no list of them is needed. What a move does to it,
-- by the cases of the channels that it changes. Assumes nothing.
use Prim.Native.Nat.{ℕ, suc, ◌≤◌, ◌<◌}
use mathlib.Core.Path.{◌≡◌, refl, sym, ap, ◌∙◌}
use mathlib.Core.Logic.{◌≢◌}
use native.Mathlib.Decide.{ℕ_discrete}
use native.Mathlib.Omega.{arith}
use lib.Dec.{T}
use Rattle.route.specs.declared.places.Place.{Place}
use Rattle.route.specs.Grid.{Dir}
use Rattle.route.specs.Turns.{going}
use Rattle.wormhole.proofs.Draining.Network.{Network}
use Rattle.wormhole.proofs.Draining.Sums.{Upd}

-- how far from the goal a channel ends
abbrev pub gap : Network → Place → ℕ → ℕ
gap M g k = M.dist (M.far k) g

-- a header in channel k has a direction to go, unless the channel leads to the goal
abbrev pub Way : Network → Place → ℕ → Type 0
Way M g k = gap M g k ≢ 0 → (d : Dir) × T (M.answer (M.far k) (going (M.way k)) g d)

-- a channel that a header which is so far away may take
pub record Ahead (M : Network) (g : Place) (away t : ℕ) : Type 0 where
  pub real : T (M.exists t)
  pub closer : suc (gap M g t) ≡ away
  pub on : Way M g t

-- channel k of packet i, whose rear is q and whose front is f
pub record Chan (M : Network) (i : ℕ) (g : Place) (own next : ℕ → ℕ) (q f k : ℕ) : Type 0 where
  pub real : T (M.exists k)
  pub last : next k ≡ 0 → k ≡ f
  pub nearer : (y : ℕ) → next k ≡ suc y → (own y ≡ suc i) × (suc (gap M g y) ≡ gap M g k)
  pub below : gap M g k ≤ gap M g q
  pub above : gap M g f ≤ gap M g k
  pub rank : M.rank k ≤ M.rank f

pub record Shape (M : Network) (i : ℕ) (g : Place) (own next : ℕ → ℕ) (q f : ℕ) : Type 0 where
  pub rear : own q ≡ suc i
  pub front : own f ≡ suc i
  pub end : next f ≡ 0
  pub at : (k : ℕ) → own k ≡ suc i → Chan M i g own next q f k
  pub one : (k j : ℕ) → own k ≡ suc i → own j ≡ suc i → gap M g k ≡ gap M g j → k ≡ j
  pub way : Way M g f

module _ {M : Network} {i : ℕ} {g : Place} where
  -- nothing of packet i has changed
  pub shape_kept : {own next own' next' : ℕ → ℕ} {q f : ℕ}
      → ((k : ℕ) → own k ≡ suc i → (own' k ≡ suc i) × (next' k ≡ next k)) → ((k : ℕ) → own' k ≡ suc i → own k ≡ suc i)
      → Shape M i g own next q f → Shape M i g own' next' q f
  shape_kept {own} {next} {own'} {next'} {q} {f} keep back S =
      record {
        rear = (keep q S.rear).0;
        front = (keep f S.front).0;
        end = (keep f S.front).1 ∙ S.end;
        at = λ k e.
            let C = S.at k (back k e) in
            let en : next' k ≡ next k = (keep k (back k e)).1 in
            record {
              real = C.real;
              last = λ z. C.last (sym en ∙ z);
              nearer = λ y z. let c = C.nearer y (sym en ∙ z) in ((keep y c.0).0, c.1);
              below = C.below;
              above = C.above;
              rank = C.rank;
            };
        one = λ k j ek ej. S.one k j (back k ek) (back j ej);
        way = S.way;
      }

  -- the first channel, t
  pub shape_start : {own own' next' : ℕ → ℕ} {away t : ℕ} → ((k : ℕ) → own k ≢ suc i)
      → Upd own own' t (suc i) → next' t ≡ 0 → Ahead M g away t → Shape M i g own' next' t t
  shape_start {own} {own'} {next'} {away} {t} nothing u z A =
      record {
        rear = u.at;
        front = u.at;
        end = z;
        at = λ k e. rw (is k e (ℕ_discrete k t)) here;
        one = λ k j ek ej e. is k ek (ℕ_discrete k t) ∙ sym (is j ej (ℕ_discrete j t));
        way = A.on;
      }
    where
      is : (k : ℕ) → own' k ≡ suc i → Dec (k ≡ t) → k ≡ t
      is k e (yes p) = p
      is k e (no ne) = absurd (nothing k (sym (u.off k ne) ∙ e))

      here : Chan M i g own' next' t t t
      here =
          record {
            real = A.real;
            last = λ p. refl;
            nearer = λ y p. absurd (omega arith);
            below = omega arith;
            above = omega arith;
            rank = omega arith;
          }

  -- the front moves on to t, which was free
  pub shape_advance : {own next own' next¹ next² : ℕ → ℕ} {q f t : ℕ} → Shape M i g own next q f → own t ≡ 0
      → Upd own own' t (suc i) → Upd next next¹ f (suc t) → Upd next¹ next² t 0 → Ahead M g (gap M g f) t → M.rank f < M.rank t
      → Shape M i g own' next² q t
  shape_advance {own} {next} {own'} {next¹} {next²} {q} {f} {t} S z uo u1 u2 A up =
      record {
        rear = keep q S.rear;
        front = uo.at;
        end = u2.at;
        at = λ k e. at k e (ℕ_discrete k t) (ℕ_discrete k f);
        one = λ k j ek ej. one k j ek ej (ℕ_discrete k t) (ℕ_discrete j t);
        way = A.on;
      }
    where
      other : (k : ℕ) → own k ≡ suc i → k ≢ t
      other k e p = let w : own k ≡ own t = ap own p in omega arith

      keep : (k : ℕ) → own k ≡ suc i → own' k ≡ suc i
      keep k e = uo.off k (other k e) ∙ e

      closer : suc (gap M g t) ≡ gap M g f
      closer = A.closer

      at_f : Chan M i g own next q f f
      at_f = S.at f S.front

      here : Chan M i g own' next² q t t
      here =
          let b : gap M g f ≤ gap M g q = at_f.below in
          record {
            real = A.real;
            last = λ p. refl;
            nearer = λ y p. let w : next² t ≡ 0 = u2.at in absurd (omega arith);
            below = omega (arith, closer);
            above = omega arith;
            rank = omega arith;
          }

      at_front : Chan M i g own' next² q t f
      at_front =
          let e : next² f ≡ suc t = u2.off f (other f S.front) ∙ u1.at in
          record {
            real = at_f.real;
            last = λ p. absurd (omega arith);
            nearer = λ y p.
                let w : t ≡ y = omega arith in
                (rw (← w) uo.at, rw (← w) closer);
            below = at_f.below;
            above = omega (arith, closer);
            rank = omega arith;
          }

      at : (k : ℕ) → own' k ≡ suc i → Dec (k ≡ t) → Dec (k ≡ f) → Chan M i g own' next² q t k
      at k e (yes p) p' = rw p here
      at k e (no ne) (yes p) = rw p at_front
      at k e (no ne) (no nf) =
          let C = S.at k (sym (uo.off k ne) ∙ e) in
          let en : next² k ≡ next k = u2.off k ne ∙ u1.off k nf in
          record {
            real = C.real;
            last = λ p. absurd (nf (C.last (sym en ∙ p)));
            nearer = λ y p. let c = C.nearer y (sym en ∙ p) in (keep y c.0, c.1);
            below = C.below;
            above = omega (arith, closer, C.above);
            rank = omega (arith, C.rank);
          }

      farther : (k : ℕ) → own' k ≡ suc i → k ≢ t → gap M g t < gap M g k
      farther k e ne = omega (arith, closer, (S.at k (sym (uo.off k ne) ∙ e)).above)

      one : (k j : ℕ) → own' k ≡ suc i → own' j ≡ suc i → Dec (k ≡ t) → Dec (j ≡ t) → gap M g k ≡ gap M g j → k ≡ j
      one k j ek ej (yes p) (yes p') e = p ∙ sym p'
      one k j ek ej (yes p) (no ne) e = absurd (omega (arith, e, ap (gap M g) p, farther j ej ne))
      one k j ek ej (no ne) (yes p) e = absurd (omega (arith, e, ap (gap M g) p, farther k ek ne))
      one k j ek ej (no ne) (no ne') e = S.one k j (sym (uo.off k ne) ∙ ek) (sym (uo.off j ne') ∙ ej) e

  -- the rear is given up; its next, y, is the rear then
  pub shape_shorten : {own next own' next' : ℕ → ℕ} {q f y : ℕ} → Shape M i g own next q f → next q ≡ suc y
      → Upd own own' q 0 → Upd next next' q 0 → Shape M i g own' next' y f
  shape_shorten {own} {next} {own'} {next'} {q} {f} {y} S e uo un =
      record {
        rear = keep y near.0 not_y;
        front = keep f S.front not_f;
        end = un.off f not_f ∙ S.end;
        at = at;
        one = λ k j ek ej. S.one k j (back k ek) (back j ej);
        way = S.way;
      }
    where
      near : (own y ≡ suc i) × (suc (gap M g y) ≡ gap M g q)
      near = (S.at q S.rear).nearer y e

      not_y : y ≢ q
      not_y p = omega (arith, ap (gap M g) p, near.1)

      not_f : f ≢ q
      not_f p = omega (arith, ap next p, S.end)

      keep : (k : ℕ) → own k ≡ suc i → k ≢ q → own' k ≡ suc i
      keep k o ne = uo.off k ne ∙ o

      other : (k : ℕ) → own' k ≡ suc i → k ≢ q
      other k o p = omega (arith, ap own' p, uo.at)

      back : (k : ℕ) → own' k ≡ suc i → own k ≡ suc i
      back k o = sym (uo.off k (other k o)) ∙ o

      at : (k : ℕ) → own' k ≡ suc i → Chan M i g own' next' y f k
      at k o =
          let C = S.at k (back k o) in
          let en : next' k ≡ next k = un.off k (other k o) in
          let apart : gap M g k ≢ gap M g q = λ p. other k o (S.one k q (back k o) S.rear p) in
          record {
            real = C.real;
            last = λ p. C.last (sym en ∙ p);
            nearer = λ z p.
                let c = C.nearer z (sym en ∙ p) in
                (keep z c.0 (λ w. omega (arith, ap (gap M g) w, c.1, C.below)), c.1);
            below = omega (arith, near.1, C.below);
            above = C.above;
            rank = C.rank;
          }

  -- the rear was the last channel, and is given up: the packet has none
  pub shape_end : {own next own' : ℕ → ℕ} {q f : ℕ} → Shape M i g own next q f → next q ≡ 0 → Upd own own' q 0
      → (k : ℕ) → own' k ≢ suc i
  shape_end {own} {next} {own'} {q} {f} S e uo k o =
      let ne : k ≢ q = λ p. omega (arith, ap own' p, uo.at, o) in
      let b : own k ≡ suc i = sym (uo.off k ne) ∙ o in
      let C = S.at k b in
      let l : gap M g k ≡ gap M g q = omega (arith, ap (gap M g) ((S.at q S.rear).last e), C.below, C.above) in
      ne (S.one k q b S.rear l)
