-- A hop changes the distance by one, so no legal path is shorter than the distance and each hop of a shortest one leads closer;
-- and the answer has a direction exactly if a shortest path begins with it. Assumes nothing.
use Prim.Native.Nat.{ℕ, zero, suc, ◌≤◌, ◌<◌}
use mathlib.Core.Path.{◌≡◌, refl, sym}
use mathlib.Core.Bool.{Bool, ◌&&◌, ◌||◌}
use mathlib.Core.List.{List, [], ◌∷◌}
use mathlib.Core.Logic.{⊎_elim, ◌↔◌}
use native.Mathlib.Nat.{eq-zero-or-pos}
use native.Mathlib.Omega.{arith}
use mir.Facts.{and_yes, yes_and, or_yes}
use lib.ListN.{length}
use lib.Dec.{T, eqb, eqb→eq, eqb_refl}
use Rattle.route.specs.declared.places.Place.{Place}
use Rattle.route.specs.Grid.{horiz, vert, Dir, go, west, east, south, north, coord, hop, gap, dist}
use Rattle.route.specs.Turns.{Arrival, going}
use Rattle.route.specs.Mesh.{Mesh, side, exists, turn}
use Rattle.route.specs.Numbers.{number}
use Rattle.route.specs.Paths.{same_place, legal, Shortest, some_dir, some_run, begins, answer}
use Rattle.route.proofs.Every.{dirs, number_apart}
use Rattle.route.proofs.Tests.{or_l, or_r}
use Rattle.route.proofs.Axis as axis

-- how many hops that way are left on a shortest path from n to t
abbrev pub ahead : Dir → Place → Place → ℕ
ahead (go x s) n t = axis.left s (coord x n) (coord x t)

-- ---- the distance
pub closer : (d : Dir) (n t : Place) → 0 < ahead d n t → dist n t ≡ suc (dist (hop d n) t)
unfolding dist
closer (go horiz s) n t h = omega (arith, axis.closer s (coord horiz n) (coord horiz t) h)
closer (go vert s) n t h = omega (arith, axis.closer s (coord vert n) (coord vert t) h)

further : (m : Mesh) (d : Dir) (n t : Place) → T (exists m n d) → ahead d n t ≡ 0 → dist (hop d n) t ≡ suc (dist n t)
unfolding dist
further m (go horiz s) n t x h = omega (arith, axis.further s (side m horiz) (coord horiz n) (coord horiz t) x h)
further m (go vert s) n t x h = omega (arith, axis.further s (side m vert) (coord vert n) (coord vert t) x h)

pub home : (n t : Place) → T (same_place n t) ↔ (dist n t ≡ 0)
unfolding dist gap
home n t =
    let c = coord horiz n in
    let e = coord horiz t in
    let r = coord vert n in
    let q = coord vert t in (
      λ h. let b = and_yes (eqb c e) (eqb r q) h in omega (arith, eqb→eq c e b.0, eqb→eq r q b.1),
      λ z. let x : c ≡ e = omega arith in
          let y : r ≡ q = omega arith in
          yes_and (eqb c e) (eqb r q) (rw x (eqb_refl e)) (rw y (eqb_refl q)),
    )

-- ---- shortest paths
module _ (m : Mesh) (t : Place) where
  -- what a legal path says of its first hop
  pub begun : (n : Place) (a : Arrival) (d : Dir) (p : List Dir) → T (legal m n a t (d ∷ p))
      → T (exists m n d) × T (turn m (coord horiz n) a d) × T (legal m (hop d n) (going d) t p)
  begun n a d p l =
      let x = and_yes (exists m n d) (turn m (coord horiz n) a d && legal m (hop d n) (going d) t p) l in
      let y = and_yes (turn m (coord horiz n) a d) (legal m (hop d n) (going d) t p) x.1 in
      (x.0, y.0, y.1)

  -- no legal path is shorter than the distance
  pub none_shorter : (p : List Dir) (n : Place) (a : Arrival) → T (legal m n a t p) → dist n t ≤ length p
  none_shorter [] n a l = omega (arith, (home n t).0 l)
  none_shorter (d ∷ p) n a l =
      let b = begun n a d p l in
      ⊎_elim (λ z. omega (arith, further m d n t b.0 z, none_shorter p (hop d n) (going d) b.2))
      (λ z. omega (arith, closer d n t z, none_shorter p (hop d n) (going d) b.2))
      (eq-zero-or-pos (ahead d n t))

  pub first_hop : {n : Place} {a : Arrival} {d : Dir} {p : List Dir} → Shortest m n a t (d ∷ p)
      → (0 < ahead d n t) × Shortest m (hop d n) (going d) t p
  first_hop {n} {a} {d} {p} s =
      let b = begun n a d p s.lawful in
      ⊎_elim (λ z. absurd (omega (arith, further m d n t b.0 z, none_shorter p (hop d n) (going d) b.2, s.least)))
      (λ z. (z, record { lawful = b.2; least = omega (arith, closer d n t z, s.least) }))
      (eq-zero-or-pos (ahead d n t))

  -- one hop: d begins a shortest path exactly if the turn is allowed and a shortest path goes on from there
  pub hop_iff : (n : Place) (a : Arrival) (d : Dir) (q : Bool) → T (exists m n d) → 0 < ahead d n t
      → T q ↔ ((p : List Dir) × Shortest m (hop d n) (going d) t p)
      → T (turn m (coord horiz n) a d && q) ↔ ((p : List Dir) × Shortest m n a t (d ∷ p))
  hop_iff n a d q x z f = (
    λ o. let g = and_yes (turn m (coord horiz n) a d) q o in
        let w = f.0 g.1 in (
          w.0,
          record {
            lawful = yes_and (exists m n d) _ x (yes_and (turn m (coord horiz n) a d) _ g.0 w.1.lawful);
            least = omega (arith, closer d n t z, w.1.least);
          },
        ),
    λ w. yes_and (turn m (coord horiz n) a d) q (begun n a d w.0 w.1.lawful).1 (f.1 (w.0, (first_hop w.1).1)),
  )

-- ---- the answer, by paths
some_dir_is : (test : Dir → Bool) → T (some_dir test) ↔ ((d : Dir) × T (test d))
some_dir_is test = (
  λ h. ⊎_elim (λ x. (west, x))
      (λ y. ⊎_elim (λ x. (east, x)) (λ z. ⊎_elim (λ x. (south, x)) (λ x. (north, x)) (or_yes (test south) (test north) z))
      (or_yes (test east) (test south || test north) y))
      (or_yes (test west) (test east || (test south || test north)) h),
  λ w. dirs (λ d. T (test d) → T (some_dir test)) (
    λ x. or_l (test west) _ x,
    λ x. or_r (test west) _ (or_l (test east) _ x),
    λ x. or_r (test west) _ (or_r (test east) _ (or_l (test south) _ x)),
    λ x. or_r (test west) _ (or_r (test east) _ (or_r (test south) _ x)),
  ) w.0 w.1,
)

abbrev Run : ℕ → (List Dir → Bool) → Type 0
Run k test = (p : List Dir) × (length p ≡ k) × T (test p)

found : (k : ℕ) (test : List Dir → Bool) → T (some_run k test) → Run k test
unfolding some_run
found zero test h = ([], refl, h)
found (suc k) test h =
    let w = (some_dir_is (λ d. some_run k (λ p. test (d ∷ p)))).0 h in
    let v = found k (λ p. test (w.0 ∷ p)) w.1 in
    (w.0 ∷ v.0, omega (arith, v.1), v.2)

finds : (p : List Dir) (test : List Dir → Bool) → T (test p) → T (some_run (length p) test)
unfolding some_run
finds [] test h = h
finds (d ∷ p) test h = (some_dir_is (λ d. some_run (length p) (λ p. test (d ∷ p)))).1 (d, finds p (λ p. test (d ∷ p)) h)

-- a direction is in the answer exactly if some shortest path begins with it
pub by_paths : (m : Mesh) (n : Place) (a : Arrival) (t : Place) (d : Dir) → T (answer m n a t d) ↔ ((p : List Dir) × Shortest m n a t (d ∷ p))
unfolding answer
by_paths m n a t d = (
  λ h. let w = found (dist n t) (λ p. begins d p && legal m n a t p) h in
      split w.0 w.1 (and_yes (begins d w.0) (legal m n a t w.0) w.2),
  λ w. rw (sym w.1.least) (finds (d ∷ w.0) (λ p. begins d p && legal m n a t p)
      (yes_and (eqb (number d) (number d)) _ (eqb_refl (number d)) w.1.lawful)),
)
  where
    split : (p : List Dir) → length p ≡ dist n t → T (begins d p) × T (legal m n a t p) → (p : List Dir) × Shortest m n a t (d ∷ p)
    split [] e h = absurd h.0
    split (f ∷ p) e h =
        (p, rw (number_apart d f (eqb→eq (number d) (number f) h.0)) (record { lawful = h.1; least = e }))
