-- The closed form is exact for every turn table: by induction on the distance, in the quadrant between the packet and its
-- destination, from the one-hop laws of paths and of the closed form. Assumes nothing.
use Prim.Native.Nat.{ℕ, zero, suc, ◌+◌, ◌%◌, ◌<◌}
use mathlib.Core.Path.{◌≡◌, refl}
use mathlib.Core.Logic.{⊎_elim, ◌↔◌}
use mathlib.Core.List.{List, [], ◌∷◌}
use mathlib.Core.Bool.{Bool, true, false, ◌&&◌, ◌||◌, or_comm}
use native.Mathlib.Omega.{arith}
use mir.Facts.{and_yes, yes_and, or_yes}
use lib.Dec.{T}
use Rattle.route.specs.declared.places.Place.{Place}
use Rattle.route.specs.Grid.{Axis, horiz, vert, Sense, less, more, Dir, go, coord, hop, gap, dist}
use Rattle.route.specs.Turns.{Arrival, going, same}
use Rattle.route.specs.Mesh.{Mesh, Inside, exists, turn}
use Rattle.route.specs.Paths.{Shortest, answer}
use Rattle.route.proofs.Tests.{or_l, or_r, tests_alike}
use Rattle.route.proofs.Axis.{left, toward, Left, left_is, gap_is, same_parity, stepped, has_room, only, aim}
use Rattle.route.proofs.Shortest.{ahead, home, first_hop, hop_iff, by_paths}
use Rattle.route.proofs.Closed.{across, along, done, across_hop, along_hop}

-- ---- the turn test goes by the parity of the column, and lets a packet go straight on
pub alike : (m : Mesh) (x y : ℕ) (a : Arrival) (d : Dir) → x % 2 ≡ y % 2 → turn m x a d ≡ turn m y a d
unfolding turn
alike m x y a d h =
    let e : (x + m.first) % 2 ≡ (y + m.first) % 2 = omega arith in
    rw e refl

pub same_self : (s : Sense) → same s s ≡ true
same_self less = refl
same_self more = refl

straight : (m : Mesh) (x : ℕ) (d : Dir) → turn m x (going d) d ≡ true
unfolding turn
straight m x (go horiz s) = same_self s
straight m x (go vert s) = same_self s

done_zero : (dx dy : ℕ) → T (done dx dy) ↔ (dx + dy ≡ 0)
done_zero zero zero = (λ z. refl, λ z. tt)
done_zero zero (suc dy) = (λ z. absurd z, λ z. omega arith)
done_zero (suc dx) dy = (λ z. absurd z, λ z. omega arith)

-- ---- towards t, by hops in two directions
module _ (m : Mesh) (t : Place) (toward_t : Axis → Sense) where
  abbrev way : Axis → Dir
  way x = go x (toward_t x)

  abbrev hv : ℕ → Bool
  hv k = turn m (coord horiz t + k) (going (way horiz)) (way vert)

  abbrev vh : ℕ → Bool
  vh k = turn m (coord horiz t + k) (going (way vert)) (way horiz)

  abbrev pub closed : Axis → ℕ → ℕ → Bool
  closed horiz dx dy = across hv vh dx dy
  closed vert dx dy = along vh dx dy

  -- with dx columns and dy rows to go
  abbrev Box : Place → ℕ → ℕ → Type 0
  Box n dx dy = Left (toward_t horiz) (coord horiz n) (coord horiz t) dx × Left (toward_t vert) (coord vert n) (coord vert t) dy

  abbrev pub in_closed : Place → Arrival → ℕ → ℕ → Axis → Bool
  in_closed n a dx dy x = turn m (coord horiz n) a (way x) && closed x dx dy

  -- t is here, or a hop towards it is in the closed form
  abbrev open? : Place → Arrival → ℕ → ℕ → Bool
  open? n a dx dy = done dx dy || (in_closed n a dx dy horiz || in_closed n a dx dy vert)

  far : (n : Place) (dx dy : ℕ) → Box n dx dy → dist n t ≡ dx + dy
  unfolding dist
  far n dx dy b = omega (arith, gap_is b.0, gap_is b.1)

  period : (a : Arrival) (d : Dir) (k : ℕ) → turn m (coord horiz t + suc (suc k)) a d ≡ turn m (coord horiz t + k) a d
  period a d k = alike m (coord horiz t + suc (suc k)) (coord horiz t + k) a d (omega arith)

  -- the closed form with one hop more to go along x
  abbrev closed_on : Axis → ℕ → ℕ → Bool
  closed_on horiz dx dy = closed horiz (suc dx) dy
  closed_on vert dx dy = closed vert dx (suc dy)

  after : (x : Axis) (n : Place) (dx dy : ℕ) → Box n dx dy → closed_on x dx dy ≡ open? n (going (way x)) dx dy
  after horiz n dx dy b =
      rw (straight m (coord horiz n) (way horiz), alike m (coord horiz n) (coord horiz t + dx) (going (way horiz)) (way vert) (same_parity b.0))
      (across_hop hv vh (period (going (way horiz)) (way vert)) (period (going (way vert)) (way horiz)) dx dy)
  after vert n dx dy b =
      rw (
        straight m (coord horiz n) (way vert),
        alike m (coord horiz n) (coord horiz t + dx) (going (way vert)) (way horiz) (same_parity b.0),
        or_comm (vh dx && across hv vh dx dy) (along vh dx dy),
      )
      (along_hop hv vh (period (going (way horiz)) (way vert)) (period (going (way vert)) (way horiz)) dx dy)

  -- ---- in the closed form, and first on a shortest path
  abbrev By : Place → Arrival → Dir → Type 0
  By n a d = (p : List Dir) × Shortest m n a t (d ∷ p)

  abbrev Reach : ℕ → Type 0
  Reach k = (n : Place) (a : Arrival) (dx dy : ℕ) → dx + dy < k → Box n dx dy → T (open? n a dx dy) ↔ ((p : List Dir) × Shortest m n a t p)

  -- a path has no hop, or begins along the row, or along the column
  module _ (n : Place) (a : Arrival) (dx dy : ℕ) (b : Box n dx dy) (by : (x : Axis) → T (in_closed n a dx dy x) ↔ By n a (way x)) where
    forth : T (open? n a dx dy) → (p : List Dir) × Shortest m n a t p
    forth o =
        ⊎_elim
        (λ z. let e : dist n t ≡ 0 = omega (arith, (done_zero dx dy).0 z, far n dx dy b) in
        ([], record { lawful = (home n t).1 e; least = omega arith }))
        (λ z. ⊎_elim (λ y. (way horiz ∷ ((by horiz).0 y).0, ((by horiz).0 y).1)) (λ y. (way vert ∷ ((by vert).0 y).0, ((by vert).0 y).1))
        (or_yes (in_closed n a dx dy horiz) (in_closed n a dx dy vert) z))
        (or_yes (done dx dy) (in_closed n a dx dy horiz || in_closed n a dx dy vert) o)

    back : (p : List Dir) → Shortest m n a t p → T (open? n a dx dy)
    back [] q = or_l (done dx dy) _ ((done_zero dx dy).1 (omega (arith, far n dx dy b, q.least)))
    back (go horiz s ∷ p) q =
        or_r (done dx dy) _
        (or_l (in_closed n a dx dy horiz) _ ((by horiz).1 (p, rw (only s b.0 (first_hop m t q).0) at q)))
    back (go vert s ∷ p) q =
        or_r (done dx dy) _
        (or_r (in_closed n a dx dy horiz) _ ((by vert).1 (p, rw (only s b.1 (first_hop m t q).0) at q)))

  module _ (inside : Inside m t) where
    -- no hop along x is left, so none begins a path
    none : (x : Axis) (n : Place) (a : Arrival) → left (toward_t x) (coord x n) (coord x t) ≡ 0 → T (turn m (coord horiz n) a (way x) && false) ↔ By n a (way x)
    none x n a z =
        (λ o. absurd (and_yes (turn m (coord horiz n) a (way x)) false o).1, λ q. absurd (omega (arith, (first_hop m t q.1).0)))

    -- a hop along x is left: it begins a path exactly if the turn is allowed and the closed form goes on from there
    hopped : (k : ℕ) → Reach k → (x : Axis) (n : Place) (a : Arrival) (dx dy : ℕ) → dx + dy < k → Box (hop (way x) n) dx dy
        → T (exists m n (way x)) → 0 < ahead (way x) n t → T (turn m (coord horiz n) a (way x) && closed_on x dx dy) ↔ By n a (way x)
    hopped k f x n a dx dy i b r z =
        hop_iff m t n a (way x) (closed_on x dx dy) r z
        (rw (after x (hop (way x) n) dx dy b) (f (hop (way x) n) (going (way x)) dx dy i b))

    at : (k : ℕ) → Reach k → (n : Place) (a : Arrival) (dx dy : ℕ) → dx + dy < suc k → Box n dx dy → (x : Axis) → T (in_closed n a dx dy x) ↔ By n a (way x)
    unfolding across along
    at k f n a zero dy i b horiz = none horiz n a (left_is b.0)
    at k f n a (suc dx) dy i b horiz =
        hopped k f horiz n a dx dy (omega arith) (stepped b.0, b.1) (has_room b.0 inside.0) (omega (arith, left_is b.0))
    at k f n a dx zero i b vert = none vert n a (left_is b.1)
    at k f n a dx (suc dy) i b vert =
        hopped k f vert n a dx dy (omega arith) (b.0, stepped b.1) (has_room b.1 inside.1) (omega (arith, left_is b.1))

    reach : (k : ℕ) → Reach k
    reach zero n a dx dy i b = absurd (omega arith)
    reach (suc k) n a dx dy i b =
        let by = at k (reach k) n a dx dy i b in
        (forth n a dx dy b by, λ q. back n a dx dy b by q.0 q.1)

-- ---- at n
-- the way to t along each axis
abbrev pub aims : Place → Place → Axis → Sense
aims n t x = toward (coord x n) (coord x t)

-- a hop towards t along x is in the closed form
abbrev pub leads : Mesh → Place → Arrival → Place → Axis → Bool
leads m n a t x = in_closed m t (aims n t) n a (gap (coord horiz n) (coord horiz t)) (gap (coord vert n) (coord vert t)) x

aimed : (n t : Place) (x : Axis) → Left (aims n t x) (coord x n) (coord x t) (gap (coord x n) (coord x t))
aimed n t x = aim (coord x n) (coord x t)

is_same : (s u : Sense) → s ≡ u → T (same s u)
is_same s u e = rw (e, same_self u) tt

same_is : (s u : Sense) → T (same s u) → s ≡ u
same_is less less h = refl
same_is less more h = absurd h
same_is more less h = absurd h
same_is more more h = refl

module _ (m : Mesh) (n : Place) (a : Arrival) (t : Place) (inside : Inside m t) where
  towards : (x : Axis) → T (leads m n a t x) ↔ ((p : List Dir) × Shortest m n a t (go x (aims n t x) ∷ p))
  towards x =
      let dx = gap (coord horiz n) (coord horiz t) in
      let dy = gap (coord vert n) (coord vert t) in
      at m t (aims n t) inside (dx + dy) (reach m t (aims n t) inside (dx + dy)) n a dx dy (omega arith) (aimed n t horiz, aimed n t vert) x

  begun : (x : Axis) (s : Sense) (p : List Dir) → Shortest m n a t (go x s ∷ p) → T (same s (aims n t x) && leads m n a t x)
  begun x s p q =
      let e : s ≡ aims n t x = only s (aimed n t x) (first_hop m t q).0 in
      yes_and (same s (aims n t x)) (leads m n a t x) (is_same s (aims n t x) e) ((towards x).1 (p, rw e at q))

  -- a direction is in the answer exactly if it leads towards t and is in the closed form
  pub exact : (x : Axis) (s : Sense) → answer m n a t (go x s) ≡ same s (aims n t x) && leads m n a t x
  exact x s =
      tests_alike (answer m n a t (go x s)) (same s (aims n t x) && leads m n a t x) (
        λ o. let w = (by_paths m n a t (go x s)).0 o in begun x s w.0 w.1,
        λ o. let w = and_yes (same s (aims n t x)) (leads m n a t x) o in
            (by_paths m n a t (go x s)).1 (rw (same_is s (aims n t x) w.0) ((towards x).0 w.1)),
      )

  -- so a hop that leads towards t and is in the closed form is in the answer
  pub in_answer : (x : Axis) → T (leads m n a t x) → (d : Dir) × T (answer m n a t d)
  in_answer x h = (go x (aims n t x), rw (exact x (aims n t x), same_self (aims n t x)) h)
