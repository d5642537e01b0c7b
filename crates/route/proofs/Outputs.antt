-- What the code's tests of a few turns come to: by the exact closed form, along each axis. Assumes nothing.
use Prim.Native.Nat.{ℕ, suc, ◌+◌, ◌^◌, ◌≤◌, ◌<◌}
use mathlib.Core.Path.{◌≡◌, refl, sym}
use mathlib.Core.Logic.{◌↔◌}
use mathlib.Core.Bool.{and-false, Bool, true, false, ◌&&◌, ◌||◌, not, or-false}
use native.Mathlib.Omega.{arith}
use native.Mathlib.Nat.{add-zero}
use lib.Dec.{T, ltb, leb, eqb}
use borrow.Author.Tests.{eq-eqb, ne_eqb, le-leb, lt-leb}
use Rattle.route.specs.declared.places.Place.{Place}
use Rattle.route.specs.Grid.{pick, Axis, horiz, vert, Sense, less, more, Dir, go, west, east, south, north, coord, gap}
use Rattle.route.specs.Turns.{Arrival, going, same}
use Rattle.route.specs.Mesh.{Mesh, Inside, turn}
use Rattle.route.specs.Numbers.{number}
use Rattle.route.specs.Paths.{same_place, answer}
use Rattle.route.specs.Route.{values, outputs}
use Rattle.route.proofs.Every.{dirs}
use Rattle.route.proofs.Tests.{fails}
use Rattle.route.proofs.Axis.{toward, same_parity, aim}
use Rattle.route.proofs.Closed.{across_tests, along_tests}
use Rattle.route.proofs.Exact.{aims, leads, exact, alike}

-- of the two ways along an axis, the one towards t counts
one_way : (s : Sense) (b : Bool) → (same less s && b) || (same more s && b) ≡ b
one_way less b = or-false b
one_way more b = refl

one_value : (up b : Bool) (low high : ℕ) → let s = pick up more less in
    pick (same less s && b) low 0 + pick (same more s && b) high 0 ≡ pick b (pick up high low) 0
one_value true true low high = omega arith
one_value true false low high = refl
one_value false true low high = omega arith
one_value false false low high = refl

-- ---- the values of the ways towards t
row_value : (up : Bool) → 2 ^ number (go horiz (pick up more less)) ≡ pick up 2 1
row_value true = refl
row_value false = refl

column_value : (up : Bool) → 2 ^ number (go vert (pick up more less)) ≡ pick up 8 4
column_value true = refl
column_value false = refl

-- ---- along an axis
-- a shortest path begins along x
abbrev pub along_axis : Mesh → Place → Arrival → Place → Axis → Bool
along_axis m n a t x = answer m n a t (go x less) || answer m n a t (go x more)

-- what the code knows of the course from n to t: the two directions that lead there, and how many hops each
abbrev pub Led : Place → Place → Dir → Dir → ℕ → ℕ → Type 0
Led n t h v dx dy =
    (h ≡ go horiz (pick (ltb (coord horiz n) (coord horiz t)) more less))
    × (v ≡ go vert (pick (ltb (coord vert n) (coord vert t)) more less))
    × (dx ≡ gap (coord horiz n) (coord horiz t))
    × (dy ≡ gap (coord vert n) (coord vert t))

module _ (m : Mesh) (n : Place) (a : Arrival) (t : Place) (inside : Inside m t) {h v : Dir} {dx dy : ℕ} (led : Led n t h v dx dy) where
  abbrev c : ℕ
  c = coord horiz n

  abbrev e : ℕ
  e = coord horiz t

  abbrev row : Bool
  row = along_axis m n a t horiz

  abbrev column : Bool
  column = along_axis m n a t vert

  either_way : (x : Axis) → along_axis m n a t x ≡ leads m n a t x
  either_way x = rw (exact m n a t inside x less, exact m n a t inside x more) (one_way (aims n t x) (leads m n a t x))

  row_is :
      row
      ≡ turn m c a h
      && (not (eqb dx 0)
      && ((eqb dy 0 || turn m e (going h) v)
      || (leb 2 dx && (turn m (e + 1) (going h) v && turn m (e + 1) (going v) h))))
  unfolding toward
  row_is =
      rw (led.0, led.1, led.2, led.3, either_way horiz, across_tests)
      (simp add-zero)

  column_is : column ≡ turn m c a v && (not (eqb dy 0) && (eqb dx 0 || turn m c (going v) h))
  unfolding toward
  column_is =
      rw (led.0, led.1, led.2, led.3, either_way vert, along_tests)
      (rw (alike m c (e + gap c e) (going (go vert (pick (ltb (coord vert n) (coord vert t)) more less))) (go horiz (pick (ltb c e) more less)) (same_parity (aim c e))) refl)

  -- ---- the code's returns, each by the facts that its tests have taught
  -- level along the axis
  pub row_level : dx ≡ 0 → false ≡ row
  row_level z = rw (row_is, eq-eqb dx 0 z) (sym (and-false (turn m c a h)))

  pub column_level : dy ≡ 0 → false ≡ column
  column_level z = rw (column_is, eq-eqb dy 0 z) (sym (and-false (turn m c a v)))

  -- the turn from the arrival is not allowed
  pub row_barred : turn m c a h ≡ false → false ≡ row
  row_barred z = rw (row_is, z) refl

  pub column_barred : turn m c a v ≡ false → false ≡ column
  column_barred z = rw (column_is, z) refl

  -- along the column: straight to the destination, or by a turn back to the row
  module _ (enters : turn m c a v ≡ true) (away : 0 < dy) where
    pub column_straight : dx ≡ 0 → true ≡ column
    column_straight z = rw (column_is, enters, ne_eqb dy 0 (omega arith), eq-eqb dx 0 z) refl

    pub column_turns : {r : Bool} → 0 < dx → r ≡ turn m c (going v) h → r ≡ column
    column_turns i q = rw (column_is, enters, ne_eqb dy 0 (omega arith), ne_eqb dx 0 (omega arith)) q

  -- along the row: straight to the destination, by a turn in its column, or in the one beside it
  module _ (enters : turn m c a h ≡ true) (away : 0 < dx) where
    pub row_straight : dy ≡ 0 → true ≡ row
    row_straight z = rw (row_is, enters, ne_eqb dx 0 (omega arith), eq-eqb dy 0 z) refl

    module _ (off : 0 < dy) where
      pub row_turns : turn m e (going h) v ≡ true → true ≡ row
      row_turns z = rw (row_is, enters, ne_eqb dx 0 (omega arith), ne_eqb dy 0 (omega arith), z) refl

      module _ (no_turn : turn m e (going h) v ≡ false) where
        pub row_near : dx ≡ 1 → false ≡ row
        row_near z = rw (row_is, enters, ne_eqb dx 0 (omega arith), ne_eqb dy 0 (omega arith), no_turn, lt-leb 2 dx (omega arith)) refl

        module _ (far : 2 ≤ dx) where
          pub row_no_turn : turn m (e + 1) (going h) v ≡ false → false ≡ row
          row_no_turn z = rw (row_is, enters, ne_eqb dx 0 (omega arith), ne_eqb dy 0 (omega arith), no_turn, le-leb 2 dx far, z) refl

          pub row_back : {r : Bool} → turn m (e + 1) (going h) v ≡ true → r ≡ turn m (e + 1) (going v) h → r ≡ row
          row_back z q = rw (row_is, enters, ne_eqb dx 0 (omega arith), ne_eqb dy 0 (omega arith), no_turn, le-leb 2 dx far, z) q

  -- away from t the two axes make up the set
  pub set_is : same_place n t ≡ false → pick row (2 ^ number h) 0 + pick column (2 ^ number v) 0 ≡ outputs m n a t
  unfolding toward outputs
  set_is off =
      let x = exact m n a t inside in
      let p = one_value (ltb c e) (leads m n a t horiz) 1 2 in
      let q = one_value (ltb (coord vert n) (coord vert t)) (leads m n a t vert) 4 8 in
      rw (led.0, led.1, off, either_way horiz, either_way vert, x horiz less, x horiz more, x vert less, x vert more, row_value, column_value) (omega arith)

-- ---- a set is 0 exactly if it has no member
unset : (b : Bool) (k : ℕ) → pick b (suc k) 0 ≡ 0 → T b → ⊥
unset true k e h = omega arith
unset false k e h = h

pub empty_set : (here : Bool) (member : Dir → Bool) → (pick here 16 (values member) ≡ 0) ↔ ((T here → ⊥) × ((d : Dir) → T (member d) → ⊥))
empty_set true member = (λ e. absurd (omega arith), λ f. absurd (f.0 tt))
empty_set false member = (
  λ e. (
    λ h. h,
    dirs (λ d. T (member d) → ⊥) (
      unset (member west) 0 (omega arith),
      unset (member east) 1 (omega arith),
      unset (member south) 3 (omega arith),
      unset (member north) 7 (omega arith),
    ),
  ),
  λ f. rw (fails (member west) (f.1 west), fails (member east) (f.1 east), fails (member south) (f.1 south), fails (member north) (f.1 north)) refl,
)
