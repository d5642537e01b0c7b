-- The house numbering rises: each rule's formulas over the distances to the four edges, direction by direction, by arithmetic; then
-- a hop of a mesh as a change of those distances. Assumes nothing.
use Prim.Native.Nat.{ℕ, suc, ◌+◌, ◌*◌, ◌-◌, ◌<◌}
use mathlib.Core.Path.{◌≡◌, ap, sym}
use native.Mathlib.Omega.{arith}
use lib.Dec.{T, ltb→lt}
use Rattle.route.specs.declared.places.Place.{Place}
use Rattle.route.specs.Grid.{horiz, vert, less, more, Dir, go, west, east, south, north, coord, hop}
use Rattle.route.specs.Turns.{Parity, even, odd, parity, going, allowed, Rule, xy, west_first, north_last, negative_first, odd_even, rule_table}
use Rattle.route.specs.Mesh.{Mesh, Inside, exists, turn, ruled}
use Rattle.route.specs.House.{formula, house}
use Rattle.route.proofs.Every.{dirs, pairs}

-- ---- over the distances to the edges
-- from a column of parity q by a to one of parity p, and on by e; of c, u, r and d, those on the axis of a leave out that hop
abbrev Rise : Rule → Parity → Parity → ℕ → ℕ → ℕ → ℕ → Dir → Dir → Type 0
Rise k p q c u r d (go horiz less) e =
    T (allowed (rule_table k p) (going west) e) → formula k q (c + u + 2) (r + d + 1) (suc c) u r d west < formula k p (c + u + 2) (r + d + 1) c (suc u) r d e
Rise k p q c u r d (go horiz more) e =
    T (allowed (rule_table k p) (going east) e) → formula k q (c + u + 2) (r + d + 1) c (suc u) r d east < formula k p (c + u + 2) (r + d + 1) (suc c) u r d e
Rise k p q c u r d (go vert less) e =
    T (allowed (rule_table k p) (going south) e) → formula k p (c + u + 1) (r + d + 2) c u (suc r) d south < formula k p (c + u + 1) (r + d + 2) c u r (suc d) e
Rise k p q c u r d (go vert more) e =
    T (allowed (rule_table k p) (going north) e) → formula k p (c + u + 1) (r + d + 2) c u r (suc d) north < formula k p (c + u + 1) (r + d + 2) c u (suc r) d e

rise : (k : Rule) (p q : Parity) (c u r d : ℕ) (a e : Dir) → Rise k p q c u r d a e
rise xy p q c u r d = pairs (Rise xy p q c u r d) (omega arith)
rise west_first p q c u r d = pairs (Rise west_first p q c u r d) (omega arith)
rise north_last p q c u r d = pairs (Rise north_last p q c u r d) (omega arith)
rise negative_first p q c u r d = pairs (Rise negative_first p q c u r d) (omega arith)
rise odd_even even q c u r d = pairs (Rise odd_even even q c u r d) (omega arith)
rise odd_even odd q c u r d = pairs (Rise odd_even odd q c u r d) (omega arith)

-- each formula is below twice the product of the sides, each longer by one
abbrev Below : Rule → Parity → ℕ → ℕ → ℕ → ℕ → Dir → Type 0
Below k p c u r d e = formula k p (c + u + 1) (r + d + 1) c u r d e < 2 * ((c + u + 1 + 1) * (r + d + 1 + 1))

below : (k : Rule) (p : Parity) (c u r d : ℕ) (e : Dir) → Below k p c u r d e
below xy p c u r d = dirs (Below xy p c u r d) (omega arith)
below west_first p c u r d = dirs (Below west_first p c u r d) (omega arith)
below north_last p c u r d = dirs (Below north_last p c u r d) (omega arith)
below negative_first p c u r d = dirs (Below negative_first p c u r d) (omega arith)
below odd_even even c u r d = dirs (Below odd_even even c u r d) (omega arith)
below odd_even odd c u r d = dirs (Below odd_even odd c u r d) (omega arith)

-- ---- in a mesh
-- a hop changes the distances to the edges
abbrev Moved : Dir → (c u r d c' u' r' d' : ℕ) → Type 0
Moved (go horiz less) c u r d c' u' r' d' = (c ≡ suc c') × (u' ≡ suc u) × (r' ≡ r) × (d' ≡ d)
Moved (go horiz more) c u r d c' u' r' d' = (u ≡ suc u') × (c' ≡ suc c) × (r' ≡ r) × (d' ≡ d)
Moved (go vert less) c u r d c' u' r' d' = (r ≡ suc r') × (d' ≡ suc d) × (c' ≡ c) × (u' ≡ u)
Moved (go vert more) c u r d c' u' r' d' = (d ≡ suc d') × (r' ≡ suc r) × (c' ≡ c) × (u' ≡ u)

moved : (m : Mesh) (n : Place) (a : Dir) → Inside m n → T (exists m n a)
    → let C = m.columns in let R = m.rows in let c = coord horiz n in let r = coord vert n in
    let c' = coord horiz (hop a n) in let r' = coord vert (hop a n) in
    Moved a c (C - 1 - c) r (R - 1 - r) c' (C - 1 - c') r' (R - 1 - r')
moved m n (go horiz less) i x = omega (arith, ltb→lt)
moved m n (go horiz more) i x = omega (arith, ltb→lt)
moved m n (go vert less) i x = omega (arith, ltb→lt)
moved m n (go vert more) i x = omega (arith, ltb→lt)

-- the parity of the column before counts only for a column's own channels
at_hop : (k : Rule) (p q : Parity) (C R c u r d c' u' r' d' : ℕ) (a e : Dir) → Moved a c u r d c' u' r' d' → C ≡ c + u + 1 → R ≡ r + d + 1
    → (c' ≡ c → q ≡ p) → T (allowed (rule_table k p) (going a) e) → formula k q C R c u r d a < formula k p C R c' u' r' d' e
at_hop k p q C R c u r d c' u' r' d' (go horiz less) e v x y z t =
    let x' : C ≡ c' + u + 2 = omega arith in
    rw (x', y, v.0, v.1, v.2, v.3) (rise k p q c' u r d west e t)
at_hop k p q C R c u r d c' u' r' d' (go horiz more) e v x y z t =
    let x' : C ≡ c + u' + 2 = omega arith in
    rw (x', y, v.0, v.1, v.2, v.3) (rise k p q c u' r d east e t)
at_hop k p q C R c u r d c' u' r' d' (go vert less) e v x y z t =
    let y' : R ≡ r' + d + 2 = omega arith in
    rw (x, y', z v.2, v.0, v.1, v.2, v.3) (rise k p q c u r' d south e t)
at_hop k p q C R c u r d c' u' r' d' (go vert more) e v x y z t =
    let y' : R ≡ r + d' + 2 = omega arith in
    rw (x, y', z v.2, v.0, v.1, v.2, v.3) (rise k p q c u r d' north e t)

-- from the channel that leaves n by a to the one that a packet takes next by e
pub rises : (k : Rule) (C R f : ℕ) (n : Place) (a e : Dir) → Inside (ruled k C R f) n → T (exists (ruled k C R f) n a)
    → T (turn (ruled k C R f) (coord horiz (hop a n)) (going a) e) → house k (ruled k C R f) n a < house k (ruled k C R f) (hop a n) e
unfolding turn house
rises k C R f n a e i x t =
    let c = coord horiz n in
    let r = coord vert n in
    let c' = coord horiz (hop a n) in
    let r' = coord vert (hop a n) in
    at_hop k (parity (c' + f)) (parity (c + f)) C R c (C - 1 - c) r (R - 1 - r) c' (C - 1 - c') r' (R - 1 - r') a e
    (moved (ruled k C R f) n a i x) (omega arith) (omega arith) (λ z. ap (λ y. parity (y + f)) (sym z)) t

-- no house number reaches this
pub bounded : (k : Rule) (m : Mesh) (n : Place) (d : Dir) → Inside m n → house k m n d < 2 * ((m.columns + 1) * (m.rows + 1))
unfolding house
bounded k m n d i =
    let c = coord horiz n in
    let r = coord vert n in
    let u = m.columns - 1 - c in
    let v = m.rows - 1 - r in
    let x : m.columns ≡ c + u + 1 = omega arith in
    let y : m.rows ≡ r + v + 1 = omega arith in
    within m.columns m.rows u v x y
  where
    within : (C R u v : ℕ) → C ≡ coord horiz n + u + 1 → R ≡ coord vert n + v + 1
        → formula k (parity (coord horiz n + m.first)) C R (coord horiz n) u (coord vert n) v d < 2 * ((C + 1) * (R + 1))
    within C R u v x y = rw (x, y) (below k (parity (coord horiz n + m.first)) (coord horiz n) u (coord vert n) v d)
