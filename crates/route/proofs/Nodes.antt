-- The places of nodes and channels, and back: by the laws of quotient and remainder. Assumes nothing.
use Prim.Native.Nat.{ℕ, zero, suc, ◌*◌, ◌/◌, ◌%◌, ◌≤◌, ◌<◌}
use mathlib.Core.Path.{◌≡◌, refl}
use mathlib.Core.Bool.{Bool, true, false, ◌&&◌, ◌||◌}
use native.Mathlib.Nat.{mod-lt, div-lt_iff_lt-mul, div-add-mod, mul-le-mul}
use native.Mathlib.Omega.{arith}
use mir.Facts.{and_yes}
use lib.Arith.{digits_lt, digits_div, digits_mod}
use lib.Dec.{T, ltb, leb, eqb, ltb→lt, eqb→eq}
use borrow.Author.Tests.{leb-false, lt-ltb}
use Rattle.route.specs.declared.places.Place.{Place}
use Rattle.route.specs.Grid.{horiz, vert, less, more, Dir, go, coord, hop}
use Rattle.route.specs.Turns.{going}
use Rattle.route.specs.Mesh.{Mesh, Inside, exists, turn}
use Rattle.route.specs.Numbers.{node, place_of, number, channels}
use Rattle.route.specs.Served.{bad_mesh}
use Rattle.route.specs.Paths.{same_place}
use Rattle.route.specs.Channels.{channel, start, way, far, is_channel, in_turn}
use Rattle.route.proofs.Every.{dirs}
use Rattle.route.proofs.Tests.{neither, no_if, yes_if}
use Rattle.route.proofs.Codes.{dir_of_number}
use Rattle.route.proofs.Unless.{Served, served}

-- two nodes of a mesh that is served
pub record Nodes (C R rule n t : ℕ) : Type 0 where
  pub mesh : Served C R rule
  pub from : n < C * R
  pub to : t < C * R

pub nodes : (C R rule n t : ℕ) {k : ℕ} → k ≡ bad_mesh C R rule → k ≡ 0 → leb (C * R) n || leb (C * R) t ≡ false → Nodes C R rule n t
nodes C R rule n t hk h e =
    let b = neither e in
    record { mesh = served C R rule hk h; from = leb-false (C * R) n b.0; to = leb-false (C * R) t b.1 }

-- ---- places
one_place : (n t : Place) → T (same_place n t) → n ≡ t
one_place n t h =
    let e = and_yes (eqb (coord horiz n) (coord horiz t)) (eqb (coord vert n) (coord vert t)) h in
    λ i. record {
      column = record { 0 = eqb→eq (coord horiz n) (coord horiz t) e.0 i };
      row = record { 0 = eqb→eq (coord vert n) (coord vert t) e.1 i };
    }

-- ---- nodes
pub place_inside : (m : Mesh) (k : ℕ) → k < m.columns * m.rows → Inside m (place_of m.columns k)
place_inside m k h =
    let pos : 0 < m.columns = positive m.columns m.rows h in
    (mod-lt k pos, (div-lt_iff_lt-mul pos).1 (omega arith))
  where
    positive : (C R : ℕ) → k < C * R → 0 < C
    positive zero R i = absurd (omega arith)
    positive (suc C) R i = omega arith

pub node_below : (m : Mesh) (n : Place) → Inside m n → node m.columns n < m.columns * m.rows
node_below m n i = omega (arith, digits_lt i.1 i.0)

place_of_node : (C : ℕ) (n : Place) → coord horiz n < C → place_of C (node C n) ≡ n
place_of_node C n h =
    λ i. record { column = record { 0 = digits_mod (coord vert n) h i }; row = record { 0 = digits_div (coord vert n) h i } }

node_of_place : (C k : ℕ) → node C (place_of C k) ≡ k
node_of_place C k = omega (arith, div-add-mod k C)

pub hop_inside : (m : Mesh) (n : Place) (d : Dir) → Inside m n → T (exists m n d) → Inside m (hop d n)
hop_inside m n (go horiz less) i x = omega arith
hop_inside m n (go horiz more) i x = omega (arith, ltb→lt)
hop_inside m n (go vert less) i x = omega arith
hop_inside m n (go vert more) i x = omega (arith, ltb→lt)

-- ---- channels
pub dir_below : (d : Dir) → number d < 4
dir_below = dirs (λ d. number d < 4) (omega arith)

channel_node : (C : ℕ) (n : Place) (d : Dir) → channel C n d / 4 ≡ node C n
channel_node C n d = omega (arith, dir_below d)

pub channel_start : (C : ℕ) (n : Place) (d : Dir) → coord horiz n < C → start C (channel C n d) ≡ n
channel_start C n d h = rw (channel_node C n d) (place_of_node C n h)

pub channel_way : (C : ℕ) (n : Place) (d : Dir) → way (channel C n d) ≡ d
channel_way C n d =
    let e : channel C n d % 4 ≡ number d = omega (arith, dir_below d) in
    rw e (dir_of_number d)

pub channel_below : (m : Mesh) (n : Place) (d : Dir) → Inside m n → channel m.columns n d < channels m.columns m.rows
channel_below m n d i = omega (arith, node_below m n i, dir_below d)

pub start_inside : (m : Mesh) (k : ℕ) → k < channels m.columns m.rows → Inside m (start m.columns k)
start_inside m k h = place_inside m (k / 4) (omega arith)

-- the node of the place that a channel leaves
pub start_node : (C k : ℕ) → node C (start C k) ≡ k / 4
start_node C k = node_of_place C (k / 4)

-- a channel has a number in the list, and exists
pub channel_is : (m : Mesh) (i : ℕ) → T (is_channel m i) → (i < channels m.columns m.rows) × T (exists m (start m.columns i) (way i))
unfolding is_channel
channel_is m i h =
    let e = and_yes (ltb i (channels m.columns m.rows)) (exists m (start m.columns i) (way i)) h in
    (ltb→lt i (channels m.columns m.rows) e.0, e.1)

-- and leads to a place of the mesh
pub end_inside : (m : Mesh) (i : ℕ) → T (is_channel m i) → Inside m (far m.columns i)
end_inside m i h =
    let e = channel_is m i h in
    hop_inside m (start m.columns i) (way i) (start_inside m i e.0) e.1

-- channel o may be used after channel i
pub record Joined (m : Mesh) (i o : ℕ) : Type 0 where
  pub from : T (is_channel m i)
  pub to : T (is_channel m o)
  pub meets : far m.columns i ≡ start m.columns o
  pub turned : T (turn m (coord horiz (start m.columns o)) (going (way i)) (way o))

pub joined : (m : Mesh) (i o : ℕ) → T (in_turn m i o) → Joined m i o
unfolding in_turn
joined m i o h =
    let n = far m.columns i in
    let s = start m.columns o in
    let turns = turn m (coord horiz s) (going (way i)) (way o) in
    let a = and_yes (is_channel m i && is_channel m o) (same_place n s && turns) h in
    let b = and_yes (is_channel m i) (is_channel m o) a.0 in
    let c = and_yes (same_place n s) turns a.1 in
    record { from = b.0; to = b.1; meets = one_place n s c.0; turned = c.1 }

-- ---- sizes
pub bytes_fit : (a b : ℕ) → a ≤ 255 → b ≤ 255 → a * b ≤ 65025
bytes_fit a b h i = mul-le-mul h i

pub words_fit : (C R : ℕ) → C ≤ 64 → R ≤ 64 → channels C R ≤ 16384
words_fit C R h i = omega (arith, mul-le-mul h i)

-- ---- what the code has found of channel i: where it starts, its direction, whether it exists
module _ (m : Mesh) (i : ℕ) {s : Place} {w : Dir} {b : Bool} (low : i < channels m.columns m.rows) (hs : s ≡ start m.columns i) (hw : w ≡ way i) (hb : b ≡ exists m s w) where
  pub not_channel : b ≡ false → is_channel m i ≡ false
  unfolding is_channel
  not_channel h = rw (lt-ltb i (channels m.columns m.rows) low, rw (hs, hw) at (no_if hb h)) refl

  pub a_channel : b ≡ true → is_channel m i ≡ true
  unfolding is_channel
  a_channel h = rw (lt-ltb i (channels m.columns m.rows) low, rw (hs, hw) at (yes_if hb h)) refl
