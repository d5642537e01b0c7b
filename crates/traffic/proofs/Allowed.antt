-- The packet of a header that is not refused can be offered, and owes few moves: by its places in the mesh. Assumes nothing.
use Prim.Native.Nat.{ℕ, zero, suc, ◌+◌, ◌*◌, ◌/◌, ◌%◌, ◌≤◌, ◌<◌}
use mathlib.Core.Path.{◌≡◌, refl, sym, ap, ◌∙◌}
use mathlib.Core.List.{List, [], ◌∷◌}
use native.Mathlib.Nat.{mul-le-mul}
use native.Mathlib.Omega.{arith}
use lib.Arith.{digits_div, digits_mod}
use lib.Dec.{leb, eqb}
use lib.Ieee.Bits.{is_true}
use lib.ListN.{length, replicate}
use mir.Facts.{and_yes, yes_and, T_not, leb_yes, yes_eqb}
use borrow.Author.Tests.{lt-leb, ne_eqb}
use Rattle.route.specs.Grid.{horiz, vert, coord, gap, dist}
use Rattle.route.specs.Turns.{xy}
use Rattle.route.specs.Mesh.{Mesh, ruled}
use Rattle.route.specs.Numbers.{node, place_of}
use Rattle.route.specs.Served.{unless}
use Rattle.route.specs.Paths.{same_place}
use Rattle.route.proofs.Promises.{node_below, place_inside}
use Rattle.wormhole.specs.declared.records.Record.{Record}
use Rattle.wormhole.specs.Range.{flits_served}
use Rattle.wormhole.specs.Calls.{left, bad_packet}
use Rattle.traffic.specs.declared.headers.Header.{Header}
use Rattle.traffic.specs.Lists.{lead, after_lead, bad_headers, packets}
use Rattle.traffic.specs.Calls.{bad_read, read_answer, filled, read, due, dues}
use Rattle.traffic.proofs.Heads.{Good, first_good}

-- the refusal is what reading answers
pub read_answers : (bs w : List ℕ) (rs : List Record) → (read bs w rs).answer.refusal ≡ bad_read bs (length w) (length rs)
unfolding read
read_answers bs w rs = by (bad_read bs (length w) (length rs)) (replicate (length w) 0) (filled (packets (lead bs).columns (after_lead bs)) (length rs))
  where
    by : (k : ℕ) (v : List ℕ) (qs : List Record) → (unless (λ c. left (read_answer bs k) w rs) k (left (read_answer bs k) v qs)).answer.refusal ≡ k
    by zero v qs = refl
    by (suc k) v qs = refl

-- ---- the packet of a good header
module _ (C R : ℕ) (h : Header) (g : Good C R h) where
  abbrev a : ℕ
  a = node C h.source

  abbrev b : ℕ
  b = node C h.destination

  abbrev m : Mesh
  m = ruled xy C R 0

  from : a < C * R
  from = node_below m h.source (g.column, g.row)

  to : b < C * R
  to = node_below m h.destination (g.to_column, g.to_row)

  -- its places are two nodes
  two_nodes : a ≡ b → ⊥
  two_nodes e =
      let s = h.source in
      let d = h.destination in
      let i = sym (digits_mod (coord vert s) g.column) ∙ (ap (λ k. k % C) e ∙ digits_mod (coord vert d) g.to_column) in
      let j = sym (digits_div (coord vert s) g.column) ∙ (ap (λ k. k / C) e ∙ digits_div (coord vert d) g.to_column) in
      T_not (same_place s d) (yes_and (eqb (coord horiz s) (coord horiz d)) (eqb (coord vert s) (coord vert d)) (yes_eqb i) (yes_eqb j)) g.apart

  -- its offer is not refused for it
  pub good_packet : bad_packet C R a b h.flits ≡ 0
  good_packet = rw (lt-leb (C * R) a from, lt-leb (C * R) b to, is_true (flits_served h.flits) g.flits, ne_eqb a b two_nodes) refl

  -- what it owes is at most 200 flits times 30 channels and its arrival
  pub due_most : C ≤ 16 → R ≤ 16 → due C h ≤ 200 * 31
  unfolding dist gap
  due_most c r =
      let i = place_inside m a from in
      let j = place_inside m b to in
      let far : dist (place_of C a) (place_of C b) + 1 ≤ 31 = omega (arith, i, j, c, r) in
      mul-le-mul (leb_yes (and_yes (leb 1 h.flits) (leb h.flits 200) g.flits).1) far

-- what all owe
pub dues_most : (C R : ℕ) → C ≤ 16 → R ≤ 16 → (hs : List Header) → bad_headers C R hs ≡ 0 → dues C hs ≤ length hs * (200 * 31)
dues_most C R c r [] z = omega arith
dues_most C R c r (h ∷ hs) z =
    let g = first_good C R h hs z in
    omega (arith, due_most C R h g.0 c r, dues_most C R c r hs g.1)
