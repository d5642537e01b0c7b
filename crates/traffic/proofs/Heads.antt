-- Headers along their bytes: how many there are, where each stands, and what no refusal of them has taught. Assumes nothing.
use Prim.Native.Nat.{ℕ, zero, suc, ◌+◌, ◌-◌, ◌*◌, ◌/◌, ◌≤◌, ◌<◌}
use mathlib.Core.Path.{◌≡◌, refl, sym, ◌∙◌, ap}
use mathlib.Core.Bool.{not, ◌||◌}
use mathlib.Core.List.{List, [], ◌∷◌, ◌++◌}
use native.Mathlib.Numerals.{add-one, add-two, add-three}
use native.Mathlib.Omega.{arith}
use lib.Dec.{T, leb}
use lib.ListN.{length, get_or, take, drop, length-drop, get_or-eq_default}
use lib.Seq.{take_all, drop-cons}
use mir.Facts.{T_not-not, and_yes, or_no, leb_yes, leb_no}
use Rattle.route.specs.Grid.{horiz, vert, coord}
use Rattle.route.specs.Numbers.{node}
use Rattle.route.specs.Paths.{same_place}
use Rattle.route.specs.declared.refusals.Refusal.{Refusal}
use Rattle.route.specs.Served.{unless, code}
use Rattle.route.proofs.Promises.{refuses_by}
use Rattle.wormhole.specs.declared.records.Record.{Record}
use Rattle.wormhole.specs.Memory.{none, fresh}
use Rattle.wormhole.specs.Range.{flits_served}
use Rattle.wormhole.proofs.Refusing.{none_first, none_unless}
use Rattle.traffic.specs.declared.headers.Header.{Header}
use Rattle.traffic.specs.Lists.{header, headers, outside, bad_header, bad_headers, at_source, packets}

-- all that comes after the first n
pub rest : (l : List ℕ) (n : ℕ) → take (length l - n) (drop n l) ≡ drop n l
rest l n = take_all (length l - n) (drop n l) (omega (arith, length-drop n l))

-- ---- the headers from a place on
-- one, and those after it
pub headers_more : (bs : List ℕ) (at : ℕ) → at + 2 < length bs
    → headers (drop at bs) ≡ header (get_or bs at 0) (get_or bs (at + 1) 0) (get_or bs (at + 2) 0) ∷ headers (drop (at + 3) bs)
unfolding headers
headers_more bs at h =
    rw (add-one at, add-two at, add-three at, drop-cons bs at 0 (omega arith), drop-cons bs (suc at) 0 (omega arith), drop-cons bs (suc (suc at)) 0 (omega arith)) refl

-- none of two bytes or fewer
no_headers : (bs : List ℕ) → length bs ≤ 2 → headers bs ≡ []
unfolding headers
no_headers [] h = refl
no_headers (a ∷ []) h = refl
no_headers (a ∷ b ∷ []) h = refl
no_headers (a ∷ b ∷ c ∷ bs) h = absurd (omega arith)

-- so none from where fewer than three are left
pub headers_end : (bs : List ℕ) (at : ℕ) → length bs ≤ at + 2 → headers (drop at bs) ≡ []
headers_end bs at h = no_headers (drop at bs) (omega (arith, length-drop at bs))

-- ---- how many there are, and which
-- one for each three bytes
pub length_headers : (bs : List ℕ) → length (headers bs) ≡ length bs / 3
unfolding headers
length_headers [] = refl
length_headers (a ∷ []) = refl
length_headers (a ∷ b ∷ []) = refl
length_headers (a ∷ b ∷ c ∷ bs) = omega (arith, length_headers bs)

-- header i stands at byte 3 * i
pub header_there : (bs : List ℕ) (i : ℕ) (d : Header) → i < length bs / 3
    → get_or (headers bs) i d ≡ header (get_or bs (3 * i) 0) (get_or bs (3 * i + 1) 0) (get_or bs (3 * i + 2) 0)
unfolding headers
header_there [] i d h = absurd (omega arith)
header_there (a ∷ []) i d h = absurd (omega arith)
header_there (a ∷ b ∷ []) i d h = absurd (omega arith)
header_there (a ∷ b ∷ c ∷ bs) zero d h = refl
header_there (a ∷ b ∷ c ∷ bs) (suc i) d h =
    let e : 3 * suc i ≡ suc (suc (suc (3 * i))) = omega arith in
    let f : 3 * suc i + 1 ≡ suc (suc (suc (3 * i + 1))) = omega arith in
    let g : 3 * suc i + 2 ≡ suc (suc (suc (3 * i + 2))) = omega arith in
    rw (g, f, e) (header_there bs i d (omega arith))

-- ---- of headers that are not refused
-- two places of the mesh, 1 to 200 flits
pub record Good (C R : ℕ) (h : Header) : Type 0 where
  pub column : coord horiz h.source < C
  pub row : coord vert h.source < R
  pub to_column : coord horiz h.destination < C
  pub to_row : coord vert h.destination < R
  pub flits : T (flits_served h.flits)
  pub apart : T (not (same_place h.source h.destination))

pub good_header : (C R : ℕ) (h : Header) → bad_header C R h ≡ 0 → Good C R h
good_header C R h z =
    let s = h.source in
    let d = h.destination in
    let a = none_unless (outside C R s || outside C R d) 2 _ z in
    let b = none_unless (not (flits_served h.flits)) 5 _ a.1 in
    let c = or_no (outside C R s) (outside C R d) a.0 in
    let i = or_no (leb C (coord horiz s)) (leb R (coord vert s)) c.0 in
    let j = or_no (leb C (coord horiz d)) (leb R (coord vert d)) c.1 in
    record {
      column = leb_no i.0;
      row = leb_no i.1;
      to_column = leb_no j.0;
      to_row = leb_no j.1;
      flits = T_not-not (flits_served h.flits) b.0;
      apart = (none_unless (same_place s d) 4 0 b.1).0;
    }

-- the first of a list, and the others
pub first_good : (C R : ℕ) (h : Header) (hs : List Header) → bad_headers C R (h ∷ hs) ≡ 0 → Good C R h × (bad_headers C R hs ≡ 0)
unfolding bad_headers
first_good C R h hs z = let a = (none_first (bad_header C R h) _).0 z in (good_header C R h a.0, a.1)

-- those of two lists one after another
pub both_good : (C R : ℕ) (hs is : List Header) → bad_headers C R (hs ++ is) ≡ 0 → (bad_headers C R hs ≡ 0) × (bad_headers C R is ≡ 0)
unfolding bad_headers
both_good C R [] is z = (refl, z)
both_good C R (h ∷ hs) is z =
    let a = (none_first (bad_header C R h) _).0 z in
    let b = both_good C R hs is a.1 in
    ((none_first (bad_header C R h) _).1 (a.0, b.0), b.1)

-- each by itself is not
pub good_there : (C R : ℕ) (hs : List Header) (i : ℕ) (d : Header) → i < length hs → bad_headers C R hs ≡ 0 → bad_header C R (get_or hs i d) ≡ 0
unfolding bad_headers
good_there C R [] i d h e = absurd (omega arith)
good_there C R (x ∷ hs) zero d h e = ((none_first (bad_header C R x) (bad_headers C R hs)).0 e).0
good_there C R (x ∷ hs) (suc i) d h e = good_there C R hs i d (omega arith) ((none_first (bad_header C R x) (bad_headers C R hs)).0 e).1

-- so its packet has flits that fit a byte
pub flits_low : (C R : ℕ) (h : Header) → bad_header C R h ≡ 0 → h.flits ≤ 200
flits_low C R h e = leb_yes (and_yes (leb 1 h.flits) (leb h.flits 200) (good_header C R h e).flits).1

-- ---- their packets
-- one for each header
pub length_packets : (C : ℕ) (hs : List Header) → length (packets C hs) ≡ length hs
unfolding packets
length_packets C [] = refl
length_packets C (h ∷ hs) = ap suc (length_packets C hs)

-- each is the header's own
pub packet_there : (C : ℕ) (hs : List Header) (i : ℕ) (d : Header) → i < length hs → get_or (packets C hs) i none ≡ at_source C (get_or hs i d)
unfolding packets
packet_there C [] i d h = absurd (omega arith)
packet_there C (x ∷ hs) zero d h = refl
packet_there C (x ∷ hs) (suc i) d h = packet_there C hs i d (omega arith)

-- and there is none past the last
pub no_packet : (C : ℕ) (hs : List Header) (i : ℕ) → length hs ≤ i → get_or (packets C hs) i none ≡ none
no_packet C hs i h = get_or-eq_default (packets C hs) none (omega (arith, length_packets C hs))

-- ---- the header and the packet that the code has
module _ (bs : List ℕ) (i : ℕ) (low : i < length bs / 3) {h : Header} (eh : h ≡ header (get_or bs (3 * i) 0) (get_or bs (3 * i + 1) 0) (get_or bs (3 * i + 2) 0)) where
  same_header : get_or (headers bs) i h ≡ h
  same_header = header_there bs i h low ∙ sym eh

  -- the headers from place i on begin with it
  pub header_made : drop i (headers bs) ≡ h ∷ drop (suc i) (headers bs)
  header_made = rw (drop-cons (headers bs) i h (omega (arith, length_headers bs)), same_header) refl

  pub low_flits : (C R : ℕ) → bad_headers C R (headers bs) ≡ 0 → h.flits ≤ 200
  low_flits C R e = flits_low C R h (rw same_header at (good_there C R (headers bs) i h (omega (arith, length_headers bs)) e))

  pub packet_made : (C : ℕ) {a b : ℕ} {r : Record} → a ≡ node C h.source → b ≡ node C h.destination → r ≡ fresh a b h.flits
      → r ≡ get_or (packets C (headers bs)) i none
  packet_made C ea eb er =
      er ∙ rw (ea, eb, packet_there C (headers bs) i h (omega (arith, length_headers bs)), same_header) refl

-- ---- a loop that asks each header, and has come to header i
module _ (C R : ℕ) (bs : List ℕ) (i : ℕ) (e : bad_headers C R (headers bs) ≡ bad_headers C R (headers (drop (3 * i) bs))) where
  pub asked_all : length bs / 3 ≤ i → 0 ≡ bad_headers C R (headers bs)
  unfolding bad_headers
  asked_all h = rw (e, headers_end bs (3 * i) (omega arith)) refl

  module _ (h : 3 * i + 2 < length bs) {x : Header} (ex : x ≡ header (get_or bs (3 * i) 0) (get_or bs (3 * i + 1) 0) (get_or bs (3 * i + 2) 0)) {k : ℕ} (hk : k ≡ bad_header C R x) where
    next : bad_headers C R (headers bs) ≡ unless (λ j. j) k (bad_headers C R (headers (drop (3 * i + 3) bs)))
    unfolding bad_headers
    next = rw (e, headers_more bs (3 * i) h, hk, ex) refl

    pub asked_more : k ≡ 0 → bad_headers C R (headers bs) ≡ bad_headers C R (headers (drop (3 * (i + 1)) bs))
    asked_more z =
        let f : 3 * (i + 1) ≡ 3 * i + 3 = omega arith in
        rw f (next ∙ rw z refl)

    pub asked_stop : (r : Refusal) → k ≡ code r → code r ≡ bad_headers C R (headers bs)
    asked_stop r n = sym (next ∙ rw n (refuses_by (λ j. j) _ r))
