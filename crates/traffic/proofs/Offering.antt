-- Reading a list is offering its packets to an empty mesh: each offer is accepted and takes the record of its own place, by induction on the
-- headers, with those before them; so the mesh drains. Assumes nothing.
use Prim.Native.Nat.{ℕ, ◌+◌, ◌-◌, ◌≤◌, ◌<◌}
use mathlib.Core.Path.{◌≡◌, refl, sym, ap, ◌∙◌, subst}
use mathlib.Core.Bool.{Bool, true, false}
use mathlib.Core.List.{List, [], ◌∷◌, ◌++◌, append-nil}
use native.Mathlib.Omega.{arith}
use lib.Dec.{T}
use lib.Ieee.Bits.{is_true}
use lib.ListN.{length, set, replicate, length-append, length-replicate}
use lib.Seq.{append_snoc, set-append_seam}
use borrow.Author.Tests.{lt-ltb}
use Rattle.route.specs.Grid.{pick}
use Rattle.route.specs.Numbers.{node}
use Rattle.wormhole.specs.declared.records.Record.{Record}
use Rattle.wormhole.specs.Memory.{none}
use Rattle.wormhole.specs.Calls.{left, offered, needed, bad_size, fits, lowest, bad_offer, offer}
use Rattle.wormhole.specs.Drains.{Lent, Call, empty, any, offers, after, run, brings, makes, total, now, work, made, Drains}
use Rattle.wormhole.proofs.Refusing.{sized}
use Rattle.wormhole.proofs.Draining.Lists.{run_append}
use Rattle.wormhole.proofs.Draining.Drained.{drains}
use Rattle.traffic.specs.declared.headers.Header.{Header}
use Rattle.traffic.specs.Lists.{lead, after_lead, bad_headers, packets, at_source}
use Rattle.traffic.specs.Calls.{bad_read, filled, read, offering_of, offerings, due, dues}
use Rattle.traffic.proofs.Allowed.{good_packet, dues_most}
use Rattle.traffic.proofs.Heads.{Good, first_good, both_good, length_packets}
use Rattle.traffic.proofs.Refusals.{Readable, readable}
use Rattle.traffic.proofs.Filling.{packets_last, lowest_is, length_filled, has_room, takes_room}

-- memory with the headers' packets at their sources
abbrev pub holding : ℕ → ℕ → ℕ → List Header → Lent
holding C R count hs = record { words = replicate (needed C R) 0; records = filled (packets C hs) count }

-- ---- offers to an empty mesh
module _ (C R rule count : ℕ) (size : bad_size C R rule (needed C R) count ≡ 0) where
  -- it drains, whatever the calls
  pub drained : (cs : List Call) → Drains C R rule count cs
  drained cs =
      let s = sized C R rule (needed C R) count (sym size) refl in
      let m = s.mesh in
      drains C R rule count m.columns_low m.columns_high m.rows_low m.rows_high (omega (arith, m.rule_known)) s.some s.few cs

  -- with some packets, the next takes the record after theirs
  module _ (hs : List Header) (h : Header) (g : Good C R h) (room : length hs < count) where
    abbrev ps : List Record
    ps = packets C hs

    abbrev M : Lent
    M = holding C R count hs

    short : length ps < count
    short = omega (arith, length_packets C hs, room)

    low : lowest M.records ≡ length hs
    low = ap lowest (has_room ps count short) ∙ lowest_is C hs _

    there : set M.records (length hs) (at_source C h) ≡ (holding C R count (hs ++ (h ∷ []))).records
    there =
        rw (has_room ps count short, packets_last C hs h, takes_room ps (at_source C h) count, ← length_packets C hs) (set-append_seam ps none _ (at_source C h))

    accepted : T (fits C R rule M.words M.records)
        → bad_offer C R rule (length M.words) (length M.records) (fits C R rule M.words M.records) (lowest M.records)
        (node C h.source) (node C h.destination) h.flits ≡ 0
    accepted fit =
        rw (
          is_true (fits C R rule M.words M.records) fit,
          low,
          length-replicate {A = ℕ} (needed C R) 0,
          length_filled ps count (omega (arith, short)),
          size,
          good_packet C R h g,
          lt-ltb (length hs) count room,
        ) refl

    takes : T (fits C R rule M.words M.records)
        → offers C R rule M (node C h.source) (node C h.destination) h.flits
        ≡ left (offered 0 (length hs)) M.words (holding C R count (hs ++ (h ∷ []))).records
    unfolding offer
    takes fit = rw (accepted fit, low, there) refl

  -- offers to memory that some calls have reached; what they bring to records that all pass a test, or all fail it
  pub reaches : (cs : List Call) (before hs : List Header) → now C R rule count cs ≡ holding C R count before → bad_headers C R hs ≡ 0
      → length before + length hs ≤ count
      → (run C R rule (holding C R count before) (offerings C hs) ≡ holding C R count (before ++ hs))
      × ((test : ℕ → Bool) (b : Bool) → ((j : ℕ) → length before ≤ j → test j ≡ b)
      → total C R rule (brings C R rule test) (holding C R count before) (offerings C hs) ≡ pick b (dues C hs) 0)
  unfolding run total
  reaches cs before [] e z room = (ap (holding C R count) (sym (append-nil before)), λ test b all. none_of b)
    where
      none_of : (b : Bool) → ◌≡◌ {A = ℕ} 0 (pick b 0 0)
      none_of true = refl
      none_of false = refl
  reaches cs before (h ∷ hs) e z room =
      let g = first_good C R h hs z in
      let c = offering_of C h in
      let fit = subst (λ (m : Lent). T (fits C R rule m.words m.records)) e (drained cs).ranged in
      let t = takes before h g.0 (omega (arith, room)) fit in
      let next : after C R rule (holding C R count before) c ≡ holding C R count (before ++ (h ∷ [])) = rw t refl in
      let here = run_append C R rule (empty C R count) cs (c ∷ []) ∙ (ap (λ m. after C R rule m c) e ∙ next) in
      let l = length-append before (h ∷ []) in
      let q = reaches (cs ++ (c ∷ [])) (before ++ (h ∷ [])) hs here g.1 (omega (arith, room, l)) in (
        ap (λ m. run C R rule m (offerings C hs)) next ∙ (q.0 ∙ ap (holding C R count) (append_snoc before h hs)),
        λ test b all.
            let one : brings C R rule test (holding C R count before) c ≡ pick b (due C h) 0 = rw (t, all (length before) (omega arith)) refl in
            let others = ap (λ m. total C R rule (brings C R rule test) m (offerings C hs)) next ∙ q.1 test b (λ j i. all j (omega (arith, i, l))) in
            together b one others,
      )
    where
      together : (b : Bool) {m n : ℕ} → m ≡ pick b (due C h) 0 → n ≡ pick b (dues C hs) 0 → m + n ≡ pick b (due C h + dues C hs) 0
      together true i j = omega (arith, i, j)
      together false i j = omega (arith, i, j)

  -- an empty mesh has no packets
  none_held : empty C R count ≡ holding C R count []
  unfolding packets
  none_held = let e : count ≡ count - 0 = omega arith in λ i. record { words = replicate (needed C R) 0; records = replicate (e i) none }

  -- offers to it
  module _ (hs : List Header) (good : bad_headers C R hs ≡ 0) (room : length hs ≤ count) where
    pub now_holding : now C R rule count (offerings C hs) ≡ holding C R count hs
    unfolding run
    now_holding = ap (λ m. run C R rule m (offerings C hs)) none_held ∙ (reaches [] [] hs none_held good (omega arith)).0

    pub holding_fits : T (fits C R rule (holding C R count hs).words (holding C R count hs).records)
    holding_fits = subst (λ (m : Lent). T (fits C R rule m.words m.records)) now_holding (drained (offerings C hs)).ranged

    work_dues : work C R rule count (offerings C hs) ≡ dues C hs
    unfolding run
    work_dues =
        ap (λ m. total C R rule (brings C R rule any) m (offerings C hs)) none_held
        ∙ (reaches [] [] hs none_held good (omega arith)).1 any true (λ j h. refl)

  -- they make no move
  pub none_made : (test : ℕ → Bool) (M : Lent) (hs : List Header) → total C R rule (makes C R rule test) M (offerings C hs) ≡ 0
  unfolding total
  none_made test M [] = refl
  none_made test M (h ∷ hs) = omega (arith, none_made test (after C R rule M (offering_of C h)) hs)

-- ---- of a list that is read into lent memory
module _ (bs w : List ℕ) (rs : List Record) (z : bad_read bs (length w) (length rs) ≡ 0) where
  abbrev C : ℕ
  C = (lead bs).columns

  abbrev R : ℕ
  R = (lead bs).rows

  abbrev rule : ℕ
  rule = (lead bs).rule

  abbrev count : ℕ
  count = length rs

  abbrev hs : List Header
  hs = after_lead bs

  allowed : Readable bs (length w) count
  allowed = readable bs (length w) count (sym z) refl

  pub read_size : bad_size C R rule (needed C R) count ≡ 0
  read_size = rw allowed.sizes.long at allowed.size

  -- it leaves the packets at their sources
  pub read_holding : record { words = (read bs w rs).words; records = (read bs w rs).records } ≡ holding C R count hs
  unfolding read
  read_holding = rw (z, allowed.sizes.long) refl

  -- as the offers do
  pub read_offers : now C R rule count (offerings C hs) ≡ record { words = (read bs w rs).words; records = (read bs w rs).records }
  read_offers = now_holding C R rule count read_size hs allowed.good allowed.few ∙ sym read_holding

  -- each of them is accepted, and its record has the number of its place
  pub all_accepted : (before : List Header) (h : Header) (later : List Header) → hs ≡ before ++ (h ∷ later)
      → (offers C R rule (now C R rule count (offerings C before)) (node C h.source) (node C h.destination) h.flits).answer
      ≡ offered 0 (length before)
  all_accepted before h later e =
      let g = both_good C R before (h ∷ later) (rw e at allowed.good) in
      let room : length before < count = omega (arith, ap length e, length-append before (h ∷ later), allowed.few) in
      let fit = holding_fits C R rule count read_size before g.0 (omega arith) in
      let t = takes C R rule count read_size before h (first_good C R h later g.1).0 room fit in
      rw (now_holding C R rule count read_size before g.0 (omega arith), t) refl

  -- the mesh drains
  pub read_drains : Drains C R rule count (offerings C hs)
  read_drains = drained C R rule count read_size (offerings C hs)

  -- by as many moves as the packets owe
  pub read_work : work C R rule count (offerings C hs) ≡ dues C hs
  read_work = work_dues C R rule count read_size hs allowed.good allowed.few

  -- of which none is made yet
  pub read_made : made C R rule count (offerings C hs) ≡ 0
  read_made = none_made C R rule count read_size any (empty C R count) hs

  -- and which are at most 64 times 200 times 31
  pub read_most : work C R rule count (offerings C hs) ≤ 396800
  read_most =
      let m = allowed.sizes in
      omega (arith, read_work, dues_most C R m.mesh.columns_high m.mesh.rows_high hs allowed.good, allowed.few, m.few)
