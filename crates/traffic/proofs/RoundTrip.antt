-- Writing what was read gives the same bytes: memory is in range, since offers reach it, and each byte comes back by the laws of quotient and
-- remainder, three at a time. Assumes nothing.
use Prim.Native.Nat.{ℕ, zero, suc, ◌+◌, ◌-◌, ◌*◌, ◌/◌, ◌%◌, ◌≤◌, ◌<◌}
use mathlib.Core.Path.{◌≡◌, refl, sym, ap, ◌∙◌}
use mathlib.Core.List.{List, [], ◌∷◌, ◌++◌}
use native.Mathlib.Omega.{arith}
use lib.Arith.{digits_div, digits_mod}
use lib.Ieee.Bits.{is_true}
use lib.ListN.{length, drop, replicate, length-drop, length-replicate}
use borrow.Author.Tests.{le-leb}
use Rattle.route.specs.Numbers.{node}
use Rattle.wormhole.specs.declared.records.Record.{Record}
use Rattle.wormhole.specs.Memory.{none}
use Rattle.wormhole.specs.Calls.{needed, fits}
use Rattle.traffic.specs.Lists.{lead, place_in, header, headers, after_lead, bad_headers, packets, lead_bytes, node_byte, record_bytes, records_bytes, list_of}
use Rattle.traffic.specs.Calls.{bad_read, read, filled, Output, written, over, write}
use Rattle.traffic.proofs.Heads.{first_good, length_packets}
use Rattle.traffic.proofs.Refusals.{listing, readable}
use Rattle.traffic.proofs.Filling.{length_filled}
use Rattle.traffic.proofs.Offering.{holding, holding_fits, read_size, read_holding}

-- a place's byte
place_back : (C a : ℕ) → a / 16 < C → node_byte C (node C (place_in a)) ≡ a
place_back C a h = rw (digits_mod (a % 16) h, digits_div (a % 16) h) (omega arith)

-- the bytes of headers
headers_back : (C R : ℕ) (bs : List ℕ) → length bs % 3 ≡ 0 → bad_headers C R (headers bs) ≡ 0 → records_bytes C (packets C (headers bs)) ≡ bs
unfolding headers packets records_bytes
headers_back C R [] e z = refl
headers_back C R (a ∷ []) e z = absurd (omega (arith, e))
headers_back C R (a ∷ b ∷ []) e z = absurd (omega (arith, e))
headers_back C R (a ∷ b ∷ c ∷ bs) e z =
    let g = first_good C R (header a b c) (headers bs) z in
    let f : c + 1 - 1 ≡ c = omega arith in
    rw (place_back C a g.0.column, place_back C b g.0.to_column, f, headers_back C R bs (omega (arith, e)) g.1) refl

-- empty records have none
none_more : (C : ℕ) (ps : List Record) (k : ℕ) → records_bytes C (ps ++ replicate k none) ≡ records_bytes C ps
unfolding records_bytes
none_more C [] zero = refl
none_more C [] (suc k) = none_more C [] k
none_more C (p ∷ ps) k = ap (λ (l : List ℕ). record_bytes C p ++ l) (none_more C ps k)

-- the lead's
lead_back : (bs : List ℕ) → 2 ≤ length bs → (lead bs).spare ≡ 0 → lead_bytes (lead bs).columns (lead bs).rows (lead bs).rule ++ drop 2 bs ≡ bs
lead_back [] h e = absurd (omega arith)
lead_back (a ∷ []) h e = absurd (omega arith)
lead_back (a ∷ b ∷ bs) h e =
    let sides : (a / 16 + 1 - 1) * 16 + (a % 16 + 1 - 1) ≡ a = omega arith in
    let ruled : b / 32 * 32 ≡ b = omega (arith, e) in
    λ i. sides i ∷ (ruled i ∷ bs)

module _ (bs w : List ℕ) (rs : List Record) (z : bad_read bs (length w) (length rs) ≡ 0) where
  abbrev C : ℕ
  C = (lead bs).columns

  abbrev R : ℕ
  R = (lead bs).rows

  abbrev rule : ℕ
  rule = (lead bs).rule

  -- the whole list
  list_back : list_of C R rule (filled (packets C (after_lead bs)) (length rs)) ≡ bs
  list_back =
      let s = readable bs (length w) (length rs) (sym z) refl in
      let ps = packets C (after_lead bs) in
      let l = listing (length bs) s.long in
      let three : length (drop 2 bs) % 3 ≡ 0 = rw (length-drop 2 bs) l.whole in
      ap (λ (l : List ℕ). lead_bytes C R rule ++ l) (none_more C ps (length rs - length ps) ∙ headers_back C R (drop 2 bs) three s.good)
      ∙ lead_back bs l.some s.spare

  -- it can be written
  written_back : (out : List ℕ) → 194 ≤ length out → let M = holding C R (length rs) (after_lead bs) in
      write C R rule M.words M.records out ≡ record { answer = written 0 (length bs); bytes = over bs out }
  unfolding write
  written_back out room =
      let s = readable bs (length w) (length rs) (sym z) refl in
      let hs = after_lead bs in
      let size = read_size bs w rs z in
      rw (
        is_true (fits C R rule _ _) (holding_fits C R rule (length rs) size hs s.good s.few),
        le-leb 194 (length out) room,
        length-replicate {A = ℕ} (needed C R) 0,
        length_filled (packets C hs) (length rs) (omega (arith, length_packets C hs, s.few)),
        size,
      ) (ap {B = Output} (λ l. record { answer = written 0 (length l); bytes = over l out }) list_back)

  -- the theorem
  pub read_write : (out : List ℕ) → 194 ≤ length out
      → write C R rule (read bs w rs).words (read bs w rs).records out ≡ record { answer = written 0 (length bs); bytes = over bs out }
  read_write out room = ap (λ m. write C R rule m.words m.records out) (read_holding bs w rs z) ∙ written_back out room
