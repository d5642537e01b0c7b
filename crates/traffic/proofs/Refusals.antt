-- The refusals of reading and of writing: what no refusal has taught. Assumes nothing.
use Prim.Native.Nat.{ℕ, ◌-◌, ◌%◌, ◌≤◌}
use mathlib.Core.Path.{◌≡◌, refl, sym, ◌∙◌, subst}
use mathlib.Core.Bool.{Bool, true, ◌&&◌}
use mathlib.Core.List.{List}
use lib.Dec.{leb, eqb, T}
use lib.ListN.{length}
use lib.Ieee.Bits.{is_true}
use mir.Facts.{and_yes, leb_yes, eqb_yes}
use Rattle.route.specs.Grid.{pick}
use Rattle.route.specs.Served.{bad_mesh}
use Rattle.wormhole.specs.Calls.{bad_size}
use Rattle.wormhole.proofs.Refusing.{none_first, none_if, Sized, sized}
use Rattle.traffic.specs.Lists.{listed, lead, after_lead, bad_headers}
use Rattle.traffic.specs.Calls.{bad_read, bad_write}

-- ---- the length of a list
-- 2 + 3 bytes for each of at most 64 packets
pub record Listed (n : ℕ) : Type 0 where
  pub some : 2 ≤ n
  pub few : n ≤ 194
  pub whole : (n - 2) % 3 ≡ 0

-- a length that passes the test is one
pub listing : (n : ℕ) → listed n ≡ true → Listed n
listing n e =
    let a = and_yes (leb 2 n) (leb n 194 && eqb ((n - 2) % 3) 0) (subst T (sym e) tt) in
    let b = and_yes (leb n 194) (eqb ((n - 2) % 3) 0) a.1 in
    record { some = leb_yes a.0; few = leb_yes b.0; whole = eqb_yes b.1 }

-- ---- reading
-- a list that can be read into so many words and records
pub record Readable (bs : List ℕ) (words records : ℕ) : Type 0 where
  pub long : listed (length bs) ≡ true
  pub spare : (lead bs).spare ≡ 0
  pub size : bad_size (lead bs).columns (lead bs).rows (lead bs).rule words records ≡ 0
  pub sizes : Sized (lead bs).columns (lead bs).rows (lead bs).rule words records
  pub good : bad_headers (lead bs).columns (lead bs).rows (after_lead bs) ≡ 0
  pub few : length (after_lead bs) ≤ records

-- what no refusal has taught
pub readable : (bs : List ℕ) (words records : ℕ) {k : ℕ} → k ≡ bad_read bs words records → k ≡ 0 → Readable bs words records
readable bs words records hk h =
    let l = lead bs in
    let a = (none_first (pick (listed (length bs)) 0 12) _).0 (sym hk ∙ h) in
    let b = (none_first (bad_mesh l.columns l.rows l.rule) _).0 a.1 in
    let c = (none_first (pick (eqb l.spare 0) 0 12) _).0 b.1 in
    let d = (none_first (bad_size l.columns l.rows l.rule words records) _).0 c.1 in
    let e = (none_first (bad_headers l.columns l.rows (after_lead bs)) _).0 d.1 in
    record {
      long = is_true (listed (length bs)) ((none_if (listed (length bs)) 11 0).0 a.0).0;
      spare = eqb_yes ((none_if (eqb l.spare 0) 11 0).0 c.0).0;
      size = d.0;
      sizes = sized l.columns l.rows l.rule words records (sym d.0) refl;
      good = e.0;
      few = leb_yes ((none_if (leb (length (after_lead bs)) records) 9 0).0 e.1).0;
    }

-- ---- writing
-- memory from which a list can be written to so many bytes
pub record Writable (C R rule words count size : ℕ) (fits : Bool) : Type 0 where
  pub sizes : Sized C R rule words count
  pub room : 194 ≤ size
  pub in_range : fits ≡ true

-- what no refusal has taught
pub writable : (C R rule words count size : ℕ) (fits : Bool) {k : ℕ} → k ≡ bad_write C R rule words count size fits → k ≡ 0
    → Writable C R rule words count size fits
writable C R rule words count size fits hk h =
    let a = (none_first (bad_size C R rule words count) _).0 (sym hk ∙ h) in
    let b = (none_if (leb 194 size) 6 (pick fits 0 9)).0 a.1 in
    record {
      sizes = sized C R rule words count (sym a.0) refl;
      room = leb_yes b.0;
      in_range = is_true fits ((none_if fits 8 0).0 b.1).0;
    }
