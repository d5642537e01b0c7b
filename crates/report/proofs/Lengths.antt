-- How long a text gets: a decimal by the powers of ten, then a line, then a sheet, which fits 1,024 bytes. Assumes nothing.
use Prim.Native.Nat.{ℕ, zero, suc, ◌+◌, ◌*◌, ◌/◌, ◌%◌, ◌^◌, ◌≤◌, ◌<◌}
use mathlib.Core.Path.{◌≡◌, refl}
use mathlib.Core.Bool.{Bool, true, false}
use mathlib.Core.List.{List, [], ◌∷◌, ◌++◌}
use native.Mathlib.Omega.{arith}
use native.Mathlib.Nat.{pow-suc}
use lib.Dec.{ltb}
use lib.ListN.{length, get_or, length-append}
use borrow.Author.Tests.{ltb-true, ltb-false}
use Rattle.route.specs.Grid.{pick, gap, dist}
use Rattle.traffic.specs.declared.headers.Header.{Header}
use Rattle.traffic.specs.Lists.{lead, after_lead, bad_headers}
use Rattle.traffic.specs.Calls.{bad_read}
use Rattle.traffic.proofs.Heads.{Good, first_good}
use Rattle.traffic.proofs.Refusals.{readable}
use Rattle.report.specs.Sweeps.{Tally, sum, idle}
use Rattle.report.specs.Text.{decimal, heading, total_word, refused_word, stalled, said, line, lines}
use Rattle.report.specs.Calls.{drained_sheet, sheet}
use Rattle.report.proofs.Counting.{at_most_sum}
use Rattle.report.proofs.Spelling.{decimal_one, decimal_more}

-- ---- decimals
-- a number below ten has one digit
one_digit : (n : ℕ) → n < 10 → length (decimal n) ≡ 1
one_digit n h = rw (decimal_one n h) refl

-- another has one more than its tenth
digit_more : (n : ℕ) → 10 ≤ n → length (decimal n) ≡ length (decimal (n / 10)) + 1
digit_more n h = rw (decimal_more n h) (length-append (decimal (n / 10)) ((48 + n % 10) ∷ []))

-- so one below a power of ten has no more than the power says
pub few_digits : (k n : ℕ) → n < 10 ^ suc k → length (decimal n) ≤ suc k
few_digits zero n h = omega (arith, one_digit n h)
few_digits (suc k) n h = by (ltb n 10) refl (few_digits k (n / 10) (omega (arith, pow-suc 10 (suc k))))
  where
    by : (t : Bool) → ltb n 10 ≡ t → length (decimal (n / 10)) ≤ suc k → length (decimal n) ≤ suc (suc k)
    by true e tenth = omega (arith, one_digit n (ltb-true n 10 e))
    by false e tenth = omega (arith, digit_more n (ltb-false n 10 e))

-- a word with a number
pub length_said : (word : List ℕ) (n : ℕ) → length (said word n) ≡ length word + length (decimal n) + 1
length_said word n = simp length-append (omega arith)

-- ---- lines of a mesh of at most 16 by 16
-- no line is longer than "63 30 396800"
line_short : (i : ℕ) (h : Header) (m : ℕ) → i < 100 → dist h.source h.destination < 100 → m < 1000000 → length (line i h m) ≤ 13
line_short i h m hi hd hm =
    simp length-append (omega (arith, few_digits 1 i hi, few_digits 1 (dist h.source h.destination) hd, few_digits 5 m hm))

module _ (C R : ℕ) (hc : C ≤ 16) (hr : R ≤ 16) where
  -- sides of at most 16 give at most 30 hops
  near : (h : Header) → Good C R h → dist h.source h.destination < 100
  unfolding dist gap
  near h g = omega arith

  -- as many lines as headers
  lines_short : (i : ℕ) (hs : List Header) (made : ℕ → ℕ) → bad_headers C R hs ≡ 0 → i + length hs ≤ 100 → ((j : ℕ) → made j < 1000000)
      → length (lines i hs made) ≤ 13 * length hs
  unfolding lines
  lines_short i [] made e h low = omega arith
  lines_short i (x ∷ hs) made e h low =
      let g = first_good C R x hs e in
      rw (length-append (line i x (made i)) (lines (suc i) hs made))
      (omega (arith, line_short i x (made i) (omega arith) (near x g.0) (low i), lines_short (suc i) hs made g.1 (omega arith) low))

-- ---- the sheet of a list that is accepted
module _ (bs : List ℕ) (words : ℕ) (z : bad_read bs words 64 ≡ 0) (S : Tally) (few : sum S.made ≤ 396800) where
  -- the heading, at most 64 lines and the total
  drained_short : length (drained_sheet bs S.made) ≤ 1024
  drained_short =
      let r = readable bs words 64 refl z in
      let rows = lines 0 (after_lead bs) (λ i. get_or S.made i 0) in
      let end = said total_word (sum S.made) in
      rw (length-append heading (rows ++ end), length-append rows end, length_said total_word (sum S.made))
      (omega (
        arith,
        few_digits 5 (sum S.made) (omega arith),
        lines_short (lead bs).columns (lead bs).rows r.sizes.mesh.columns_high r.sizes.mesh.rows_high 0 (after_lead bs) (λ i. get_or S.made i 0)
            r.good (omega arith) (λ i. omega (arith, at_most_sum S.made i)),
      ))

  -- and a stalled one is shorter
  pub sheet_short : length (sheet bs S) ≤ 1024
  sheet_short = either (idle S.lent.records)
    where
      either : (t : Bool) → length (pick t (drained_sheet bs S.made) stalled) ≤ 1024
      either true = drained_short
      either false = omega arith

-- ---- and of one that is refused
pub refused_short : (k : ℕ) → k < 256 → length (said refused_word k) ≤ 1024
refused_short k h = rw (length_said refused_word k) (omega (arith, few_digits 2 k (omega arith)))
