-- Text that is put on a page piece by piece: a text's bytes, a number's last digit after those of its tenth, lines, the sheet. Assumes nothing.
use Prim.Native.Nat.{ℕ, zero, suc, ◌+◌, ◌/◌, ◌%◌, ◌≤◌, ◌<◌}
use mathlib.Core.Path.{◌≡◌, refl, ◌∙◌}
use mathlib.Core.Bool.{Bool, true, false}
use mathlib.Core.List.{List, [], ◌∷◌, ◌++◌}
use native.Mathlib.Numerals.{add-one}
use native.Mathlib.Omega.{arith}
use lib.Dec.{ltb}
use lib.ListN.{length, get_or, drop, drop_of_length-le}
use lib.Seq.{drop-cons}
use borrow.Author.Tests.{lt-ltb, le-ltb, ltb-false}
use Rattle.route.specs.Grid.{dist}
use Rattle.traffic.specs.declared.headers.Header.{Header}
use Rattle.traffic.specs.Lists.{after_lead}
use Rattle.traffic.specs.declared.pages.Page.{Page}
use Rattle.traffic.specs.Coded.{put, puts}
use Rattle.traffic.proofs.Putting.{putting, put_last, puts_append}
use Rattle.report.specs.Sweeps.{sum}
use Rattle.report.specs.Text.{digits, decimal, heading, total_word, said, line, lines}
use Rattle.report.specs.Calls.{drained_sheet}

-- ---- one piece after another
-- some bytes, and then others
pub puts_both : (p : Page) {q r : Page} (xs ys : List ℕ) → q ≡ puts p xs → r ≡ puts q ys → r ≡ puts p (xs ++ ys)
puts_both p xs ys e f = rw (puts_append p xs ys, ← e) f

-- one byte, and then others
pub puts_first : (p : Page) {q r : Page} (b : ℕ) (bs : List ℕ) → q ≡ put p b → r ≡ puts q bs → r ≡ puts p (b ∷ bs)
puts_first p b bs e f = f ∙ putting p b bs e

-- ---- a text of which the bytes from i on are still to be put
module _ (p q : Page) (text : List ℕ) (i : ℕ) (e : puts q (drop i text) ≡ puts p text) where
  -- one more
  pub text_more : {r : Page} → i < length text → r ≡ put q (get_or text i 0) → puts r (drop (i + 1) text) ≡ puts p text
  text_more h f = putting q (get_or text i 0) (drop (i + 1) text) f ∙ rw (add-one, ← drop-cons text i 0 h) e

  -- there is none
  pub text_all : length text ≤ i → q ≡ puts p text
  unfolding puts
  text_all h = rw (drop_of_length-le text h) at e

-- ---- digits
-- more of them than a number has change nothing
enough : (f g n : ℕ) → n < f → n < g → digits f n ≡ digits g n
unfolding digits
enough zero g n h k = absurd (omega arith)
enough (suc f) zero n h k = absurd (omega arith)
enough (suc f) (suc g) n h k = by (ltb n 10) refl (λ l. enough f g (n / 10) (omega arith) (omega arith))
  where
    by : (t : Bool) → ltb n 10 ≡ t → (10 ≤ n → digits f (n / 10) ≡ digits g (n / 10)) → digits (suc f) n ≡ digits (suc g) n
    by true e same = rw e refl
    by false e same = rw (e, same (ltb-false n 10 e)) refl

-- a number below ten has one
pub decimal_one : (n : ℕ) → n < 10 → decimal n ≡ (48 + n) ∷ []
unfolding digits
decimal_one n h = let e : n % 10 ≡ n = omega arith in rw (lt-ltb n 10 h, e) refl

-- another has those of its tenth, and the last
pub decimal_more : (n : ℕ) → 10 ≤ n → decimal n ≡ decimal (n / 10) ++ ((48 + n % 10) ∷ [])
unfolding digits
decimal_more n h = rw (le-ltb n 10 h, enough n (suc (n / 10)) (n / 10) (omega arith) (omega arith)) refl

-- ---- a number that is put
-- its one digit
pub put_one : (p : Page) {q : Page} (n : ℕ) → n < 10 → q ≡ put p (48 + n % 10) → q ≡ puts p (decimal n)
put_one p n h e = let d : n % 10 ≡ n = omega arith in rw (decimal_one n h) (put_last p (48 + n) (rw d at e))

-- the digits of its tenth, and the last
pub put_tenth : (p : Page) {q r : Page} (n : ℕ) → 10 ≤ n → q ≡ puts p (decimal (n / 10)) → r ≡ put q (48 + n % 10) → r ≡ puts p (decimal n)
put_tenth p {q} n h e f = rw (decimal_more n h) (puts_both p (decimal (n / 10)) ((48 + n % 10) ∷ []) e (put_last q (48 + n % 10) f))

-- ---- lines
-- a word, a number and a newline
pub put_said : (p : Page) {q r s : Page} (word : List ℕ) (n : ℕ) → q ≡ puts p word → r ≡ puts q (decimal n) → s ≡ put r 10 → s ≡ puts p (said word n)
put_said p {q} {r} word n eq er es =
    puts_both p word (decimal n ++ (10 ∷ [])) eq (puts_both q (decimal n) (10 ∷ []) er (put_last r 10 es))

-- a packet's line
pub put_line : (p : Page) {q r s t : Page} {k : ℕ} (i : ℕ) (h : Header) (moves : ℕ) → q ≡ puts p (decimal i) → r ≡ put q 32
    → k ≡ dist h.source h.destination → s ≡ puts r (decimal k) → t ≡ puts s (said (32 ∷ []) moves) → t ≡ puts p (line i h moves)
put_line p {q} {r} {k = k} i h moves eq er ek es et =
    rw (← ek) (puts_both p (decimal i) (32 ∷ decimal k ++ said (32 ∷ []) moves) eq
    (puts_first q 32 (decimal k ++ said (32 ∷ []) moves) er (puts_both r (decimal k) (said (32 ∷ []) moves) es et)))

-- ---- lines of which those from packet i on are still to be put
module _ (p q : Page) (hs : List Header) (made : ℕ → ℕ) (i : ℕ) (e : puts q (lines i (drop i hs) made) ≡ puts p (lines 0 hs made)) where
  -- one more
  pub lines_more : {r : Page} {h : Header} {m : ℕ} → drop i hs ≡ h ∷ drop (suc i) hs → made i ≡ m → r ≡ puts q (line i h m)
      → puts r (lines (i + 1) (drop (i + 1) hs) made) ≡ puts p (lines 0 hs made)
  unfolding lines
  lines_more {h = h} eh em er = rw (add-one, er, ← em, ← puts_append q (line i h (made i)) (lines (suc i) (drop (suc i) hs) made)) (rw eh at e)

  -- there is none
  pub lines_all : length hs ≤ i → q ≡ puts p (lines 0 hs made)
  unfolding puts lines
  lines_all h = rw (drop_of_length-le hs h) at e

-- ---- the sheet: the heading, the lines, the total
pub put_sheet : (p : Page) {q r s : Page} {n : ℕ} (bs made : List ℕ) → q ≡ puts p heading → r ≡ puts q (lines 0 (after_lead bs) (λ i. get_or made i 0))
    → n ≡ sum made → s ≡ puts r (said total_word n) → s ≡ puts p (drained_sheet bs made)
put_sheet p {q} {n = n} bs made eq er en es =
    let rows = lines 0 (after_lead bs) (λ i. get_or made i 0) in
    rw (← en) (puts_both p heading (rows ++ said total_word n) eq (puts_both q rows (said total_word n) er es))
