-- The report as a whole: the part of the words that a list is read into, each return by the tests before it, and the page as the bytes that are
-- left. Assumes nothing.
use Prim.Native.Nat.{ℕ, zero, suc, ◌+◌, ◌-◌, ◌*◌, ◌≤◌, ◌<◌, min}
use mathlib.Core.Path.{◌≡◌, refl, sym, ◌∙◌, ap}
use mathlib.Core.Bool.{Bool, true, false, not, ◌&&◌, ◌||◌}
use mathlib.Core.List.{List, [], ◌∷◌, ◌++◌}
use native.Mathlib.Omega.{arith}
use lib.Dec.{leb, ltb, eqb}
use lib.ListN.{length, take, drop, replicate, length-append, length-take}
use lib.Seq.{length-take-le}
use borrow.Author.Tests.{lt-ltb, le-ltb, ltb-true, ltb-false}
use Rattle.std.specs.Prelude.{Result, Ok, Err, is_ok}
use Rattle.std.specs.Borrow.{MutBor}
use Rattle.route.specs.declared.refusals.Refusal.{Refusal}
use Rattle.route.specs.Grid.{pick}
use Rattle.route.specs.Numbers.{channels, rule_of}
use Rattle.route.specs.Mesh.{Mesh, ruled}
use Rattle.route.specs.Served.{off_side, unless, bad_mesh, code}
use Rattle.route.specs.Paths.{same_place}
use Rattle.route.proofs.Promises.{code_high, refuses_by}
use Rattle.wormhole.specs.Memory.{none}
use Rattle.wormhole.specs.Range.{flits_served}
use Rattle.wormhole.specs.Calls.{needed}
use Rattle.traffic.specs.declared.headers.Header.{Header}
use Rattle.traffic.specs.declared.pages.Written.{Written}
use Rattle.traffic.specs.Lists.{listed, lead, after_lead, outside, bad_header, bad_headers}
use Rattle.traffic.specs.Calls.{bad_read, written, written_of, over}
use Rattle.traffic.specs.declared.pages.Page.{Page}
use Rattle.traffic.specs.Coded.{page, turned, puts}
use Rattle.traffic.proofs.Allowed.{read_answers}
use Rattle.traffic.proofs.Putting.{puts_over}
use Rattle.report.specs.declared.turns.Counted.{Counted}
use Rattle.report.specs.Sweeps.{Tally, sum, idle, sweep, drained}
use Rattle.report.specs.Text.{refused_word, stalled, said}
use Rattle.report.specs.Calls.{need, reading, drain, drained_sheet, sheet, Reported, report}
use Rattle.report.specs.Coded.{recs, counts, tally, Reached, Printed, printed, prints}
use Rattle.report.proofs.Reaching.{few_made, reached_turns}
use Rattle.report.proofs.Settling.{source, reached}
use Rattle.report.proofs.Lengths.{sheet_short, refused_short}

-- ---- what drained
reached_drained : (C R rule n : ℕ) (S : Tally) → Reached C R rule S → Reached C R rule (drained C R rule n S)
unfolding drained
reached_drained C R rule zero S H = H
reached_drained C R rule (suc n) S H =
    let T = sweep C R rule S in
    let next = reached_turns C R rule S H (6 * length S.lent.records + channels C R) in
    either (eqb (sum T.made) (sum S.made)) T (drained C R rule n T) next (reached_drained C R rule n T next)
  where
    either : (b : Bool) (S T : Tally) → Reached C R rule S → Reached C R rule T → Reached C R rule (pick b S T)
    either true S T p q = p
    either false S T p q = q

pub drain_few : (bs w : List ℕ) → bad_read bs (length w) 64 ≡ 0 → sum (drain bs w).made ≤ 396800
drain_few bs w z =
    let l = lead bs in
    few_made l.columns l.rows l.rule (drain bs w) (reached_drained l.columns l.rows l.rule _ (source bs w z) (reached bs w z))

-- ---- of words of which the first are read into
module _ (bs w : List ℕ) (old : Page) where
  abbrev part : List ℕ
  part = take (need bs) w

  judged : {k : ℕ} → k ≡ bad_read bs (min (need bs) (length w)) 64 → (reading bs part).answer.refusal ≡ k
  judged hk = read_answers bs part (replicate 64 none) ∙ rw (length-take (need bs) w) (sym hk)

  -- refused
  pub prints_refused : (e : Refusal) → code e ≡ bad_read bs (min (need bs) (length w)) 64 → {n : ℕ} {p : Page} → n ≡ code e → p ≡ puts old (said refused_word n) → printed w p ≡ prints bs w old
  unfolding prints
  prints_refused e hk en ep = rw (judged hk, ep, en) (sym (refuses_by (λ c. printed w (puts old (said refused_word c))) _ e))

  -- read, into the mesh g of its lead
  module _ (served : 0 ≡ bad_read bs (min (need bs) (length w)) 64) {g : Mesh} (eg : g ≡ ruled (rule_of (lead bs).rule) (lead bs).columns (lead bs).rows 0) where
    pub read_so : bad_read bs (length part) 64 ≡ 0
    read_so = rw (length-take (need bs) w) (sym served)

    module _ {n : ℕ} (n_is : n ≡ needed g.columns g.rows) where
      en : n ≡ need bs
      en = n_is ∙ ap (λ (g : Mesh). needed g.columns g.rows) eg

      pub drain_so : bad_read bs (length (take (n - 0) w)) 64 ≡ 0
      drain_so = let m : n - 0 ≡ need bs = omega (arith, en) in rw m read_so

      module _ (v : List ℕ) (cs : List Counted) (e : tally v cs ≡ drain bs (take (n - 0) (drop 0 w))) where
        same : tally v cs ≡ drain bs part
        same = let m : n - 0 ≡ need bs = omega (arith, en) in rw m at e

        pub few_drained : sum (counts cs) ≤ 396800
        few_drained = rw (ap (λ (S : Tally). S.made) same) (drain_few bs part read_so)

        -- the words that are left
        words_left : take 0 w ++ (v ++ drop (n - 0) (drop 0 w)) ≡ (drain bs part).lent.words ++ drop (need bs) w
        words_left =
            let m : n - 0 ≡ need bs = omega (arith, en) in
            rw m (ap (λ (S : Tally). S.lent.words ++ drop (need bs) w) same)

        module _ {b : Bool} (eb : b ≡ idle (recs cs)) where
          arrived : idle (drain bs part).lent.records ≡ b
          arrived = sym (eb ∙ ap (λ (S : Tally). idle S.lent.records) same)

          pub prints_stalled : b ≡ false → {p : Page} → p ≡ puts old stalled → printed (take 0 w ++ (v ++ drop (n - 0) (drop 0 w))) p ≡ prints bs w old
          unfolding prints
          prints_stalled h ep = rw (judged served, words_left, ep, arrived ∙ h) refl

          pub prints_drained : b ≡ true → {p : Page} → p ≡ puts old (drained_sheet bs (counts cs))
              → printed (take 0 w ++ (v ++ drop (n - 0) (drop 0 w))) p ≡ prints bs w old
          unfolding prints
          prints_drained h ep =
              let made : counts cs ≡ (drain bs part).made = ap (λ (S : Tally). S.made) same in
              rw (judged served, words_left, ep, arrived ∙ h, made) refl

-- ---- the whole
-- a refusal is a byte
below_unless : (j k : ℕ) → j < 256 → k < 256 → unless (λ i. i) j k < 256
below_unless zero k p q = q
below_unless (suc j) k p q = p

below_if : (b : Bool) (k : ℕ) → k < 256 → pick b 0 k < 256
below_if true k p = omega arith
below_if false k p = p

below_header : (a b c : Bool) → pick a 3 (pick b 6 (pick c 5 0)) < 256
below_header true b c = omega arith
below_header false true c = omega arith
below_header false false true = omega arith
below_header false false false = omega arith

below_headers : (C R : ℕ) (hs : List Header) → bad_headers C R hs < 256
unfolding bad_headers
below_headers C R [] = omega arith
below_headers C R (h ∷ hs) =
    below_unless (bad_header C R h) (bad_headers C R hs)
    (below_header (outside C R h.source || outside C R h.destination) (not (flits_served h.flits)) (same_place h.source h.destination))
    (below_headers C R hs)

below_mesh : (a b : Bool) → pick a 1 (pick b 2 0) < 256
below_mesh true b = omega arith
below_mesh false true = omega arith
below_mesh false false = omega arith

below : (bs : List ℕ) (words records : ℕ) → bad_read bs words records < 256
below bs words records =
    let C = (lead bs).columns in
    let R = (lead bs).rows in
    let hs = after_lead bs in
    let mesh = below_mesh (off_side C || off_side R) (ltb 4 (lead bs).rule) in
    let size = below_unless (bad_mesh C R (lead bs).rule) _ mesh (below_if (eqb words (needed C R) && (leb 1 records && leb records 64)) 7 (omega arith)) in
    let full = below_if (leb (length hs) records) 10 (omega arith) in
    below_unless _ _ (below_if (listed (length bs)) 12 (omega arith))
    (below_unless _ _ mesh
    (below_unless _ _ (below_if (eqb (lead bs).spare 0) 12 (omega arith)) (below_unless _ _ size (below_unless (bad_headers C R hs) _ (below_headers C R hs) full))))

module _ (bs w out : List ℕ) (room : 1024 ≤ length out) where
  -- the sheet, and the words that are left
  record Whole : Type 0 where
    text : List ℕ
    left : List ℕ
    short : length text ≤ 1024
    print : (p : Page) → prints bs w p ≡ printed left (puts p text)
    whole : report bs w out ≡ record { answer = written 0 (length text); words = left; bytes = over text out }

  whole_of : Whole
  unfolding prints report
  whole_of = by (reading bs (take (need bs) w)).answer.refusal refl
    where
      by : (k : ℕ) → (reading bs (take (need bs) w)).answer.refusal ≡ k → Whole
      by zero e =
          let z : bad_read bs (length (take (need bs) w)) 64 ≡ 0 = sym (read_answers bs (take (need bs) w) (replicate 64 none)) ∙ e in
          let S = drain bs (take (need bs) w) in
          record {
            text = sheet bs S;
            left = S.lent.words ++ drop (need bs) w;
            short = sheet_short bs (length (take (need bs) w)) z S (drain_few bs (take (need bs) w) z);
            print = λ p. rw e refl;
            whole = rw (e, le-ltb (length out) 1024 room) refl;
          }
      by (suc k) e =
          let l : suc k < 256 = rw (← e, read_answers bs (take (need bs) w) (replicate 64 none)) (below bs (length (take (need bs) w)) 64) in
          record {
            text = said refused_word (suc k);
            left = w;
            short = refused_short (suc k) l;
            print = λ p. rw e refl;
            whole = rw (e, le-ltb (length out) 1024 room) refl;
          }

  -- on a page over the lent bytes
  module _ (lent : MutBor (List ℕ)) (el : lent.now ≡ out) (v : List ℕ) (p : Page) (e : printed v p ≡ prints bs w (page lent)) where
    sheeted : printed v p ≡ printed whole_of.left (turned (page lent) (over whole_of.text out) (length whole_of.text))
    sheeted =
        let W = whole_of in
        let room_lent : length W.text ≤ length lent.now = rw el (omega (arith, W.short, room)) in
        let stands = puts_over (page lent) W.text lent.now room_lent ∙ ap (λ o. turned (page lent) (over W.text o) (length W.text)) el in
        e ∙ (W.print (page lent) ∙ ap (printed W.left) stands)

    -- it is over the same lent bytes
    pub report_lent : lent.ghost_name ≡ p.out.ghost_name
    report_lent = sym (ap (λ (x : Printed). x.sheet.out.ghost_name) sheeted)

    module _ {n : ℕ} (en : n ≡ p.end) where
      pub report_length : n < 65536
      report_length =
          let q : p.end ≡ length whole_of.text = ap (λ (x : Printed). x.sheet.end) sheeted in
          omega (arith, en, q, whole_of.short)

      pub report_done : {left : List ℕ} → left ≡ p.out.now → record { answer = written 0 n; words = v; bytes = left } ≡ report bs w out
      report_done eb =
          let so : Printed → Reported = λ x. record { answer = written 0 x.sheet.end; words = x.words; bytes = x.sheet.out.now } in
          rw (en, eb) (ap so sheeted ∙ sym whole_of.whole)

-- too few bytes
pub report_refused : (bs w out : List ℕ) → length out < 1024 → record { answer = written 7 0; words = w; bytes = out } ≡ report bs w out
unfolding report
report_refused bs w out h = rw (lt-ltb (length out) 1024 h) refl

-- ---- what is written is within the bytes, of which there are enough
module _ (bs w out : List ℕ) (r : Result ℕ Refusal) (v p : List ℕ) (e : record { answer = written_of r; words = v; bytes = p } ≡ report bs w out) (room : 1024 ≤ length out) where
  pub report_served : is_ok r ≡ true
  report_served = by r (ap (λ (x : Reported). x.answer.refusal) (e ∙ (whole_of bs w out room).whole))
    where
      by : (r : Result ℕ Refusal) → (written_of r).refusal ≡ 0 → is_ok r ≡ true
      by (Ok n) z = refl
      by (Err d) z = absurd (omega (arith, code_high d, z))

module _ (bs w out : List ℕ) {o : Written} (v p : List ℕ) (e : record { answer = o; words = v; bytes = p } ≡ report bs w out) where
  pub report_within : o.length ≤ length p
  report_within = by (ltb (length out) 1024) refl
    where
      by : (b : Bool) → ltb (length out) 1024 ≡ b → o.length ≤ length p
      by true t =
          let n : o.length ≡ 0 = ap (λ (x : Reported). x.answer.length) (e ∙ sym (report_refused bs w out (ltb-true (length out) 1024 t))) in
          omega (arith, n)
      by false t =
          let W = whole_of bs w out (ltb-false (length out) 1024 t) in
          let n : o.length ≡ length W.text = ap (λ (x : Reported). x.answer.length) (e ∙ W.whole) in
          let q : length p ≡ length (over W.text out) = ap (λ (x : Reported). length x.bytes) (e ∙ W.whole) in
          omega (arith, n, q, length-append W.text (drop (length W.text) out))

  pub report_part : o.length ≡ length (take o.length p)
  report_part = sym (length-take-le o.length p report_within)
