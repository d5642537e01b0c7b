-- The packets of a list as they are loaded, one after another, and what the loop finds where it ends. Assumes nothing.
use Prim.Native.Nat.{ℕ, ◌+◌, ◌≤◌}
use mathlib.Core.Path.{◌≡◌, refl, ◌∙◌, ap}
use mathlib.Core.List.{List}
use native.Mathlib.Numerals.{add-one}
use native.Mathlib.Omega.{arith}
use lib.ListN.{length, set, get_or, replicate, length-replicate}
use Rattle.std.proofs.Math.Seq.{map-set_same}
use Rattle.wormhole.specs.declared.records.Record.{Record}
use Rattle.wormhole.specs.Memory.{none}
use Rattle.traffic.specs.declared.headers.Header.{Header}
use Rattle.traffic.specs.Lists.{packets}
use Rattle.traffic.specs.Calls.{filled}
use Rattle.traffic.proofs.Heads.{length_packets}
use Rattle.traffic.proofs.Storing.{stored, stored_all}
use Rattle.report.specs.declared.turns.Counted.{Counted}
use Rattle.report.specs.Coded.{recs, counts}
use Rattle.report.proofs.Counting.{recs_set, recs_all, counts_all}

-- ---- before the loop
module _ (ps : List Record) where
  pub none_loaded : (c : Counted) → c.packet ≡ none → recs (replicate 64 c) ≡ stored ps (replicate 64 none) 0
  unfolding stored
  none_loaded c e = recs_all 64 c ∙ ap (replicate 64) e

  -- ---- one more
  pub one_loaded : (cs : List Counted) (i : ℕ) → recs cs ≡ stored ps (replicate 64 none) i → (c : Counted) → c.packet ≡ get_or ps i none
      → recs (set cs i c) ≡ stored ps (replicate 64 none) (i + 1)
  unfolding stored
  one_loaded cs i e c h = rw (add-one i, recs_set cs i c, e, h) refl

pub none_counted : (c : Counted) → c.moves ≡ 0 → counts (replicate 64 c) ≡ replicate 64 0
none_counted c e = counts_all 64 c ∙ ap (replicate 64) e

-- a packet that is loaded keeps its count
pub still_none : (cs : List Counted) (i : ℕ) (c d : Counted) → c.moves ≡ (get_or cs i d).moves → counts cs ≡ replicate 64 0 → counts (set cs i c) ≡ replicate 64 0
unfolding counts
still_none cs i c d h e = map-set_same (λ (x : Counted). x.moves) cs i c d h ∙ e

-- ---- all
pub all_loaded : (C : ℕ) (hs : List Header) (cs : List Counted) (i : ℕ) → length hs ≤ 64 → recs cs ≡ stored (packets C hs) (replicate 64 none) i → i ≤ 64 → 64 ≤ i
    → recs cs ≡ filled (packets C hs) 64
all_loaded C hs cs i few e l g =
    let n : i ≡ length (replicate 64 none) = omega (arith, l, g, length-replicate 64 none) in
    let h : length (packets C hs) ≤ length (replicate 64 none) = omega (arith, few, length_packets C hs, length-replicate 64 none) in
    e ∙ (rw n (stored_all (packets C hs) (replicate 64 none) h) ∙ ap (filled (packets C hs)) (length-replicate 64 none))
