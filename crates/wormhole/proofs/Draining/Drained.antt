-- The demand: the account of a list of calls, by induction on it; then each clause from what is left to make, which is nothing exactly in the
-- empty memory. Assumes nothing.
use Prim.Native.Nat.{ℕ, zero, suc, ◌+◌, ◌≤◌, ◌<◌}
use mathlib.Core.Path.{◌≡◌, refl, sym, ap, ◌∙◌}
use mathlib.Core.Logic.{◌↔◌}
use mathlib.Core.Bool.{Bool}
use mathlib.Core.List.{List, [], ◌∷◌}
use native.Mathlib.Omega.{arith}
use lib.Dec.{eqb, eqb→eq, eqb_refl}
use lib.ListN.{length, get_or, replicate, length-replicate}
use Rattle.route.specs.Numbers.{channels}
use Rattle.route.specs.Served.{unless}
use Rattle.wormhole.specs.declared.records.Record.{Record}
use Rattle.wormhole.specs.Memory.{Sections, sections, joined, none}
use Rattle.wormhole.specs.Calls.{left, needed, lowest, bad_size, reset}
use Rattle.wormhole.specs.Drains.{Lent, Move, Call, offering, moving, movings, empty, any, owes, offers, after, run, brings, makes, total, accepted, now, work, made, remaining, Drains, Demand}
use Rattle.wormhole.proofs.Refusing.{sized}
use Rattle.wormhole.proofs.Sections.{rejoined}
use Rattle.wormhole.proofs.Draining.Picks.{picked}
use Rattle.wormhole.proofs.Draining.Network.{Network}
use Rattle.wormhole.proofs.Draining.Emptying.{at_replicate, invariant_empty, none_left, left_none, some_live, all_zero, joined_zeros, sections_zeros}
use Rattle.wormhole.proofs.Draining.Meshes.{real}
use Rattle.wormhole.proofs.Draining.Lists.{none_brought}
use Rattle.wormhole.proofs.Draining.Answers as answers
use Rattle.wormhole.proofs.Draining.Accounts.{unused_of, Good, owed, called, ranged, some_move}

module _ (C R rule count : ℕ) where
  abbrev M : Network
  M = real C R rule

  abbrev in_sections : Lent → Sections
  in_sections m = sections (channels C R) m.words

  -- ---- lists of calls
  runs : (m : Lent) → Good C R rule count m → (cs : List Call)
      → let m' = run C R rule m cs in
      Good C R rule count m'
      × ((test : ℕ → Bool) → total C R rule (makes C R rule test) m cs + owed C R rule test m' ≡ total C R rule (brings C R rule test) m cs + owed C R rule test m)
  unfolding run total
  runs m G [] = (G, λ test. refl)
  runs m G (c ∷ cs) =
      let p = called C R rule count m G c in
      let q = runs (after C R rule m c) p.0 cs in
      (q.0, λ test. omega (arith, p.1 test, q.1 test))

  runs_moves : (m : Lent) → Good C R rule count m → (vs : List Move)
      → accepted C R rule m vs + owed C R rule any (run C R rule m (movings vs)) ≡ owed C R rule any m
  runs_moves m G vs = omega (arith, (runs m G (movings vs)).1 any, none_brought C R rule any m vs)

  -- ---- the empty memory
  good_empty : Good C R rule count (empty C R count)
  good_empty =
      record {
        long = length-replicate (needed C R) 0;
        many = length-replicate count none;
        kept = rw (sections_zeros (channels C R)) (invariant_empty M count);
      }

  owed_empty : (test : ℕ → Bool) → owed C R rule test (empty C R count) ≡ 0
  owed_empty test =
      none_left M test (in_sections (empty C R count)) (replicate count none) good_empty.kept (λ j t. at_replicate count j none)

  -- memory with nothing left to make
  empties : (m : Lent) → Good C R rule count m → owed C R rule any m ≡ 0 → m ≡ empty C R count
  empties m G z =
      let a = all_zero M (in_sections m) m.records G.kept z in
      let p : m.words ≡ replicate (needed C R) 0 = sym (rejoined (channels C R) m.words) ∙ (ap joined a.0 ∙ joined_zeros (channels C R)) in
      let q : m.records ≡ replicate count none = rw G.many at a.1 in
      λ j. record { words = p j; records = q j }

  -- record i has nothing left to make exactly if it is empty
  module _ (m : Lent) (G : Good C R rule count m) (i : ℕ) where
    none_owed : get_or m.records i none ≡ none → owed C R rule (eqb i) m ≡ 0
    none_owed e = none_left M (eqb i) (in_sections m) m.records G.kept (λ j t. let p : i ≡ j = eqb→eq i j t in rw (← p) e)

    owed_none : i < count → owed C R rule (eqb i) m ≡ 0 → get_or m.records i none ≡ none
    owed_none low z = (left_none M (eqb i) (in_sections m) m.records G.kept z i (omega (arith, low, G.many)) (eqb_refl i)).0

  module _ (size : bad_size C R rule (needed C R) count ≡ 0) where
    -- ---- a move that is accepted, and again, while one is left
    finish : (left : ℕ) (m : Lent) → Good C R rule count m → owed C R rule any m ≡ left
        → (vs : List Move) × (length vs ≡ left) × (accepted C R rule m vs ≡ left) × (run C R rule m (movings vs) ≡ empty C R count)
    unfolding run total
    finish zero m G e = ([], refl, refl, empties m G e)
    finish (suc left) m G e =
        let l = some_live M any (in_sections m) m.records G.kept (omega (arith, e)) in
        let v = some_move C R rule count m G size l.0 l.1 in
        let p = called C R rule count m G (moving v.0) in
        let one : makes C R rule any m (moving v.0) ≡ 1 = rw v.1 refl in
        let q = finish left (after C R rule m (moving v.0)) p.0 (omega (arith, p.1 any, one, e)) in
        (v.0 ∷ q.0, omega (arith, q.1), omega (arith, one, q.2), q.3)

    -- ---- after any calls
    module _ (cs : List Call) where
      abbrev m : Lent
      m = now C R rule count cs

      G : Good C R rule count m
      G = (runs (empty C R count) good_empty cs).0

      even : made C R rule count cs + owed C R rule any m ≡ work C R rule count cs
      even = omega (arith, (runs (empty C R count) good_empty cs).1 any, owed_empty any)

      -- a packet that is accepted then
      module _ (a b f : ℕ) (e : (offers C R rule m a b f).answer.refusal ≡ 0) where
        abbrev i : ℕ
        i = (offers C R rule m a b f).answer.«record»

        abbrev then : Lent
        then = after C R rule m (offering a b f)

        A : answers.Taken C R rule m.words m.records a b f
        A = answers.taken C R rule m.words m.records a b f e

        before : get_or m.records i none ≡ none
        before =
            let j = lowest m.records in
            rw A.number (unused_of M (in_sections m) j (get_or m.records j none) A.unused (G.kept.slot j)).0

        sets_out : owed C R rule (eqb i) then ≡ owes C a b f
        sets_out =
            let brought : brings C R rule (eqb i) m (offering a b f) ≡ owes C a b f = rw e (picked (eqb i i) (owes C a b f) 0 (eqb_refl i)) in
            omega (arith, (called C R rule count m G (offering a b f)).1 (eqb i), none_owed m G i before, brought)

        its_own : (later : List Call) → total C R rule (brings C R rule (eqb i)) then later ≡ 0
            → let its = total C R rule (makes C R rule (eqb i)) then later in
            (its ≤ owes C a b f) × ((its ≡ owes C a b f) ↔ (get_or (run C R rule then later).records i none ≡ none))
        its_own later z =
            let p = runs then (called C R rule count m G (offering a b f)).0 later in
            let h = p.1 (eqb i) in
            let low : i < count = omega (arith, A.number, A.low, G.many) in (
              omega (arith, h, z, sets_out),
              (
                (λ q. owed_none (run C R rule then later) p.0 i low (omega (arith, h, z, sets_out, q))),
                (λ q. omega (arith, h, z, sets_out, none_owed (run C R rule then later) p.0 i q)),
              ),
            )

      after_any : Drains C R rule count cs
      after_any =
          record {
            ranged = ranged C R rule count m G;
            enough = omega (arith, even);
            goes_on = some_move C R rule count m G size;
            at_most = λ vs. omega (arith, even, runs_moves m G vs);
            exactly = λ vs. (
              (λ e. empties (run C R rule m (movings vs)) (runs m G (movings vs)).0 (omega (arith, even, runs_moves m G vs, e))),
              (λ e. omega (arith, even, runs_moves m G vs, ap (owed C R rule any) e, owed_empty any)),
            );
            each = λ a b f later e z. its_own a b f e later z;
            finishes = finish (remaining C R rule count cs) m G (omega (arith, even));
          }

-- the theorem
pub drains : Demand
drains C R rule count c c' r r' k o o' cs = after_any C R rule count (answers.sizes_served C R rule count c c' r r' k o o') cs

-- memory keeps its sizes
pub lengths : (C R rule count : ℕ) (cs : List Call) → (length (now C R rule count cs).words ≡ needed C R) × (length (now C R rule count cs).records ≡ count)
lengths C R rule count cs = let G = (runs C R rule count (empty C R count) (good_empty C R rule count) cs).0 in (G.long, G.many)

-- a mesh that a reset was accepted for is the empty one, whatever memory held
pub reset_empties : (C R : ℕ) (w : List ℕ) (rs : List Record) → let o = reset C R w rs in o.answer ≡ 0
    → record { words = o.words; records = o.records } ≡ empty C R (length rs)
unfolding reset
reset_empties C R w rs = by (bad_size C R 0 (length w) (length rs)) refl
  where
    by : (k : ℕ) → bad_size C R 0 (length w) (length rs) ≡ k
        → let o = unless (λ c. left c w rs) k (left 0 (replicate (length w) 0) (replicate (length rs) none)) in o.answer ≡ 0
        → record { words = o.words; records = o.records } ≡ empty C R (length rs)
    by zero e z = rw (sized C R 0 (length w) (length rs) (sym e) refl).long refl
    by (suc k) e z = absurd (omega (arith, z))
