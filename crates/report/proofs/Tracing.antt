-- What turns leave: those that are accepted are a list of moves, each made on the memory that the ones before it left, and each is counted once,
-- for its packet. A try by its answer, then by induction on the turns and on the sweeps. Assumes nothing.
use Prim.Native.Nat.{ℕ, zero, suc, ◌+◌, ◌<◌}
use mathlib.Core.Path.{◌≡◌, refl, ap}
use mathlib.Core.Logic.{◌≢◌}
use mathlib.Core.Bool.{Bool, true, false}
use mathlib.Core.List.{List, [], ◌∷◌, ◌++◌}
use native.Mathlib.Decide.{ℕ_discrete}
use native.Mathlib.Nat.{add-zero}
use native.Mathlib.Omega.{arith}
use lib.Dec.{eqb}
use lib.ListN.{length, get_or, set, length-set}
use lib.Seq.{set-get_or, get_or-set_same, get_or-set_other}
use borrow.Author.Tests.{eq-eqb, ne_eqb}
use Rattle.route.specs.Grid.{pick}
use Rattle.route.specs.Numbers.{channels}
use Rattle.wormhole.specs.Drains.{Lent, Move, Call, moving, movings, any, moves, after, run, makes, total, accepted}
use Rattle.wormhole.proofs.Draining.Lists.{run_append, total_append}
use Rattle.wormhole.proofs.Draining.Answers.{Moved, moved, unmoved}
use Rattle.report.specs.Sweeps.{Tally, sum, turn, tried, turns, sweep, drained}
use Rattle.report.proofs.Counting.{sum_set}

-- ---- lists
pub movings_append : (us vs : List Move) → movings (us ++ vs) ≡ movings us ++ movings vs
movings_append [] vs = refl
movings_append (u ∷ us) vs = ap (λ (l : List Call). moving u ∷ l) (movings_append us vs)

module _ (C R rule : ℕ) where
  -- a move that is refused leaves memory as it was
  pub kept : (M : Lent) (v : Move) → (moves C R rule M v).answer ≢ 0 → after C R rule M (moving v) ≡ M
  kept M v ne =
      let same = unmoved C R rule M.words M.records v.packet v.kind v.channel v.direction ne in
      λ j. record { words = same.0 j; records = same.1 j }

  -- ---- from one tally to another by moves that are counted; the second has a count for each record
  pub record Trace (S T : Tally) : Type 0 where
    pub through : List Move
    pub lent : T.lent ≡ run C R rule S.lent (movings through)
    pub own : (i : ℕ) → get_or T.made i 0 ≡ get_or S.made i 0 + total C R rule (makes C R rule (eqb i)) S.lent (movings through)
    pub all : sum T.made ≡ sum S.made + accepted C R rule S.lent through
    pub even : length T.lent.records ≡ length T.made

  stays : (S : Tally) → length S.lent.records ≡ length S.made → Trace S S
  unfolding run total
  stays S even = record { through = []; lent = refl; own = λ i. omega arith; all = omega arith; even = even }

  joins : {S T U : Tally} → Trace S T → Trace T U → Trace S U
  joins {S} P Q =
      record {
        through = P.through ++ Q.through;
        lent = rw (movings_append P.through Q.through, run_append C R rule, ← P.lent) Q.lent;
        own = λ i.
            rw (movings_append P.through Q.through, total_append C R rule (makes C R rule (eqb i)) S.lent, ← P.lent)
            (omega (arith, P.own i, Q.own i));
        all = rw (movings_append P.through Q.through, total_append C R rule (makes C R rule any) S.lent, ← P.lent) (omega (arith, P.all, Q.all));
        even = Q.even;
      }

  -- ---- a try
  module _ (S : Tally) (v : Move) where
    -- a move that is refused leaves everything
    pub refused : (moves C R rule S.lent v).answer ≢ 0 → tried C R rule S v ≡ S
    unfolding tried
    refused ne = λ j. record { lent = kept S.lent v ne j; made = uncounted j }
      where
        uncounted : set S.made v.packet (get_or S.made v.packet 0 + makes C R rule any S.lent (moving v)) ≡ S.made
        uncounted = rw (ne_eqb (moves C R rule S.lent v).answer 0 ne, add-zero (get_or S.made v.packet 0)) (set-get_or S.made v.packet 0)

    module _ (even : length S.lent.records ≡ length S.made) (e : (moves C R rule S.lent v).answer ≡ 0) where
      A : Moved C R rule S.lent.words S.lent.records v.packet v.kind v.channel v.direction
      A = moved C R rule S.lent.words S.lent.records v.packet v.kind v.channel v.direction e

      low : v.packet < length S.made
      low = omega (arith, A.low, even)

      -- one that is accepted counts one more
      pub grows : sum (tried C R rule S v).made ≡ sum S.made + 1
      unfolding tried
      grows = rw e (sum_set S.made v.packet 1 low)

      -- for its packet
      counted : Trace S (tried C R rule S v)
      unfolding tried run total
      counted =
          record {
            through = v ∷ [];
            lent = refl;
            own = λ i. rw e (by i (ℕ_discrete i v.packet));
            all = rw e (omega (arith, sum_set S.made v.packet 1 low));
            even = rw A.records (simp length-set even);
          }
        where
          by : (i : ℕ) → Dec (i ≡ v.packet)
              → get_or (set S.made v.packet (get_or S.made v.packet 0 + 1)) i 0 ≡ get_or S.made i 0 + (pick (eqb i v.packet) 1 0 + 0)
          by i (yes p) = rw (p, eq-eqb v.packet v.packet refl, get_or-set_same S.made v.packet (get_or S.made v.packet 0 + 1) 0 low) refl
          by i (no ne) = rw (ne_eqb i v.packet ne, get_or-set_other S.made v.packet i (get_or S.made v.packet 0 + 1) 0 ne) (omega arith)

    tries : length S.lent.records ≡ length S.made → Trace S (tried C R rule S v)
    tries even = by (ℕ_discrete (moves C R rule S.lent v).answer 0)
      where
        by : Dec ((moves C R rule S.lent v).answer ≡ 0) → Trace S (tried C R rule S v)
        by (yes e) = counted even e
        by (no ne) = rw (refused ne) (stays S even)

  -- ---- turns and sweeps
  pub traced : (S : Tally) → length S.lent.records ≡ length S.made → (t : ℕ) → Trace S (turns C R rule S t)
  unfolding turns
  traced S even zero = stays S even
  traced S even (suc t) =
      let P = traced S even t in
      let T = turns C R rule S t in
      joins P (tries T (turn (length T.lent.records) (channels C R) T.lent.words t) P.even)

  pub sweeps_traced : (n : ℕ) (S : Tally) → length S.lent.records ≡ length S.made → Trace S (drained C R rule n S)
  unfolding drained
  sweeps_traced zero S even = stays S even
  sweeps_traced (suc n) S even = by (eqb (sum T.made) (sum S.made)) (sweeps_traced n T P.even)
    where
      T : Tally
      T = sweep C R rule S

      P : Trace S T
      P = traced S even _

      by : (b : Bool) → Trace T (drained C R rule n T) → Trace S (pick b T (drained C R rule n T))
      by true Q = P
      by false Q = joins P Q
