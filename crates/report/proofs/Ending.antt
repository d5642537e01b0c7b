-- How draining ends: each sweep but the last accepts a move, and there are more sweeps than moves to make, so the last one accepts none. Then
-- the moves that would empty the mesh leave it as it is, so it is empty. By induction on the sweeps. Assumes nothing.
use Prim.Native.Nat.{ℕ, zero, suc, ◌+◌, ◌≤◌, ◌<◌}
use mathlib.Core.Path.{◌≡◌, refl, sym, ap, subst, ◌∙◌}
use mathlib.Core.Logic.{◌≢◌}
use mathlib.Core.Bool.{true}
use mathlib.Core.List.{List, [], ◌∷◌, ◌++◌}
use native.Mathlib.Decide.{ℕ_discrete}
use native.Mathlib.Omega.{arith}
use lib.Dec.{eqb}
use lib.ListN.{length}
use borrow.Author.Tests.{eq-eqb, ne_eqb}
use Rattle.route.specs.Grid.{pick}
use Rattle.wormhole.specs.Range.{every}
use Rattle.wormhole.specs.Drains.{Lent, Move, Call, movings, empty, moves, run, now, remaining, Drains}
use Rattle.wormhole.proofs.Draining.Lists.{run_append}
use Rattle.wormhole.proofs.Draining.Drained.{drains, lengths}
use Rattle.report.specs.Sweeps.{Tally, sum, idle, sweep, drained}
use Rattle.report.proofs.Tracing.{kept, Trace, traced, sweeps_traced}
use Rattle.report.proofs.Complete.{quiet}

module _ (C R rule : ℕ) where
  -- every move is refused
  abbrev pub Ended : Lent → Type 0
  Ended M = (v : Move) → (moves C R rule M v).answer ≢ 0

  -- then moves leave memory as it is
  unmade : (M : Lent) → Ended M → (vs : List Move) → run C R rule M (movings vs) ≡ M
  unfolding run
  unmade M ended [] = refl
  unmade M ended (v ∷ vs) = ap (λ (X : Lent). run C R rule X (movings vs)) (kept C R rule M v (ended v)) ∙ unmade M ended vs

  -- after n sweeps every move is refused, or each sweep had one accepted
  data Outcome (n : ℕ) (S T : Tally) : Type 0 where
    ends : Ended T.lent → Outcome n S T
    goes : n + sum S.made ≤ sum T.made → Outcome n S T

  outcome : (n : ℕ) (S : Tally) → length S.lent.records ≡ length S.made → Outcome n S (drained C R rule n S)
  unfolding drained
  outcome zero S even = goes (omega arith)
  outcome (suc n) S even = by (ℕ_discrete (sum N.made) (sum S.made)) (outcome n N P.even)
    where
      N : Tally
      N = sweep C R rule S

      P : Trace C R rule S N
      P = traced C R rule S even _

      further : sum N.made ≢ sum S.made → Outcome n N (drained C R rule n N) → Outcome (suc n) S (drained C R rule n N)
      further ne (ends ended) = ends ended
      further ne (goes enough) = goes (omega (arith, P.all))

      by : Dec (sum N.made ≡ sum S.made) → Outcome n N (drained C R rule n N)
          → Outcome (suc n) S (pick (eqb (sum N.made) (sum S.made)) N (drained C R rule n N))
      by (yes e) rest =
          let q = quiet C R rule S even e in
          rw (eq-eqb (sum N.made) (sum S.made) e) (ends (subst (λ (T : Tally). Ended T.lent) (sym q.0) q.1))
      by (no ne) rest = rw (ne_eqb (sum N.made) (sum S.made) ne) (further ne rest)

  -- ---- a mesh of 64 records that some calls reached, swept more often than moves remain
  module _ (c : 2 ≤ C) (c' : C ≤ 16) (r : 2 ≤ R) (r' : R ≤ 16) (five : rule ≤ 4) (cs : List Call) (S : Tally) (there : S.lent ≡ now C R rule 64 cs)
      (long : length S.made ≡ 64) (n : ℕ) (few : remaining C R rule 64 cs < n) where
    -- the demand, at each list of calls
    abbrev D : (xs : List Call) → Drains C R rule 64 xs
    D = drains C R rule 64 c c' r r' five (omega arith) (omega arith)

    -- the end
    abbrev E : Tally
    E = drained C R rule n S

    even : length S.lent.records ≡ length S.made
    even = ap (λ (M : Lent). length M.records) there ∙ ((lengths C R rule 64 cs).1 ∙ sym long)

    -- the moves that were made
    pub trace : Trace C R rule S E
    trace = sweeps_traced C R rule n S even

    -- every move is refused
    pub no_more : Ended E.lent
    no_more = by (outcome n S even)
      where
        by : Outcome n S E → Ended E.lent
        by (ends ended) = ended
        by (goes all) =
            let most = rw (← there) at ((D cs).at_most trace.through) in
            absurd (omega (arith, trace.all))

    reached : E.lent ≡ now C R rule 64 (cs ++ movings trace.through)
    reached = trace.lent ∙ (ap (λ (M : Lent). run C R rule M (movings trace.through)) there ∙ sym (run_append C R rule (empty C R 64) cs _))

    -- the mesh is empty
    pub empties : E.lent ≡ empty C R 64
    empties =
        let f = (D (cs ++ movings trace.through)).finishes in
        sym (unmade E.lent no_more f.0) ∙ rw reached f.3

    -- all moves that remained were counted
    pub all_made : sum E.made ≡ sum S.made + remaining C R rule 64 cs
    all_made =
        let p = ((D cs).exactly trace.through).1 (rw (← there, ← trace.lent) empties) in
        rw (← p, ← there) trace.all

    -- no packet is on its way
    pub idles : idle E.lent.records ≡ true
    unfolding idle every
    idles = rw empties refl
