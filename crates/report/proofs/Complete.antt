-- A sweep that accepts nothing has tried every move: memory stood still, so all its turns are refused there, and every move that could be
-- accepted is one of them, up to what its kind does not read. By induction on the turns, then by the kind. Assumes nothing.
use Prim.Native.Nat.{ℕ, zero, suc, ◌+◌, ◌-◌, ◌*◌, ◌<◌, ◌/◌, ◌%◌}
use mathlib.Core.Path.{◌≡◌, refl, sym, ap, subst, ◌∙◌}
use mathlib.Core.Logic.{◌≢◌}
use mathlib.Core.List.{List}
use native.Mathlib.Decide.{ℕ_discrete, dec_lt}
use native.Mathlib.Omega.{arith}
use lib.Dec.{eqb, ltb}
use lib.ListN.{length, take, length-take, get_or-eq_default}
use mir.Facts.{and_yes, eqb_yes, ltb_yes}
use borrow.Author.Tests.{lt-ltb, le-ltb}
use Rattle.route.specs.Grid.{pick}
use Rattle.route.specs.Numbers.{channels}
use Rattle.wormhole.specs.Memory.{net, sections, owner_of}
use Rattle.wormhole.specs.Steps.{may, act, can_follow, may_follow}
use Rattle.wormhole.specs.Calls.{move}
use Rattle.wormhole.specs.Drains.{Lent, Move, moves}
use Rattle.wormhole.proofs.Draining.Answers.{Moved, moved}
use Rattle.report.specs.Sweeps.{Tally, sum, own_turn, turn, tried, turns, sweep}
use Rattle.report.proofs.Tracing.{refused, grows, traced}

-- a record's turn, by its record and its place among the six
own_at : (i j : ℕ) → j < 6 → own_turn (6 * i + j) ≡ record { packet = i; kind = pick (ltb j 4) 0 (j - 2); channel = 0; direction = j }
own_at i j few =
    let p : (6 * i + j) / 6 ≡ i = omega arith in
    let q : (6 * i + j) % 6 ≡ j = omega arith in
    rw (p, q) refl

-- a channel that has an owner has a number
owned_low : (n : ℕ) (w : List ℕ) (k i : ℕ) → owner_of (sections n w) k ≡ i + 1 → k < n
unfolding sections
owned_low n w k i e = by (dec_lt k n)
  where
    by : Dec (k < n) → k < n
    by (yes low) = low
    by (no high) = absurd (omega (arith, e, get_or-eq_default (take n w) 0 {n = k} (omega (arith, length-take n w))))

-- the move of a turn on a memory
abbrev asked : ℕ → ℕ → Lent → ℕ → Move
asked C R M t = turn (length M.records) (channels C R) M.words t

module _ (C R rule : ℕ) where
  -- ---- turns that are all refused
  module _ (S : Tally) (even : length S.lent.records ≡ length S.made) where
    -- the move of turn t is refused on the memory at the start
    abbrev Refused : ℕ → Type 0
    Refused t = (moves C R rule S.lent (asked C R S.lent t)).answer ≢ 0

    -- none of so many turns was counted: none changed anything, and each is refused
    still : (n : ℕ) → sum (turns C R rule S n).made ≡ sum S.made → (turns C R rule S n ≡ S) × ((t : ℕ) → t < n → Refused t)
    unfolding turns
    still zero e = (refl, λ t low. absurd (omega arith))
    still (suc n) e = by (ℕ_discrete (moves C R rule X.lent v).answer 0) (still n)
      where
        X : Tally
        X = turns C R rule S n

        v : Move
        v = asked C R X.lent n

        by : Dec ((moves C R rule X.lent v).answer ≡ 0)
            → (sum X.made ≡ sum S.made → (X ≡ S) × ((t : ℕ) → t < n → Refused t))
            → (tried C R rule X v ≡ S) × ((t : ℕ) → t < suc n → Refused t)
        by (yes a) before =
            let P = traced C R rule S even n in
            absurd (omega (arith, grows C R rule X v P.even a, P.all, e))
        by (no ne) before =
            let same = refused C R rule X v ne in
            let q = before (ap (λ (Y : Tally). sum Y.made) (sym same) ∙ e) in
            let last = subst (λ (Y : Tally). (moves C R rule Y.lent (asked C R Y.lent n)).answer ≢ 0) q.0 ne in
            (same ∙ q.0, λ t low. at t (q.1 t) last (ℕ_discrete t n) low)
          where
            at : (t : ℕ) → (t < n → Refused t) → Refused n → Dec (t ≡ n) → t < suc n → Refused t
            at t below last (yes p) low = rw p last
            at t below last (no ne) low = below (omega arith)

  -- ---- every move is a turn
  module _ (M : Lent) where
    -- a turn that is accepted
    abbrev Found : Type 0
    Found = (t : ℕ) × (t < 6 * length M.records + channels C R) × ((moves C R rule M (asked C R M t)).answer ≡ 0)

    turned : (t : ℕ) (v : Move) → asked C R M t ≡ v → t < 6 * length M.records + channels C R → (moves C R rule M v).answer ≡ 0 → Found
    turned t v e low a = (t, low, subst (λ (u : Move). (moves C R rule M u).answer ≡ 0) (sym e) a)

    own_found : (i j : ℕ) → i < length M.records → j < 6
        → (move C R rule M.words M.records i (pick (ltb j 4) 0 (j - 2)) 0 j).answer ≡ 0 → Found
    own_found i j low few a =
        turned (6 * i + j) _ (rw (lt-ltb (6 * i + j) (6 * length M.records) (omega arith)) (own_at i j few)) (omega arith) a

    found : (i kind k d : ℕ) → (move C R rule M.words M.records i kind k d).answer ≡ 0
        → Moved C R rule M.words M.records i kind k d → Found
    unfolding move may act may_follow
    found i zero k d a A =
        let way : d < 4 = ltb_yes A.known in
        own_found i d A.low (omega arith) (rw (lt-ltb d 4 way) a)
    found i (suc zero) k d a A =
        let s = sections (channels C R) M.words in
        let e : owner_of s k ≡ i + 1 = eqb_yes (and_yes (eqb (owner_of s k) (i + 1)) (can_follow (net C R rule) s k) A.may).0 in
        let t = 6 * length M.records in
        let p : (t + k) - t ≡ k = omega arith in
        let q : owner_of s k - 1 ≡ i = omega (arith, e) in
        turned (t + k) (record { packet = i; kind = 1; channel = k; direction = 0 }) (rw (le-ltb (t + k) t (omega arith), p, q) refl)
        (omega (arith, owned_low (channels C R) M.words k i e)) a
    found i (suc (suc zero)) k d a A = own_found i 4 A.low (omega arith) a
    found i (suc (suc (suc zero))) k d a A = own_found i 5 A.low (omega arith) a
    found i (suc (suc (suc (suc kind)))) k d a A = absurd A.known

  -- ---- a sweep that accepts nothing: it leaves everything, and every move is refused
  pub quiet : (S : Tally) → length S.lent.records ≡ length S.made → sum (sweep C R rule S).made ≡ sum S.made
      → (sweep C R rule S ≡ S) × ((v : Move) → (moves C R rule S.lent v).answer ≢ 0)
  quiet S even e =
      let p = still S even (6 * length S.lent.records + channels C R) e in (
        p.0,
        λ v a.
            let A = moved C R rule S.lent.words S.lent.records v.packet v.kind v.channel v.direction a in
            let t = found S.lent v.packet v.kind v.channel v.direction a A in
            p.1 t.0 t.1 t.2,
      )
