-- The empty memory meets the invariant. A record has no move left exactly if it is empty; where none has, no channel has an owner, and all of
-- memory is zero. Assumes nothing.
use Prim.Native.Nat.{ℕ, zero, suc, ◌+◌, ◌*◌, ◌≤◌, ◌<◌}
use mathlib.Core.Path.{◌≡◌, refl, sym, ap, ◌∙◌}
use mathlib.Core.Logic.{◌≢◌}
use mathlib.Core.Bool.{Bool, true, false}
use mathlib.Core.List.{List}
use native.Mathlib.Decide.{ℕ_discrete}
use native.Mathlib.Omega.{arith}
use lib.Dec.{T}
use lib.ListN.{length, get_or, replicate, length-replicate, replicate-append-replicate}
use lib.Seq.{ext_get_or}
use Rattle.route.specs.Grid.{pick}
use Rattle.wormhole.specs.declared.records.Record.{Record}
use Rattle.wormhole.specs.Memory.{Sections, sections, joined, owner_of, holds_of, none}
use Rattle.wormhole.proofs.Sections.{sections_joined}
use Rattle.wormhole.proofs.Draining.Network.{Network}
use Rattle.wormhole.proofs.Draining.Sums.{sum_at_least, sum_zero, sum_some}
use Rattle.wormhole.proofs.Draining.Loads.{load, load_at_least}
use Rattle.wormhole.proofs.Draining.Fill.{heavy, yet, yet_none}
use Rattle.wormhole.proofs.Draining.Invariant.{Nothing, aim, away, Slot, unused, waits, holds, Invariant, left_of, share, left_in}

-- sections that are all zero
abbrev pub zeros : ℕ → Sections
zeros n = record { owner = replicate n 0; holds = replicate n 0; next = replicate n 0 }

pub at_replicate : {A : Type 0} (n k : ℕ) (a : A) → get_or (replicate n a) k a ≡ a
at_replicate zero k a = refl
at_replicate (suc n) zero a = refl
at_replicate (suc n) (suc k) a = at_replicate n k a

module _ (M : Network) where
  pub invariant_empty : (count : ℕ) → Invariant M (zeros M.numbers) (replicate count none)
  invariant_empty count =
      let n = M.numbers in
      record {
        owners = length-replicate n 0;
        holdings = length-replicate n 0;
        nexts = length-replicate n 0;
        free = λ k e. (at_replicate n k 0, at_replicate n k 0);
        bound = λ k. let z : ◌≡◌ {A = ℕ} (get_or (replicate n 0) k 0) 0 = at_replicate n k 0 in omega (arith, z);
        slot = λ i. unused (at_replicate count i none) (λ k e. let z : ◌≡◌ {A = ℕ} (get_or (replicate n 0) k 0) 0 = at_replicate n k 0 in omega (arith, z, e));
      }

  -- ---- one record
  module _ (s : Sections) (i : ℕ) (r : Record) where
    -- an empty record has no move left
    pub unused_left : Slot M s i r → r ≡ none → left_of M s i r ≡ 0
    unused_left (unused e nothing) z =
        yet_none M i (aim M r) (away M r) (owner_of s) (holds_of s) r.waiting (ap (λ (x : Record). x.waiting) e) nothing
    unused_left (waits fine W) z = absurd (omega (arith, fine.live, ap (λ (x : Record). x.live) z))
    unused_left (holds fine X) z = absurd (omega (arith, fine.live, ap (λ (x : Record). x.live) z))

    some_left : (a b c : ℕ) → 1 ≤ a → 1 ≤ a * suc b + c
    some_left a b c l = omega arith

    -- a live one has
    pub left_unused : Slot M s i r → left_of M s i r ≡ 0 → (r ≡ none) × Nothing s i
    unfolding yet
    left_unused (unused e nothing) z = (e, nothing)
    left_unused (waits fine W) z =
        let l = load M.numbers i (heavy M (aim M r)) (owner_of s) (holds_of s) in
        absurd (omega (arith, z, some_left r.waiting (away M r) l (omega (arith, W.waiting, fine.some))))
    left_unused (holds fine X) z = absurd (go (ℕ_discrete r.waiting 0))
      where
        go : Dec (r.waiting ≡ 0) → ⊥
        go (yes e) =
            let S = X.held.shape in
            let q = X.q in
            let low = M.below q (S.at q S.rear).real in
            let g = load_at_least M.numbers i (heavy M (aim M r)) (owner_of s) (holds_of s) q low S.rear in
            omega (arith, z, g, some_left (holds_of s q) (M.dist (M.far q) (aim M r)) 0 (X.full e))
        go (no ne) =
            let l = load M.numbers i (heavy M (aim M r)) (owner_of s) (holds_of s) in
            omega (arith, z, some_left r.waiting (away M r) l (omega arith))

    live : Slot M s i r → 1 ≤ left_of M s i r → r.live ≢ 0
    live (unused e nothing) l z = omega (arith, l, unused_left (unused e nothing) e)
    live (waits fine W) l z = omega (arith, z, fine.live)
    live (holds fine X) l z = omega (arith, z, fine.live)

  -- ---- all of a memory, for the records that pass a test
  module _ (test : ℕ → Bool) (s : Sections) (rs : List Record) (I : Invariant M s rs) where
    pub none_left : ((j : ℕ) → T (test j) → get_or rs j none ≡ none) → left_in M test s rs ≡ 0
    unfolding left_in
    none_left all = sum_zero (share M test s rs) (length rs) (λ j l. at j (test j) (all j))
      where
        at : (j : ℕ) (b : Bool) → (T b → get_or rs j none ≡ none) → pick b (left_of M s j (get_or rs j none)) 0 ≡ 0
        at j true e = unused_left s j (get_or rs j none) (I.slot j) (e tt)
        at j false e = refl

    pub left_none : left_in M test s rs ≡ 0 → (j : ℕ) → j < length rs → T (test j) → (get_or rs j none ≡ none) × Nothing s j
    unfolding left_in
    left_none z j l = at (test j) (omega (arith, z, sum_at_least (share M test s rs) (length rs) j l))
      where
        at : (b : Bool) → pick b (left_of M s j (get_or rs j none)) 0 ≡ 0 → T b → (get_or rs j none ≡ none) × Nothing s j
        at true e t = left_unused s j (get_or rs j none) (I.slot j) e
        at false e t = absurd t

    pub some_live : 1 ≤ left_in M test s rs → (j : ℕ) × ((get_or rs j none).live ≢ 0)
    unfolding left_in
    some_live l =
        let p = sum_some (share M test s rs) (length rs) l in
        (p.0, at p.0 (test p.0) p.2)
      where
        at : (j : ℕ) (b : Bool) → 1 ≤ pick b (left_of M s j (get_or rs j none)) 0 → (get_or rs j none).live ≢ 0
        at j true e = live s j (get_or rs j none) (I.slot j) e
        at j false e = absurd (omega arith)

  -- with no move left all is zero
  pub all_zero : (s : Sections) (rs : List Record) → Invariant M s rs → left_in M (λ j. true) s rs ≡ 0 → (s ≡ zeros M.numbers) × (rs ≡ replicate (length rs) none)
  all_zero s rs I z = (
    (λ j. record {
      owner = words s.owner I.owners free j;
      holds = words s.holds I.holdings (λ k. (I.free k (free k)).0) j;
      next = words s.next I.nexts (λ k. (I.free k (free k)).1) j;
    }),
    ext_get_or none rs (replicate (length rs) none) (sym (length-replicate (length rs) none)) (λ j l. (gone j l).0 ∙ sym (at_replicate (length rs) j none)),
  )
    where
      gone : (j : ℕ) → j < length rs → (get_or rs j none ≡ none) × Nothing s j
      gone j l = left_none (λ j. true) s rs I z j l tt

      free : (k : ℕ) → owner_of s k ≡ 0
      free k = go (owner_of s k) refl
        where
          go : (o : ℕ) → owner_of s k ≡ o → owner_of s k ≡ 0
          go zero e = e
          go (suc j) e = absurd ((gone j (omega (arith, I.bound k, e))).1 k e)

      words : (l : List ℕ) → length l ≡ M.numbers → ((k : ℕ) → get_or l k 0 ≡ 0) → l ≡ replicate M.numbers 0
      words l e all = ext_get_or 0 l (replicate M.numbers 0) (e ∙ sym (length-replicate M.numbers 0)) (λ k low. all k ∙ sym (at_replicate M.numbers k 0))

-- ---- as a list of words
pub joined_zeros : (n : ℕ) → joined (zeros n) ≡ replicate (n + n + n) 0
unfolding joined
joined_zeros n =
    let e : n + (n + n) ≡ n + n + n = omega arith in
    rw (replicate-append-replicate {A = ℕ} n n 0, replicate-append-replicate {A = ℕ} n (n + n) 0, e) refl

pub sections_zeros : (n : ℕ) → sections n (replicate (n + n + n) 0) ≡ zeros n
sections_zeros n = ap (sections n) (sym (joined_zeros n)) ∙ sections_joined n (zeros n) (length-replicate n 0) (length-replicate n 0)
