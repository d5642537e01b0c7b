-- While a record is live, some step can be made. A header that cannot go on waits for a channel of a higher rank, whose owner's front has a rank at
-- least as high: by climbing, one is found that moves. Behind a front that is empty at the destination, some flit of the run has room. Assumes nothing.
use Prim.Native.Nat.{ℕ, zero, suc, ◌+◌, ◌≤◌, ◌<◌}
use mathlib.Core.Path.{◌≡◌, refl, ap, ◌∙◌}
use mathlib.Core.Logic.{◌≢◌}
use mathlib.Core.List.{List}
use native.Mathlib.Decide.{ℕ_discrete, dec_le, dec_lt}
use native.Mathlib.Omega.{arith}
use lib.Dec.{T}
use lib.ListN.{length, get_or, get_or-eq_default}
use Rattle.route.specs.Grid.{Dir}
use Rattle.route.specs.Turns.{local, going}
use Rattle.wormhole.specs.declared.records.Record.{Record}
use Rattle.wormhole.specs.Memory.{Sections, owner_of, holds_of, next_of, none}
use Rattle.wormhole.specs.Steps.{Stepped, start, advance, follow, feed, eat}
use Rattle.wormhole.proofs.Draining.Network.{Network}
use Rattle.wormhole.proofs.Draining.Loads.{load_at_least}
use Rattle.wormhole.proofs.Draining.Shape.{gap, Shape}
use Rattle.wormhole.proofs.Draining.Fill.{one}
use Rattle.wormhole.proofs.Draining.Invariant.{aim, Fine, Waiting, Held, Holding, Slot, unused, waits, holds, Invariant}
use Rattle.wormhole.proofs.Draining.Stepping.{Step, starts, advances, follows, feeds, eats}

-- a packet that can make a step
pub record Able (M : Network) (s : Sections) (rs : List Record) : Type 0 where
  pub packet : ℕ
  pub low : packet < length rs
  pub fine : Fine M (get_or rs packet none)
  pub after : Stepped
  pub step : Step M s packet (get_or rs packet none) after

-- record i holds channels
pub record Owner (M : Network) (s : Sections) (rs : List Record) (i : ℕ) : Type 0 where
  pub low : i < length rs
  pub fine : Fine M (get_or rs i none)
  pub holding : Holding M s i (get_or rs i none)

module _ (M : Network) (s : Sections) (rs : List Record) (I : Invariant M s rs) where
  -- a channel's owner does
  pub owner : (k i : ℕ) → owner_of s k ≡ suc i → Owner M s rs i
  owner k i e = go (I.slot i)
    where
      go : Slot M s i (get_or rs i none) → Owner M s rs i
      go (unused z nothing) = absurd (nothing k e)
      go (waits fine W) = absurd (W.nothing k e)
      go (holds fine X) = record { low = omega (arith, I.bound k); fine = fine; holding = X }

  -- a record that is live is one of the list
  live_low : (i : ℕ) → (get_or rs i none).live ≢ 0 → Dec (i < length rs) → i < length rs
  live_low i live (yes l) = l
  live_low i live (no l) = absurd (live (ap (λ (r : Record). r.live) (get_or-eq_default rs none (omega arith))))

  module _ (i : ℕ) (low : i < length rs) (fine : Fine M (get_or rs i none)) where
    abbrev r : Record
    r = get_or rs i none

    able : (t : Stepped) → Step M s i r t → Able M s rs
    able t step = record { packet = i; low = low; fine = fine; after = t; step = step }

    module _ (q f : ℕ) (H : Held M s i r q f) where
      S : Shape M i (aim M r) (owner_of s) (next_of s) q f
      S = H.shape

      -- with an empty front, from a channel k that holds a flit: it can follow, or the flits of its next can
      pass : holds_of s f ≡ 0 → (k : ℕ) → owner_of s k ≡ suc i → 1 ≤ holds_of s k
          → ((y : ℕ) → gap M (aim M r) y < gap M (aim M r) k → owner_of s y ≡ suc i → 1 ≤ holds_of s y → Able M s rs) → Able M s rs
      pass z k mine some again = go (next_of s k) refl
        where
          over : (y : ℕ) → next_of s k ≡ suc y → (owner_of s y ≡ suc i) × (suc (gap M (aim M r) y) ≡ gap M (aim M r) k) → Dec (holds_of s y < M.depth) → Able M s rs
          over y e c (yes l) = able (follow s r k) (follows k y (S.at k mine).real mine some e l refl)
          over y e c (no l) = again y (omega (arith, c.1)) c.0 (omega (arith, M.deep))

          go : (next : ℕ) → next_of s k ≡ next → Able M s rs
          go zero e = absurd (omega (arith, ap (holds_of s) ((S.at k mine).last e)))
          go (suc y) e = over y e ((S.at k mine).nearer y e) (dec_lt (holds_of s y) M.depth)

      walk : holds_of s f ≡ 0 → (b k : ℕ) → gap M (aim M r) k ≤ b → owner_of s k ≡ suc i → 1 ≤ holds_of s k → Able M s rs
      walk z zero k l mine some = pass z k mine some (λ y less my sy. absurd (omega arith))
      walk z (suc b) k l mine some = pass z k mine some (λ y less my sy. walk z b y (omega arith) my sy)

      -- a packet that holds channels can move, or waits for one whose front has a greater rank
      module _ (full : r.waiting ≡ 0 → 1 ≤ holds_of s q) (again : (j : ℕ) (O : Owner M s rs j) → M.rank f < M.rank O.holding.f → Able M s rs) where
        arrived : gap M (aim M r) f ≡ 0 → Dec (1 ≤ holds_of s f) → Dec (1 ≤ holds_of s q) → Dec (r.waiting ≡ 0) → Able M s rs
        arrived z (yes some) d w =
            let l = load_at_least M.numbers i one (owner_of s) (holds_of s) f (M.below f (S.at f S.front).real) S.front in
            able (eat s r) (eats f H.front z some (omega (arith, H.fill.sum)) refl)
        arrived z (no empty) (yes some) w = walk (omega arith) (gap M (aim M r) q) q (omega arith) S.rear some
        arrived z (no empty) (no none) (yes w) = absurd (none (full w))
        arrived z (no empty) (no none) (no w) = able (feed s r) (feeds q H.rear (omega arith) (omega (arith, M.deep)) refl)

        onward : (d : Dir) (c : ℕ) → gap M (aim M r) f ≢ 0 → T (M.answer (M.far f) (going (M.way f)) (aim M r) d) → M.channel (M.far f) d ≡ c
            → (o : ℕ) → owner_of s c ≡ o → Able M s rs
        onward d c ne yes_d e zero z =
            able (advance s i r (M.channel (M.far f) d) f) (advances f d H.front (H.fill.head ne) ne yes_d (ap (owner_of s) e ∙ z) refl)
        onward d c ne yes_d e (suc j) z =
            let O = owner c j z in
            again j O (omega (arith, M.rises f (aim M r) d (S.at f S.front).real yes_d, ap M.rank e, (O.holding.held.shape.at c z).rank))

        climb_on : Dec (gap M (aim M r) f ≡ 0) → Able M s rs
        climb_on (yes z) = arrived z (dec_le 1 (holds_of s f)) (dec_le 1 (holds_of s q)) (ℕ_discrete r.waiting 0)
        climb_on (no ne) =
            let w = S.way ne in
            onward w.0 (M.channel (M.far f) w.0) ne w.1 refl (owner_of s (M.channel (M.far f) w.0)) refl

  climb : (b j : ℕ) (O : Owner M s rs j) → M.top < M.rank O.holding.f + b → Able M s rs
  climb zero j O l =
      let S = O.holding.held.shape in
      absurd (omega (arith, M.bounded O.holding.f (S.at O.holding.f S.front).real))
  climb (suc b) j O l =
      let X = O.holding in
      climb_on j O.low O.fine X.q X.f X.held X.full (λ j' O' up. climb b j' O' (omega arith))
      (ℕ_discrete (gap M (aim M (get_or rs j none)) X.f) 0)

  pub goes_on : (i : ℕ) → (get_or rs i none).live ≢ 0 → Able M s rs
  goes_on i live = go (live_low i live (dec_lt i (length rs))) (I.slot i)
    where
      r : Record
      r = get_or rs i none

      off : i < length rs → Fine M r → Waiting s i r → (d : Dir) (c : ℕ) → T (M.answer (M.place r.source) local (aim M r) d)
          → M.channel (M.place r.source) d ≡ c → (o : ℕ) → owner_of s c ≡ o → Able M s rs
      off low fine W d c yes_d e zero z =
          able i low fine (start s i r (M.channel (M.place r.source) d))
          (starts d W.front (omega (arith, W.waiting, fine.some))
          (M.apart r.source r.destination fine.source fine.destination fine.apart) yes_d (ap (owner_of s) e ∙ z) refl)
      off low fine W d c yes_d e (suc j) z = climb (suc M.top) j (owner c j z) (omega arith)

      go : i < length rs → Slot M s i r → Able M s rs
      go low (unused e nothing) = absurd (live (ap (λ (x : Record). x.live) e))
      go low (waits fine W) =
          let w = M.connected r.source r.destination fine.source fine.destination fine.apart in
          off low fine W w.0 (M.channel (M.place r.source) w.0) w.1 refl (owner_of s (M.channel (M.place r.source) w.0)) refl
      go low (holds fine X) = climb (suc M.top) i (record { low = low; fine = fine; holding = X }) (omega arith)
