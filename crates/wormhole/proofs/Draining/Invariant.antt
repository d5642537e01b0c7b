-- The invariant of a memory that calls have left, and the moves that are left in it. A step of one packet keeps the others' parts by its frame,
-- so that each step has only its own packet to tell of. Assumes nothing.
use Prim.Native.Nat.{ℕ, suc, ◌+◌, ◌≤◌, ◌<◌}
use mathlib.Core.Path.{◌≡◌, refl, sym, ◌∙◌}
use mathlib.Core.Logic.{◌≢◌}
use mathlib.Core.Bool.{Bool}
use mathlib.Core.List.{List}
use native.Mathlib.Decide.{ℕ_discrete}
use native.Mathlib.Omega.{arith}
use lib.ListN.{length, get_or, set, length-set}
use lib.Seq.{get_or-set_same, get_or-set_other}
use Rattle.route.specs.declared.places.Place.{Place}
use Rattle.route.specs.Grid.{pick}
use Rattle.wormhole.specs.declared.records.Record.{Record}
use Rattle.wormhole.specs.Memory.{Sections, owner_of, holds_of, next_of, none}
use Rattle.wormhole.specs.Steps.{Stepped}
use Rattle.wormhole.proofs.Draining.Network.{Network}
use Rattle.wormhole.proofs.Draining.Sums.{Σ<, sum_change}
use Rattle.wormhole.proofs.Draining.Loads.{load_kept}
use Rattle.wormhole.proofs.Draining.Shape.{Shape, shape_kept}
use Rattle.wormhole.proofs.Draining.Fill.{Fill, heavy, yet, fill_kept}
use Rattle.wormhole.proofs.Draining.Frames.{Free, Frame}

-- packet i holds no channel
abbrev pub Nothing : Sections → ℕ → Type 0
Nothing s i = (k : ℕ) → owner_of s k ≢ suc i

-- where a packet is to go, and how far from there it starts
abbrev pub aim : Network → Record → Place
aim M r = M.place r.destination

abbrev pub away : Network → Record → ℕ
away M r = M.dist (M.place r.source) (aim M r)

-- what stays as it was offered
pub record Fine (M : Network) (r : Record) : Type 0 where
  pub live : r.live ≡ 1
  pub source : r.source < M.nodes
  pub destination : r.destination < M.nodes
  pub apart : r.source ≢ r.destination
  pub some : 1 ≤ r.flits
  pub most : r.flits ≤ 200

-- no flit has left the source
pub record Waiting (s : Sections) (i : ℕ) (r : Record) : Type 0 where
  pub rear : r.rear ≡ 0
  pub front : r.front ≡ 0
  pub waiting : r.waiting ≡ r.flits
  pub eaten : r.eaten ≡ 0
  pub nothing : Nothing s i

-- the packet holds the channels from q to f
pub record Held (M : Network) (s : Sections) (i : ℕ) (r : Record) (q f : ℕ) : Type 0 where
  pub rear : r.rear ≡ suc q
  pub front : r.front ≡ suc f
  pub shape : Shape M i (aim M r) (owner_of s) (next_of s) q f
  pub fill : Fill M i (aim M r) (away M r) (owner_of s) (holds_of s) r.flits r.waiting r.eaten q f

-- it holds channels, and with nothing at the source there is a flit in its rear
pub record Holding (M : Network) (s : Sections) (i : ℕ) (r : Record) : Type 0 where
  pub q : ℕ
  pub f : ℕ
  pub held : Held M s i r q f
  pub full : r.waiting ≡ 0 → 1 ≤ holds_of s q

-- the three states of record i, which is r
pub data Slot (M : Network) (s : Sections) (i : ℕ) (r : Record) : Type 0 where
  unused : r ≡ none → Nothing s i → Slot M s i r
  waits : Fine M r → Waiting s i r → Slot M s i r
  holds : Fine M r → Holding M s i r → Slot M s i r

pub record Invariant (M : Network) (s : Sections) (rs : List Record) : Type 0 where
  pub owners : length s.owner ≡ M.numbers
  pub holdings : length s.holds ≡ M.numbers
  pub nexts : length s.next ≡ M.numbers
  pub free : Free s
  pub bound : (k : ℕ) → owner_of s k ≤ length rs
  pub slot : (i : ℕ) → Slot M s i (get_or rs i none)

-- the moves that are left to record i, which is r, and to those of a list that pass a test
abbrev pub left_of : Network → Sections → ℕ → Record → ℕ
left_of M s i r = yet M i (aim M r) (away M r) (owner_of s) (holds_of s) r.waiting

abbrev pub share : Network → (ℕ → Bool) → Sections → List Record → ℕ → ℕ
share M test s rs i = pick (test i) (left_of M s i (get_or rs i none)) 0

unfoldable pub left_in : Network → (ℕ → Bool) → Sections → List Record → ℕ
left_in M test s rs = Σ< (length rs) (share M test s rs)

-- what a move of record i has to keep: the frame, its own state, and one move fewer left to it
pub record Kept (M : Network) (i : ℕ) (s : Sections) (r : Record) (t : Stepped) : Type 0 where
  pub frame : Frame i s t.words
  pub slot : Slot M t.words i t.packet
  pub less : suc (left_of M t.words i t.packet) ≡ left_of M s i r

module _ (M : Network) (i : ℕ) (s s' : Sections) (F : Frame i s s') where
  keeps : (j : ℕ) → j ≢ i → (k : ℕ) → owner_of s k ≡ suc j → (owner_of s' k ≡ suc j) × (holds_of s' k ≡ holds_of s k) × (next_of s' k ≡ next_of s k)
  keeps j ne k e = let c = F.keep k (omega arith) (omega arith) in (c.0 ∙ e, c.1, c.2)

  backs : (j : ℕ) → j ≢ i → (k : ℕ) → owner_of s' k ≡ suc j → owner_of s k ≡ suc j
  backs j ne k e = sym (F.back k (omega arith) (omega arith)) ∙ e

  slot_kept : (j : ℕ) (r : Record) → j ≢ i → Slot M s j r → Slot M s' j r
  slot_kept j r ne (unused e nothing) = unused e (λ k m. nothing k (backs j ne k m))
  slot_kept j r ne (waits fine W) =
      waits fine
      (record {
        rear = W.rear;
        front = W.front;
        waiting = W.waiting;
        eaten = W.eaten;
        nothing = λ k m. W.nothing k (backs j ne k m);
      })
  slot_kept j r ne (holds fine X) =
      let H = X.held in
      holds fine
      (record {
        q = X.q;
        f = X.f;
        held =
            record {
              rear = H.rear;
              front = H.front;
              shape = shape_kept (λ k e. let c = keeps j ne k e in (c.0, c.2)) (backs j ne) H.shape;
              fill = fill_kept (λ k e. let c = keeps j ne k e in (c.0, c.1)) (backs j ne) H.shape.front H.fill;
            };
        full = λ z. omega (arith, (keeps j ne X.q H.shape.rear).1, X.full z);
      })

  left_kept : (j : ℕ) (r : Record) → j ≢ i → left_of M s' j r ≡ left_of M s j r
  unfolding yet
  left_kept j r ne =
      omega (
        arith,
        load_kept M.numbers j (heavy M (aim M r)) (owner_of s) (holds_of s) (owner_of s') (holds_of s')
            (λ k e. let c = keeps j ne k e in (c.0, c.1)) (backs j ne),
      )

  module _ (rs : List Record) (r : Record) (low : i < length rs) where
    here : get_or (set rs i r) i none ≡ r
    here = get_or-set_same rs i r none low

    elsewhere : (j : ℕ) → j ≢ i → get_or (set rs i r) j none ≡ get_or rs j none
    elsewhere j ne = get_or-set_other rs i j r none ne

    -- record i becomes r
    pub kept_all : Invariant M s rs → Slot M s' i r → Invariant M s' (set rs i r)
    kept_all I mine =
        record {
          owners = F.owners ∙ I.owners;
          holdings = F.holds ∙ I.holdings;
          nexts = F.nexts ∙ I.nexts;
          free = F.free I.free;
          bound = λ k. bound k (ℕ_discrete (owner_of s' k) 0) (ℕ_discrete (owner_of s' k) (suc i));
          slot = λ j. slot j (ℕ_discrete j i);
        }
      where
        bound : (k : ℕ) → Dec (owner_of s' k ≡ 0) → Dec (owner_of s' k ≡ suc i) → owner_of s' k ≤ length (set rs i r)
        bound k (yes e) d = omega arith
        bound k (no a) (yes e) = omega (arith, length-set rs i r)
        bound k (no a) (no b) = omega (arith, F.back k a b, I.bound k, length-set rs i r)

        slot : (j : ℕ) → Dec (j ≡ i) → Slot M s' j (get_or (set rs i r) j none)
        slot j (yes e) = rw (e, here) mine
        slot j (no ne) = rw (elsewhere j ne) (slot_kept j (get_or rs j none) ne (I.slot j))

    -- what is left to another record stays, and what is left in all changes as what is left to record i
    pub left_all : (test : ℕ → Bool)
        → left_in M test s' (set rs i r) + pick (test i) (left_of M s i (get_or rs i none)) 0 ≡ left_in M test s rs + pick (test i) (left_of M s' i r) 0
    unfolding left_in
    left_all test =
        let p = sum_change (share M test s rs) (share M test s' (set rs i r)) (length rs) i low
        (λ j ne. rw (elsewhere j ne, left_kept j (get_or rs j none) ne) refl) in
        rw (length-set rs i r) (rw here at p)
