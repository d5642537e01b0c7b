-- Demand 3, of the very calls that mesh_offer and mesh_move are proved to be: after any calls on an empty mesh some move is accepted while a
-- packet has not fully arrived, and the mesh is empty after exactly as many more moves as the packets still owe. Assumes nothing.
use Rattle.std.specs.Prelude.{ℕ, ◌+◌, ◌-◌, ◌*◌, ◌≤◌, ◌≡◌, Bool, true, ◌&&◌, List, [], ◌∷◌, ◌≢◌, ◌↔◌, T, eqb, length, get_or, replicate}
use Rattle.route.specs.Grid.{pick, dist}
use Rattle.route.specs.Numbers.{place_of}
use Rattle.wormhole.specs.declared.offers.Offered.{Offered}
use Rattle.wormhole.specs.declared.records.Record.{Record}
use Rattle.wormhole.specs.Memory.{none}
use Rattle.wormhole.specs.Calls.{Left, needed, fits, offer, move}

-- the memory that is lent to every call
pub record Lent : Type 0 where
  pub words : List ℕ
  pub records : List Record

-- a move: its record, kind, channel and direction
pub record Move : Type 0 where
  pub packet : ℕ
  pub kind : ℕ
  pub channel : ℕ
  pub direction : ℕ

-- a call: the offer of a packet of f flits from node a to node b, or a move
pub data Call : Type 0 where
  offering : (a b f : ℕ) → Call
  moving : Move → Call

-- moves, as calls
abbrev pub movings : List Move → List Call
movings [] = []
movings (v ∷ vs) = moving v ∷ movings vs

-- an empty mesh with so many records: all its words and records are zero
abbrev pub empty : ℕ → ℕ → ℕ → Lent
empty C R count = record { words = replicate (needed C R) 0; records = replicate count none }

-- every record passes
abbrev pub any : ℕ → Bool
any i = true

-- the moves that a packet owes: flits × (distance + 1)
abbrev pub owes : ℕ → ℕ → ℕ → ℕ → ℕ
owes C a b f = f * (dist (place_of C a) (place_of C b) + 1)

-- ---- calls one after another, on a mesh of C columns and R rows under a rule
module _ (C R rule : ℕ) where
  -- what an offer leaves
  abbrev pub offers : Lent → ℕ → ℕ → ℕ → Left Offered
  offers M = offer C R rule M.words M.records

  -- what a move leaves
  abbrev pub moves : Lent → Move → Left ℕ
  moves M v = move C R rule M.words M.records v.packet v.kind v.channel v.direction

  -- the memory after a call
  abbrev pub after : Lent → Call → Lent
  after M (offering a b f) = let o = offers M a b f in record { words = o.words; records = o.records }
  after M (moving v) = let o = moves M v in record { words = o.words; records = o.records }

  -- the memory after the calls of a list
  unfoldable pub run : Lent → List Call → Lent
  run M [] = M
  run M (c ∷ cs) = run (after M c) cs

  -- what a call that is accepted adds to the moves owed by the records that pass a test
  abbrev pub brings : (ℕ → Bool) → Lent → Call → ℕ
  brings test M (offering a b f) = let o = (offers M a b f).answer in pick (eqb o.refusal 0 && test o.«record») (owes C a b f) 0
  brings test M (moving v) = 0

  -- and to the moves made by them
  abbrev pub makes : (ℕ → Bool) → Lent → Call → ℕ
  makes test M (offering a b f) = 0
  makes test M (moving v) = pick (eqb (moves M v).answer 0 && test v.packet) 1 0

  -- what the calls of a list add, each to the memory that it finds
  unfoldable pub total : (Lent → Call → ℕ) → Lent → List Call → ℕ
  total adds M [] = 0
  total adds M (c ∷ cs) = adds M c + total adds (after M c) cs

  -- how many moves of a list are accepted
  abbrev pub accepted : Lent → List Move → ℕ
  accepted M vs = total (makes any) M (movings vs)

-- ---- after the calls of a list on the empty mesh
module _ (C R rule count : ℕ) (cs : List Call) where
  -- the memory that they reach
  abbrev pub now : Lent
  now = run C R rule (empty C R count) cs

  -- the moves owed by the packets that were accepted
  abbrev pub work : ℕ
  work = total C R rule (brings C R rule any) (empty C R count) cs

  -- the moves that were accepted
  abbrev pub made : ℕ
  made = total C R rule (makes C R rule any) (empty C R count) cs

  -- N: those that are still to make
  abbrev pub remaining : ℕ
  remaining = work - made

  -- the demand
  pub record Drains : Type 0 where
    -- (a) memory is in range, and no more moves were made than are owed
    pub ranged : T (fits C R rule now.words now.records)
    pub enough : made ≤ work
    -- (b) while a record is live, some move is accepted
    pub goes_on : (i : ℕ) → (get_or now.records i none).live ≢ 0 → (v : Move) × ((moves C R rule now v).answer ≡ 0)
    -- (c) of any further moves at most N are accepted, and N exactly if the mesh is then empty
    pub at_most : (vs : List Move) → accepted C R rule now vs ≤ remaining
    pub exactly : (vs : List Move) → (accepted C R rule now vs ≡ remaining) ↔ (run C R rule now (movings vs) ≡ empty C R count)
    -- (d) a packet that is accepted now, whatever calls come later that give its record to no other: it makes at most the moves that it owes,
    -- and all of them exactly if its record is then empty
    pub each : (a b f : ℕ) (later : List Call)
        → let i = (offers C R rule now a b f).answer.«record» in
        let then = after C R rule now (offering a b f) in
        let its = total C R rule (makes C R rule (eqb i)) then later in
        (offers C R rule now a b f).answer.refusal ≡ 0 → total C R rule (brings C R rule (eqb i)) then later ≡ 0
        → (its ≤ owes C a b f) × ((its ≡ owes C a b f) ↔ (get_or (run C R rule then later).records i none ≡ none))
    -- (e) some N moves, each accepted, empty the mesh
    pub finishes : (vs : List Move) × (length vs ≡ remaining) × (accepted C R rule now vs ≡ remaining) × (run C R rule now (movings vs) ≡ empty C R count)

-- for every size, each of the five rules, every number of records, and all calls
abbrev pub Demand : Type 0
Demand =
    (C R rule count : ℕ) → 2 ≤ C → C ≤ 16 → 2 ≤ R → R ≤ 16 → rule ≤ 4 → 1 ≤ count → count ≤ 64 → (cs : List Call) → Drains C R rule count cs
