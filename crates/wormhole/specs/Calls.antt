-- The calls: their refusals in order, and the memory that they leave. Assumes nothing.
use Rattle.std.specs.Prelude.{ℕ, suc, ◌+◌, ◌*◌, Bool, not, ◌&&◌, ◌||◌, List, [], ◌∷◌, leb, ltb, eqb, length, set, get_or, replicate, Result, Ok, Err}
use Rattle.route.specs.Grid.{pick}
use Rattle.route.specs.Numbers.{channels}
use Rattle.route.specs.declared.refusals.Refusal.{Refusal}
use Rattle.route.specs.Served.{unless, bad_mesh, code}
use Rattle.wormhole.specs.declared.offers.Offered.{Offered}
use Rattle.wormhole.specs.declared.records.Record.{Record}
use Rattle.wormhole.specs.Memory.{Net, net, Sections, sections, joined, none, fresh}
use Rattle.wormhole.specs.Range.{flits_served, in_range}
use Rattle.wormhole.specs.Steps.{known, may, act}

-- what a call leaves: its answer, the words and the records
pub record Left (A : Type 0) : Type 0 where
  pub answer : A
  pub words : List ℕ
  pub records : List Record

-- this answer, these words and these records
abbrev pub left : {A : Type 0} → A → List ℕ → List Record → Left A
left a w rs = record { answer = a; words = w; records = rs }

-- the answer of an offer: a refusal and a record
abbrev pub offered : ℕ → ℕ → Offered
offered k i = record { refusal = k; «record» = i }

-- the answer of an offer as a library has it: a record, or a refusal, which names record 255
abbrev pub offered_of : Result ℕ Refusal → Offered
offered_of (Ok i) = offered 0 i
offered_of (Err e) = offered (code e) 255

-- how many words a mesh of C columns and R rows needs
abbrev pub needed : ℕ → ℕ → ℕ
needed C R = channels C R + channels C R + channels C R

-- the refusal of memory of so many words and records: those of the mesh, then 7, unless there are three words for each number of a channel
-- and 1 to 64 records
abbrev pub bad_size : ℕ → ℕ → ℕ → ℕ → ℕ → ℕ
bad_size C R rule words records =
    unless (λ k. k) (bad_mesh C R rule) (pick (eqb words (needed C R) && (leb 1 records && leb records 64)) 0 7)

-- and then 9, unless it is in range
abbrev pub bad_memory : ℕ → ℕ → ℕ → ℕ → ℕ → Bool → ℕ
bad_memory C R rule words records fits = unless (λ k. k) (bad_size C R rule words records) (pick fits 0 9)

-- the memory of a call is in range
abbrev pub fits : ℕ → ℕ → ℕ → List ℕ → List Record → Bool
fits C R rule w rs = in_range (net C R rule) (sections (channels C R) w) rs

-- ---- reset
-- all words 0 and all records empty; it names no rule, and any will do
unfoldable pub reset : ℕ → ℕ → List ℕ → List Record → Left ℕ
reset C R w rs =
    unless (λ k. left k w rs) (bad_size C R 0 (length w) (length rs)) (left 0 (replicate (length w) 0) (replicate (length rs) none))

-- ---- offer
-- the lowest empty record, or how many records there are where none is empty
unfoldable pub lowest : List Record → ℕ
lowest [] = 0
lowest (r ∷ rs) = pick (eqb r.live 0) 0 (suc (lowest rs))

-- the refusals of a packet of f flits from node a to node b
abbrev pub bad_packet : ℕ → ℕ → ℕ → ℕ → ℕ → ℕ
bad_packet C R a b f = pick (leb (C * R) a || leb (C * R) b) 3 (pick (not (flits_served f)) 6 (pick (eqb a b) 5 0))

-- those of an offer, in their order; 10 where `empty` is no record
abbrev pub bad_offer : ℕ → ℕ → ℕ → ℕ → ℕ → Bool → ℕ → ℕ → ℕ → ℕ → ℕ
bad_offer C R rule words records fits empty a b f =
    unless (λ k. k) (bad_memory C R rule words records fits) (unless (λ k. k) (bad_packet C R a b f) (pick (ltb empty records) 0 10))

-- the offer: a refusal names record 255
unfoldable pub offer : ℕ → ℕ → ℕ → List ℕ → List Record → ℕ → ℕ → ℕ → Left Offered
offer C R rule w rs a b f =
    let empty = lowest rs in
    unless (λ k. left (offered k 255) w rs) (bad_offer C R rule (length w) (length rs) (fits C R rule w rs) empty a b f)
    (left (offered 0 empty) w (set rs empty (fresh a b f)))

-- ---- move
-- the refusals of a move, in their order; 8 where the step rules do not allow it
abbrev pub bad_move : ℕ → ℕ → ℕ → ℕ → ℕ → Bool → ℕ → ℕ → ℕ → ℕ → Bool → ℕ
bad_move C R rule words records fits i kind k d allowed =
    unless (λ c. c) (bad_memory C R rule words records fits)
    (pick (ltb i records && known (net C R rule).mesh kind k d) (pick allowed 0 8) 13)

-- the record is live, and the step rules allow its packet the move
abbrev pub allowed : Net → Sections → ℕ → Record → ℕ → ℕ → ℕ → Bool
allowed N s i r kind k d = eqb r.live 1 && may N s i r kind k d

-- the move of the packet of record i
unfoldable pub move : ℕ → ℕ → ℕ → List ℕ → List Record → ℕ → ℕ → ℕ → ℕ → Left ℕ
move C R rule w rs i kind k d =
    let N = net C R rule in
    let s = sections (channels C R) w in
    let r = get_or rs i none in
    let after = act N s i r kind k d in
    unless (λ c. left c w rs) (bad_move C R rule (length w) (length rs) (fits C R rule w rs) i kind k d (allowed N s i r kind k d))
    (left 0 (joined after.words) (set rs i after.packet))
