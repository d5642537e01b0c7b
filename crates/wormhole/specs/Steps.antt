-- The step rules: when a packet's flit may move, and what the words and the packet's record are then. Each is total: it says what
-- happens on every memory in range, damaged ones too. Assumes nothing.
use Rattle.std.specs.Prelude.{ℕ, zero, suc, ◌+◌, ◌-◌, Bool, true, false, not, ◌&&◌, leb, ltb, eqb}
use Rattle.route.specs.declared.places.Place.{Place}
use Rattle.route.specs.Grid.{pick}
use Rattle.route.specs.Turns.{Arrival, local, going}
use Rattle.route.specs.Mesh.{Mesh}
use Rattle.route.specs.Numbers.{place_of, dir_of}
use Rattle.route.specs.Paths.{same_place, answer}
use Rattle.route.specs.Channels.{channel, way, far, is_channel}
use Rattle.wormhole.specs.declared.records.Record.{Record}
use Rattle.wormhole.specs.Memory.{Net, Sections, owner_of, holds_of, next_of, put, link, drain, fill, none, anew, named}

-- what a move leaves: the words, and the packet's record
pub record Stepped : Type 0 where
  pub words : Sections
  pub packet : Record

-- these words and this record
abbrev pub stepped : Sections → Record → Stepped
stepped s r = record { words = s; packet = r }

-- ---- a flit has left channel k
-- the record of a packet that gives up channel k: rear becomes its next, and front 0 if it was the front before the move and has no next
abbrev pub shortened : Record → ℕ → ℕ → ℕ → Record
shortened r k front next = anew r r.waiting r.eaten next (pick (eqb front (k + 1) && eqb next 0) 0 r.front)

-- the channel is given up, and its words are 0
unfoldable pub release : Sections → Record → ℕ → ℕ → Stepped
release s r k front = stepped (put s k 0 0 0) (shortened r k front (next_of s k))

-- that is so if it is the rear, no flit is at the source and none is left in it, as with one flit a channel there never is (proofs/Published);
-- `front` is the front before the move
unfoldable pub leave : Sections → Record → ℕ → ℕ → Stepped
leave s r k front =
    pick (eqb r.rear (k + 1) && (eqb r.waiting 0 && eqb (holds_of s k) 0)) (release s r k front) (stepped s r)

-- ---- 0 lead
-- the header's place: the source, or where the front channel leads
abbrev pub head : Mesh → Record → Place
head m r = named r.front (place_of m.columns r.source) (far m.columns)

-- how it came there
abbrev pub arrival : Record → Arrival
arrival r = named r.front local (λ k. going (way k))

-- the packet's destination
abbrev pub goal : Mesh → Record → Place
goal m r = place_of m.columns r.destination

-- there is a flit to move
abbrev pub ready : Sections → Record → Bool
ready s r = named r.front (leb 1 r.waiting) (λ k. leb 1 (holds_of s k))

-- the channel that the header would take
abbrev pub ahead : Mesh → Record → ℕ → ℕ
ahead m r d = channel m.columns (head m r) (dir_of d)

-- it may go on: it is not at the destination, and the direction is in the routing answer for it
abbrev pub onward : Mesh → Record → ℕ → Bool
onward m r d = not (same_place (head m r) (goal m r)) && answer m (head m r) (arrival r) (goal m r) (dir_of d)

-- allowed: there is a flit, it may go on, and the channel ahead is free
unfoldable pub may_lead : Net → Sections → Record → ℕ → Bool
may_lead N s r d = let m = N.mesh in ready s r && (onward m r d && eqb (owner_of s (ahead m r d)) 0)

-- channel t becomes packet i's, with the header's flit in it
unfoldable pub claim : Sections → ℕ → ℕ → Sections
claim s t i = put s t (i + 1) 1 0

-- from the source to channel t
abbrev pub start : Sections → ℕ → Record → ℕ → Stepped
start s i r t = stepped (claim s t i) (anew r (r.waiting - 1) r.eaten (t + 1) (t + 1))

-- from channel k to channel t
abbrev pub advance : Sections → ℕ → Record → ℕ → ℕ → Stepped
advance s i r t k =
    leave (claim (link (drain s k) k (t + 1)) t i) (anew r r.waiting r.eaten r.rear (t + 1)) k (k + 1)

-- done: from the source or from the front
unfoldable pub lead : Net → Sections → ℕ → Record → ℕ → Stepped
lead N s i r d = let t = ahead N.mesh r d in named r.front (start s i r t) (advance s i r t)

-- ---- 1 follow
-- a word names a channel that has room for a flit
abbrev pub room : ℕ → Sections → ℕ → Bool
room depth s x = named x false (λ k. ltb (holds_of s k) depth)

-- channel k holds a flit, and its next has room
unfoldable pub can_follow : Net → Sections → ℕ → Bool
can_follow N s k = leb 1 (holds_of s k) && room N.depth s (next_of s k)

-- allowed: that, and the channel is packet i's
unfoldable pub may_follow : Net → Sections → ℕ → ℕ → Bool
may_follow N s i k = eqb (owner_of s k) (i + 1) && can_follow N s k

-- done: the flit goes from k to its next
unfoldable pub follow : Sections → Record → ℕ → Stepped
follow s r k = leave (fill (drain s k) (next_of s k - 1)) r k r.front

-- ---- 2 feed
-- allowed: a flit is at the source, and the rear has room
unfoldable pub may_feed : Net → Sections → Record → Bool
may_feed N s r = leb 1 r.waiting && room N.depth s r.rear

-- done: one flit goes from the source into the rear
unfoldable pub feed : Sections → Record → Stepped
feed s r = stepped (fill s (r.rear - 1)) (anew r (r.waiting - 1) r.eaten r.rear r.front)

-- ---- 3 eat
-- allowed: the front leads to the destination and holds a flit, and not all flits are eaten
unfoldable pub may_eat : Net → Sections → Record → Bool
may_eat N s r =
    let m = N.mesh in
    named r.front false (λ k. same_place (far m.columns k) (goal m r) && (leb 1 (holds_of s k) && ltb r.eaten r.flits))

-- one flit more is eaten
abbrev pub bite : Record → Record
bite r = anew r r.waiting (r.eaten + 1) r.rear r.front

-- a packet that is eaten whole leaves its record empty, else the one after the release
abbrev pub finished : Record → Record → Record
finished r released = pick (eqb r.eaten r.flits) none released

-- done: one flit leaves the front for the destination; the clearing of the record comes last
unfoldable pub eat : Sections → Record → Stepped
eat s r =
    let k = r.front - 1 in
    let after = leave (drain s k) (bite r) k r.front in
    stepped after.words (finished (bite r) after.packet)

-- ---- by kind
-- the kind is one of the four, and what it names can be: a direction for a lead, a channel that exists for a follow
abbrev pub known : Mesh → ℕ → ℕ → ℕ → Bool
known m zero k d = ltb d 4
known m (suc zero) k d = is_channel m k
known m (suc (suc zero)) k d = true
known m (suc (suc (suc zero))) k d = true
known m (suc (suc (suc (suc kind)))) k d = false

-- packet i, whose record is r, may make the move
unfoldable pub may : Net → Sections → ℕ → Record → ℕ → ℕ → ℕ → Bool
may N s i r zero k d = may_lead N s r d
may N s i r (suc zero) k d = may_follow N s i k
may N s i r (suc (suc zero)) k d = may_feed N s r
may N s i r (suc (suc (suc kind))) k d = may_eat N s r

-- and then makes it
unfoldable pub act : Net → Sections → ℕ → Record → ℕ → ℕ → ℕ → Stepped
act N s i r zero k d = lead N s i r d
act N s i r (suc zero) k d = follow s r k
act N s i r (suc (suc zero)) k d = feed s r
act N s i r (suc (suc (suc kind))) k d = eat s r
