-- The machine's memory: the lent words in three sections, and a packet's record. Assumes nothing.
use Rattle.std.specs.Prelude.{ℕ, zero, suc, ◌+◌, ◌-◌, List, ◌++◌, take, drop, set, get_or}
use Rattle.route.specs.Mesh.{Mesh, ruled}
use Rattle.route.specs.Numbers.{rule_of}
use Rattle.wormhole.specs.declared.records.Record.{Record}

-- a mesh, and how many flits a channel of it can hold
pub record Net : Type 0 where
  pub mesh : Mesh
  pub depth : ℕ

-- the buffers as they are built: one flit
abbrev pub depth : ℕ
depth = 1

-- the net of C columns and R rows under the rule of a number
abbrev pub net : ℕ → ℕ → ℕ → Net
net C R rule = record { mesh = ruled (rule_of rule) C R 0; depth = depth }

-- for each number of a channel a word: its owner (0, or 1 + a record), the flits that it holds, and its next (0, or 1 + a channel)
pub record Sections : Type 0 where
  pub owner : List ℕ
  pub holds : List ℕ
  pub next : List ℕ

-- the three sections of a list of words, of n words each
unfoldable pub sections : ℕ → List ℕ → Sections
sections n w = record { owner = take n w; holds = take n (drop n w); next = drop (n + n) w }

-- the sections one after another
unfoldable pub joined : Sections → List ℕ
joined s = s.owner ++ (s.holds ++ s.next)

-- the owner of channel k
abbrev pub owner_of : Sections → ℕ → ℕ
owner_of s k = get_or s.owner k 0

-- the flits that it holds
abbrev pub holds_of : Sections → ℕ → ℕ
holds_of s k = get_or s.holds k 0

-- its next
abbrev pub next_of : Sections → ℕ → ℕ
next_of s k = get_or s.next k 0

-- channel k gets this owner
unfoldable pub own : Sections → ℕ → ℕ → Sections
own s k o = record { owner = set s.owner k o; holds = s.holds; next = s.next }

-- channel k holds so many flits
unfoldable pub hold : Sections → ℕ → ℕ → Sections
hold s k h = record { owner = s.owner; holds = set s.holds k h; next = s.next }

-- channel k gets this next
unfoldable pub link : Sections → ℕ → ℕ → Sections
link s k x = record { owner = s.owner; holds = s.holds; next = set s.next k x }

-- all three
unfoldable pub put : Sections → ℕ → ℕ → ℕ → ℕ → Sections
put s k o h x = link (hold (own s k o) k h) k x

-- a flit leaves channel k
unfoldable pub drain : Sections → ℕ → Sections
drain s k = hold s k (holds_of s k - 1)

-- a flit enters channel k
unfoldable pub fill : Sections → ℕ → Sections
fill s k = hold s k (holds_of s k + 1)

-- an empty record
abbrev pub none : Record
none = record { live = 0; source = 0; destination = 0; flits = 0; waiting = 0; eaten = 0; rear = 0; front = 0 }

-- the record of a packet that is offered: all flits at the source, nothing held
abbrev pub fresh : ℕ → ℕ → ℕ → Record
fresh a b f = record { live = 1; source = a; destination = b; flits = f; waiting = f; eaten = 0; rear = 0; front = 0 }

-- a packet's record with these flits at the source, these eaten, this rear and this front
abbrev pub anew : Record → ℕ → ℕ → ℕ → ℕ → Record
anew r w e q f =
    record {
      live = r.live;
      source = r.source;
      destination = r.destination;
      flits = r.flits;
      waiting = w;
      eaten = e;
      rear = q;
      front = f;
    }

-- what a word that is 0, or 1 + a channel, stands for: nothing, or that channel
abbrev pub named : {A : Type 0} → ℕ → A → (ℕ → A) → A
named zero nothing channel = nothing
named (suc k) nothing channel = channel k
