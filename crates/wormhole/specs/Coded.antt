-- What the code's own values stand for: cited by the contracts of its inner functions. No call's promise rests on it. Assumes nothing.
use Rattle.std.specs.Prelude.{ℕ, ◌≡◌, Bool, true, List, length}
use Rattle.route.specs.declared.meshes.Mesh.{Mesh as Coded}
use Rattle.route.specs.Turns.{xy}
use Rattle.route.specs.Mesh.{Mesh, ruled}
use Rattle.route.specs.Numbers.{channels, number, facing}
use Rattle.route.specs.Coded.{meant, Roomy}
use Rattle.wormhole.specs.declared.records.Record.{Record}
use Rattle.wormhole.specs.declared.words.Words.{Words}
use Rattle.wormhole.specs.declared.words.WordsMut.{WordsMut}
use Rattle.wormhole.specs.declared.steps.Step.{Step}
use Rattle.wormhole.specs.declared.steps.Step.TheVariants.{Lead, Follow, Feed, Eat}
use Rattle.wormhole.specs.Memory.{Net, depth, Sections, sections}
use Rattle.wormhole.specs.Range.{every, names, record_fits}
use Rattle.wormhole.specs.Steps.{Stepped, stepped, known, may, act}
use Rattle.wormhole.specs.Calls.{needed, allowed}

-- a mesh of these sides, for questions that no rule bears on
abbrev pub sides : ℕ → ℕ → Mesh
sides C R = ruled xy C R 0

-- a mesh with the buffers as they are built
abbrev pub buffered : Mesh → Net
buffered m = record { mesh = m; depth = depth }

-- the net of the code's mesh
abbrev pub built : Coded → Net
built m = buffered (meant m)

-- the sections of the words that are lent for it
abbrev pub laid : Coded → List ℕ → Sections
laid m w = sections (channels m.columns m.rows) w

-- a record in range, in a mesh with room
pub record Fitting (m : Coded) (r : Record) : Type 0 where
  pub roomy : Roomy m
  pub fits : record_fits (meant m) r ≡ true

-- a packet that the steps can serve: such a record that is live
pub record Served (m : Coded) (r : Record) : Type 0 where
  pub fitting : Fitting m r
  pub live : r.live ≡ 1

-- and words that they can serve: as many as the mesh needs, each next naming a channel or none
pub record Memory (m : Coded) (w : List ℕ) : Type 0 where
  pub long : length w ≡ needed m.columns m.rows
  pub nexts : every (names (meant m)) (laid m w).next ≡ true

-- ---- the lent words as the code has them
-- the sections that it reads
abbrev pub seen : Words → Sections
seen w = sections w.n w.words.now

-- the sections that it writes
abbrev pub kept : WordsMut → Sections
kept w = sections w.n w.words.now

-- what was written left these sections, in the same words
pub record Becomes (old new : WordsMut) (s : Sections) : Type 0 where
  pub count : new.n ≡ old.n
  pub reference : new.words.ghost_name ≡ old.words.ghost_name
  pub sections : kept new ≡ s

-- and this record of the packet
pub record Leaves (old new : WordsMut) (r : Record) (a : Stepped) : Type 0 where
  pub count : new.n ≡ old.n
  pub reference : new.words.ghost_name ≡ old.words.ghost_name
  pub step : stepped (kept new) r ≡ a

-- ---- a move as the code has it, by the numbers that the rules know it by
-- its kind
abbrev pub kind_of : Step → ℕ
kind_of (Lead d) = 0
kind_of (Follow k) = 1
kind_of Feed = 2
kind_of Eat = 3

-- the channel that it names
abbrev pub channel_of : Step → ℕ
channel_of (Lead d) = 0
channel_of (Follow k) = k
channel_of Feed = 0
channel_of Eat = 0

-- the direction that it names
abbrev pub way_of : Step → ℕ
way_of (Lead d) = number (facing d)
way_of (Follow k) = 0
way_of Feed = 0
way_of Eat = 0

-- it is the move of these numbers; what its kind does not name may be anything
abbrev pub Means : Step → ℕ → ℕ → ℕ → Type 0
Means (Lead d) kind k e = (kind ≡ 0) × (number (facing d) ≡ e)
Means (Follow j) kind k e = (kind ≡ 1) × (j ≡ k)
Means Feed kind k e = kind ≡ 2
Means Eat kind k e = kind ≡ 3

-- what it names is there
abbrev pub takes : Mesh → Step → Bool
takes m v = known m (kind_of v) (channel_of v) (way_of v)

-- packet i, whose record is r, may make it
abbrev pub step_may : Net → Sections → ℕ → Record → Step → Bool
step_may N s i r v = may N s i r (kind_of v) (channel_of v) (way_of v)

-- and its record is live
abbrev pub step_allowed : Net → Sections → ℕ → Record → Step → Bool
step_allowed N s i r v = allowed N s i r (kind_of v) (channel_of v) (way_of v)

-- what it leaves
abbrev pub step_act : Net → Sections → ℕ → Record → Step → Stepped
step_act N s i r v = act N s i r (kind_of v) (channel_of v) (way_of v)
