-- A mesh: its sides and its turn table; which channels it has and which turns it allows. Assumes nothing.
use Rattle.std.specs.Prelude.{ℕ, ◌+◌, ◌<◌, Bool, ltb}
use Rattle.route.specs.declared.places.Place.{Place}
use Rattle.route.specs.Grid.{Axis, horiz, vert, Sense, less, more, Dir, go, coord}
use Rattle.route.specs.Turns.{parity, Table, Arrival, allowed, Rule, rule_table}

-- the columns, the rows, the parity of the first column and the turn table
pub record Mesh : Type 0 where
  pub columns : ℕ
  pub rows : ℕ
  pub first : ℕ
  pub table : Table

-- the length of a side
abbrev pub side : Mesh → Axis → ℕ
side m horiz = m.columns
side m vert = m.rows

-- a place is in the mesh
abbrev pub Inside : Mesh → Place → Type 0
Inside m n = (coord horiz n < m.columns) × (coord vert n < m.rows)

-- there is a next coordinate that way, on a side of this length
abbrev pub room : Sense → ℕ → ℕ → Bool
room less length c = ltb 0 c
room more length c = ltb (c + 1) length

-- the channel that leaves n by d exists: its neighbour does
abbrev pub exists : Mesh → Place → Dir → Bool
exists m n (go x s) = room s (side m x) (coord x n)

-- in column x a packet that arrives so may go on by d
unfoldable pub turn : Mesh → ℕ → Arrival → Dir → Bool
turn m x a d = allowed (m.table (parity (x + m.first))) a d

-- the mesh of C columns and R rows under a published rule, its first column of parity f
abbrev pub ruled : Rule → ℕ → ℕ → ℕ → Mesh
ruled k C R f = record { columns = C; rows = R; first = f; table = rule_table k }
