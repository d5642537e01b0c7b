-- Places, the four directions, hops and the distance. Assumes nothing.
use Rattle.std.specs.Prelude.{ℕ, ◌+◌, ◌-◌, Bool, true, false}
use Rattle.route.specs.declared.places.Place.{Place}

-- the first of two values where a test holds, else the second
abbrev pub pick : {A : Type 0} → Bool → A → A → A
pick true a b = a
pick false a b = b

-- the two axes: along a row, where the column changes, and along a column, where the row changes
pub data Axis : Type 0 where
  horiz vert : Axis

-- the two senses of an axis: to lower and to higher coordinates
pub data Sense : Type 0 where
  less more : Sense

-- a direction in which a channel leads: an axis and a sense
pub data Dir : Type 0 where
  go : Axis → Sense → Dir

-- to lower columns: column 0 is the west edge
abbrev pub west : Dir
west = go horiz less

-- to higher columns
abbrev pub east : Dir
east = go horiz more

-- to lower rows: row 0 is the south edge
abbrev pub south : Dir
south = go vert less

-- to higher rows
abbrev pub north : Dir
north = go vert more

-- the place in column c and row r
abbrev pub at : ℕ → ℕ → Place
at c r = record { column = record { 0 = c }; row = record { 0 = r } }

-- what changes along an axis: the column's number or the row's
abbrev pub coord : Axis → Place → ℕ
coord horiz n = n.column.0
coord vert n = n.row.0

-- the next coordinate that way
abbrev pub step : Sense → ℕ → ℕ
step less c = c - 1
step more c = c + 1

-- the neighbour that way
abbrev pub hop : Dir → Place → Place
hop (go horiz s) n = at (step s (coord horiz n)) (coord vert n)
hop (go vert s) n = at (coord horiz n) (step s (coord vert n))

-- the opposite direction
abbrev pub back : Dir → Dir
back (go x less) = go x more
back (go x more) = go x less

-- the difference of two coordinates
unfoldable pub gap : ℕ → ℕ → ℕ
gap c e = (c - e) + (e - c)

-- the distance: the column difference plus the row difference
unfoldable pub dist : Place → Place → ℕ
dist n t = gap (coord horiz n) (coord horiz t) + gap (coord vert n) (coord vert t)
