-- Turns, turn tables by the column's parity, and the five published rules. Assumes nothing.
use Rattle.std.specs.Prelude.{ℕ, zero, suc, ◌%◌, Bool, true, false, ◌||◌, not, List, [], ◌∷◌, eqb}
use Rattle.route.specs.Grid.{Axis, horiz, vert, Sense, less, more, Dir, go}

-- the two parities of columns
pub data Parity : Type 0 where
  even odd : Parity

-- the parity of a remainder by 2
abbrev pub parity_at : ℕ → Parity
parity_at zero = even
parity_at (suc k) = odd

-- the parity of a column's number
abbrev pub parity : ℕ → Parity
parity x = parity_at (x % 2)

-- the eight turns: NW is travelling north, then west
pub data Turn : Type 0 where
  NE NW SE SW EN ES WN WS : Turn

-- from travelling along this axis, in this sense, to the other axis in that sense
abbrev pub corner : Axis → Sense → Sense → Turn
corner vert more more = NE
corner vert more less = NW
corner vert less more = SE
corner vert less less = SW
corner horiz more more = EN
corner horiz more less = ES
corner horiz less more = WN
corner horiz less less = WS

-- by the parity of the column, which turns are allowed there
abbrev pub Table : Type 0
Table = Parity → Turn → Bool

-- how a packet comes to a node: it starts there, or it travels this way
pub data Arrival : Type 0 where
  local : Arrival
  going : Dir → Arrival

-- two senses are one
abbrev pub same : Sense → Sense → Bool
same less less = true
same less more = false
same more less = false
same more more = true

-- from local any direction; straight on always and back never; else as the turns of this column say
abbrev pub allowed : (Turn → Bool) → Arrival → Dir → Bool
allowed turns local d = true
allowed turns (going (go horiz a)) (go horiz d) = same a d
allowed turns (going (go vert a)) (go vert d) = same a d
allowed turns (going (go horiz a)) (go vert d) = turns (corner horiz a d)
allowed turns (going (go vert a)) (go horiz d) = turns (corner vert a d)

-- the five published rules
pub data Rule : Type 0 where
  xy west_first north_last negative_first odd_even : Rule

-- the turns that a rule forbids in columns of a parity
abbrev pub forbidden : Rule → Parity → List Turn
forbidden xy p = NE ∷ NW ∷ SE ∷ SW ∷ []
forbidden west_first p = NW ∷ SW ∷ []
forbidden north_last p = NE ∷ NW ∷ []
forbidden negative_first p = NW ∷ ES ∷ []
forbidden odd_even even = EN ∷ ES ∷ []
forbidden odd_even odd = NW ∷ SW ∷ []

-- a turn's number, in the order above
abbrev pub bit : Turn → ℕ
bit NE = 0
bit NW = 1
bit SE = 2
bit SW = 3
bit EN = 4
bit ES = 5
bit WN = 6
bit WS = 7

-- a turn is in a list
abbrev pub among : List Turn → Turn → Bool
among [] t = false
among (x ∷ xs) t = eqb (bit x) (bit t) || among xs t

-- a rule as a table: what it does not forbid
abbrev pub rule_table : Rule → Table
rule_table k p t = not (among (forbidden k p) t)
