-- The numbers of nodes, directions, arrivals and rules. Assumes nothing.
use Rattle.std.specs.Prelude.{ℕ, zero, suc, ◌+◌, ◌*◌, ◌/◌, ◌%◌, ◌≤◌, ◌<◌, ◌≡◌, Result, MatchResult}
use Rattle.route.specs.declared.directions.Direction.{Direction}
use Rattle.route.specs.declared.directions.Direction.TheVariants.{West, East, South, North}
use Rattle.route.specs.declared.directions.UnknownDirection.{UnknownDirection}
use Rattle.route.specs.declared.directions.Arrival.{Arrival as CodedArrival}
use Rattle.route.specs.declared.directions.Arrival.TheVariants.{Going, Local}
use Rattle.route.specs.declared.directions.UnknownArrival.{UnknownArrival}
use Rattle.route.specs.declared.rules.Rule.{Rule as CodedRule}
use Rattle.route.specs.declared.rules.Rule.TheVariants.{Xy, WestFirst, NorthLast, NegativeFirst, OddEven}
use Rattle.route.specs.declared.rules.UnknownRule.{UnknownRule}
use Rattle.route.specs.declared.places.Place.{Place}
use Rattle.route.specs.Grid.{horiz, vert, less, more, Dir, go, west, east, south, north, at, coord}
use Rattle.route.specs.Turns.{Arrival, local, going, Rule, xy, west_first, north_last, negative_first, odd_even}

-- the number of the node at a place, in a mesh of C columns
abbrev pub node : ℕ → Place → ℕ
node C n = coord vert n * C + coord horiz n

-- the place of a node, by its number
abbrev pub place_of : ℕ → ℕ → Place
place_of C k = at (k % C) (k / C)

-- how many numbers there are for the channels of C columns and R rows: four a node
abbrev pub channels : ℕ → ℕ → ℕ
channels C R = 4 * (C * R)

-- the number of a direction
abbrev pub number : Dir → ℕ
number (go horiz less) = 0
number (go horiz more) = 1
number (go vert less) = 2
number (go vert more) = 3

-- the direction of a number below 4
abbrev pub dir_of : ℕ → Dir
dir_of zero = west
dir_of (suc zero) = east
dir_of (suc (suc zero)) = south
dir_of (suc (suc (suc k))) = north

-- the arrival of a number below 5: the way the packet was travelling, or 4, it starts here
abbrev pub arrival_of : ℕ → Arrival
arrival_of zero = going west
arrival_of (suc zero) = going east
arrival_of (suc (suc zero)) = going south
arrival_of (suc (suc (suc zero))) = going north
arrival_of (suc (suc (suc (suc k)))) = local

-- the rule of a number below 5
abbrev pub rule_of : ℕ → Rule
rule_of zero = xy
rule_of (suc zero) = west_first
rule_of (suc (suc zero)) = north_last
rule_of (suc (suc (suc zero))) = negative_first
rule_of (suc (suc (suc (suc k)))) = odd_even

-- ---- the code's own values, each with what it stands for
-- a direction
abbrev pub facing : Direction → Dir
facing West = west
facing East = east
facing South = south
facing North = north

-- an arrival
abbrev pub arriving : CodedArrival → Arrival
arriving (Going d) = going (facing d)
arriving Local = local

-- a rule
abbrev pub published : CodedRule → Rule
published Xy = xy
published WestFirst = west_first
published NorthLast = north_last
published NegativeFirst = negative_first
published OddEven = odd_even

-- the direction of this number, or an error with a number that no direction has
abbrev pub IsDirectionOf : ℕ → Result Direction UnknownDirection → Type 0
IsDirectionOf k r = MatchResult r (λ d. (k < 4) × (facing d ≡ dir_of k) × (number (facing d) ≡ k)) (λ e. 4 ≤ k)

-- the arrival of this number, or an error with a number that no arrival has
abbrev pub IsArrivalOf : ℕ → Result CodedArrival UnknownArrival → Type 0
IsArrivalOf k r = MatchResult r (λ a. (k < 5) × (arriving a ≡ arrival_of k)) (λ e. 5 ≤ k)

-- the rule of this number, or an error with a number that no rule has
abbrev pub IsRuleOf : ℕ → Result CodedRule UnknownRule → Type 0
IsRuleOf k r = MatchResult r (λ rule. (k < 5) × (published rule ≡ rule_of k)) (λ e. 5 ≤ k)
