-- Channels by their numbers: where each begins and ends, and which may be used in turn. Assumes nothing.
use Rattle.std.specs.Prelude.{ℕ, ◌+◌, ◌*◌, ◌/◌, ◌%◌, Bool, ◌&&◌, ltb}
use Rattle.route.specs.declared.places.Place.{Place}
use Rattle.route.specs.Grid.{horiz, Dir, coord, hop}
use Rattle.route.specs.Turns.{going}
use Rattle.route.specs.Mesh.{Mesh, exists, turn}
use Rattle.route.specs.Numbers.{node, place_of, channels, number, dir_of}
use Rattle.route.specs.Paths.{same_place}

-- the number of the channel that leaves a place by d, in a mesh of C columns
abbrev pub channel : ℕ → Place → Dir → ℕ
channel C n d = 4 * node C n + number d

-- the place that a channel leaves
abbrev pub start : ℕ → ℕ → Place
start C k = place_of C (k / 4)

-- the direction in which it leads
abbrev pub way : ℕ → Dir
way k = dir_of (k % 4)

-- the place to which it leads
abbrev pub far : ℕ → ℕ → Place
far C k = hop (way k) (start C k)

-- a number is that of a channel
unfoldable pub is_channel : Mesh → ℕ → Bool
is_channel m k = ltb k (channels m.columns m.rows) && exists m (start m.columns k) (way k)

-- a packet may use channel o after channel i: o begins where i ends, and there the turn is allowed, or o leads straight on
unfoldable pub in_turn : Mesh → ℕ → ℕ → Bool
in_turn m i o =
    (is_channel m i && is_channel m o)
    && (same_place (far m.columns i) (start m.columns o) && turn m (coord horiz (start m.columns o)) (going (way i)) (way o))
