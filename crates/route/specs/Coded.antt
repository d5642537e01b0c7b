-- What the code's own values stand for: cited by the contracts of its inner functions. No call's promise rests on it. Assumes nothing.
use Rattle.std.specs.Prelude.{ℕ, ◌+◌, ◌-◌, ◌/◌, ◌%◌, ◌^◌, ◌≤◌, ◌<◌, ◌≡◌, true, eqb}
use Rattle.route.specs.declared.frames.Frame.{Frame}
use Rattle.route.specs.declared.meshes.Mesh.{Mesh as Coded}
use Rattle.route.specs.declared.places.Place.{Place}
use Rattle.route.specs.Grid.{horiz, vert, Dir, go, coord}
use Rattle.route.specs.Turns.{even, odd, parity, Turn, corner, Table, Rule, bit}
use Rattle.route.specs.Mesh.{Mesh}
use Rattle.route.specs.Channels.{far, is_channel}
use Rattle.route.specs.House.{formula}

-- the turn from a direction to one along the other axis
abbrev pub turned : Dir → Dir → Turn
turned (go x s) (go y u) = corner x s u

-- a word of 16 bits as a table, 1 for allowed: the low eight for even columns, the high eight for odd ones
abbrev pub bits : ℕ → Table
bits w even t = eqb (w / 2 ^ bit t % 2) 1
bits w odd t = eqb (w / 2 ^ (8 + bit t) % 2) 1

-- the mesh that the code's value stands for
abbrev pub meant : Coded → Mesh
meant m = record { columns = m.columns; rows = m.rows; first = 0; table = bits m.table }

-- sides with room for every number in a word of 16 bits: more than are served
pub record Roomy (m : Coded) : Type 0 where
  pub columns_low : 0 < m.columns
  pub columns_high : m.columns ≤ 64
  pub rows_high : m.rows ≤ 64

-- channel i exists, and leads to n
pub record Ends (m : Mesh) (i : ℕ) (n : Place) : Type 0 where
  pub known : is_channel m i ≡ true
  pub ends : n ≡ far m.columns i

-- a frame says what lies around a place
pub record Surrounds (f : Frame) (m : Coded) (n : Place) : Type 0 where
  pub columns : f.columns ≡ m.columns
  pub rows : f.rows ≡ m.rows
  pub c : f.c ≡ coord horiz n
  pub u : f.u ≡ m.columns - 1 - coord horiz n
  pub r : f.r ≡ coord vert n
  pub d : f.d ≡ m.rows - 1 - coord vert n

-- the house number of the channel that leaves a frame's place by a direction
abbrev pub in_frame : Rule → Frame → Dir → ℕ
in_frame k f d = formula k (parity f.c) f.columns f.rows f.c f.u f.r f.d d
