-- The routing call: its refusals in their order, and the set of outputs. Assumes nothing.
use Rattle.std.specs.Prelude.{ℕ, ◌+◌, ◌*◌, Bool, true, ◌&&◌, ◌||◌, not, leb, eqb, Result, Ok, Err}
use Rattle.route.specs.declared.places.Place.{Place}
use Rattle.route.specs.declared.routes.Routed.{Routed}
use Rattle.route.specs.declared.refusals.Refusal.{Refusal}
use Rattle.route.specs.Grid.{pick, Dir, west, east, south, north, back}
use Rattle.route.specs.Turns.{Arrival, local, going}
use Rattle.route.specs.Mesh.{Mesh, exists, ruled}
use Rattle.route.specs.Numbers.{place_of, arrival_of, rule_of}
use Rattle.route.specs.Served.{unless, bad_mesh, code}
use Rattle.route.specs.Paths.{same_place, answer}

-- the values of the directions in a set, added
abbrev pub values : (Dir → Bool) → ℕ
values member = pick (member west) 1 0 + pick (member east) 2 0 + pick (member south) 4 0 + pick (member north) 8 0

-- the set of outputs: the answer's, or 16, deliver, at the destination
unfoldable pub outputs : Mesh → Place → Arrival → Place → ℕ
outputs m n a t = pick (same_place n t) 16 (values (answer m n a t))

-- a packet that is at n starts there, or came over a channel from the neighbour behind it
abbrev pub from_mesh : Mesh → Place → Arrival → Bool
from_mesh m n local = true
from_mesh m n (going d) = exists m n (back d)

-- an arrival's number is one of the five, and it is from the mesh
abbrev pub arrives : Mesh → Place → ℕ → Bool
arrives m n arrival = leb arrival 4 && from_mesh m n (arrival_of arrival)

-- a refusal gives the empty set
abbrev pub refuse : ℕ → Routed
refuse k = record { refusal = k; outputs = 0 }

-- the call, at node n for a packet that arrives so and goes to node t: the first refusal that applies, else the set
unfoldable pub routed : ℕ → ℕ → ℕ → ℕ → ℕ → ℕ → Routed
routed C R rule n arrival t =
    let m = ruled (rule_of rule) C R 0 in
    let here = place_of C n in
    let set = outputs m here (arrival_of arrival) (place_of C t) in
    unless refuse (bad_mesh C R rule)
    (pick (leb (C * R) n || leb (C * R) t) (refuse 3)
    (pick (not (arrives m here arrival)) (refuse 4)
    (pick (eqb set 0) (refuse 11)
    (record { refusal = 0; outputs = set }))))

-- the answer of the call as a library has it: a set or a refusal
abbrev pub routed_of : Result ℕ Refusal → Routed
routed_of (Ok set) = record { refusal = 0; outputs = set }
routed_of (Err e) = refuse (code e)
