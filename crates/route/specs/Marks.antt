-- The marked cases M1 to M14, on a mesh of 4 columns and 4 rows. Assumes nothing.
use Rattle.std.specs.Prelude.{ℕ, Bool, true, ◌&&◌, List, [], ◌∷◌, eqb}
use Rattle.route.specs.declared.places.Place.{Place}
use Rattle.route.specs.declared.routes.Routed.{Routed}
use Rattle.route.specs.Grid.{at}
use Rattle.route.specs.Numbers.{node}
use Rattle.route.specs.Route.{routed}

-- under this rule, at this place, for this arrival and destination, the call gives this
pub record Mark : Type 0 where
  pub rule : ℕ
  pub here : Place
  pub arrival : ℕ
  pub there : Place
  pub gives : Routed

-- a row of the table: rule, place, arrival, destination, refusal, set
abbrev mark : ℕ → Place → ℕ → Place → ℕ → ℕ → Mark
mark rule here arrival there refusal set =
    record { rule = rule; here = here; arrival = arrival; there = there; gives = record { refusal = refusal; outputs = set } }

-- M1 to M14
abbrev pub marks : List Mark
marks =
    mark 1 (at 2 1) 4 (at 0 3) 0 1
    ∷ mark 1 (at 0 1) 4 (at 2 3) 0 10
    ∷ mark 1 (at 2 1) 3 (at 0 3) 11 0
    ∷ mark 2 (at 1 1) 4 (at 3 3) 0 2
    ∷ mark 2 (at 1 2) 4 (at 3 0) 0 6
    ∷ mark 3 (at 2 0) 4 (at 0 3) 0 1
    ∷ mark 3 (at 2 2) 4 (at 0 0) 0 5
    ∷ mark 4 (at 0 0) 4 (at 2 2) 0 10
    ∷ mark 4 (at 1 0) 1 (at 2 2) 0 8
    ∷ mark 4 (at 2 0) 1 (at 3 2) 0 2
    ∷ mark 4 (at 2 0) 4 (at 3 2) 0 10
    ∷ mark 4 (at 3 0) 4 (at 0 2) 0 1
    ∷ mark 0 (at 1 1) 1 (at 1 1) 0 16
    ∷ mark 0 (at 0 1) 1 (at 2 2) 4 0
    ∷ []

-- the call gives what a mark says
abbrev pub holds : Mark → Bool
holds k =
    let r = routed 4 4 k.rule (node 4 k.here) k.arrival (node 4 k.there) in
    eqb r.refusal k.gives.refusal && eqb r.outputs k.gives.outputs

-- every mark of a list holds
abbrev pub all_hold : List Mark → Bool
all_hold [] = true
all_hold (k ∷ ks) = holds k && all_hold ks
