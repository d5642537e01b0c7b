-- The demand is not empty: a run on a mesh of 3 columns and 2 rows under west-first, computed. Two packets are accepted, which owe 8 and 4 moves; a
-- third is refused, and so is a move; 12 moves later the mesh is empty. Assumes nothing.
use Prim.Native.Nat.{ℕ}
use mathlib.Core.Path.{◌≡◌, refl}
use mathlib.Core.List.{List, [], ◌∷◌, ◌++◌}
use Rattle.route.specs.Grid.{gap, dist}
use Rattle.route.specs.Mesh.{turn}
use Rattle.route.specs.Paths.{some_run, answer}
use Rattle.route.specs.Channels.{is_channel}
use Rattle.wormhole.specs.Memory.{sections, joined, own, hold, link, put, drain, fill}
use Rattle.wormhole.specs.Range.{every, at_most, words_fit, record_fits}
use Rattle.wormhole.specs.Steps.{release, leave, may_lead, claim, lead, can_follow, may_follow, follow, may_feed, feed, may_eat, eat, may, act}
use Rattle.wormhole.specs.Calls.{lowest, offer, move}
use Rattle.wormhole.specs.Drains.{Call, offering, moving, empty, run, total, now, work, made}

-- a move by its record, kind, channel and direction
abbrev step : ℕ → ℕ → ℕ → ℕ → Call
step i kind k d = moving (record { packet = i; kind = kind; channel = k; direction = d })

-- the offers, of which the last finds no empty record, and a move that is not allowed yet
abbrev pub beginning : List Call
beginning = offering 2 3 2 ∷ offering 0 5 1 ∷ offering 0 5 1 ∷ step 0 3 0 0 ∷ []

-- then the moves: 8 of the first packet and 4 of the second, in turn
abbrev pub whole : List Call
whole =
    beginning
    ++ (step 0 0 0 0
    ∷ step 0 0 0 0
    ∷ step 0 2 0 0
    ∷ step 1 0 0 1
    ∷ step 0 0 0 3
    ∷ step 0 1 8 0
    ∷ step 1 0 0 1
    ∷ step 0 3 0 0
    ∷ step 0 1 4 0
    ∷ step 0 3 0 0
    ∷ step 1 0 0 3
    ∷ step 1 3 0 0
    ∷ [])

-- after the offers 12 moves are owed and none is made; after the moves all are, and the mesh is empty
pub computed : (work 3 2 1 2 beginning ≡ 12) × (made 3 2 1 2 beginning ≡ 0) × (work 3 2 1 2 whole ≡ 12) × (made 3 2 1 2 whole ≡ 12)
    × (now 3 2 1 2 whole ≡ empty 3 2 2)
unfolding run total offer move lowest may act release leave may_lead claim lead can_follow may_follow follow may_feed feed may_eat eat sections joined own hold link put drain fill every at_most words_fit record_fits is_channel some_run answer turn dist gap
computed = (refl, refl, refl, refl, refl)
