-- How a list that was read drains: sweeps over all moves that there could be, each made if the machine accepts it, until a sweep finds none.
-- Assumes nothing.
use Rattle.std.specs.Prelude.{ℕ, zero, suc, ◌+◌, ◌-◌, ◌*◌, ◌/◌, ◌%◌, Bool, List, [], ◌∷◌, ltb, eqb, length, get_or, set}
use Rattle.route.specs.Grid.{pick}
use Rattle.route.specs.Numbers.{channels}
use Rattle.wormhole.specs.declared.records.Record.{Record}
use Rattle.wormhole.specs.Memory.{sections, owner_of}
use Rattle.wormhole.specs.Range.{every}
use Rattle.wormhole.specs.Drains.{Lent, Move, moving, any, after, makes}

-- memory while it drains, and how many moves of each record's packet were accepted
pub record Tally : Type 0 where
  pub lent : Lent
  pub made : List ℕ

-- all of them together
unfoldable pub sum : List ℕ → ℕ
sum [] = 0
sum (n ∷ ns) = n + sum ns

-- no packet is on its way
unfoldable pub idle : List Record → Bool
idle rs = every (λ r. eqb r.live 0) rs

-- six turns for each record: leads in the four directions, a feed, an eat
abbrev pub own_turn : ℕ → Move
own_turn t = let j = t % 6 in record { packet = t / 6; kind = pick (ltb j 4) 0 (j - 2); channel = 0; direction = j }

-- one turn for each of n numbers of channels: the follow of its owner; that of a free channel is refused, whoever tries it
abbrev pub owner_turn : ℕ → List ℕ → ℕ → Move
owner_turn n w k = record { packet = owner_of (sections n w) k - 1; kind = 1; channel = k; direction = 0 }

-- the move that is tried at turn t, with so many records
abbrev pub turn : ℕ → ℕ → List ℕ → ℕ → Move
turn count n w t = pick (ltb t (6 * count)) (own_turn t) (owner_turn n w (t - 6 * count))

module _ (C R rule : ℕ) where
  -- a move is tried: made and counted if it is accepted
  unfoldable pub tried : Tally → Move → Tally
  tried S v =
      record {
        lent = after C R rule S.lent (moving v);
        made = set S.made v.packet (get_or S.made v.packet 0 + makes C R rule any S.lent (moving v));
      }

  -- the first so many turns
  unfoldable pub turns : Tally → ℕ → Tally
  turns S zero = S
  turns S (suc t) = let now = turns S t in tried now (turn (length now.lent.records) (channels C R) now.lent.words t)

  -- all turns
  abbrev pub sweep : Tally → Tally
  sweep S = turns S (6 * length S.lent.records + channels C R)

  -- at most n sweeps, until one accepts nothing
  unfoldable pub drained : ℕ → Tally → Tally
  drained zero S = S
  drained (suc n) S = let now = sweep S in pick (eqb (sum now.made) (sum S.made)) now (drained n now)

-- more sweeps than a list can keep busy: none owes more than 64 × 200 × 31 moves
abbrev pub most_sweeps : ℕ
most_sweeps = 396801
