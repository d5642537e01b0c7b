-- What is proved of every list that can be read: it drains, and the moves on its sheet are those that its packets owe. Assumes nothing.
use Rattle.std.specs.Prelude.{ℕ, ◌+◌, ◌*◌, ◌≡◌, List, ◌∷◌, ◌++◌, ◌≢◌, length, get_or}
use Rattle.route.specs.Grid.{dist}
use Rattle.wormhole.specs.Drains.{Move, empty, moves}
use Rattle.traffic.specs.declared.headers.Header.{Header}
use Rattle.traffic.specs.Lists.{lead, after_lead}
use Rattle.traffic.specs.Calls.{bad_read, dues}
use Rattle.report.specs.Sweeps.{sum}
use Rattle.report.specs.Calls.{drain}

module _ (bs w : List ℕ) where
  -- of list bs, read into words w
  pub record Paid : Type 0 where
    -- where draining stops no move is accepted, so that `stalled` is printed exactly if none is though a packet is on its way
    pub stops : (v : Move) → (moves (lead bs).columns (lead bs).rows (lead bs).rule (drain bs w).lent v).answer ≢ 0
    -- and then the mesh is empty
    pub empties : (drain bs w).lent ≡ empty (lead bs).columns (lead bs).rows 64
    -- each packet made flits × (distance + 1) moves, no more and no fewer
    pub each : (before : List Header) (h : Header) (later : List Header) → after_lead bs ≡ before ++ (h ∷ later)
        → get_or (drain bs w).made (length before) 0 ≡ h.flits * (dist h.source h.destination + 1)
    -- all of them together what all owe
    pub all : sum (drain bs w).made ≡ dues (lead bs).columns (after_lead bs)

-- of every list and all words that it can be read into
abbrev pub Payment : Type 0
Payment = (bs w : List ℕ) → bad_read bs (length w) 64 ≡ 0 → Paid bs w
