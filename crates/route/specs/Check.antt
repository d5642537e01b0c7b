-- The check of anybody's numbering: the first pair of channels at which it does not rise. Assumes nothing.
use Rattle.std.specs.Prelude.{ℕ, zero, suc, Bool, true, false, ◌&&◌, List, length, get_or, ltb, leb, Option, None, Some, Result, Ok, Err}
use Rattle.route.specs.declared.checks.Checked.{Checked}
use Rattle.route.specs.declared.checks.Fall.{Fall}
use Rattle.route.specs.declared.refusals.Refusal.{Refusal}
use Rattle.route.specs.Grid.{pick, horiz, vert, Dir, go}
use Rattle.route.specs.Mesh.{Mesh, ruled}
use Rattle.route.specs.Numbers.{rule_of, channels}
use Rattle.route.specs.Served.{unless, bad_list, code}
use Rattle.route.specs.Channels.{way, in_turn}

-- from one direction to another is a turn by 90 degrees
abbrev pub bends : Dir → Dir → Bool
bends (go horiz s) (go horiz t) = false
bends (go horiz s) (go vert t) = true
bends (go vert s) (go horiz t) = true
bends (go vert s) (go vert t) = false

-- from channel i to channel o there is an allowed turn by 90 degrees, and the number of o is not the greater
unfoldable pub falls : Mesh → List ℕ → ℕ → ℕ → Bool
falls m list i o = (in_turn m i o && bends (way i) (way o)) && leb (get_or list o 0) (get_or list i 0)

-- the least number below n that passes a test; n if none does
unfoldable pub least : (ℕ → Bool) → ℕ → ℕ
least test zero = 0
least test (suc n) = let k = least test n in pick (ltb k n) k (pick (test n) n (suc n))

-- the first channel to which the numbers do not rise from channel i
abbrev pub first_after : Mesh → List ℕ → ℕ → ℕ
first_after m list i = least (falls m list i) (channels m.columns m.rows)

-- the first channel from which they do not rise to some other
abbrev pub first_from : Mesh → List ℕ → ℕ
first_from m list = least (λ i. ltb (first_after m list i) (channels m.columns m.rows)) (channels m.columns m.rows)

-- an answer that names no pair
abbrev pub no_pair : ℕ → Checked
no_pair refusal = record { refusal = refusal; incoming = 0; outgoing = 0 }

-- 14 with the first pair, by incoming, then outgoing; else acceptance
unfoldable pub first_pair : Mesh → List ℕ → Checked
first_pair m list =
    let i = first_from m list in
    pick (ltb i (channels m.columns m.rows)) (record { refusal = 14; incoming = i; outgoing = first_after m list i }) (no_pair 0)

-- the call: the first refusal that applies, else what the list's numbers say
unfoldable pub checked : ℕ → ℕ → ℕ → List ℕ → Checked
checked C R rule list = unless no_pair (bad_list C R rule (length list)) (first_pair (ruled (rule_of rule) C R 0) list)

-- ---- the answer of the call as a library has it
-- the first pair, where there is one
abbrev pub pair_of : Option Fall → Checked
pair_of None = no_pair 0
pair_of (Some f) = record { refusal = 14; incoming = f.incoming; outgoing = f.outgoing }

-- or a refusal
abbrev pub checked_of : Result (Option Fall) Refusal → Checked
checked_of (Ok pair) = pair_of pair
checked_of (Err e) = no_pair (code e)
