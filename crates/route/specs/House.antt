-- The house numbering of the channels, rule by rule, and the call that writes it. Assumes nothing.
use Rattle.std.specs.Prelude.{ℕ, zero, suc, ◌+◌, ◌*◌, ◌-◌, List, [], ◌∷◌, ◌++◌, length}
use Rattle.route.specs.declared.places.Place.{Place}
use Rattle.route.specs.Grid.{pick, horiz, vert, Sense, less, more, Dir, go, coord}
use Rattle.route.specs.Turns.{Parity, even, odd, parity, Rule, xy, west_first, north_last, negative_first, odd_even}
use Rattle.route.specs.Mesh.{Mesh, ruled}
use Rattle.route.specs.Numbers.{rule_of, channels}
use Rattle.route.specs.Served.{unless, bad_list}
use Rattle.route.specs.Channels.{start, way, is_channel}

-- of the r rows to the south and the d rows to the north, those behind a channel that leads so
abbrev pub behind : Sense → ℕ → ℕ → ℕ
behind less r d = d
behind more r d = r

-- one value in even columns, another in odd ones
abbrev pub by_parity : Parity → ℕ → ℕ → ℕ
by_parity even a b = a
by_parity odd a b = b

-- the channel that leaves column c and row r of C columns and R rows: u columns lie to the east and d rows to the north, p is the column's parity
abbrev pub formula : Rule → Parity → (C R c u r d : ℕ) → Dir → ℕ
formula xy p C R c u r d (go horiz less) = u
formula xy p C R c u r d (go horiz more) = c
formula xy p C R c u r d (go vert s) = C + behind s r d
formula west_first p C R c u r d (go horiz less) = u
formula west_first p C R c u r d (go horiz more) = C + c * (R + 1) + R
formula west_first p C R c u r d (go vert s) = C + c * (R + 1) + behind s r d
formula north_last p C R c u r d (go horiz less) = d * (C + 1) + u
formula north_last p C R c u r d (go horiz more) = d * (C + 1) + c
formula north_last p C R c u r d (go vert less) = d * (C + 1) + C
formula north_last p C R c u r d (go vert more) = R * (C + 1) + r
formula negative_first p C R c u r d (go x less) = C + R - 2 - c - r
formula negative_first p C R c u r d (go x more) = C + R - 2 + c + r
formula odd_even p C R c u r d (go horiz less) = u * (R + 1) + R
formula odd_even p C R c u r d (go horiz more) = (C + c) * (R + 1) + R
formula odd_even p C R c u r d (go vert s) = by_parity p u (C + c) * (R + 1) + behind s r d

-- the house number of the channel that leaves a place by a direction
unfoldable pub house : Rule → Mesh → Place → Dir → ℕ
house k m n d =
    let c = coord horiz n in
    let r = coord vert n in
    formula k (parity (c + m.first)) m.columns m.rows c (m.columns - 1 - c) r (m.rows - 1 - r) d

-- by the channel's number; 0 where there is no channel
unfoldable pub house_of : Rule → Mesh → ℕ → ℕ
house_of k m i = pick (is_channel m i) (house k m (start m.columns i) (way i)) 0

-- the values of a function at 0, 1 and so on, n of them
abbrev pub upto : (ℕ → ℕ) → ℕ → List ℕ
upto f zero = []
upto f (suc n) = upto f n ++ (f n ∷ [])

-- the numbering as a list: a word for each number of a channel
abbrev pub numbering : Rule → Mesh → List ℕ
numbering k m = upto (house_of k m) (channels m.columns m.rows)

-- what the call leaves: its answer and the list
pub record Numbered : Type 0 where
  pub refusal : ℕ
  pub list : List ℕ

-- the call: the first refusal that applies, with the list as it was; else the list is the numbering
unfoldable pub numbered : ℕ → ℕ → ℕ → List ℕ → Numbered
numbered C R rule list =
    let k = rule_of rule in
    unless (λ refusal. record { refusal = refusal; list = list }) (bad_list C R rule (length list))
    (record { refusal = 0; list = numbering k (ruled k C R 0) })
