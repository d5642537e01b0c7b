-- A statement at every direction, turn and rule, and at every number below 4, from a tuple of its cases. Assumes nothing.
use Prim.Native.Nat.{ℕ, zero, suc, ◌<◌}
use mathlib.Core.Path.{◌≡◌, refl}
use native.Mathlib.Omega.{arith}
use Rattle.route.specs.Grid.{horiz, vert, Sense, less, more, Dir, go, west, east, south, north}
use Rattle.route.specs.Turns.{Turn, NE, NW, SE, SW, EN, ES, WN, WS, Rule, xy, west_first, north_last, negative_first, odd_even}
use Rattle.route.specs.Numbers.{number}

abbrev pub AllS : (Sense → Type 0) → Type 0
AllS P = P less × P more

pub senses : (P : Sense → Type 0) → AllS P → (s : Sense) → P s
senses P h less = h.0
senses P h more = h.1

abbrev pub AllD : (Dir → Type 0) → Type 0
AllD P = P west × P east × P south × P north

pub dirs : (P : Dir → Type 0) → AllD P → (d : Dir) → P d
dirs P h (go horiz less) = h.0
dirs P h (go horiz more) = h.1
dirs P h (go vert less) = h.2
dirs P h (go vert more) = h.3

pub pairs : (P : Dir → Dir → Type 0) → AllD (λ a. AllD (P a)) → (a e : Dir) → P a e
pairs P h a e = dirs (P a) (dirs (λ a. AllD (P a)) h a) e

abbrev pub AllT : (Turn → Type 0) → Type 0
AllT P = P NE × P NW × P SE × P SW × P EN × P ES × P WN × P WS

pub turns : (P : Turn → Type 0) → AllT P → (t : Turn) → P t
turns P h NE = h.0
turns P h NW = h.1
turns P h SE = h.2
turns P h SW = h.3
turns P h EN = h.4
turns P h ES = h.5
turns P h WN = h.6
turns P h WS = h.7

abbrev pub AllR : (Rule → Type 0) → Type 0
AllR P = P xy × P west_first × P north_last × P negative_first × P odd_even

pub rules : (P : Rule → Type 0) → AllR P → (k : Rule) → P k
rules P h xy = h.0
rules P h west_first = h.1
rules P h north_last = h.2
rules P h negative_first = h.3
rules P h odd_even = h.4

abbrev pub All4 : (ℕ → Type 0) → Type 0
All4 P = P 0 × P 1 × P 2 × P 3

pub four : (P : ℕ → Type 0) → All4 P → (k : ℕ) → k < 4 → P k
four P h zero i = h.0
four P h (suc zero) i = h.1
four P h (suc (suc zero)) i = h.2
four P h (suc (suc (suc zero))) i = h.3
four P h (suc (suc (suc (suc k)))) i = absurd (omega arith)

-- directions with one number are one
pub number_apart : (d e : Dir) → number d ≡ number e → d ≡ e
number_apart = dirs (λ d. (e : Dir) → number d ≡ number e → d ≡ e) (
  dirs (λ e. 0 ≡ number e → west ≡ e) (λ h. refl, λ h. absurd (omega arith), λ h. absurd (omega arith), λ h. absurd (omega arith)),
  dirs (λ e. 1 ≡ number e → east ≡ e) (λ h. absurd (omega arith), λ h. refl, λ h. absurd (omega arith), λ h. absurd (omega arith)),
  dirs (λ e. 2 ≡ number e → south ≡ e) (λ h. absurd (omega arith), λ h. absurd (omega arith), λ h. refl, λ h. absurd (omega arith)),
  dirs (λ e. 3 ≡ number e → north ≡ e) (λ h. absurd (omega arith), λ h. absurd (omega arith), λ h. absurd (omega arith), λ h. refl),
)
