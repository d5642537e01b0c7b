-- Text in bytes: words, decimals and lines. Assumes nothing.
use Rattle.std.specs.Prelude.{ℕ, zero, suc, ◌+◌, ◌/◌, ◌%◌, List, [], ◌∷◌, ◌++◌, ltb}
use Rattle.route.specs.Grid.{pick, dist}
use Rattle.traffic.specs.declared.headers.Header.{Header}

-- the digits of a number: those of its tenth, where there is one, then the last; f of them at most
unfoldable pub digits : ℕ → ℕ → List ℕ
digits zero n = []
digits (suc f) n = pick (ltb n 10) [] (digits f (n / 10)) ++ ((48 + n % 10) ∷ [])

-- all of them
abbrev pub decimal : ℕ → List ℕ
decimal n = digits (suc n) n

-- "packet hops moves" and a newline
abbrev pub heading : List ℕ
heading = 112 ∷ 97 ∷ 99 ∷ 107 ∷ 101 ∷ 116 ∷ 32 ∷ 104 ∷ 111 ∷ 112 ∷ 115 ∷ 32 ∷ 109 ∷ 111 ∷ 118 ∷ 101 ∷ 115 ∷ 10 ∷ []

-- "total "
abbrev pub total_word : List ℕ
total_word = 116 ∷ 111 ∷ 116 ∷ 97 ∷ 108 ∷ 32 ∷ []

-- "refused "
abbrev pub refused_word : List ℕ
refused_word = 114 ∷ 101 ∷ 102 ∷ 117 ∷ 115 ∷ 101 ∷ 100 ∷ 32 ∷ []

-- "stalled" and a newline
abbrev pub stalled : List ℕ
stalled = 115 ∷ 116 ∷ 97 ∷ 108 ∷ 108 ∷ 101 ∷ 100 ∷ 10 ∷ []

-- a word, a number and a newline
abbrev pub said : List ℕ → ℕ → List ℕ
said word n = word ++ (decimal n ++ (10 ∷ []))

-- the line of packet i: its place in the list, its distance, its moves
abbrev pub line : ℕ → Header → ℕ → List ℕ
line i h moves = decimal i ++ (32 ∷ decimal (dist h.source h.destination) ++ (32 ∷ decimal moves ++ (10 ∷ [])))

-- those of packets from place i on, of which packet j makes `made j` moves
unfoldable pub lines : ℕ → List Header → (ℕ → ℕ) → List ℕ
lines i [] made = []
lines i (h ∷ hs) made = line i h (made i) ++ lines (suc i) hs made
