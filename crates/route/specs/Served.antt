-- What the calls refuse before they look at anything else: the sides, the rule, the length of a list. Assumes nothing.
use Rattle.std.specs.Prelude.{ℕ, zero, suc, Bool, ◌||◌, ltb, eqb, Result, Ok, Err}
use Rattle.route.specs.declared.refusals.Refusal.{Refusal}
use Rattle.route.specs.declared.refusals.Refusal.TheVariants.{BadSide, BadRule, BadNode, BadArrival, SameNode, BadFlits, BadSize, NotNow, BadMemory, Full, NoPath, BadList, BadMove}
use Rattle.route.specs.Grid.{pick}
use Rattle.route.specs.Numbers.{channels}

-- a side is not 2 to 16 long
abbrev pub off_side : ℕ → Bool
off_side length = ltb length 2 || ltb 16 length

-- a refusal's answer; with 0, which is none, the answer of the call that is served
abbrev pub unless : {A : Type 0} → (ℕ → A) → ℕ → A → A
unless refuse zero served = served
unless refuse (suc k) served = refuse (suc k)

-- the refusal of a mesh of C columns and R rows under a rule: 1 for a side, 2 for the rule
abbrev pub bad_mesh : ℕ → ℕ → ℕ → ℕ
bad_mesh C R rule = pick (off_side C || off_side R) 1 (pick (ltb 4 rule) 2 0)

-- and of a list of so many words, lent for its numbering: then 7, unless there is a word for each number of a channel
abbrev pub bad_list : ℕ → ℕ → ℕ → ℕ → ℕ
bad_list C R rule length = unless (λ k. k) (bad_mesh C R rule) (pick (eqb length (channels C R)) 0 7)

-- ---- refusals as the code has them
-- the number of a refusal
abbrev pub code : Refusal → ℕ
code BadSide = 1
code BadRule = 2
code BadNode = 3
code BadArrival = 4
code SameNode = 5
code BadFlits = 6
code BadSize = 7
code NotNow = 8
code BadMemory = 9
code Full = 10
code NoPath = 11
code BadList = 12
code BadMove = 13

-- the number that a result is refused by; 0, which is none, where it is served
abbrev pub refusal_of : {A : Type 0} → Result A Refusal → ℕ
refusal_of (Ok a) = 0
refusal_of (Err e) = code e
