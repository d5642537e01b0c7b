-- What the code's own values stand for: cited by the contracts of its inner functions. No call's promise rests on it. Assumes nothing.
use Rattle.std.specs.Prelude.{ℕ, suc, ◌≤◌, ◌≡◌, Bool, ◌&&◌, List, map, ◌++◌, length, take, drop}
use Rattle.route.specs.Served.{unless}
use Rattle.wormhole.specs.declared.records.Record.{Record}
use Rattle.wormhole.specs.declared.steps.Step.{Step}
use Rattle.wormhole.specs.Memory.{Net, Sections}
use Rattle.wormhole.specs.Drains.{Move, Call, now, work, made}
use Rattle.wormhole.specs.Coded.{Means, takes, step_allowed, step_act}
use Rattle.traffic.specs.declared.pages.Page.{Page}
use Rattle.traffic.specs.Coded.{puts}
use Rattle.report.specs.declared.turns.Counted.{Counted}
use Rattle.report.specs.declared.turns.Turn.{Turn}
use Rattle.report.specs.Sweeps.{Tally, sum}
use Rattle.report.specs.Text.{refused_word, said}
use Rattle.report.specs.Calls.{need, reading, drain, sheet}

-- the records of packets that are counted
unfoldable pub recs : List Counted → List Record
recs cs = map (λ (c : Counted). c.packet) cs

-- and their counts
unfoldable pub counts : List Counted → List ℕ
counts cs = map (λ (c : Counted). c.moves) cs

-- words and counted packets, as they drain
abbrev pub tally : List ℕ → List Counted → Tally
tally w cs = record { lent = record { words = w; records = recs cs }; made = counts cs }

-- a turn makes a move: the same packet's, of the numbers that the step means
pub record Makes (v : Turn) (to : Move) : Type 0 where
  pub packet : v.packet ≡ to.packet
  pub means : Means v.step to.kind to.channel to.direction

-- the machine accepts a move of packet i, whose record is r
abbrev pub accepted : Net → Sections → ℕ → Record → Step → Bool
accepted N s i r v = takes N.mesh v && step_allowed N s i r v

-- the sections and a packet that is counted
pub record Attempt : Type 0 where
  pub words : Sections
  pub counted : Counted

-- a turn that is made on them and counted
unfoldable pub done : Net → Sections → Turn → Counted → Attempt
done N s v c =
    let after = step_act N s v.packet c.packet v.step in
    record { words = after.words; counted = record { packet = after.packet; moves = suc c.moves } }

-- a mesh of 64 records that a list and moves reached, the moves counted
pub record Reached (C R rule : ℕ) (S : Tally) : Type 0 where
  pub columns_low : 2 ≤ C
  pub columns_high : C ≤ 16
  pub rows_low : 2 ≤ R
  pub rows_high : R ≤ 16
  pub ruled : rule ≤ 4
  pub calls : List Call
  pub there : S.lent ≡ now C R rule 64 calls
  pub few : work C R rule 64 calls ≤ 396800
  pub long : length S.made ≡ 64
  pub low : sum S.made ≤ made C R rule 64 calls

-- the words, and the page of a sheet
pub record Printed : Type 0 where
  pub words : List ℕ
  pub sheet : Page

-- these words and this page
abbrev pub printed : List ℕ → Page → Printed
printed w p = record { words = w; sheet = p }

-- the sheet of a list, written on a page
unfoldable pub prints : List ℕ → List ℕ → Page → Printed
prints bs w p =
    let part = take (need bs) w in
    unless (λ k. printed w (puts p (said refused_word k))) (reading bs part).answer.refusal
    (let S = drain bs part in printed (S.lent.words ++ drop (need bs) w) (puts p (sheet bs S)))
