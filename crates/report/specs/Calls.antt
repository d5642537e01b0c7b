-- The call: which sheet a list has, and the memory that it leaves. Assumes nothing.
use Rattle.std.specs.Prelude.{ℕ, List, ◌++◌, ltb, length, take, drop, get_or, replicate}
use Rattle.route.specs.Grid.{pick}
use Rattle.route.specs.Served.{unless}
use Rattle.wormhole.specs.Memory.{none}
use Rattle.wormhole.specs.Calls.{Left, needed}
use Rattle.traffic.specs.declared.pages.Written.{Written}
use Rattle.traffic.specs.declared.reads.ListRead.{ListRead}
use Rattle.traffic.specs.Lists.{lead, after_lead}
use Rattle.traffic.specs.Calls.{written, over, read}
use Rattle.report.specs.Sweeps.{Tally, sum, idle, drained, most_sweeps}
use Rattle.report.specs.Text.{heading, total_word, refused_word, stalled, said, lines}

-- how many words the mesh of a list needs
abbrev pub need : List ℕ → ℕ
need bs = needed (lead bs).columns (lead bs).rows

-- a list is read into these words and 64 records
abbrev pub reading : List ℕ → List ℕ → Left ListRead
reading bs w = read bs w (replicate 64 none)

-- and drains
abbrev pub drain : List ℕ → List ℕ → Tally
drain bs w =
    let o = reading bs w in
    drained (lead bs).columns (lead bs).rows (lead bs).rule most_sweeps
    (record { lent = record { words = o.words; records = o.records }; made = replicate 64 0 })

-- the sheet of a list that drained: a heading, a line a packet, the total
abbrev pub drained_sheet : List ℕ → List ℕ → List ℕ
drained_sheet bs made = heading ++ (lines 0 (after_lead bs) (λ i. get_or made i 0) ++ said total_word (sum made))

-- the sheet of an accepted list
abbrev pub sheet : List ℕ → Tally → List ℕ
sheet bs S = pick (idle S.lent.records) (drained_sheet bs S.made) stalled

-- what the call leaves: its answer, the words and the bytes
pub record Reported : Type 0 where
  pub answer : Written
  pub words : List ℕ
  pub bytes : List ℕ

-- a sheet is written to bytes, and these words are left
abbrev pub reported : List ℕ → List ℕ → List ℕ → Reported
reported text w out = record { answer = written 0 (length text); words = w; bytes = over text out }

-- of a list that is read into the first words that it needs; of a refused one the sheet is its refusal, and words stay. Fewer than 1,024
-- bytes are refused by 7
unfoldable pub report : List ℕ → List ℕ → List ℕ → Reported
report bs w out =
    let part = take (need bs) w in
    pick (ltb (length out) 1024) (record { answer = written 7 0; words = w; bytes = out })
    (unless (λ k. reported (said refused_word k) w out) (reading bs part).answer.refusal
    (let S = drain bs part in reported (sheet bs S) (S.lent.words ++ drop (need bs) w) out))
