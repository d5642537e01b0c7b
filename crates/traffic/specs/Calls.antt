-- The two calls: their refusals in order, and the memory that they leave. Assumes nothing.
use Rattle.std.specs.Prelude.{ℕ, ◌+◌, ◌-◌, Bool, List, [], ◌∷◌, ◌++◌, leb, eqb, length, drop, replicate, Result, Ok, Err}
use Rattle.route.specs.Grid.{pick}
use Rattle.route.specs.Numbers.{node}
use Rattle.route.specs.declared.refusals.Refusal.{Refusal}
use Rattle.route.specs.Served.{unless, bad_mesh, code}
use Rattle.wormhole.specs.declared.records.Record.{Record}
use Rattle.wormhole.specs.Memory.{none}
use Rattle.wormhole.specs.Calls.{Left, left, bad_size, fits}
use Rattle.wormhole.specs.Drains.{Call, offering, owes}
use Rattle.traffic.specs.declared.headers.Header.{Header}
use Rattle.traffic.specs.declared.reads.Contents.{Contents}
use Rattle.traffic.specs.declared.reads.ListRead.{ListRead}
use Rattle.traffic.specs.declared.pages.Written.{Written}
use Rattle.traffic.specs.Lists.{listed, lead, after_lead, bad_headers, packets, list_of}

-- ---- reading
-- the refusals of a list that is read into so many words and records, in their order
abbrev pub bad_read : List ℕ → ℕ → ℕ → ℕ
bad_read bs words records =
    let l = lead bs in
    let hs = after_lead bs in
    unless (λ k. k) (pick (listed (length bs)) 0 12)
    (unless (λ k. k) (bad_mesh l.columns l.rows l.rule)
    (unless (λ k. k) (pick (eqb l.spare 0) 0 12)
    (unless (λ k. k) (bad_size l.columns l.rows l.rule words records)
    (unless (λ k. k) (bad_headers l.columns l.rows hs) (pick (leb (length hs) records) 0 10)))))

-- the answer: a refusal, columns, rows, rule, and how many packets
abbrev pub told : ℕ → ℕ → ℕ → ℕ → ℕ → ListRead
told k C R rule n = record { refusal = k; columns = C; rows = R; rule = rule; packets = n }

-- as a library has it: what the list has, or a refusal
abbrev pub read_of : Result Contents Refusal → ListRead
read_of (Ok c) = told 0 c.plan.columns c.plan.rows c.plan.rule c.packets
read_of (Err e) = told (code e) 0 0 0 0

-- of a list, whose refusal is known
abbrev pub read_answer : List ℕ → ℕ → ListRead
read_answer bs k = let l = lead bs in unless (λ c. told c 0 0 0 0) k (told 0 l.columns l.rows l.rule (length (after_lead bs)))

-- so many records, of which these are the first, the others empty
abbrev pub filled : List Record → ℕ → List Record
filled ps count = ps ++ replicate (count - length ps) none

-- reading: the words are all 0, and the first records are the packets at their sources
unfoldable pub read : List ℕ → List ℕ → List Record → Left ListRead
read bs w rs =
    let k = bad_read bs (length w) (length rs) in
    unless (λ c. left (read_answer bs k) w rs) k
    (left (read_answer bs k) (replicate (length w) 0) (filled (packets (lead bs).columns (after_lead bs)) (length rs)))

-- ---- a list, as demand 3 speaks of it
-- the offer of a header's packet
abbrev pub offering_of : ℕ → Header → Call
offering_of C h = offering (node C h.source) (node C h.destination) h.flits

-- those of headers, in their order
abbrev pub offerings : ℕ → List Header → List Call
offerings C [] = []
offerings C (h ∷ hs) = offering_of C h ∷ offerings C hs

-- the moves that a header's packet owes
abbrev pub due : ℕ → Header → ℕ
due C h = owes C (node C h.source) (node C h.destination) h.flits

-- those of headers together
abbrev pub dues : ℕ → List Header → ℕ
dues C [] = 0
dues C (h ∷ hs) = due C h + dues C hs

-- ---- writing
-- what a call leaves that writes bytes: its answer, and the lent bytes
pub record Output : Type 0 where
  pub answer : Written
  pub bytes : List ℕ

-- the answer: a refusal, and how many bytes were written
abbrev pub written : ℕ → ℕ → Written
written k n = record { refusal = k; length = n }

-- as a library has it: a length, or a refusal
abbrev pub written_of : Result ℕ Refusal → Written
written_of (Ok n) = written 0 n
written_of (Err e) = written (code e) 0

-- these bytes stand at the start of the lent ones, and later ones stay
abbrev pub over : List ℕ → List ℕ → List ℕ
over bs out = bs ++ drop (length bs) out

-- the refusals of writing from memory of so many words and records to so many bytes, in their order; 9 where it is not in range
abbrev pub bad_write : ℕ → ℕ → ℕ → ℕ → ℕ → ℕ → Bool → ℕ
bad_write C R rule words records size fits =
    unless (λ k. k) (bad_size C R rule words records) (pick (leb 194 size) (pick fits 0 9) 7)

-- writing: the list of the live records
unfoldable pub write : ℕ → ℕ → ℕ → List ℕ → List Record → List ℕ → Output
write C R rule w rs out =
    let bs = list_of C R rule rs in
    unless (λ k. record { answer = written k 0; bytes = out }) (bad_write C R rule (length w) (length rs) (length out) (fits C R rule w rs))
    (record { answer = written 0 (length bs); bytes = over bs out })
