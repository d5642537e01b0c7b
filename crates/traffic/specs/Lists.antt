-- The traffic list in bytes: a lead of two, then a header of three for each packet. Numbers in a byte stand most significant first. Assumes nothing.
use Rattle.std.specs.Prelude.{ℕ, ◌+◌, ◌-◌, ◌*◌, ◌/◌, ◌%◌, Bool, not, ◌&&◌, ◌||◌, List, [], ◌∷◌, ◌++◌, leb, eqb, get_or, drop}
use Rattle.route.specs.declared.places.Place.{Place}
use Rattle.route.specs.Grid.{pick, horiz, vert, at, coord}
use Rattle.route.specs.Numbers.{node}
use Rattle.route.specs.Served.{unless}
use Rattle.route.specs.Paths.{same_place}
use Rattle.wormhole.specs.declared.records.Record.{Record}
use Rattle.wormhole.specs.Memory.{fresh}
use Rattle.wormhole.specs.Range.{flits_served}
use Rattle.traffic.specs.declared.lists.Lead.{Lead}
use Rattle.traffic.specs.declared.headers.Header.{Header}

-- ---- a list that is read
-- a list of so many bytes: 2 + 3 for each of at most 64 packets
abbrev pub listed : ℕ → Bool
listed n = leb 2 n && (leb n 194 && eqb ((n - 2) % 3) 0)

-- the lead: columns − 1 (4 bits), rows − 1 (4), the rule (3), spare (5)
abbrev pub lead : List ℕ → Lead
lead bs =
    let sides = get_or bs 0 0 in
    let ruled = get_or bs 1 0 in
    record { columns = sides / 16 + 1; rows = sides % 16 + 1; rule = ruled / 32; spare = ruled % 32 }

-- the place in a byte: the column (4 bits), the row (4)
abbrev pub place_in : ℕ → Place
place_in b = at (b / 16) (b % 16)

-- a header: the source, the destination, flits − 1
abbrev pub header : ℕ → ℕ → ℕ → Header
header a b c = record { source = place_in a; destination = place_in b; flits = c + 1 }

-- the headers of bytes, three for each
unfoldable pub headers : List ℕ → List Header
headers [] = []
headers (a ∷ []) = []
headers (a ∷ b ∷ []) = []
headers (a ∷ b ∷ c ∷ bs) = header a b c ∷ headers bs

-- those of a list: all after the lead
abbrev pub after_lead : List ℕ → List Header
after_lead bs = headers (drop 2 bs)

-- a place is outside a mesh of C columns and R rows
abbrev pub outside : ℕ → ℕ → Place → Bool
outside C R n = leb C (coord horiz n) || leb R (coord vert n)

-- the refusals of a header, in their order
abbrev pub bad_header : ℕ → ℕ → Header → ℕ
bad_header C R h =
    pick (outside C R h.source || outside C R h.destination) 3
    (pick (not (flits_served h.flits)) 6 (pick (same_place h.source h.destination) 5 0))

-- of headers: the first that there is
unfoldable pub bad_headers : ℕ → ℕ → List Header → ℕ
bad_headers C R [] = 0
bad_headers C R (h ∷ hs) = unless (λ k. k) (bad_header C R h) (bad_headers C R hs)

-- the record of a header's packet, at its source
abbrev pub at_source : ℕ → Header → Record
at_source C h = fresh (node C h.source) (node C h.destination) h.flits

-- those of headers, in their order
unfoldable pub packets : ℕ → List Header → List Record
packets C [] = []
packets C (h ∷ hs) = at_source C h ∷ packets C hs

-- ---- a list that is written
-- the lead's two bytes
abbrev pub lead_bytes : ℕ → ℕ → ℕ → List ℕ
lead_bytes C R rule = ((C - 1) * 16 + (R - 1)) ∷ (rule * 32) ∷ []

-- a node's byte
abbrev pub node_byte : ℕ → ℕ → ℕ
node_byte C k = k % C * 16 + k / C

-- a record's three bytes, none where it is empty
abbrev pub record_bytes : ℕ → Record → List ℕ
record_bytes C r = pick (eqb r.live 0) [] (node_byte C r.source ∷ node_byte C r.destination ∷ (r.flits - 1) ∷ [])

-- those of records, in their order
unfoldable pub records_bytes : ℕ → List Record → List ℕ
records_bytes C [] = []
records_bytes C (r ∷ rs) = record_bytes C r ++ records_bytes C rs

-- the whole list
abbrev pub list_of : ℕ → ℕ → ℕ → List Record → List ℕ
list_of C R rule rs = lead_bytes C R rule ++ records_bytes C rs
