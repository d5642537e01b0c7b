-- What each packet of a list makes after reading, whatever moves are called: its header was accepted, later headers take other records, and
-- then it is the demand's clause on one packet. Assumes nothing.
use Prim.Native.Nat.{ℕ, suc, ◌+◌, ◌*◌, ◌≤◌, ◌<◌}
use mathlib.Core.Path.{◌≡◌, refl, sym, ap, ◌∙◌, subst}
use mathlib.Core.Logic.{◌↔◌}
use mathlib.Core.Bool.{false}
use mathlib.Core.List.{List, [], ◌∷◌, ◌++◌}
use native.Mathlib.Omega.{arith}
use lib.Arith.{digits_div, digits_mod}
use lib.Dec.{eqb}
use lib.ListN.{length, get_or, length-append, get_or-replicate}
use lib.Seq.{append_snoc}
use borrow.Author.Tests.{ne_eqb}
use Rattle.route.specs.Grid.{vert, coord, dist}
use Rattle.route.specs.Numbers.{node}
use Rattle.wormhole.specs.declared.offers.Offered.{Offered}
use Rattle.wormhole.specs.declared.records.Record.{Record}
use Rattle.wormhole.specs.Memory.{none}
use Rattle.wormhole.specs.Calls.{needed, bad_size}
use Rattle.wormhole.specs.Drains.{Lent, Call, Move, movings, empty, after, run, brings, makes, total, now}
use Rattle.wormhole.proofs.Draining.Lists.{run_append, total_append, none_brought}
use Rattle.traffic.specs.declared.headers.Header.{Header}
use Rattle.traffic.specs.Lists.{lead, after_lead}
use Rattle.traffic.specs.Calls.{bad_read, offering_of, offerings, due}
use Rattle.traffic.proofs.Heads.{Good, first_good, both_good}
use Rattle.traffic.proofs.Refusals.{Readable, readable}
use Rattle.traffic.proofs.Offering.{drained, reaches, now_holding, none_made, read_size, all_accepted}

-- flits × (distance + 1), by the header's own places
pub due_is : (C R : ℕ) (h : Header) → Good C R h → due C h ≡ h.flits * (dist h.source h.destination + 1)
due_is C R h g =
    let s = h.source in
    let d = h.destination in
    rw (
      digits_mod (coord vert s) g.column,
      digits_div (coord vert s) g.column,
      digits_mod (coord vert d) g.to_column,
      digits_div (coord vert d) g.to_column,
    ) refl

-- the offers of two lists one after another
offerings_both : (C : ℕ) (hs is : List Header) → offerings C (hs ++ is) ≡ offerings C hs ++ offerings C is
offerings_both C [] is = refl
offerings_both C (h ∷ hs) is = ap (λ (l : List Call). offering_of C h ∷ l) (offerings_both C hs is)

-- ---- of a list that is read into lent memory, the packet of one header
module _ (bs w : List ℕ) (rs : List Record) (z : bad_read bs (length w) (length rs) ≡ 0) (before : List Header) (h : Header) (later : List Header)
    (e : after_lead bs ≡ before ++ (h ∷ later)) where
  abbrev C : ℕ
  C = (lead bs).columns

  abbrev R : ℕ
  R = (lead bs).rows

  abbrev rule : ℕ
  rule = (lead bs).rule

  abbrev count : ℕ
  count = length rs

  -- its record
  abbrev i : ℕ
  i = length before

  -- memory after its offer
  abbrev then : Lent
  then = after C R rule (now C R rule count (offerings C before)) (offering_of C h)

  -- and after all offers, which is what reading leaves
  abbrev M : Lent
  M = now C R rule count (offerings C (after_lead bs))

  allowed : Readable bs (length w) count
  allowed = readable bs (length w) count (sym z) refl

  size : bad_size C R rule (needed C R) count ≡ 0
  size = read_size bs w rs z

  -- more offers
  onward : (hs : List Header) → run C R rule then (offerings C hs) ≡ now C R rule count (offerings C (before ++ (h ∷ hs)))
  unfolding run
  onward hs =
      sym (run_append C R rule (empty C R count) (offerings C before) (offering_of C h ∷ offerings C hs))
      ∙ ap (run C R rule (empty C R count)) (sym (offerings_both C before (h ∷ hs)))

  to_all : run C R rule then (offerings C later) ≡ M
  to_all = onward later ∙ ap (λ hs. now C R rule count (offerings C hs)) (sym e)

  -- the later ones take other records
  others : total C R rule (brings C R rule (eqb i)) then (offerings C later) ≡ 0
  unfolding run
  others =
      let upto = before ++ (h ∷ []) in
      let whole : after_lead bs ≡ upto ++ later = e ∙ sym (append_snoc before h later) in
      let g = both_good C R upto later (rw whole at allowed.good) in
      let n : length upto ≡ suc i = omega (arith, length-append before (h ∷ [])) in
      let room : length upto + length later ≤ count = omega (arith, ap length whole, length-append upto later, allowed.few) in
      let held = now_holding C R rule count size upto g.0 (omega (arith, room)) in
      let apart : (j : ℕ) → length upto ≤ j → eqb i j ≡ false = λ j l. ne_eqb i j (λ x. omega (arith, x, l, n)) in
      ap (λ m. total C R rule (brings C R rule (eqb i)) m (offerings C later)) (onward [] ∙ held)
      ∙ (reaches C R rule count size (offerings C upto) upto later held g.1 room).1 (eqb i) false apart

  -- so many moves of record k are at most what is owed, and all of it exactly if the record is empty in this memory
  abbrev pub Owing : ℕ → Lent → ℕ → Type 0
  Owing k m moves = (moves ≤ due C h) × ((moves ≡ due C h) ↔ (get_or m.records k none ≡ none))

  -- what calls make of record k's moves, and what they bring to it
  abbrev makings : ℕ → Lent → List Call → ℕ
  makings k = total C R rule (makes C R rule (eqb k))

  abbrev bringings : ℕ → Lent → List Call → ℕ
  bringings k = total C R rule (brings C R rule (eqb k))

  -- whatever moves are called
  module _ (vs : List Move) where
    -- its moves
    abbrev pub its : ℕ
    its = total C R rule (makes C R rule (eqb i)) M (movings vs)

    -- the calls after its offer
    abbrev cs : List Call
    cs = offerings C later ++ movings vs

    none_given : bringings i then cs ≡ 0
    none_given =
        let parts = total_append C R rule (brings C R rule (eqb i)) then (offerings C later) (movings vs) in
        omega (arith, parts, others, none_brought C R rule (eqb i) (run C R rule then (offerings C later)) vs)

    same_moves : makings i then cs ≡ its
    same_moves =
        let parts = total_append C R rule (makes C R rule (eqb i)) then (offerings C later) (movings vs) in
        omega (arith, parts, none_made C R rule count size (eqb i) then later, ap (λ m. makings i m (movings vs)) to_all)

    same_end : run C R rule then cs ≡ run C R rule M (movings vs)
    same_end = run_append C R rule then (offerings C later) (movings vs) ∙ ap (λ m. run C R rule m (movings vs)) to_all

    pub its_own : Owing i (run C R rule M (movings vs)) its
    its_own =
        let A = all_accepted bs w rs z before h later e in
        let each = (drained C R rule count size (offerings C before)).each (node C h.source) (node C h.destination) h.flits cs in
        let from_offer = each (ap (λ (o : Offered). o.refusal) A) in
        let P : ℕ → Type 0 = λ k. bringings k then cs ≡ 0 → Owing k (run C R rule then cs) (makings k then cs) in
        let own = subst P (ap (λ (o : Offered). o.«record») A) from_offer none_given in
        subst (Owing i (run C R rule M (movings vs))) same_moves (subst (λ m. Owing i m (makings i then cs)) same_end own)

    -- if they empty the mesh, it has made flits × (distance + 1)
    pub its_all : run C R rule M (movings vs) ≡ empty C R count → its ≡ h.flits * (dist h.source h.destination + 1)
    its_all x =
        let low : i < count = omega (arith, ap length e, length-append before (h ∷ later), allowed.few) in
        let g = (first_good C R h later (both_good C R before (h ∷ later) (rw e at allowed.good)).1).0 in
        its_own.1.1 (rw x (get_or-replicate count i none none low)) ∙ due_is C R h g
