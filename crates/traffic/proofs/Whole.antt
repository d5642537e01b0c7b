-- The two calls as wholes: what the parts of a call leave is what its promise says, by the cases of the refusal. Assumes nothing.
use Prim.Native.Nat.{ℕ, zero, suc, ◌+◌, ◌-◌, ◌*◌, ◌≤◌}
use mathlib.Core.Path.{◌≡◌, refl, sym, subst, ◌∙◌, ap}
use mathlib.Core.Bool.{Bool, true, false}
use mathlib.Core.List.{List, [], ◌∷◌}
use native.Mathlib.Numerals.{add-one}
use native.Mathlib.Omega.{arith}
use lib.Dec.{eqb}
use lib.ListN.{length, get_or, replicate, length-append}
use Rattle.std.specs.Borrow.{MutBor}
use Rattle.route.specs.declared.refusals.Refusal.{Refusal}
use Rattle.route.specs.Grid.{pick}
use Rattle.route.specs.Mesh.{Mesh, ruled}
use Rattle.route.specs.Numbers.{channels, rule_of}
use Rattle.route.specs.Served.{code}
use Rattle.route.proofs.Promises.{refuses_by}
use Rattle.wormhole.specs.declared.records.Record.{Record}
use Rattle.wormhole.specs.Memory.{net, sections, none}
use Rattle.wormhole.specs.Range.{every, words_fit, record_fits}
use Rattle.wormhole.specs.Calls.{left, fits}
use Rattle.wormhole.proofs.Every.{both, every_at}
use Rattle.traffic.specs.declared.lists.Lead.{Lead}
use Rattle.traffic.specs.Lists.{lead, after_lead, packets, lead_bytes, node_byte, record_bytes, records_bytes, list_of}
use Rattle.traffic.specs.Calls.{bad_read, told, read, written, over, bad_write, write}
use Rattle.traffic.specs.declared.pages.Page.{Page}
use Rattle.traffic.specs.Coded.{page, turned, put, puts}
use Rattle.traffic.proofs.Heads.{length_packets}
use Rattle.traffic.proofs.Putting.{putting, put_last, puts_append, puts_over}
use Rattle.traffic.proofs.Refusals.{Readable, readable, Writable, writable}
use Rattle.traffic.proofs.Storing.{stored, stored_all}

-- ---- read
module _ (bs w : List ℕ) (rs : List Record) where
  pub read_refused : (e : Refusal) → code e ≡ bad_read bs (length w) (length rs) → left (told (code e) 0 0 0 0) w rs ≡ read bs w rs
  unfolding read
  read_refused e h = rw (sym h, refuses_by (λ k. told k 0 0 0 0) _ e) (sym (refuses_by (λ _. left (told (code e) 0 0 0 0) w rs) _ e))

  -- it is read, into the mesh g of its lead
  module _ (served : 0 ≡ bad_read bs (length w) (length rs)) {g : Mesh} (eg : g ≡ ruled (rule_of (lead bs).rule) (lead bs).columns (lead bs).rows 0) where
    abbrev told_so : Readable bs (length w) (length rs)
    told_so = readable bs (length w) (length rs) served refl

    few : length (packets (lead bs).columns (after_lead bs)) ≤ length rs
    few = omega (arith, told_so.few, length_packets (lead bs).columns (after_lead bs))

    pub read_done : {v : List ℕ} {qs : List Record} {i n : ℕ} {l : Lead} → v ≡ replicate (length w) 0 → qs ≡ stored (packets g.columns (after_lead bs)) rs i → i ≡ length rs
        → l ≡ lead bs → n ≡ length (after_lead bs) → left (told 0 l.columns l.rows l.rule n) v qs ≡ read bs w rs
    unfolding read
    read_done ev eq ei el en = rw (sym served, ev, rw eg at eq, ei, stored_all (packets (lead bs).columns (after_lead bs)) rs few, el, en) refl

-- ---- the page once the first records are written
module _ (C : ℕ) where
  unfoldable pub wrote : Page → List Record → ℕ → Page
  wrote p rs zero = p
  wrote p rs (suc i) = puts (wrote p rs i) (record_bytes C (get_or rs i none))

  -- one more
  pub wrote_more : (p : Page) (rs : List Record) (i : ℕ) {q t : Page} {r : Record} → q ≡ wrote p rs i → r ≡ get_or rs i none → t ≡ puts q (record_bytes C r) → t ≡ wrote p rs (i + 1)
  unfolding wrote
  wrote_more p rs i e n h = rw add-one (h ∙ rw (e, n) refl)

  wrote_next : (p : Page) (r : Record) (rs : List Record) (n : ℕ) → wrote p (r ∷ rs) (suc n) ≡ wrote (puts p (record_bytes C r)) rs n
  unfolding wrote
  wrote_next p r rs zero = refl
  wrote_next p r rs (suc n) = ap (λ (q : Page). puts q (record_bytes C (get_or rs n none))) (wrote_next p r rs n)

  wrote_all : (p : Page) (rs : List Record) → wrote p rs (length rs) ≡ puts p (records_bytes C rs)
  unfolding wrote puts records_bytes
  wrote_all p [] = refl
  wrote_all p (r ∷ rs) = wrote_next p r rs (length rs) ∙ (wrote_all (puts p (record_bytes C r)) rs ∙ sym (puts_append p (record_bytes C r) (records_bytes C rs)))

  -- three bytes for each at most
  few_bytes : (rs : List Record) → length (records_bytes C rs) ≤ 3 * length rs
  unfolding records_bytes
  few_bytes [] = omega arith
  few_bytes (r ∷ rs) = omega (arith, length-append (record_bytes C r) (records_bytes C rs), few (eqb r.live 0), few_bytes rs)
    where
      few : (t : Bool) → length (pick t [] (node_byte C r.source ∷ node_byte C r.destination ∷ (r.flits - 1) ∷ [])) ≤ 3
      few true = omega arith
      few false = omega arith

-- ---- write
module _ (C R rule : ℕ) (w : List ℕ) (rs : List Record) (out : List ℕ) where
  pub write_refused : (e : Refusal) → code e ≡ bad_write C R rule (length w) (length rs) (length out) (fits C R rule w rs) → record { answer = written (code e) 0; bytes = out } ≡ write C R rule w rs out
  unfolding write
  write_refused e h = rw (sym h) (sym (refuses_by (λ k. record { answer = written k 0; bytes = out }) _ e))

  -- it is written, from the mesh g of the plan
  module _ (served : 0 ≡ bad_write C R rule (length w) (length rs) (length out) (fits C R rule w rs)) {g : Mesh} (eg : g ≡ ruled (rule_of rule) C R 0) where
    abbrev room : Writable C R rule (length w) (length rs) (length out) (fits C R rule w rs)
    room = writable C R rule (length w) (length rs) (length out) (fits C R rule w rs) served refl

    pub write_columns : g.columns ≤ 16
    write_columns = rw eg room.sizes.mesh.columns_high

    pub write_rows : g.rows ≤ 16
    write_rows = rw eg room.sizes.mesh.rows_high

    -- each record can be
    pub write_fits : (i : ℕ) → record_fits g (get_or rs i none) ≡ true
    unfolding record_fits
    write_fits i =
        let e = (both (words_fit (net C R rule) (length rs) (sections (channels C R) w)) (every (record_fits (net C R rule).mesh) rs) room.in_range).1 in
        subst (λ m. record_fits m (get_or rs i none) ≡ true) (sym eg) (every_at (record_fits (net C R rule).mesh) none refl rs e i)

    abbrev bs : List ℕ
    bs = list_of C R rule rs

    -- the page over the lent bytes, once all records are written to it
    module _ (lent : MutBor (List ℕ)) (el : lent.now ≡ out) {p q : Page} {i : ℕ} (ep : p ≡ puts (page lent) (lead_bytes C R rule)) (eq : q ≡ wrote g.columns p rs i)
        (ei : i ≡ length rs) where
      short : length bs ≤ 194
      short = omega (arith, few_bytes C rs, room.sizes.few)

      all_written : q ≡ turned (page lent) (over bs out) (length bs)
      all_written =
          rw eg at eq ∙ rw (ep, ei) (wrote_all C (puts (page lent) (lead_bytes C R rule)) rs ∙ (sym (puts_append (page lent) (lead_bytes C R rule) (records_bytes C rs))
          ∙ rw (← el) (puts_over (page lent) bs lent.now (rw el (omega (arith, short, room.room))))))

      -- it is over the same lent bytes
      pub write_lent : lent.ghost_name ≡ q.out.ghost_name
      write_lent = sym (ap (λ (p : Page). p.out.ghost_name) all_written)

      pub write_short : q.end ≤ 194
      write_short = omega (arith, short, ap (λ (p : Page). p.end) all_written)

      pub write_done : {n : ℕ} {left : List ℕ} → n ≡ q.end → left ≡ q.out.now → record { answer = written 0 n; bytes = left } ≡ write C R rule w rs out
      unfolding write
      write_done en eb = rw (sym served, en, eb, all_written) refl

-- the lead's two bytes, put one after the other
pub lead_put : (C R rule : ℕ) (p : Page) {o q t : Page} → o ≡ p → q ≡ put o ((C - 1) * 16 + (R - 1)) → t ≡ put q (rule * 32) → t ≡ puts p (lead_bytes C R rule)
lead_put C R rule p {q = q} eo eq et = put_last q (rule * 32) et ∙ putting p ((C - 1) * 16 + (R - 1)) (rule * 32 ∷ []) (rw eo at eq)
