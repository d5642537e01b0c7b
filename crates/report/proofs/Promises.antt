-- A list that was read pays what it owes: draining ends in the empty mesh, and what was counted is what the machine accepted, packet by packet.
-- Assumes nothing.
use Prim.Native.Nat.{ℕ, ◌+◌, ◌*◌, ◌<◌}
use mathlib.Core.Path.{◌≡◌, sym, ap, ◌∙◌}
use mathlib.Core.List.{List, ◌∷◌, ◌++◌}
use native.Mathlib.Omega.{arith}
use lib.Dec.{eqb}
use lib.ListN.{length, get_or, replicate, length-append, get_or-replicate}
use Rattle.route.specs.Grid.{dist}
use Rattle.wormhole.specs.Memory.{none}
use Rattle.wormhole.specs.Drains.{Lent, movings, empty, run, makes, total, remaining}
use Rattle.traffic.specs.declared.headers.Header.{Header}
use Rattle.traffic.specs.Lists.{lead, after_lead}
use Rattle.traffic.specs.Calls.{bad_read, dues}
use Rattle.traffic.proofs.Offering.{read_work, read_made}
use Rattle.traffic.proofs.Owing.{its_all}
use Rattle.report.specs.Sweeps.{Tally, sum, most_sweeps}
use Rattle.report.specs.Calls.{drain}
use Rattle.report.specs.Moves.{Payment}
use Rattle.report.specs.Coded.{Reached}
use Rattle.report.proofs.Settling.{source, sum_zeros, readable_so, reached}
use Rattle.report.proofs.Tracing.{Trace}
use Rattle.report.proofs.Ending as ending

module _ (bs w : List ℕ) (z : bad_read bs (length w) 64 ≡ 0) where
  abbrev C : ℕ
  C = (lead bs).columns

  abbrev R : ℕ
  R = (lead bs).rows

  abbrev rule : ℕ
  rule = (lead bs).rule

  -- what drains, and that it was reached
  abbrev S : Tally
  S = source bs w z

  abbrev H : Reached C R rule S
  H = reached bs w z

  -- fewer moves remain than sweeps
  enough : remaining C R rule 64 H.calls < most_sweeps
  enough = omega (arith, H.few)

  -- a theorem on how draining ends, of this list
  abbrev E : Tally
  E = drain bs w

  stops_so : ending.Ended C R rule E.lent
  stops_so = ending.no_more C R rule H.columns_low H.columns_high H.rows_low H.rows_high H.ruled H.calls S H.there H.long most_sweeps enough

  empties_so : E.lent ≡ empty C R 64
  empties_so = ending.empties C R rule H.columns_low H.columns_high H.rows_low H.rows_high H.ruled H.calls S H.there H.long most_sweeps enough

  trace : Trace C R rule S E
  trace = ending.trace C R rule H.columns_low H.columns_high H.rows_low H.rows_high H.ruled H.calls S H.there H.long most_sweeps enough

  all_so : sum E.made ≡ dues C (after_lead bs)
  all_so =
      let a = ending.all_made C R rule H.columns_low H.columns_high H.rows_low H.rows_high H.ruled H.calls S H.there H.long most_sweeps enough in
      omega (arith, a, sum_zeros 64, read_work bs w (replicate 64 none) z, read_made bs w (replicate 64 none) z)

  each_so : (before : List Header) (h : Header) (later : List Header) → after_lead bs ≡ before ++ (h ∷ later)
      → get_or E.made (length before) 0 ≡ h.flits * (dist h.source h.destination + 1)
  each_so before h later e =
      let i = length before in
      let vs = trace.through in
      let low : i < 64 = omega (arith, ap length e, length-append before (h ∷ later), (readable_so bs w z).few) in
      let none_yet : get_or S.made i 0 ≡ 0 = get_or-replicate {A = ℕ} 64 i 0 0 low in
      let ended = sym (trace.lent ∙ ap (λ (M : Lent). run C R rule M (movings vs)) H.there) ∙ empties_so in
      let owed = its_all bs w (replicate 64 none) z before h later e vs ended in
      let made = ap (λ (M : Lent). total C R rule (makes C R rule (eqb i)) M (movings vs)) H.there in
      omega (arith, trace.own i, none_yet, made, owed)

-- the theorem
pub pays : Payment
pays bs w z = record { stops = stops_so bs w z; empties = empties_so bs w z; each = each_so bs w z; all = all_so bs w z }
