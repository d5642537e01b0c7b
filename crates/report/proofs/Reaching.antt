-- What a mesh that was reached has: memory of its sizes and in range, and few moves; and each try reaches on. By demand 3. Assumes nothing.
use Prim.Native.Nat.{ℕ, zero, suc, ◌≤◌}
use mathlib.Core.Path.{◌≡◌, refl, sym, ◌∙◌, ap, subst}
use mathlib.Core.Bool.{true, ◌&&◌}
use mathlib.Core.List.{List, [], ◌∷◌, ◌++◌}
use native.Mathlib.Omega.{arith}
use lib.Dec.{T}
use lib.Ieee.Bits.{is_true}
use lib.ListN.{length, get_or, length-set}
use mir.Facts.{leb_yes}
use borrow.Author.Tests.{le-leb}
use Rattle.route.specs.declared.meshes.Mesh.{Mesh as Coded}
use Rattle.route.specs.Mesh.{ruled}
use Rattle.route.specs.Numbers.{channels, rule_of}
use Rattle.route.specs.Coded.{meant}
use Rattle.wormhole.specs.declared.records.Record.{Record}
use Rattle.wormhole.specs.Memory.{net, depth, sections, owner_of, none}
use Rattle.wormhole.specs.Range.{every, at_most, names, words_fit, record_fits}
use Rattle.wormhole.specs.Calls.{needed, bad_size, bad_memory, fits}
use Rattle.wormhole.specs.Drains.{Lent, Move, moving, any, brings, makes, total, after, run, now, empty, Drains}
use Rattle.wormhole.specs.Coded.{Fitting, Memory}
use Rattle.wormhole.proofs.Every.{both, every_at}
use Rattle.wormhole.proofs.Refusing.{none_first, none_if}
use Rattle.wormhole.proofs.ByKind.{record_served, memory_served}
use Rattle.wormhole.proofs.Draining.Lists.{run_append, total_append}
use Rattle.wormhole.proofs.Draining.Answers.{sizes_served}
use Rattle.wormhole.proofs.Draining.Drained.{drains, lengths}
use Rattle.report.specs.Sweeps.{Tally, sum, tried, turns}
use Rattle.report.specs.Coded.{Reached}
use Rattle.report.proofs.Counting.{at_most_sum, sum_grown}

module _ (C R rule : ℕ) where
  module _ (S : Tally) (H : Reached C R rule S) where
    abbrev w : List ℕ
    w = S.lent.words

    abbrev rs : List Record
    rs = S.lent.records

    demand : Drains C R rule 64 H.calls
    demand = drains C R rule 64 H.columns_low H.columns_high H.rows_low H.rows_high H.ruled (omega arith) (omega arith) H.calls

    -- ---- its memory
    pub long_words : length w ≡ needed C R
    long_words = rw H.there (lengths C R rule 64 H.calls).0

    pub many : length rs ≡ 64
    many = rw H.there (lengths C R rule 64 H.calls).1

    pub sized : bad_size C R rule (length w) (length rs) ≡ 0
    sized =
        rw (long_words, many)
        (sizes_served C R rule 64 H.columns_low H.columns_high H.rows_low H.rows_high H.ruled (omega arith) (omega arith))

    pub fit : T (fits C R rule w rs)
    fit = rw H.there demand.ranged

    fine : 0 ≡ bad_memory C R rule (length w) (length rs) (fits C R rule w rs)
    fine = sym ((none_first (bad_size C R rule (length w) (length rs)) _).1 (sized, (none_if (fits C R rule w rs) 8 0).1 (fit, refl)))

    halves : (words_fit (net C R rule) (length rs) (sections (channels C R) w) ≡ true) × (every (record_fits (net C R rule).mesh) rs ≡ true)
    halves = both (words_fit (net C R rule) (length rs) (sections (channels C R) w)) (every (record_fits (net C R rule).mesh) rs) (is_true (fits C R rule w rs) fit)

    -- no owner is above the number of records
    pub owner_few : (k : ℕ) → owner_of (sections (channels C R) w) k ≤ 64
    unfolding words_fit at_most
    owner_few k =
        let s = sections (channels C R) w in
        let e = (both (every (at_most (length rs)) s.owner) (every (at_most depth) s.holds && every (names (net C R rule).mesh) s.next) halves.0).0 in
        let l : owner_of s k ≤ length rs = leb_yes (subst T (sym (every_at (at_most (length rs)) 0 (le-leb 0 (length rs) (omega arith)) s.owner e k)) tt) in
        omega (arith, l, many)

    module _ (m : Coded) (em : meant m ≡ ruled (rule_of rule) C R 0) where
      pub memory_reached : Memory m w
      memory_reached = memory_served C R rule w rs fine m em

      pub record_reached : (i : ℕ) → Fitting m (get_or rs i none)
      record_reached i = record_served C R rule w rs fine m em i

    -- ---- its moves
    pub few_made : sum S.made ≤ 396800
    few_made = omega (arith, H.low, demand.enough, H.few)

    pub few_each : (i : ℕ) → get_or S.made i 0 ≤ 396800
    few_each i = omega (arith, few_made, at_most_sum S.made i)

    -- ---- one try more
    pub reached_tried : (v : Move) → Reached C R rule (tried C R rule S v)
    unfolding tried run total
    reached_tried v =
        let cs = H.calls ++ (moving v ∷ []) in
        let start = empty C R 64 in
        let there : after C R rule S.lent (moving v) ≡ now C R rule 64 cs = rw H.there (sym (run_append C R rule start H.calls (moving v ∷ []))) in
        let count : makes C R rule any S.lent (moving v) ≡ makes C R rule any (now C R rule 64 H.calls) (moving v) = ap (λ (M : Lent). makes C R rule any M (moving v)) H.there in
        record {
          columns_low = H.columns_low;
          columns_high = H.columns_high;
          rows_low = H.rows_low;
          rows_high = H.rows_high;
          ruled = H.ruled;
          calls = cs;
          there = there;
          few = omega (arith, H.few, total_append C R rule (brings C R rule any) start H.calls (moving v ∷ []));
          long = length-set S.made v.packet _ ∙ H.long;
          low = omega (arith, H.low, count, total_append C R rule (makes C R rule any) start H.calls (moving v ∷ []), sum_grown S.made v.packet (makes C R rule any S.lent (moving v)));
        }

  -- ---- turns and sweeps
  pub reached_turns : (S : Tally) → Reached C R rule S → (t : ℕ) → Reached C R rule (turns C R rule S t)
  unfolding turns
  reached_turns S H zero = H
  reached_turns S H (suc t) = reached_tried (turns C R rule S t) (reached_turns S H t) _
