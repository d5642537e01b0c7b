-- Refusals in their order: each return from the tests before it, and what no refusal has taught. Assumes nothing.
use Prim.Native.Nat.{ℕ, zero, suc, ◌≤◌, ◌<◌}
use mathlib.Core.Path.{◌≡◌, refl, sym, ◌∙◌}
use mathlib.Core.Bool.{Bool, true, false, not, ◌&&◌, and-false}
use mathlib.Core.List.{List}
use mathlib.Core.Logic.{◌↔◌}
use native.Mathlib.Omega.{arith}
use lib.Dec.{T, leb, ltb, eqb}
use lib.ListN.{length}
use lib.Ieee.Bits.{is_true}
use mir.Facts.{and_yes, leb_yes, ltb_yes, eqb_yes}
use borrow.Author.Tests.{eq-eqb, le-leb}
use Rattle.route.specs.Grid.{pick}
use Rattle.route.specs.Mesh.{Mesh, ruled}
use Rattle.route.specs.Numbers.{channels, rule_of}
use Rattle.route.specs.declared.refusals.Refusal.{Refusal}
use Rattle.route.specs.Served.{unless, bad_mesh, code}
use Rattle.route.proofs.Promises.{Served, served, code_high}
use Rattle.wormhole.specs.declared.records.Record.{Record}
use Rattle.wormhole.specs.Memory.{net, sections}
use Rattle.wormhole.specs.Range.{every, words_fit, record_fits}
use Rattle.wormhole.specs.Calls.{needed, bad_size, bad_memory, fits, bad_packet, bad_offer}
use Rattle.wormhole.specs.Coded.{buffered}

-- ---- refusals one after another
-- there is none exactly if none comes first and none after it
pub none_first : (j k : ℕ) → (unless (λ i. i) j k ≡ 0) ↔ ((j ≡ 0) × (k ≡ 0))
none_first zero k = (λ e. (refl, e), λ e. e.1)
none_first (suc j) k = (λ e. absurd (omega arith), λ e. e.0)

-- of a test that must hold there is none exactly if it does and none comes after it
pub none_if : (b : Bool) (j k : ℕ) → (pick b k (suc j) ≡ 0) ↔ (T b × (k ≡ 0))
none_if true j k = (λ e. (tt, e), λ h. h.1)
none_if false j k = (λ e. absurd (omega arith), λ h. absurd h.0)

-- of one that must not hold there is none only if it does not
pub none_unless : (b : Bool) (j k : ℕ) → pick b (suc j) k ≡ 0 → T (not b) × (k ≡ 0)
none_unless true j k e = absurd (omega arith)
none_unless false j k e = (tt, e)

-- ---- the mesh and the sizes
pub size_good : (C R rule records : ℕ) → 0 ≡ bad_mesh C R rule → 1 ≤ records → records ≤ 64 → 0 ≡ bad_size C R rule (needed C R) records
size_good C R rule records mesh h i = rw (sym mesh, eq-eqb (needed C R) (needed C R) refl, le-leb 1 records h, le-leb records 64 i) refl

-- memory of a mesh that is served, with the sizes that it asks for
pub record Sized (C R rule words records : ℕ) : Type 0 where
  pub mesh : Served C R rule
  pub long : words ≡ needed C R
  pub some : 1 ≤ records
  pub few : records ≤ 64

-- what no refusal has taught
pub sized : (C R rule words records : ℕ) {k : ℕ} → k ≡ bad_size C R rule words records → k ≡ 0 → Sized C R rule words records
sized C R rule words records hk h =
    let z = (none_first (bad_mesh C R rule) _).0 (sym hk ∙ h) in
    let few = leb 1 records && leb records 64 in
    let s = and_yes (eqb words (needed C R)) few ((none_if (eqb words (needed C R) && few) 6 0).0 z.1).0 in
    let c = and_yes (leb 1 records) (leb records 64) s.1 in
    record { mesh = served C R rule (sym z.0) refl; long = eqb_yes s.0; some = leb_yes c.0; few = leb_yes c.1 }

-- ---- and whether it is in range, in the mesh g of the plan
module _ (C R rule : ℕ) (w : List ℕ) (rs : List Record) (sized : 0 ≡ bad_size C R rule (length w) (length rs)) {g : Mesh} (eg : g ≡ ruled (rule_of rule) C R 0) where
  abbrev the_words : Bool
  the_words = words_fit (buffered g) (length rs) (sections (channels g.columns g.rows) w)

  pub memory_records : (e : Refusal) → code e ≡ pick (every (record_fits g) rs) 0 9 → code e ≡ bad_memory C R rule (length w) (length rs) (fits C R rule w rs)
  memory_records e h = by (every (record_fits g) rs) refl h
    where
      by : (b : Bool) → every (record_fits g) rs ≡ b → code e ≡ pick b 0 9 → code e ≡ bad_memory C R rule (length w) (length rs) (fits C R rule w rs)
      by true n k = absurd (omega (arith, k, code_high e))
      by false n k = k ∙ rw (sym sized, rw eg at n, and-false (words_fit (net C R rule) (length rs) (sections (channels C R) w))) refl

  -- what no refusal of theirs has taught
  pub they_fit : ◌≡◌ {A = ℕ} 0 (pick (every (record_fits g) rs) 0 9) → every (record_fits g) rs ≡ true
  they_fit h = is_true _ ((none_if (every (record_fits g) rs) 8 0).0 (sym h)).0

  pub memory_words : the_words ≡ false → 9 ≡ bad_memory C R rule (length w) (length rs) (fits C R rule w rs)
  memory_words h = rw (sym sized, rw eg at h) refl

  pub memory_good : the_words ≡ true → every (record_fits g) rs ≡ true → 0 ≡ bad_memory C R rule (length w) (length rs) (fits C R rule w rs)
  memory_good h i = rw (sym sized, rw eg at h, rw eg at i) refl

-- what no refusal has taught
pub fitting : (C R rule words records : ℕ) (fits : Bool) {k : ℕ} → k ≡ bad_memory C R rule words records fits → k ≡ 0
    → Sized C R rule words records × (fits ≡ true)
fitting C R rule words records fits hk h =
    let z = (none_first (bad_size C R rule words records) _).0 (sym hk ∙ h) in
    (sized C R rule words records (sym z.0) refl, is_true fits ((none_if fits 8 0).0 z.1).0)

-- ---- an offer
-- a record of a memory, which is below 64
pub record Room (empty records : ℕ) : Type 0 where
  pub below : empty < records
  pub few : records ≤ 64

-- what no refusal has taught: there is a record to put the packet in
pub offering : (C R rule words records : ℕ) (fits : Bool) (empty a b f : ℕ) {k : ℕ} → k ≡ bad_offer C R rule words records fits empty a b f → k ≡ 0
    → Room empty records
offering C R rule words records fits empty a b f hk h =
    let memory = (none_first (bad_memory C R rule words records fits) _).0 (sym hk ∙ h) in
    let full = ((none_first (bad_packet C R a b f) _).0 memory.1).1 in
    record {
      below = ltb_yes ((none_if (ltb empty records) 9 0).0 full).0;
      few = (fitting C R rule words records fits (sym memory.0) refl).0.few;
    }
