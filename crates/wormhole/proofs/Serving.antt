-- What the steps may rely on: a packet's record and the words, taken apart. Assumes nothing.
use Prim.Native.Nat.{ℕ, zero, suc, ◌+◌, ◌-◌, ◌*◌, ◌≤◌, ◌<◌}
use mathlib.Core.Path.{◌≡◌, refl, sym, ◌∙◌, subst}
use mathlib.Core.Bool.{Bool, true, ◌&&◌}
use mathlib.Core.List.{List}
use native.Mathlib.Nat.{mul-le-mul_left}
use native.Mathlib.Omega.{arith}
use lib.Dec.{T, ltb, eqb}
use lib.ListN.{drop}
use borrow.Author.Tests.{ltb-true}
use Rattle.route.specs.declared.meshes.Mesh.{Mesh as Coded}
use Rattle.route.specs.Grid.{pick}
use Rattle.route.specs.Mesh.{Mesh}
use Rattle.route.specs.Numbers.{channels}
use Rattle.route.specs.Channels.{is_channel}
use Rattle.route.specs.Coded.{meant, Roomy}
use Rattle.route.proofs.Promises.{channel_is, words_fit}
use Rattle.wormhole.specs.declared.records.Record.{Record}
use Rattle.wormhole.specs.declared.words.WordsMut.{WordsMut}
use Rattle.wormhole.specs.Memory.{Sections, sections, next_of, named}
use Rattle.wormhole.specs.Range.{names, blank, packet_fits, record_fits}
use Rattle.wormhole.specs.Steps.{Stepped, stepped}
use Rattle.wormhole.specs.Coded.{Served, Memory, Becomes, Leaves}
use Rattle.wormhole.proofs.Every.{both, every_at}

-- ---- words that are 0, or 1 + a channel
module _ {A : Type 0} (a : A) (f : ℕ → A) where
  pub named_none : (x : ℕ) → x ≡ 0 → named x a f ≡ a
  named_none x e = rw e refl

  pub named_some : (x : ℕ) → (x ≡ 0 → ⊥) → named x a f ≡ f (x - 1)
  named_some zero h = absurd (h refl)
  named_some (suc k) h = let e : suc k - 1 ≡ k = omega arith in rw e refl

-- a channel that such a word names
pub a_channel : (m : Mesh) (x : ℕ) → names m x ≡ true → (x ≡ 0 → ⊥) → is_channel m (x - 1) ≡ true
a_channel m x e h = sym (named_some true (is_channel m) x h) ∙ e

pub names_low : (m : Mesh) (x : ℕ) → names m x ≡ true → x ≤ channels m.columns m.rows
names_low m zero e = omega arith
names_low m (suc k) e = (channel_is m k (subst T (sym e) tt)).0

-- ---- a packet
-- what its record tells
pub record Told (m : Coded) (r : Record) : Type 0 where
  pub columns_low : 0 < m.columns
  pub wide : m.columns * m.rows ≤ m.columns * 64
  pub few : channels m.columns m.rows ≤ 16384
  pub source : r.source < m.columns * m.rows
  pub destination : r.destination < m.columns * m.rows
  pub rear_low : r.rear ≤ channels m.columns m.rows
  pub front_names : names (meant m) r.front ≡ true
  pub front_low : r.front ≤ channels m.columns m.rows

few_channels : (m : Coded) → Roomy m → channels m.columns m.rows ≤ 16384
few_channels m h = words_fit m.columns m.rows h.columns_high h.rows_high

-- a channel's number leaves room for 1 more in a word
pub number_small : (m : Coded) (k : ℕ) → Roomy m → k < channels m.columns m.rows → k < 65535
number_small m k h l = omega (arith, few_channels m h)

pub tells : (m : Coded) (r : Record) → Served m r → Told m r
unfolding record_fits
tells m r p =
    let ends = names (meant m) r.rear && names (meant m) r.front in
    let nodes = ltb r.source (m.columns * m.rows) && ltb r.destination (m.columns * m.rows) in
    let e = both ends (pick (eqb r.live 0) (blank r) (eqb r.live 1 && packet_fits (meant m) r)) p.fitting.fits in
    let names_both = both (names (meant m) r.rear) (names (meant m) r.front) e.0 in
    let packet : eqb r.live 1 && packet_fits (meant m) r ≡ true = live r.live (blank r) (eqb r.live 1 && packet_fits (meant m) r) p.live e.1 in
    let fit = (both (eqb r.live 1) (packet_fits (meant m) r) packet).1 in
    let inside = both (ltb r.source (m.columns * m.rows)) (ltb r.destination (m.columns * m.rows)) (both nodes _ fit).0 in
    record {
      columns_low = p.fitting.roomy.columns_low;
      wide = mul-le-mul_left m.columns p.fitting.roomy.rows_high;
      few = few_channels m p.fitting.roomy;
      source = ltb-true r.source (m.columns * m.rows) inside.0;
      destination = ltb-true r.destination (m.columns * m.rows) inside.1;
      rear_low = names_low (meant m) r.rear names_both.0;
      front_names = names_both.1;
      front_low = names_low (meant m) r.front names_both.1;
    }
  where
    live : (x : ℕ) (a b : Bool) → x ≡ 1 → pick (eqb x 0) a b ≡ true → b ≡ true
    live x a b e h = rw e at h

-- ---- the words
pub next_names : (m : Coded) (w : List ℕ) (k : ℕ) → Memory m w → k < channels m.columns m.rows
    → names (meant m) (next_of (sections (channels m.columns m.rows) w) k) ≡ true
unfolding sections
next_names m w k h l =
    let n = channels m.columns m.rows in
    every_at (names (meant m)) 0 refl (drop (n + n) w) h.nexts k

-- ---- the words that the code lends on, when they are back
module _ {old new : WordsMut} (n : ℕ) (v : List ℕ) (count : old.n ≡ n) where
  pub written : {s : Sections} → Becomes old new s → v ≡ new.words.now → sections n v ≡ s
  written h e = rw (e, ← count, ← h.count) h.sections

  pub moved : {r : Record} {a : Stepped} → Leaves old new r a → v ≡ new.words.now → stepped (sections n v) r ≡ a
  moved h e = rw (e, ← count, ← h.count) h.step

-- ---- as the code asks for it
module _ (m : Coded) (r : Record) (p : Served m r) where
  pub front_within : (n : ℕ) → n ≡ channels m.columns m.rows → r.front ≤ n
  front_within n e = omega (arith, (tells m r p).front_low)

  pub rear_within : (n : ℕ) → n ≡ channels m.columns m.rows → r.rear ≤ n
  rear_within n e = omega (arith, (tells m r p).rear_low)
