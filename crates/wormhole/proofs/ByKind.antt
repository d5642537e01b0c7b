-- A move by its kind: which numbers it has, and what it may rely on where no refusal came before it. Assumes nothing.
use Prim.Native.Nat.{ℕ, ◌+◌, ◌<◌}
use mathlib.Core.Path.{◌≡◌, refl, sym, ap, subst}
use mathlib.Core.Bool.{Bool, true, ◌&&◌}
use mathlib.Core.List.{List}
use native.Mathlib.Omega.{arith}
use lib.Dec.{T, eqb}
use lib.ListN.{length, get_or}
use borrow.Author.Tests.{eqb-true}
use Rattle.route.specs.declared.meshes.Mesh.{Mesh as Coded}
use Rattle.route.specs.Mesh.{Mesh, ruled}
use Rattle.route.specs.Numbers.{channels, rule_of}
use Rattle.route.specs.Channels.{is_channel}
use Rattle.route.specs.Coded.{meant, Roomy}
use Rattle.route.proofs.Promises.{channel_is}
use Rattle.wormhole.specs.declared.records.Record.{Record}
use Rattle.wormhole.specs.declared.steps.Step.{Step}
use Rattle.wormhole.specs.declared.steps.Step.TheVariants.{Lead, Follow, Feed, Eat}
use Rattle.wormhole.specs.Memory.{Net, depth, net, Sections, owner_of, sections, none}
use Rattle.wormhole.specs.Range.{every, at_most, names, words_fit, record_fits}
use Rattle.wormhole.specs.Steps.{can_follow, may_follow, known, may, act}
use Rattle.wormhole.specs.Calls.{bad_memory, fits, allowed}
use Rattle.wormhole.specs.Coded.{Fitting, Memory, Means, takes, kind_of, channel_of, way_of}
use Rattle.wormhole.proofs.Every.{both, every_at}
use Rattle.wormhole.proofs.Refusing.{Sized, fitting}

-- ---- a move of these numbers is known, allowed and made as theirs
module _ (v : Step) (kind k d : ℕ) (h : Means v kind k d) where
  pub may_same : (N : Net) (s : Sections) (i : ℕ) (r : Record) → may N s i r (kind_of v) (channel_of v) (way_of v) ≡ may N s i r kind k d
  unfolding may
  may_same N s i r = go v h
    where
      go : (v : Step) → Means v kind k d → may N s i r (kind_of v) (channel_of v) (way_of v) ≡ may N s i r kind k d
      go (Lead x) (z, e) = rw (z, ← e) refl
      go (Follow j) (z, e) = rw (z, e) refl
      go Feed z = rw z refl
      go Eat z = rw z refl

  pub act_same : (N : Net) (s : Sections) (i : ℕ) (r : Record) → act N s i r (kind_of v) (channel_of v) (way_of v) ≡ act N s i r kind k d
  unfolding act
  act_same N s i r = go v h
    where
      go : (v : Step) → Means v kind k d → act N s i r (kind_of v) (channel_of v) (way_of v) ≡ act N s i r kind k d
      go (Lead x) (z, e) = rw (z, ← e) refl
      go (Follow j) (z, e) = rw (z, e) refl
      go Feed z = rw z refl
      go Eat z = rw z refl

  pub allowed_same : (N : Net) (s : Sections) (i : ℕ) (r : Record) → allowed N s i r (kind_of v) (channel_of v) (way_of v) ≡ allowed N s i r kind k d
  allowed_same N s i r = ap (λ (b : Bool). eqb r.live 1 && b) (may_same N s i r)

-- what it names is there as what the numbers name is
pub known_same : (m : Mesh) (v : Step) (kind k d : ℕ) → Means v kind k d → takes m v ≡ known m kind k d
known_same m (Lead x) kind k d (z, e) = rw (z, ← e) refl
known_same m (Follow j) kind k d (z, e) = rw (z, ← e) refl
known_same m Feed kind k d z = rw z refl
known_same m Eat kind k d z = rw z refl

pub channel_low : (m : Coded) (k : ℕ) → is_channel (meant m) k ≡ true → k < channels m.columns m.rows
channel_low m k h = (channel_is (meant m) k (subst T (sym h) tt)).0

-- ---- may it?
module _ (N : Net) (s : Sections) (i : ℕ) (r : Record) (k d : ℕ) where
  pub allowed_live : (kind : ℕ) → allowed N s i r kind k d ≡ true → r.live ≡ 1
  allowed_live kind e = eqb-true r.live 1 (both (eqb r.live 1) (may N s i r kind k d) e).0

  pub allowed_may : (kind : ℕ) → allowed N s i r kind k d ≡ true → may N s i r kind k d ≡ true
  allowed_may kind e = (both (eqb r.live 1) (may N s i r kind k d) e).1

pub may_follows : (N : Net) (s : Sections) (i k : ℕ) → may_follow N s i k ≡ true → can_follow N s k ≡ true
unfolding may_follow
may_follows N s i k h = (both (eqb (owner_of s k) (i + 1)) (can_follow N s k) h).1

-- ---- what a step may rely on, where no refusal came before it
module _ (C R rule : ℕ) (w : List ℕ) (rs : List Record) (served : 0 ≡ bad_memory C R rule (length w) (length rs) (fits C R rule w rs)) where
  abbrev told : Sized C R rule (length w) (length rs) × (fits C R rule w rs ≡ true)
  told = fitting C R rule (length w) (length rs) _ served refl

  abbrev in_range : (words_fit (net C R rule) (length rs) (sections (channels C R) w) ≡ true) × (every (record_fits (net C R rule).mesh) rs ≡ true)
  in_range = both (words_fit (net C R rule) (length rs) (sections (channels C R) w)) (every (record_fits (net C R rule).mesh) rs) told.1

  module _ (m : Coded) (em : meant m ≡ ruled (rule_of rule) C R 0) where
    same_columns : m.columns ≡ C
    same_columns = ap (λ (n : Mesh). n.columns) em

    same_rows : m.rows ≡ R
    same_rows = ap (λ (n : Mesh). n.rows) em

    pub roomy_mesh : Roomy m
    roomy_mesh =
        let s = told.0.mesh in
        record {
          columns_low = omega (arith, same_columns, s.columns_low);
          columns_high = omega (arith, same_columns, s.columns_high);
          rows_high = omega (arith, same_rows, s.rows_high);
        }

    pub record_served : (i : ℕ) → Fitting m (get_or rs i none)
    unfolding record_fits
    record_served i = record { roomy = roomy_mesh; fits = subst (λ g. record_fits g (get_or rs i none) ≡ true) (sym em) (every_at (record_fits (net C R rule).mesh) none refl rs in_range.1 i) }

    pub memory_served : Memory m w
    unfolding words_fit
    memory_served =
        let s = sections (channels C R) w in
        let e = (both (every (at_most (length rs)) s.owner) _ in_range.0).1 in
        let f = (both (every (at_most depth) s.holds) (every (names (net C R rule).mesh) s.next) e).1 in
        record { long = rw (same_columns, same_rows) told.0.long; nexts = rw (em, same_columns, same_rows) f }
