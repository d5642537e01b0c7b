-- Which channels exist does not depend on the rule: by the four directions. Assumes nothing.
use Prim.Native.Nat.{ℕ, zero, suc}
use mathlib.Core.Path.{◌≡◌, refl, ap}
use mathlib.Core.Bool.{Bool, true, ◌&&◌}
use lib.Dec.{ltb}
use Rattle.route.specs.declared.places.Place.{Place}
use Rattle.route.specs.Grid.{horiz, vert, Dir, go}
use Rattle.route.specs.Mesh.{Mesh, exists}
use Rattle.route.specs.Numbers.{channels}
use Rattle.route.specs.Channels.{start, way, is_channel}
use Rattle.wormhole.specs.declared.records.Record.{Record}
use Rattle.wormhole.specs.Memory.{depth, net, Sections, named}
use Rattle.wormhole.specs.Range.{every, at_most, names, words_fit, record_fits}
use Rattle.wormhole.specs.Steps.{known}
use Rattle.wormhole.specs.Coded.{sides, buffered}

module _ (m : Mesh) where
  existing : (n : Place) (d : Dir) → exists (sides m.columns m.rows) n d ≡ exists m n d
  existing n (go horiz s) = refl
  existing n (go vert s) = refl

  pub same_channels : is_channel (sides m.columns m.rows) ≡ is_channel m
  unfolding is_channel
  same_channels i x = ltb x (channels m.columns m.rows) && existing (start m.columns x) (way x) i

module _ (C R rule : ℕ) where
  -- the channels that words and records may name
  same_names : (x : ℕ) → names (sides C R) x ≡ names (net C R rule).mesh x
  same_names x = ap (λ (test : ℕ → Bool). named x true test) (same_channels (net C R rule).mesh)

  pub same_words : (count : ℕ) (s : Sections) → words_fit (buffered (sides C R)) count s ≡ words_fit (net C R rule) count s
  unfolding words_fit
  same_words count s i =
      every (at_most count) s.owner && (every (at_most depth) s.holds && every (λ x. same_names x i) s.next)

  pub same_kinds : (kind k d : ℕ) → known (sides C R) kind k d ≡ known (net C R rule).mesh kind k d
  same_kinds zero k d = refl
  same_kinds (suc zero) k d = λ i. same_channels (net C R rule).mesh i k
  same_kinds (suc (suc zero)) k d = refl
  same_kinds (suc (suc (suc zero))) k d = refl
  same_kinds (suc (suc (suc (suc kind)))) k d = refl

  pub same_record : (r : Record) → record_fits (sides C R) r ≡ record_fits (net C R rule).mesh r
  unfolding record_fits
  same_record r = rw (same_names r.rear, same_names r.front) refl
