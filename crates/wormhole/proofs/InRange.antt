-- When words are in range: each part that the code hands on is a section, and each return comes from those asked before it. Assumes nothing.
use Prim.Native.Nat.{ℕ, ◌+◌, ◌-◌, ◌≤◌}
use mathlib.Core.Path.{◌≡◌, refl, sym, ◌∙◌}
use mathlib.Core.Bool.{Bool, true, false}
use mathlib.Core.List.{List}
use native.Mathlib.Omega.{arith}
use lib.ListN.{length, take, drop, length-drop}
use lib.Seq.{take_all}
use Rattle.route.specs.declared.meshes.Mesh.{Mesh as Coded}
use Rattle.route.specs.Numbers.{channels}
use Rattle.route.specs.Coded.{meant}
use Rattle.wormhole.specs.Memory.{depth, sections}
use Rattle.wormhole.specs.Range.{every, at_most, names, words_fit}
use Rattle.wormhole.specs.Coded.{built, laid}

module _ (m : Coded) (count : ℕ) (w : List ℕ) (n : ℕ) (en : n ≡ channels m.columns m.rows) where
  abbrev the : Bool
  the = words_fit (built m) count (laid m w)

  module _ {a : Bool} (ea : a ≡ every (at_most count) (take (n - 0) w)) where
    pub owner_above : a ≡ false → false ≡ the
    unfolding words_fit sections
    owner_above t =
        let e : n - 0 ≡ channels m.columns m.rows = omega arith in
        rw (rw e at (sym ea ∙ t)) refl

    module _ (ta : a ≡ true) {b : Bool} (eb : b ≡ every (at_most depth) (take (n + n - n) (drop n w))) where
      fit_owner : every (at_most count) (take (channels m.columns m.rows) w) ≡ true
      fit_owner = let e : n - 0 ≡ channels m.columns m.rows = omega arith in rw e at (sym ea ∙ ta)

      pub holds_above : b ≡ false → false ≡ the
      unfolding words_fit sections
      holds_above t =
          let e : n + n - n ≡ n = omega arith in
          rw (fit_owner, rw (e, en) at (sym eb ∙ t)) refl

      pub next_asked : {c : Bool} → b ≡ true → c ≡ every (names (meant m)) (take (length w - (n + n)) (drop (n + n) w)) → c ≡ the
      unfolding words_fit sections
      next_asked {c} t ec =
          let e : n + n - n ≡ n = omega arith in
          let z : length (drop (n + n) w) ≤ length w - (n + n) = omega (arith, length-drop (n + n) w) in
          let f : c ≡ every (names (meant m)) (drop (n + n) w) = ec ∙ rw (take_all (length w - (n + n)) (drop (n + n) w) z) refl in
          rw (fit_owner, rw (e, en) at (sym eb ∙ t)) (rw en at f)
