-- The routing call's returns: each by the tests that led to it, in their order. Assumes nothing.
use Prim.Native.Nat.{ℕ, ◌*◌}
use mathlib.Core.Path.{◌≡◌, refl, sym}
use mathlib.Core.Bool.{true, false, ◌||◌}
use lib.Dec.{leb}
use borrow.Author.Tests.{eq-eqb, ne_eqb}
use Rattle.route.specs.declared.places.Place.{Place}
use Rattle.route.specs.declared.refusals.Refusal.{Refusal}
use Rattle.route.specs.Turns.{Arrival}
use Rattle.route.specs.Mesh.{Mesh, ruled}
use Rattle.route.specs.Numbers.{place_of, arrival_of, rule_of}
use Rattle.route.specs.Served.{bad_mesh, code}
use Rattle.route.specs.Route.{arrives, outputs, refuse, routed}
use Rattle.route.proofs.Unless as unless

module _ (C R rule n a t : ℕ) where
  -- the mesh is refused
  pub refused_mesh : (e : Refusal) → code e ≡ bad_mesh C R rule → refuse (code e) ≡ routed C R rule n a t
  unfolding routed
  refused_mesh e h = rw (sym h) (sym (unless.refuses_by refuse _ e))

  -- or it is g
  module _ (served : 0 ≡ bad_mesh C R rule) {g : Mesh} (hg : g ≡ ruled (rule_of rule) C R 0) where
    pub refused_3 : {k : ℕ} → k ≡ g.columns * g.rows → leb k n || leb k t ≡ true → refuse 3 ≡ routed C R rule n a t
    unfolding routed
    refused_3 hk h = rw (sym served, rw (hk, hg) at h) refl

    module _ {k : ℕ} (hk : k ≡ g.columns * g.rows) (nodes : leb k n || leb k t ≡ false) {here : Place} (hh : here ≡ place_of g.columns n) where
      pub refused_4 : false ≡ arrives g here a → refuse 4 ≡ routed C R rule n a t
      unfolding routed
      refused_4 h = rw (sym served, rw (hk, hg) at nodes, sym (rw (hh, hg) at h)) refl

      module _ {there : Place} {arrival : Arrival} {s : ℕ} (arrived : true ≡ arrives g here a) (ha : arrival ≡ arrival_of a) (ht : there ≡ place_of g.columns t) (hs : s ≡ outputs g here arrival there) where
        pub refused_11 : s ≡ 0 → refuse 11 ≡ routed C R rule n a t
        unfolding routed
        refused_11 h =
            rw (sym served, rw (hk, hg) at nodes, sym (rw (hh, hg) at arrived), eq-eqb _ 0 (rw (hs, hh, ha, ht, hg) at h)) refl

        pub given : (s ≡ 0 → ⊥) → record { refusal = 0; outputs = s } ≡ routed C R rule n a t
        unfolding routed
        given h =
            rw (sym served, rw (hk, hg) at nodes, sym (rw (hh, hg) at arrived), ne_eqb _ 0 (rw (hs, hh, ha, ht, hg) at h))
            (λ i. record { refusal = 0; outputs = (rw (hh, ha, ht, hg) at hs) i })
