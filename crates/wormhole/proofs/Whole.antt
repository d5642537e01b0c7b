-- The three calls as wholes: what the parts of a call leave is what its promise says, by the cases of the refusal. Assumes nothing.
use Prim.Native.Nat.{ℕ, ◌≤◌, ◌<◌}
use mathlib.Core.Path.{◌≡◌, refl, sym, ◌∙◌}
use mathlib.Core.Bool.{Bool, true, false}
use mathlib.Core.List.{List}
use lib.ListN.{length, set, get_or, replicate}
use borrow.Author.Tests.{lt-ltb, le-ltb}
use Rattle.route.specs.declared.refusals.Refusal.{Refusal}
use Rattle.route.specs.Mesh.{Mesh, ruled}
use Rattle.route.specs.Numbers.{channels, rule_of}
use Rattle.route.specs.Served.{code}
use Rattle.route.proofs.Promises.{refuses_by}
use Rattle.wormhole.specs.declared.records.Record.{Record}
use Rattle.wormhole.specs.Memory.{net, sections, none, fresh}
use Rattle.wormhole.specs.Steps.{stepped, known, act}
use Rattle.wormhole.specs.Calls.{left, bad_size, bad_memory, bad_packet, reset, lowest, offered, fits, offer, allowed, move}
use Rattle.wormhole.specs.Coded.{buffered}
use Rattle.wormhole.proofs.Sections.{rejoined}

-- the record whose fields are all zero is the empty one
pub none_is : (r : Record) → (r.live ≡ 0) × ((r.source ≡ 0) × ((r.destination ≡ 0) × ((r.flits ≡ 0) × ((r.waiting ≡ 0) × ((r.eaten ≡ 0) × ((r.rear ≡ 0) × (r.front ≡ 0))))))) → r ≡ none
none_is r z =
    λ i. record {
      live = z.0 i;
      source = z.1.0 i;
      destination = z.1.1.0 i;
      flits = z.1.1.1.0 i;
      waiting = z.1.1.1.1.0 i;
      eaten = z.1.1.1.1.1.0 i;
      rear = z.1.1.1.1.1.1.0 i;
      front = z.1.1.1.1.1.1.1 i;
    }

-- ---- reset
module _ (C R : ℕ) (w : List ℕ) (rs : List Record) where
  pub reset_refused : (e : Refusal) → code e ≡ bad_size C R 0 (length w) (length rs) → left (code e) w rs ≡ reset C R w rs
  unfolding reset
  reset_refused e h = rw (sym h) (sym (refuses_by (λ k. left k w rs) _ e))

  pub reset_done : 0 ≡ bad_size C R 0 (length w) (length rs) → {v : List ℕ} {qs : List Record} → v ≡ replicate (length w) 0 → qs ≡ replicate (length rs) none → left 0 v qs ≡ reset C R w rs
  unfolding reset
  reset_done h ev eq = rw (sym h, ev, eq) refl

-- ---- offer
module _ (C R rule : ℕ) (w : List ℕ) (rs : List Record) (a b f : ℕ) where
  pub offer_refused : (e : Refusal) → code e ≡ bad_memory C R rule (length w) (length rs) (fits C R rule w rs) → left (offered (code e) 255) w rs ≡ offer C R rule w rs a b f
  unfolding offer
  offer_refused e h = rw (sym h, refuses_by (λ k. k) _ e) (sym (refuses_by (λ k. left (offered k 255) w rs) _ e))

  module _ (served : 0 ≡ bad_memory C R rule (length w) (length rs) (fits C R rule w rs)) {m : Mesh} (em : m ≡ ruled (rule_of rule) C R 0) where
    pub offer_unfit : (e : Refusal) → code e ≡ bad_packet m.columns m.rows a b f → left (offered (code e) 255) w rs ≡ offer C R rule w rs a b f
    unfolding offer
    offer_unfit e h = rw (sym served, sym (rw em at h), refuses_by (λ k. k) _ e) (sym (refuses_by (λ k. left (offered k 255) w rs) _ e))

    module _ (fit : 0 ≡ bad_packet m.columns m.rows a b f) where
      pub offer_full : length rs ≤ lowest rs → left (offered 10 255) w rs ≡ offer C R rule w rs a b f
      unfolding offer
      offer_full h = rw (sym served, sym (rw em at fit), le-ltb (lowest rs) (length rs) h) refl

      pub offer_done : {i : ℕ} → i < length rs → i ≡ lowest rs → left (offered 0 i) w (set rs i (fresh a b f)) ≡ offer C R rule w rs a b f
      unfolding offer
      offer_done l h = rw (sym served, sym (rw em at fit), sym h, lt-ltb _ (length rs) l) refl

-- ---- move
module _ (C R rule : ℕ) (w : List ℕ) (rs : List Record) (i kind k d : ℕ) where
  pub move_refused : (e : Refusal) → code e ≡ bad_memory C R rule (length w) (length rs) (fits C R rule w rs) → left (code e) w rs ≡ move C R rule w rs i kind k d
  unfolding move
  move_refused e h = rw (sym h, refuses_by (λ k. k) _ e) (sym (refuses_by (λ k. left k w rs) _ e))

  module _ (served : 0 ≡ bad_memory C R rule (length w) (length rs) (fits C R rule w rs)) where
    pub move_nobody : length rs ≤ i → left 13 w rs ≡ move C R rule w rs i kind k d
    unfolding move
    move_nobody h = rw (sym served, le-ltb i (length rs) h) refl

    module _ (l : i < length rs) (m : Mesh) (em : m ≡ ruled (rule_of rule) C R 0) where
      pub move_unknown : false ≡ known m kind k d → left 13 w rs ≡ move C R rule w rs i kind k d
      unfolding move
      move_unknown h = rw (sym served, lt-ltb i (length rs) l, sym (rw em at h)) refl

      module _ (there : true ≡ known m kind k d) {r : Record} (er : r ≡ get_or rs i none) {b : Bool}
          (eb : b ≡ allowed (buffered m) (sections (channels m.columns m.rows) w) i r kind k d) where
        asked : b ≡ allowed (net C R rule) (sections (channels C R) w) i (get_or rs i none) kind k d
        asked = rw (er, em) at eb

        pub move_not_now : b ≡ false → left 8 w rs ≡ move C R rule w rs i kind k d
        unfolding move
        move_not_now h = rw (sym served, lt-ltb i (length rs) l, sym (rw em at there), sym asked ∙ h) refl

        pub move_done : b ≡ true → (v : List ℕ) (q : Record) → stepped (sections (channels m.columns m.rows) v) q ≡ act (buffered m) (sections (channels m.columns m.rows) w) i r kind k d
            → left 0 v (set rs i q) ≡ move C R rule w rs i kind k d
        unfolding move
        move_done h v q e =
            let made : stepped (sections (channels C R) v) q ≡ act (net C R rule) (sections (channels C R) w) i (get_or rs i none) kind k d = rw (er, em) at e in
            rw (sym served, lt-ltb i (length rs) l, sym (rw em at there), sym asked ∙ h, sym made, rejoined (channels C R) v) refl
