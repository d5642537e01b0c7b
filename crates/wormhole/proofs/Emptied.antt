-- What happens to a channel that a flit has left: each return of the code from the tests that it has made. Assumes nothing.
use Prim.Native.Nat.{ℕ, ◌+◌}
use mathlib.Core.Path.{◌≡◌, refl}
use borrow.Author.Tests.{eq-eqb, ne_eqb}
use Rattle.wormhole.specs.declared.records.Record.{Record}
use Rattle.wormhole.specs.Memory.{Sections, holds_of, next_of, put, anew}
use Rattle.wormhole.specs.Steps.{Stepped, stepped, shortened, release, leave}

-- ---- the record of a packet that gives up channel k
module _ (r : Record) (k front next : ℕ) where
  pub short_behind : (front ≡ k + 1 → ⊥) → anew r r.waiting r.eaten next r.front ≡ shortened r k front next
  short_behind h = rw (ne_eqb front (k + 1) h) refl

  pub short_linked : front ≡ k + 1 → (next ≡ 0 → ⊥) → anew r r.waiting r.eaten next r.front ≡ shortened r k front next
  short_linked e h = rw (eq-eqb front (k + 1) e, ne_eqb next 0 h) refl

  pub short_whole : front ≡ k + 1 → next ≡ 0 → anew r r.waiting r.eaten next 0 ≡ shortened r k front next
  short_whole e f = rw (eq-eqb front (k + 1) e, eq-eqb next 0 f) refl

pub released : (s s' : Sections) (r q : Record) (k front x : ℕ) → x ≡ next_of s k → s' ≡ put s k 0 0 0 → q ≡ shortened r k front x → stepped s' q ≡ release s r k front
unfolding release
released s s' r q k front x ex es eq = rw (es, eq, ex) refl

-- ---- it is kept, or given up
module _ (s : Sections) (r : Record) (k front : ℕ) where
  pub kept_inside : (r.rear ≡ k + 1 → ⊥) → stepped s r ≡ leave s r k front
  unfolding leave
  kept_inside h = rw (ne_eqb r.rear (k + 1) h) refl

  pub kept_fed : r.rear ≡ k + 1 → (r.waiting ≡ 0 → ⊥) → stepped s r ≡ leave s r k front
  unfolding leave
  kept_fed e h = rw (eq-eqb r.rear (k + 1) e, ne_eqb r.waiting 0 h) refl

  module _ (h : ℕ) (eh : h ≡ holds_of s k) (e : r.rear ≡ k + 1) (f : r.waiting ≡ 0) where
    pub kept_filled : (h ≡ 0 → ⊥) → stepped s r ≡ leave s r k front
    unfolding leave
    kept_filled g = rw (eq-eqb r.rear (k + 1) e, eq-eqb r.waiting 0 f, ← eh, ne_eqb h 0 g) refl

    pub given_up : (a : Stepped) → h ≡ 0 → a ≡ release s r k front → a ≡ leave s r k front
    unfolding leave
    given_up a g ea = rw (eq-eqb r.rear (k + 1) e, eq-eqb r.waiting 0 f, ← eh, eq-eqb h 0 g) ea
