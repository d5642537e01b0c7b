-- With one flit a channel, the channel that a move takes a flit from is empty after it: the release asks for no more than the published rule
-- does. Assumes nothing.
use Prim.Native.Nat.{ℕ, zero, suc, ◌+◌, ◌-◌, ◌≤◌}
use mathlib.Core.Path.{◌≡◌, refl, sym, ◌∙◌, ap, subst}
use mathlib.Core.Bool.{true, false≢true, ◌&&◌, and-true}
use mathlib.Core.List.{List, [], ◌∷◌}
use native.Mathlib.Omega.{arith}
use lib.Dec.{T, eqb, leb, ltb→lt}
use lib.ListN.{get_or, set}
use lib.Seq.{get_or-set_other}
use borrow.Author.Tests.{leb-true, ltb-true, le-leb, eq-eqb}
use Rattle.route.specs.declared.places.Place.{Place}
use Rattle.route.specs.Grid.{pick, horiz, vert, less, more, Dir, go, coord, hop}
use Rattle.route.specs.Mesh.{Mesh, exists}
use Rattle.route.specs.Numbers.{place_of, dir_of}
use Rattle.route.specs.Channels.{channel, start, way, far, is_channel}
use Rattle.route.proofs.Promises.{channel_start, end_inside, channel_is}
use Rattle.wormhole.specs.declared.records.Record.{Record}
use Rattle.wormhole.specs.Memory.{Net, Sections, holds_of, next_of, own, hold, link, put, drain, fill, named}
use Rattle.wormhole.specs.Range.{every, at_most, names, words_fit}
use Rattle.wormhole.specs.Steps.{stepped, release, leave, ahead, claim, room, can_follow}
use Rattle.wormhole.proofs.Every.{both, every_at}

-- a channel leads to another place
moves : (m : Mesh) (n : Place) (d : Dir) → T (exists m n d) → hop d n ≡ n → ⊥
moves m n (go horiz less) x e = let f = ap (coord horiz) e in omega (arith, f, ltb→lt)
moves m n (go horiz more) x e = let f = ap (coord horiz) e in omega (arith, f)
moves m n (go vert less) x e = let f = ap (coord vert) e in omega (arith, f, ltb→lt)
moves m n (go vert more) x e = let f = ap (coord vert) e in omega (arith, f)

-- the channel ahead is not the one that the header leaves
ahead_other : (m : Mesh) (k : ℕ) (d : Dir) → is_channel m k ≡ true → channel m.columns (far m.columns k) d ≡ k → ⊥
ahead_other m k d h e =
    let C = m.columns in
    let i = channel_is m k (subst T (sym h) tt) in
    moves m (start C k) (way k) i.1 (sym (channel_start C (far C k) d (end_inside m k (subst T (sym h) tt)).0) ∙ ap (start C) e)

set_zero : (l : List ℕ) (k v : ℕ) → v ≡ 0 → get_or (set l k v) k 0 ≡ 0
set_zero [] k v e = refl
set_zero (x ∷ l) zero v e = e
set_zero (x ∷ l) (suc k) v e = set_zero l k v e

module _ (N : Net) (one : N.depth ≡ 1) (count : ℕ) (s : Sections) (fit : words_fit N count s ≡ true) (k : ℕ) where
  at_most_one : holds_of s k ≤ 1
  unfolding words_fit at_most
  at_most_one =
      let e = (both (every (at_most count) s.owner) (every (at_most N.depth) s.holds && every (names N.mesh) s.next) fit).1 in
      let f = (both (every (at_most N.depth) s.holds) (every (names N.mesh) s.next) e).0 in
      omega (arith, one, leb-true (holds_of s k) N.depth (every_at (at_most N.depth) 0 (le-leb 0 N.depth (omega arith)) s.holds f k))

  drained : holds_of (drain s k) k ≡ 0
  unfolding drain hold
  drained = set_zero s.holds k (holds_of s k - 1) (omega (arith, at_most_one))

  -- a lead from channel k, which is the front
  pub lead_empties : (i : ℕ) (r : Record) (d : ℕ) → names N.mesh r.front ≡ true → r.front ≡ suc k
      → let t = ahead N.mesh r d in holds_of (claim (link (drain s k) k (t + 1)) t i) k ≡ 0
  unfolding claim put link own hold drain
  lead_empties i r d h e = get_or-set_other (drain s k).holds (ahead N.mesh r d) k 1 0 (λ q. other_than r.front h e (sym q)) ∙ drained
    where
      other_than : (x : ℕ) → names N.mesh x ≡ true → x ≡ suc k → channel N.mesh.columns (named x (place_of N.mesh.columns r.source) (far N.mesh.columns)) (dir_of d) ≡ k → ⊥
      other_than x h e q = ahead_other N.mesh k (dir_of d) (rw e at h) (rw e at q)

  -- a follow from channel k
  pub follow_empties : can_follow N s k ≡ true → holds_of (fill (drain s k) (next_of s k - 1)) k ≡ 0
  unfolding can_follow fill drain hold
  follow_empties can =
      let e = both (leb 1 (holds_of s k)) (room N.depth s (next_of s k)) can in
      get_or-set_other (drain s k).holds (next_of s k - 1) k _ 0 (other (next_of s k) e.1 (leb-true 1 (holds_of s k) e.0)) ∙ drained
    where
      other : (x : ℕ) → room N.depth s x ≡ true → 1 ≤ holds_of s k → k ≡ x - 1 → ⊥
      other zero e h q = false≢true e
      other (suc j) e h q =
          let p : k ≡ j = omega (arith, q) in
          omega (arith, one, h, rw (sym p) at (ltb-true (holds_of s j) N.depth e))

  -- an eating from channel k
  pub eat_empties : holds_of (drain s k) k ≡ 0
  eat_empties = drained

-- so the release is the published one: k is given up if it is the rear and no flit is at the source
pub published : (s : Sections) (r : Record) (k front : ℕ) → holds_of s k ≡ 0 → leave s r k front ≡ pick (eqb r.rear (k + 1) && eqb r.waiting 0) (release s r k front) (stepped s r)
unfolding leave
published s r k front e = rw (eq-eqb (holds_of s k) 0 e, and-true (eqb r.waiting 0)) refl
