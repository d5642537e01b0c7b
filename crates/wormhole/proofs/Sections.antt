-- A word of the list is a word of one section, and a store in the list a store in one section; sections joined are the list. By the laws of take
-- and drop. Assumes nothing.
use Prim.Native.Nat.{ℕ, ◌+◌, ◌-◌, ◌<◌}
use mathlib.Core.Path.{◌≡◌, refl, sym, ◌∙◌}
use mathlib.Core.List.{List, ◌++◌}
use native.Mathlib.Omega.{arith}
use lib.ListN.{length, take, drop, set, get_or, length-append, take-append-drop}
use lib.Seq.{get_or-take, get_or-drop, take-set-lt, take-set-le, drop-set-lt, drop-set-add, take_at, drop_at, drop-drop}
use Rattle.wormhole.specs.Memory.{Sections, sections, joined, owner_of, holds_of, next_of, own, hold, link, put, drain, fill}

module _ (n k : ℕ) (w : List ℕ) where
  pub owner_at : k < n → get_or w k 0 ≡ owner_of (sections n w) k
  unfolding sections
  owner_at h = sym (get_or-take n w k 0 h)

  pub holds_at : k < n → get_or w (n + k) 0 ≡ holds_of (sections n w) k
  unfolding sections
  holds_at h = sym (get_or-take n (drop n w) k 0 h ∙ get_or-drop n w k 0)

  pub next_at : get_or w (n + n + k) 0 ≡ next_of (sections n w) k
  unfolding sections
  next_at = sym (get_or-drop (n + n) w k 0)

  module _ (v : ℕ) (h : k < n) where
    pub own_at : sections n (set w k v) ≡ own (sections n w) k v
    unfolding sections own
    own_at = rw (take-set-lt n w k v h, drop-set-lt n w k v h, drop-set-lt (n + n) w k v (omega arith)) refl

    pub hold_at : sections n (set w (n + k) v) ≡ hold (sections n w) k v
    unfolding sections hold
    hold_at =
        rw
        (take-set-le n w (n + k) v (omega arith), drop-set-add n w k v, take-set-lt n (drop n w) k v h, drop-set-lt (n + n) w (n + k) v (omega arith))
        refl

    pub link_at : sections n (set w (n + n + k) v) ≡ link (sections n w) k v
    unfolding sections link
    link_at =
        let e : n + n + k ≡ n + (n + k) = omega arith in
        let held : take n (drop n (set w (n + n + k) v)) ≡ take n (drop n w) =
        rw (e, drop-set-add n w (n + k) v, take-set-le n (drop n w) (n + k) v (omega arith)) refl in
        rw (take-set-le n w (n + n + k) v (omega arith), held, drop-set-add (n + n) w k v) refl

-- ---- what the stores of the code come to
module _ (n k : ℕ) (w : List ℕ) (h : k < n) where
  pub put_at : (o f x : ℕ) → sections n (set (set (set w k o) (n + k) f) (n + n + k) x) ≡ put (sections n w) k o f x
  unfolding put
  put_at o f x = rw (link_at n k (set (set w k o) (n + k) f) x h, hold_at n k (set w k o) f h, own_at n k w o h) refl

  pub drain_at : sections n (set w (n + k) (get_or w (n + k) 0 - 1)) ≡ drain (sections n w) k
  unfolding drain
  drain_at = rw (hold_at n k w (get_or w (n + k) 0 - 1) h, holds_at n k w h) refl

  pub fill_at : sections n (set w (n + k) (get_or w (n + k) 0 + 1)) ≡ fill (sections n w) k
  unfolding fill
  fill_at = rw (hold_at n k w (get_or w (n + k) 0 + 1) h, holds_at n k w h) refl

-- ---- a list and its sections
pub rejoined : (n : ℕ) (w : List ℕ) → joined (sections n w) ≡ w
unfolding joined sections
rejoined n w = rw (← drop-drop n n w, take-append-drop n (drop n w), take-append-drop n w) refl

pub sections_joined : (n : ℕ) (s : Sections) → length s.owner ≡ n → length s.holds ≡ n → sections n (joined s) ≡ s
unfolding sections joined
sections_joined n s o h =
    rw (
      ← drop-drop n n (s.owner ++ (s.holds ++ s.next)),
      take_at s.owner (s.holds ++ s.next) n o,
      drop_at s.owner (s.holds ++ s.next) n o,
      take_at s.holds s.next n h,
      drop_at s.holds s.next n h,
    )
    refl

pub joined_long : (n : ℕ) (s : Sections) → length s.owner ≡ n → length s.holds ≡ n → length s.next ≡ n → length (joined s) ≡ n + n + n
unfolding joined
joined_long n s o h x = omega (arith, length-append s.owner (s.holds ++ s.next), length-append s.holds s.next, o, h, x)
