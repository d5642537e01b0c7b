-- The list of counted packets as its records and its counts: by induction on the list. Assumes nothing.
use Prim.Native.Nat.{ℕ, zero, suc, ◌+◌, ◌≤◌, ◌<◌}
use mathlib.Core.Path.{◌≡◌, refl, ap}
use mathlib.Core.List.{List, [], ◌∷◌, map}
use native.Mathlib.Omega.{arith}
use lib.ListN.{length, set, get_or, take, replicate}
use Rattle.std.proofs.Common.{length-take, get_or-take}
use Rattle.wormhole.specs.Memory.{none}
use Rattle.report.specs.declared.turns.Counted.{Counted}
use Rattle.report.specs.Sweeps.{sum}
use Rattle.report.specs.Coded.{recs, counts}

-- ---- a field of all
module _ {A : Type 0} (f : Counted → A) where
  length_map : (cs : List Counted) → length (map f cs) ≡ length cs
  length_map [] = refl
  length_map (c ∷ cs) = ap suc (length_map cs)

  map_set : (cs : List Counted) (i : ℕ) (c : Counted) → map f (set cs i c) ≡ set (map f cs) i (f c)
  map_set [] i c = refl
  map_set (d ∷ cs) zero c = refl
  map_set (d ∷ cs) (suc i) c = ap (λ (l : List A). f d ∷ l) (map_set cs i c)

  map_at : (cs : List Counted) (i : ℕ) (z : A) (d : Counted) → i < length cs → get_or (map f cs) i z ≡ f (get_or cs i d)
  map_at [] i z d l = absurd (omega (arith, l))
  map_at (c ∷ cs) zero z d l = refl
  map_at (c ∷ cs) (suc i) z d l = map_at cs i z d (omega (arith, l))

  map_all : (n : ℕ) (c : Counted) → map f (replicate n c) ≡ replicate n (f c)
  map_all zero c = refl
  map_all (suc n) c = ap (λ (l : List A). f c ∷ l) (map_all n c)

-- ---- the records, and the counts
pub length_recs : (cs : List Counted) → length (recs cs) ≡ length cs
unfolding recs
length_recs cs = length_map (λ (c : Counted). c.packet) cs

module _ (cs : List Counted) (i : ℕ) where
  pub recs_set : (c : Counted) → recs (set cs i c) ≡ set (recs cs) i c.packet
  unfolding recs
  recs_set c = map_set (λ (d : Counted). d.packet) cs i c

  pub counts_set : (c : Counted) → counts (set cs i c) ≡ set (counts cs) i c.moves
  unfolding counts
  counts_set c = map_set (λ (d : Counted). d.moves) cs i c

  pub recs_at : (d : Counted) → i < length cs → get_or (recs cs) i none ≡ (get_or cs i d).packet
  unfolding recs
  recs_at d l = map_at (λ (c : Counted). c.packet) cs i none d l

  pub counts_at : (d : Counted) → i < length cs → get_or (counts cs) i 0 ≡ (get_or cs i d).moves
  unfolding counts
  counts_at d l = map_at (λ (c : Counted). c.moves) cs i 0 d l

-- and where only the first n of them are looked at
pub counts_taken : (cs : List Counted) (n i : ℕ) (d : Counted) → i < length (take n cs) → get_or (counts cs) i 0 ≡ (get_or (take n cs) i d).moves
counts_taken cs n i d l =
    let low : i < n = omega (arith, l, length-take n cs) in
    rw (get_or-take n cs i d low) (counts_at cs i d (omega (arith, l, length-take n cs)))

module _ (n : ℕ) (c : Counted) where
  pub recs_all : recs (replicate n c) ≡ replicate n c.packet
  unfolding recs
  recs_all = map_all (λ (d : Counted). d.packet) n c

  pub counts_all : counts (replicate n c) ≡ replicate n c.moves
  unfolding counts
  counts_all = map_all (λ (d : Counted). d.moves) n c

-- ---- their sum
-- one count is at most the sum
pub at_most_sum : (ns : List ℕ) (i : ℕ) → get_or ns i 0 ≤ sum ns
unfolding sum
at_most_sum [] i = omega arith
at_most_sum (n ∷ ns) zero = omega arith
at_most_sum (n ∷ ns) (suc i) = omega (arith, at_most_sum ns i)

-- one that grows makes the sum grow no more
pub sum_grown : (ns : List ℕ) (i k : ℕ) → sum (set ns i (get_or ns i 0 + k)) ≤ sum ns + k
unfolding sum
sum_grown [] i k = omega arith
sum_grown (n ∷ ns) zero k = omega arith
sum_grown (n ∷ ns) (suc i) k = omega (arith, sum_grown ns i k)

-- and just so much where there is such a one
pub sum_set : (l : List ℕ) (i n : ℕ) → i < length l → sum (set l i (get_or l i 0 + n)) ≡ sum l + n
unfolding sum
sum_set [] i n low = absurd (omega arith)
sum_set (x ∷ l) zero n low = omega arith
sum_set (x ∷ l) (suc i) n low = omega (arith, sum_set l i n (omega arith))
