-- The closed form meets the one-hop recursion of shortest paths, over turn tests that repeat with every second column: by the cases
-- of what is left to go. Assumes nothing.
use Prim.Native.Nat.{ℕ, zero, suc}
use mathlib.Core.Path.{◌≡◌, refl, sym}
use mathlib.Core.Bool.{Bool, true, false, ◌&&◌, ◌||◌, not, and-true}
use native.Mathlib.Omega.{arith}
use mir.Facts.{and_yes}
use lib.Dec.{T, leb, eqb, eqb-suc-zero}
use borrow.Author.Tests.{le-leb}
use Rattle.route.proofs.Tests.{or_l, or_r, absorb}

-- dx columns and dy rows are to go; hv k and vh k: the turn from the row to the column, and from the column to the row, is allowed
-- k columns before the destination's. By the row: a column to turn in is ahead, the destination's or the one beside it
unfoldable pub across : (ℕ → Bool) → (ℕ → Bool) → ℕ → ℕ → Bool
across hv vh zero dy = false
across hv vh (suc dx) zero = true
across hv vh (suc zero) (suc dy) = hv 0
across hv vh (suc (suc dx)) (suc dy) = hv 0 || (hv 1 && vh 1)

-- by the column: the whole of it may as well be gone here
unfoldable pub along : (ℕ → Bool) → ℕ → ℕ → Bool
along vh dx zero = false
along vh zero (suc dy) = true
along vh (suc dx) (suc dy) = vh (suc dx)

abbrev pub done : ℕ → ℕ → Bool
done zero zero = true
done zero (suc dy) = false
done (suc dx) dy = false

module _ (hv vh : ℕ → Bool) (hv2 : (k : ℕ) → hv (suc (suc k)) ≡ hv k) (vh2 : (k : ℕ) → vh (suc (suc k)) ≡ vh k) where
  -- a column that serves both turns, anywhere ahead, is as good as the last two
  between : (k : ℕ) → T (hv k && vh k) → T (hv 0 || (hv 1 && vh 1))
  between zero t = or_l (hv 0) (hv 1 && vh 1) (and_yes (hv 0) (vh 0) t).0
  between (suc zero) t = or_r (hv 0) (hv 1 && vh 1) t
  between (suc (suc k)) t = between k (rw (hv2 k, vh2 k) at t)

  -- after a hop by the row: arrived, or on by the row, or a turn to the column
  pub across_hop : (dx dy : ℕ) → across hv vh (suc dx) dy ≡ done dx dy || (across hv vh dx dy || (hv dx && along vh dx dy))
  unfolding across along
  across_hop zero zero = refl
  across_hop (suc dx) zero = refl
  across_hop zero (suc dy) = sym (and-true (hv 0))
  across_hop (suc zero) (suc dy) = refl
  across_hop (suc (suc dx)) (suc dy) = absorb (hv 0 || (hv 1 && vh 1)) (hv (suc (suc dx)) && vh (suc (suc dx))) (between (suc (suc dx)))

  -- after a hop by the column
  pub along_hop : (dx dy : ℕ) → along vh dx (suc dy) ≡ done dx dy || (along vh dx dy || (vh dx && across hv vh dx dy))
  unfolding across along
  along_hop zero zero = refl
  along_hop zero (suc dy) = refl
  along_hop (suc dx) zero = sym (and-true (vh (suc dx)))
  along_hop (suc dx) (suc dy) =
      absorb (vh (suc dx)) (vh (suc dx) && across hv vh (suc dx) (suc dy)) (λ t. (and_yes (vh (suc dx)) (across hv vh (suc dx) (suc dy)) t).0)

-- ---- as the code's tests say it
pub across_tests : (hv vh : ℕ → Bool) (dx dy : ℕ)
    → across hv vh dx dy ≡ not (eqb dx 0) && ((eqb dy 0 || hv 0) || (leb 2 dx && (hv 1 && vh 1)))
unfolding across
across_tests hv vh zero dy = refl
across_tests hv vh (suc dx) zero = simp eqb-suc-zero
across_tests hv vh (suc zero) (suc dy) = simp eqb-suc-zero (or_none (hv 0))
  where
    or_none : (b : Bool) → b ≡ b || false
    or_none true = refl
    or_none false = refl
across_tests hv vh (suc (suc dx)) (suc dy) = simp (eqb-suc-zero, le-leb 2 (suc (suc dx)) (omega arith))

pub along_tests : (vh : ℕ → Bool) (dx dy : ℕ) → along vh dx dy ≡ not (eqb dy 0) && (eqb dx 0 || vh dx)
unfolding along
along_tests vh dx zero = refl
along_tests vh zero (suc dy) = simp eqb-suc-zero
along_tests vh (suc dx) (suc dy) = simp eqb-suc-zero
