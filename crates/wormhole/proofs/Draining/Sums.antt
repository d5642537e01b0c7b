-- A function that is another but at one place, and the sum of a function's first values: by induction on their number. Assumes nothing.
use Prim.Native.Nat.{ℕ, zero, suc, ◌+◌, ◌≤◌, ◌<◌}
use mathlib.Core.Path.{◌≡◌, refl, ap}
use mathlib.Core.Logic.{◌≢◌}
use native.Mathlib.Decide.{ℕ_discrete, dec_le}
use native.Mathlib.Omega.{arith}

-- f' is f but at k, where it is v
pub record Upd (f f' : ℕ → ℕ) (k v : ℕ) : Type 0 where
  pub at : f' k ≡ v
  pub off : (j : ℕ) → j ≢ k → f' j ≡ f j

pub unchanged : (f : ℕ → ℕ) (k : ℕ) → Upd f f k (f k)
unchanged f k = record { at = refl; off = λ j ne. refl }

-- f 0 + .. + f (n - 1)
abbrev pub Σ< : ℕ → (ℕ → ℕ) → ℕ
Σ< zero f = 0
Σ< (suc n) f = f n + Σ< n f

module _ (f g : ℕ → ℕ) where
  pub sum_same : (n : ℕ) → ((k : ℕ) → k < n → g k ≡ f k) → Σ< n g ≡ Σ< n f
  sum_same zero h = refl
  sum_same (suc n) h = omega (arith, h n (omega arith), sum_same n (λ k l. h k (omega arith)))

  -- the functions differ at one place
  pub sum_change : (n k : ℕ) → k < n → ((j : ℕ) → j ≢ k → g j ≡ f j) → Σ< n g + f k ≡ Σ< n f + g k
  sum_change zero k l h = absurd (omega arith)
  sum_change (suc n) k l h = by (ℕ_discrete n k) (λ l'. sum_change n k l' h)
    where
      by : Dec (n ≡ k) → (k < n → Σ< n g + f k ≡ Σ< n f + g k) → (g n + Σ< n g) + f k ≡ (f n + Σ< n f) + g k
      by (yes e) below = omega (arith, sum_same n (λ j lj. h j (omega arith)), ap f e, ap g e)
      by (no ne) below = omega (arith, below (omega arith), h n ne)

module _ (f : ℕ → ℕ) where
  -- a value is at most the sum
  pub sum_at_least : (n k : ℕ) → k < n → f k ≤ Σ< n f
  sum_at_least zero k l = absurd (omega arith)
  sum_at_least (suc n) k l = by (ℕ_discrete n k) (sum_at_least n k)
    where
      by : Dec (n ≡ k) → (k < n → f k ≤ Σ< n f) → f k ≤ f n + Σ< n f
      by (yes e) below = omega (arith, ap f e)
      by (no ne) below = omega (arith, below (omega arith))

  pub sum_zero : (n : ℕ) → ((k : ℕ) → k < n → f k ≡ 0) → Σ< n f ≡ 0
  sum_zero zero h = refl
  sum_zero (suc n) h = omega (arith, h n (omega arith), sum_zero n (λ k l. h k (omega arith)))

  -- a sum that is not 0 has a value that is not
  pub sum_some : (n : ℕ) → 1 ≤ Σ< n f → (k : ℕ) × (k < n) × (1 ≤ f k)
  sum_some zero l = absurd (omega arith)
  sum_some (suc n) l = by (dec_le 1 (f n)) (sum_some n)
    where
      by : Dec (1 ≤ f n) → (1 ≤ Σ< n f → (k : ℕ) × (k < n) × (1 ≤ f k)) → (k : ℕ) × (k < suc n) × (1 ≤ f k)
      by (yes some) below = (n, omega arith, some)
      by (no none) below = let p = below (omega arith) in (p.0, omega (arith, p.1), p.2)
