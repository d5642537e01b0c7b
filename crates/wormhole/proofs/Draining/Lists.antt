-- Calls after calls: what they reach, what they add, and that moves bring nothing. By induction on the first list. Assumes nothing.
use Prim.Native.Nat.{ℕ, ◌+◌}
use mathlib.Core.Path.{◌≡◌, refl}
use mathlib.Core.Bool.{Bool}
use mathlib.Core.List.{List, [], ◌∷◌, ◌++◌}
use native.Mathlib.Omega.{arith}
use Rattle.wormhole.specs.Drains.{Lent, Move, Call, moving, movings, after, run, brings, total}

module _ (C R rule : ℕ) where
  pub run_append : (M : Lent) (cs ds : List Call) → run C R rule M (cs ++ ds) ≡ run C R rule (run C R rule M cs) ds
  unfolding run
  run_append M [] ds = refl
  run_append M (c ∷ cs) ds = run_append (after C R rule M c) cs ds

  pub total_append : (adds : Lent → Call → ℕ) (M : Lent) (cs ds : List Call)
      → total C R rule adds M (cs ++ ds) ≡ total C R rule adds M cs + total C R rule adds (run C R rule M cs) ds
  unfolding run total
  total_append adds M [] ds = omega arith
  total_append adds M (c ∷ cs) ds = omega (arith, total_append adds (after C R rule M c) cs ds)

  pub none_brought : (test : ℕ → Bool) (M : Lent) (vs : List Move) → total C R rule (brings C R rule test) M (movings vs) ≡ 0
  unfolding total
  none_brought test M [] = refl
  none_brought test M (v ∷ vs) = omega (arith, none_brought test (after C R rule M (moving v)) vs)
