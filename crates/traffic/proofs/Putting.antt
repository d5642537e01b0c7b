-- Bytes put one after another: by their list, and where they fit they stand at the start. Assumes nothing.
use Prim.Native.Nat.{ℕ, suc, ◌≤◌}
use mathlib.Core.Path.{◌≡◌, refl, ◌∙◌, ap}
use mathlib.Core.Bool.{Bool, true, false}
use mathlib.Core.List.{List, [], ◌∷◌, ◌++◌}
use native.Mathlib.Omega.{arith}
use lib.Dec.{ltb, leb-suc-suc}
use lib.ListN.{length, set}
use borrow.Author.Tests.{lt-ltb}
use Rattle.route.specs.Grid.{pick}
use Rattle.traffic.specs.Calls.{over}
use Rattle.traffic.specs.declared.pages.Page.{Page}
use Rattle.traffic.specs.Coded.{turned, put, puts}

-- the page with one byte put on it takes the others
pub putting : (p : Page) {q : Page} (b : ℕ) (bs : List ℕ) → q ≡ put p b → puts q bs ≡ puts p (b ∷ bs)
unfolding puts
putting p b bs e = rw e refl

-- without others it is the page itself
pub put_last : (p : Page) {q : Page} (b : ℕ) → q ≡ put p b → q ≡ puts p (b ∷ [])
unfolding puts
put_last p b e = e

-- some bytes, and then others
pub puts_append : (p : Page) (xs ys : List ℕ) → puts p (xs ++ ys) ≡ puts (puts p xs) ys
unfolding puts
puts_append p [] ys = refl
puts_append p (x ∷ xs) ys = puts_append (put p x) xs ys

-- ---- a page with a written byte before it
abbrev after : ℕ → Page → Page
after o p = turned p (o ∷ p.out.now) (suc p.end)

put_after : (o : ℕ) (p : Page) (b : ℕ) → put (after o p) b ≡ after o (put p b)
put_after o p b = rw (leb-suc-suc (suc p.end) (length p.out.now)) (at (ltb p.end (length p.out.now)))
  where
    at : (t : Bool) → pick t (after o (turned p (set p.out.now p.end b) (suc p.end))) (after o p) ≡ after o (pick t (turned p (set p.out.now p.end b) (suc p.end)) p)
    at true = refl
    at false = refl

puts_after : (o : ℕ) (p : Page) (bs : List ℕ) → puts (after o p) bs ≡ after o (puts p bs)
unfolding puts
puts_after o p [] = refl
puts_after o p (b ∷ bs) = ap (λ (q : Page). puts q bs) (put_after o p b) ∙ puts_after o (put p b) bs

-- ---- so bytes that fit stand at the start, and later ones stay
pub puts_over : (p : Page) (bs out : List ℕ) → length bs ≤ length out → puts (turned p out 0) bs ≡ turned p (over bs out) (length bs)
unfolding puts
puts_over p [] out h = refl
puts_over p (b ∷ bs) [] h = absurd (omega arith)
puts_over p (b ∷ bs) (o ∷ out) h =
    rw (lt-ltb 0 (suc (length out)) (omega arith)) (puts_after b (turned p out 0) bs ∙ ap (after b) (puts_over p bs out (omega arith)))
