-- One axis: each law is a case for each sense, closed by arithmetic. Assumes nothing.
use Prim.Native.Nat.{ℕ, suc, ◌+◌, ◌-◌, ◌%◌, ◌<◌}
use mathlib.Core.Path.{◌≡◌, refl}
use mathlib.Core.Bool.{Bool, true, false}
use native.Mathlib.Omega.{arith}
use lib.Dec.{T, ltb, ltb→lt, lt→ltb}
use borrow.Author.Tests.{ltb-true, ltb-false}
use Rattle.route.specs.Grid.{pick, Sense, less, more, step, gap}
use Rattle.route.specs.Mesh.{room}

-- how many steps that way lead from c level with e, 0 if none does
abbrev pub left : Sense → ℕ → ℕ → ℕ
left less c e = c - e
left more c e = e - c

-- the way from c to e; where they are level, down
unfoldable pub toward : ℕ → ℕ → Sense
toward c e = pick (ltb c e) more less

abbrev Off : Sense → ℕ → ℕ → ℕ → Type 0
Off less c e k = c ≡ e + k
Off more c e k = e ≡ c + k

-- e is k steps that way from c
pub record Left (s : Sense) (c e k : ℕ) : Type 0 where
  off : Off s c e k

module _ {c e k : ℕ} where
  pub left_is : {s : Sense} → Left s c e k → left s c e ≡ k
  left_is {s = less} h = omega arith
  left_is {s = more} h = omega arith

  pub gap_is : {s : Sense} → Left s c e k → gap c e ≡ k
  unfolding gap
  gap_is {s = less} h = omega arith
  gap_is {s = more} h = omega arith

  pub same_parity : {s : Sense} → Left s c e k → c % 2 ≡ (e + k) % 2
  same_parity {s = less} h = omega arith
  same_parity {s = more} h = omega arith

  pub stepped : {s : Sense} → Left s c e (suc k) → Left s (step s c) e k
  stepped {s = less} h = omega arith
  stepped {s = more} h = omega arith

  pub has_room : {s : Sense} {length : ℕ} → Left s c e (suc k) → e < length → T (room s length c)
  has_room {s = less} h i = omega (arith, lt→ltb)
  has_room {s = more} h i = omega (arith, lt→ltb)

  -- the other way leads nowhere
  pub only : {s : Sense} (x : Sense) → Left s c e k → 0 < left x c e → x ≡ s
  only {s = less} less h i = refl
  only {s = less} more h i = absurd (omega arith)
  only {s = more} less h i = absurd (omega arith)
  only {s = more} more h i = refl

-- a step that way is closer by one, any other further by one
pub closer : (s : Sense) (c e : ℕ) → 0 < left s c e → gap c e ≡ suc (gap (step s c) e)
unfolding gap
closer less c e h = omega arith
closer more c e h = omega arith

pub further : (s : Sense) (length c e : ℕ) → T (room s length c) → left s c e ≡ 0 → gap (step s c) e ≡ suc (gap c e)
unfolding gap
further less length c e h i = omega (arith, ltb→lt)
further more length c e h i = omega (arith, ltb→lt)

pub aim : (c e : ℕ) → Left (toward c e) c e (gap c e)
unfolding toward gap
aim c e = go (ltb c e) refl
  where
    go : (b : Bool) → ltb c e ≡ b → Left (pick b more less) c e ((c - e) + (e - c))
    go true q = omega (arith, ltb-true c e q)
    go false q = omega (arith, ltb-false c e q)
