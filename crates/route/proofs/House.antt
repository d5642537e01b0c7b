-- The house numbers: by the frame of a place, as the code has them; bounded, by their formulas. Assumes nothing.
use Prim.Native.Nat.{ℕ, zero, suc, ◌+◌, ◌<◌}
use mathlib.Core.Path.{◌≡◌, refl, sym, ◌∙◌}
use mathlib.Core.Bool.{true, false}
use mathlib.Core.List.{List, [], ◌∷◌, ◌++◌}
use native.Mathlib.Numerals.{add-one}
use native.Mathlib.Nat.{add-zero}
use native.Mathlib.Omega.{arith}
use lib.ListN.{length, get_or, set, drop, length-append}
use lib.Seq.{drop-cons, set_at, append_snoc}
use Rattle.route.specs.declared.frames.Frame.{Frame}
use Rattle.route.specs.declared.meshes.Mesh.{Mesh as Coded}
use Rattle.route.specs.declared.places.Place.{Place}
use Rattle.route.specs.Grid.{Dir}
use Rattle.route.specs.Turns.{Rule}
use Rattle.route.specs.Mesh.{Mesh}
use Rattle.route.specs.Channels.{start, way, is_channel}
use Rattle.route.specs.House.{house, house_of, upto}
use Rattle.route.specs.Coded.{meant, Surrounds, in_frame}

-- ---- a channel's number
pub in_house : (k : Rule) (m : Coded) (n : Place) (d : Dir) (f : Frame) {r : ℕ} → Surrounds f m n → r ≡ in_frame k f d → r ≡ house k (meant m) n d
unfolding house
in_house k m n d f s hr = hr ∙ rw (s.columns, s.rows, s.c, s.u, s.r, s.d, add-zero) refl

-- by the number of the channel
pub no_word : (k : Rule) (m : Mesh) (i : ℕ) → is_channel m i ≡ false → 0 ≡ house_of k m i
unfolding house_of
no_word k m i h = rw h refl

pub word : (k : Rule) (m : Mesh) (i : ℕ) {s : Place} {w : Dir} {r : ℕ} → is_channel m i ≡ true → s ≡ start m.columns i → w ≡ way i → r ≡ house k m s w
    → r ≡ house_of k m i
unfolding house_of
word k m i h hs hw hr = rw h (rw (hs, hw) at hr)

-- ---- the list
pub length_upto : (f : ℕ → ℕ) (n : ℕ) → length (upto f n) ≡ n
length_upto f zero = refl
length_upto f (suc n) = omega (arith, length-append (upto f n) (f n ∷ []), length_upto f n)

-- filled up to i, the rest as it was
module _ (f : ℕ → ℕ) (i : ℕ) (was list : List ℕ) (filled : list ≡ upto f i ++ drop i was) (same : length list ≡ length was) where
  pub fill_more : (x : ℕ) → x ≡ f i → i < length list → set list i x ≡ upto f (i + 1) ++ drop (i + 1) was
  fill_more x e h =
      let g : i < length was = omega arith in
      rw (filled, e, drop-cons was i 0 g, set_at (upto f i) (get_or was i 0) (drop (suc i) was) (f i) i (length_upto f i), add-one)
      (sym (append_snoc (upto f i) (f i) (drop (suc i) was)))
