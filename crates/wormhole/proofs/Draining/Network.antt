-- All that the machine may know of the routing part: a network and its promises. Of routing the files from here to Emptying name
-- nothing else but its types; Meshes keeps the promises for the real mesh. Assumes nothing.
use Prim.Native.Nat.{ℕ, suc, ◌≤◌, ◌<◌}
use mathlib.Core.Path.{◌≡◌}
use mathlib.Core.Bool.{Bool}
use mathlib.Core.Logic.{◌≢◌, ◌↔◌}
use lib.Dec.{T}
use Rattle.route.specs.declared.places.Place.{Place}
use Rattle.route.specs.Grid.{Dir}
use Rattle.route.specs.Turns.{Arrival, local, going}

pub record Network : Type 0 where
  -- how many numbers of channels and of nodes there are, and how many flits a channel can hold
  pub numbers : ℕ
  pub nodes : ℕ
  pub depth : ℕ
  -- the place of a node, and which places are of the mesh
  pub place : ℕ → Place
  pub inside : Place → Bool
  -- which numbers are channels, where a channel leads and which way, and the channel that leaves a place by a direction
  pub exists : ℕ → Bool
  pub far : ℕ → Place
  pub way : ℕ → Dir
  pub channel : Place → Dir → ℕ
  -- whether two places are one, how far it is from one to the other, and whether a direction is in the answer for a packet that comes so
  pub same : Place → Place → Bool
  pub dist : Place → Place → ℕ
  pub answer : Place → Arrival → Place → Dir → Bool
  -- a number for each channel, and one that none exceeds
  pub rank : ℕ → ℕ
  pub top : ℕ
  -- the promises: on numbers and places
  pub deep : 1 ≤ depth
  pub below : (k : ℕ) → T (exists k) → k < numbers
  pub node_inside : (a : ℕ) → a < nodes → T (inside (place a))
  pub far_inside : (k : ℕ) → T (exists k) → T (inside (far k))
  pub home : (n t : Place) → T (same n t) ↔ (dist n t ≡ 0)
  -- a direction of the answer has a channel, which leads one closer, and on from there unless that is the destination
  pub leads : (n : Place) (a : Arrival) (t : Place) (d : Dir) → T (inside n) → T (answer n a t d) → T (exists (channel n d))
  pub closer : (n : Place) (a : Arrival) (t : Place) (d : Dir) → T (inside n) → T (answer n a t d) → suc (dist (far (channel n d)) t) ≡ dist n t
  pub onward : (n : Place) (a : Arrival) (t : Place) (d : Dir) → T (inside n) → T (answer n a t d) → dist (far (channel n d)) t ≢ 0
      → (e : Dir) × T (answer (far (channel n d)) (going (way (channel n d))) t e)
  -- two nodes that differ are apart, and a packet that starts at one for the other has an answer
  pub apart : (a b : ℕ) → a < nodes → b < nodes → a ≢ b → dist (place a) (place b) ≢ 0
  pub connected : (a b : ℕ) → a < nodes → b < nodes → a ≢ b → (d : Dir) × T (answer (place a) local (place b) d)
  -- the numbers rise from a channel to each that the answer leads on to
  pub rises : (k : ℕ) (t : Place) (d : Dir) → T (exists k) → T (answer (far k) (going (way k)) t d) → rank k < rank (channel (far k) d)
  pub bounded : (k : ℕ) → T (exists k) → rank k ≤ top
