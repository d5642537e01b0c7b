-- What may be relied on, each in terms of specs/ alone. Of the routing answer: read off the first hop of a shortest path, for every turn
-- table; and, for the five rules, that there is an answer to start with. Of numberings: what the check's answer says, for every turn
-- table; and that the house numbers rise, are bounded and are accepted. Assumes nothing.
use Prim.Native.Nat.{ℕ, suc, ◌<◌}
use mathlib.Core.Path.{◌≡◌, refl, ap}
use mathlib.Core.List.{List, [], ◌∷◌}
use mathlib.Core.Logic.{◌⊎◌, inl, inr, ⊎_elim, ◌↔◌}
use native.Mathlib.Omega.{arith}
use lib.Dec.{T}
use Rattle.route.specs.declared.checks.Checked.{Checked}
use Rattle.route.specs.declared.places.Place.{Place}
use Rattle.route.specs.Grid.{horiz, vert, Dir, west, east, at, coord, hop, dist}
use Rattle.route.specs.Turns.{Arrival, local, going, Rule, negative_first}
use Rattle.route.specs.Mesh.{Mesh, Inside, exists, turn, ruled}
use Rattle.route.specs.Paths.{same_place, Shortest, answer}
use Rattle.route.specs.Route.{outputs}
use Rattle.route.specs.House.{house}
use Rattle.route.specs.Check.{first_pair}
use Rattle.route.proofs.Shortest as hops
use Rattle.route.proofs.Exact.{in_answer}
use Rattle.route.proofs.Outputs.{empty_set}
use Rattle.route.proofs.Accepts.{rising, accepted}
use Rattle.route.proofs.Open.{open_way}
-- for every turn table: a direction is in the answer exactly if some shortest legal path begins with it (by_paths); no legal path is
-- shorter than the distance (none_shorter); two places are one exactly if their distance is 0 (home)
pub use Rattle.route.proofs.Shortest.{by_paths, none_shorter, home}
-- the channel that has the number of a place and a direction leaves that place by that direction (channel_start, channel_way); the places of
-- numbers below their count, and the ends of channels that exist, lie in the mesh (place_inside, start_inside, hop_inside, end_inside), and have such
-- numbers (node_below, channel_below, dir_below of a direction); the direction of a direction's number is that direction (dir_of_number); what it is
-- to be a channel (channel_is)
pub use Rattle.route.proofs.Nodes.{channel_start, channel_way, place_inside, start_inside, hop_inside, end_inside, node_below, channel_below, dir_below, channel_is}
pub use Rattle.route.proofs.Codes.{dir_of_number}
-- sides of a byte have a product of two (bytes_fit), and sides up to 64 numbers of channels that fit a word (words_fit); a mesh that no call
-- refuses has these sides and rule (Served, served), and a refusal is given as it is (refuses; refuses_by of the code's own, none of which is 0, code_high)
pub use Rattle.route.proofs.Nodes.{bytes_fit, words_fit}
pub use Rattle.route.proofs.Unless.{Served, served, refuses, code_high, refuses_by}
-- for every turn table: a list rises if its numbers do at every allowed turn by 90 degrees (Rising); where the check names a pair, that
-- pair falls and none before it does (First, first)
pub use Rattle.route.proofs.Accepts.{Rising, First, first}
-- for the five rules, all sizes and either parity of the first column: the house numbers rise from every channel to every one that may be
-- used next, turns and straight runs alike (rises, by places; house_rises, by numbers of channels; list_rises, in the list); none reaches
-- twice the product of the sides, each longer by one (bounded, house_bounded); and the check accepts what the numbering call wrote
-- (house_accepted)
pub use Rattle.route.proofs.Rises.{rises, bounded}
pub use Rattle.route.proofs.Accepts.{house_rises, list_rises, house_bounded, house_accepted}

-- ---- the routing answer, for every turn table
module _ (m : Mesh) (n : Place) (a : Arrival) (t : Place) where
  -- the set is empty exactly if there is no shortest legal path
  pub no_path : (outputs m n a t ≡ 0) ↔ ((p : List Dir) → Shortest m n a t p → ⊥)
  unfolding outputs
  no_path = (
    λ e. let f = (empty_set (same_place n t) (answer m n a t)).0 e in none f,
    λ f. (empty_set (same_place n t) (answer m n a t)).1 (
      λ h. f [] (record { lawful = h; least = omega (arith, (hops.home n t).0 h) }),
      λ d h. let w = (by_paths m n a t d).0 h in f (d ∷ w.0) w.1,
    ),
  )
    where
      none : (T (same_place n t) → ⊥) × ((d : Dir) → T (answer m n a t d) → ⊥) → (p : List Dir) → Shortest m n a t p → ⊥
      none f [] s = f.0 s.lawful
      none f (d ∷ p) s = f.1 d ((by_paths m n a t d).1 (p, s))

  module _ (d : Dir) (given : T (answer m n a t d)) where
    -- a direction of the answer has a channel
    pub channel : T (exists m n d)
    channel = let w = (by_paths m n a t d).0 given in (hops.begun m t n a d w.0 w.1.lawful).0

    -- by an allowed turn
    pub allowed_turn : T (turn m (coord horiz n) a d)
    allowed_turn = let w = (by_paths m n a t d).0 given in (hops.begun m t n a d w.0 w.1.lawful).1

    -- it leads one closer
    pub closer : dist n t ≡ suc (dist (hop d n) t)
    closer = let w = (by_paths m n a t d).0 given in hops.closer d n t (hops.first_hop m t w.1).0

    -- to the destination, or to a node that has an answer for whoever arrives so
    pub onward : (dist (hop d n) t ≡ 0) ⊎ ((e : Dir) × T (answer m (hop d n) (going d) t e))
    onward = let w = (by_paths m n a t d).0 given in next w.0 (hops.first_hop m t w.1).1
      where
        next : (p : List Dir) → Shortest m (hop d n) (going d) t p → (dist (hop d n) t ≡ 0) ⊎ ((e : Dir) × T (answer m (hop d n) (going d) t e))
        next [] s = inl (omega (arith, s.least))
        next (e ∷ p) s = inr (e, (by_paths m (hop d n) (going d) t e).1 (p, s))

-- ---- for the five rules
-- a packet that starts at one node for another has an answer
pub connected : (k : Rule) (C R f : ℕ) (n t : Place) → Inside (ruled k C R f) t → 0 < dist n t → (d : Dir) × T (answer (ruled k C R f) n local t d)
connected k C R f n t inside away =
    let m = ruled k C R f in
    ⊎_elim (in_answer m n local t inside horiz) (in_answer m n local t inside vert) (open_way k C R f n t away)

-- ---- the check of a list, for every turn table
module _ (m : Mesh) (l : List ℕ) where
  -- it accepts exactly the lists that rise
  pub accepts_rising : ((first_pair m l).refusal ≡ 0) ↔ Rising m l
  accepts_rising = (rising m l, λ h. ap (λ (r : Checked). r.refusal) (accepted m l h))

-- ---- the house numbers, for the five rules
-- in a mesh of 4 by 4 under negative-first, east from (1,2) is 9 and west is 3
pub four_by_four : let m = ruled negative_first 4 4 0 in (house negative_first m (at 1 2) east ≡ 9) × (house negative_first m (at 1 2) west ≡ 3)
unfolding house
four_by_four = (refl, refl)
