-- The real mesh keeps the promises: what holds for every turn table from routing's theorems on the answer, and what only the rules promise from
-- the house numbering. Assumes nothing.
use Prim.Native.Nat.{ℕ, suc, ◌+◌, ◌*◌, ◌/◌, ◌%◌, ◌≤◌, ◌<◌}
use mathlib.Core.Path.{◌≡◌, refl, sym, subst}
use mathlib.Core.Bool.{Bool, ◌&&◌}
use mathlib.Core.Logic.{◌≢◌, ⊎_elim}
use native.Mathlib.Nat.{div-add-mod}
use native.Mathlib.Omega.{arith}
use mir.Facts.{and_yes, yes_and}
use lib.Dec.{T, ltb, eqb, ltb→lt, lt→ltb, eqb_refl}
use Rattle.route.specs.declared.places.Place.{Place}
use Rattle.route.specs.Grid.{horiz, vert, Dir, coord, hop, gap, dist}
use Rattle.route.specs.Turns.{Arrival, local, going, Rule}
use Rattle.route.specs.Mesh.{Mesh, Inside, exists, turn, ruled}
use Rattle.route.specs.Numbers.{place_of, channels, rule_of}
use Rattle.route.specs.Paths.{same_place, answer}
use Rattle.route.specs.Channels.{channel, start, way, far, is_channel, in_turn}
use Rattle.route.specs.House.{house_of}
use Rattle.route.proofs.Promises as routing
use Rattle.wormhole.specs.Memory.{Net, depth, net}
use Rattle.wormhole.proofs.Draining.Network.{Network}

-- what only some tables promise of a mesh: numbers of its channels that rise, and an answer to start with
pub record Ranked (m : Mesh) : Type 0 where
  pub rank : ℕ → ℕ
  pub top : ℕ
  pub rises : (i o : ℕ) → T (in_turn m i o) → rank i < rank o
  pub bounded : (i : ℕ) → rank i ≤ top
  pub connected : (n t : Place) → Inside m t → 0 < dist n t → (d : Dir) × T (answer m n local t d)

-- the five rules do, for all sizes and either parity of the first column
pub house_ranked : (k : Rule) (C R f : ℕ) → Ranked (ruled k C R f)
house_ranked k C R f =
    let m = ruled k C R f in
    record {
      rank = house_of k m;
      top = 2 * ((C + 1) * (R + 1));
      rises = routing.house_rises k C R f;
      bounded = λ i. omega (arith, routing.house_bounded k m i);
      connected = routing.connected k C R f;
    }

-- ---- places
-- a place is where it is
same_here : (n : Place) → T (same_place n n)
same_here n =
    let c = coord horiz n in
    let r = coord vert n in
    yes_and (eqb c c) (eqb r r) (eqb_refl c) (eqb_refl r)

module _ (m : Mesh) where
  -- the columns of the mesh
  abbrev C : ℕ
  C = m.columns

  -- and its rows
  abbrev R : ℕ
  R = m.rows

  -- the test whether a place is of the mesh
  abbrev within : Place → Bool
  within n = ltb (coord horiz n) C && ltb (coord vert n) R

  -- what it is to pass
  within_inside : (n : Place) → T (within n) → Inside m n
  within_inside n h =
      let e = and_yes (ltb (coord horiz n) C) (ltb (coord vert n) R) h in
      (ltb→lt (coord horiz n) C e.0, ltb→lt (coord vert n) R e.1)

  -- and what passes
  inside_within : (n : Place) → Inside m n → T (within n)
  inside_within n i =
      yes_and (ltb (coord horiz n) C) (ltb (coord vert n) R) (lt→ltb (coord horiz n) C i.0) (lt→ltb (coord vert n) R i.1)

  -- a node below the count passes
  pub node_inside : (a : ℕ) → a < C * R → T (within (place_of C a))
  node_inside a h = inside_within (place_of C a) (routing.place_inside m a h)

  -- two nodes at one place have one quotient and one remainder, so one number
  pub apart : (a b : ℕ) → a < C * R → b < C * R → a ≢ b → dist (place_of C a) (place_of C b) ≢ 0
  unfolding dist gap
  apart a b _ _ differ z =
      let q : a / C ≡ b / C = omega arith in
      let r : a % C ≡ b % C = omega arith in
      differ (cc (div-add-mod a C, div-add-mod b C))

  -- ---- channels
  -- a channel has a number below the count
  pub below : (k : ℕ) → T (is_channel m k) → k < channels C R
  below k x = (routing.channel_is m k x).0

  -- which passes
  pub far_inside : (k : ℕ) → T (is_channel m k) → T (within (far C k))
  far_inside k x = inside_within (far C k) (routing.end_inside m k x)

  -- ---- the channel that leaves a place of the mesh by a direction
  module _ (n : Place) (d : Dir) (i : Inside m n) where
    -- it leads to the neighbour that way
    far_is : far C (channel C n d) ≡ hop d n
    far_is = rw (routing.channel_start C n d i.0, routing.channel_way C n d) refl

    -- it is a channel if there is a neighbour
    is_one : T (exists m n d) → T (is_channel m (channel C n d))
    unfolding is_channel
    is_one x =
        let k = channel C n d in
        yes_and (ltb k (channels C R)) (exists m (start C k) (way k)) (lt→ltb k (channels C R) (routing.channel_below m n d i))
        (rw (routing.channel_start C n d i.0, routing.channel_way C n d) x)

  -- ---- the answer
  module _ (n : Place) (a : Arrival) (t : Place) (d : Dir) (i : T (within n)) (given : T (answer m n a t d)) where
    -- a direction of the answer has a channel
    pub leads : T (is_channel m (channel C n d))
    leads = is_one n d (within_inside n i) (routing.channel m n a t d given)

    -- which leads one closer
    pub closer : suc (dist (far C (channel C n d)) t) ≡ dist n t
    closer = rw (far_is n d (within_inside n i)) (sym (routing.closer m n a t d given))

    -- and on from there, unless that is the destination
    pub onward : dist (far C (channel C n d)) t ≢ 0 → (e : Dir) × T (answer m (far C (channel C n d)) (going (way (channel C n d))) t e)
    onward =
        rw (far_is n d (within_inside n i), routing.channel_way C n d)
        (λ away. ⊎_elim (λ z. absurd (away z)) (λ w. w) (routing.onward m n a t d given))

  -- a channel, and the one by which the answer leads on from its end, are in turn
  answer_in_turn : (k : ℕ) (t : Place) (d : Dir) → T (is_channel m k) → T (answer m (far C k) (going (way k)) t d)
      → T (in_turn m k (channel C (far C k) d))
  unfolding in_turn
  answer_in_turn k t d x given =
      let n = far C k in
      let a = going (way k) in
      let o = channel C n d in
      let i = routing.end_inside m k x in
      yes_and (is_channel m k && is_channel m o) (same_place n (start C o) && turn m (coord horiz (start C o)) a (way o))
      (yes_and (is_channel m k) (is_channel m o) x (is_one n d i (routing.channel m n a t d given)))
      (subst (λ (s : Place). T (same_place n s && turn m (coord horiz s) a (way o))) (sym (routing.channel_start C n d i.0))
      (rw (routing.channel_way C n d)
      (yes_and (same_place n n) (turn m (coord horiz n) a d) (same_here n) (routing.allowed_turn m n a t d given))))

  -- ---- what the numbers promise
  module _ (G : Ranked m) where
    -- a packet that starts at one node for another has an answer
    pub connected : (a b : ℕ) → a < C * R → b < C * R → a ≢ b → (d : Dir) × T (answer m (place_of C a) local (place_of C b) d)
    connected a b h g differ =
        G.connected (place_of C a) (place_of C b) (routing.place_inside m b g) (omega (arith, apart a b h g differ))

    -- the numbers rise from a channel to each that the answer leads on to
    pub rises : (k : ℕ) (t : Place) (d : Dir) → T (is_channel m k) → T (answer m (far C k) (going (way k)) t d)
        → G.rank k < G.rank (channel C (far C k) d)
    rises k t d x given = G.rises k (channel C (far C k) d) (answer_in_turn k t d x given)

    -- none exceeds the top
    pub bounded : (k : ℕ) → T (is_channel m k) → G.rank k ≤ G.top
    bounded k x = G.bounded k

-- the network that a net is
abbrev pub network : (N : Net) → 1 ≤ N.depth → Ranked N.mesh → Network
network N deep G =
    let m = N.mesh in
    let C = m.columns in
    record {
      numbers = channels C m.rows;
      nodes = C * m.rows;
      depth = N.depth;
      place = place_of C;
      inside = λ n. ltb (coord horiz n) C && ltb (coord vert n) m.rows;
      exists = is_channel m;
      far = far C;
      way = way;
      channel = channel C;
      same = same_place;
      dist = dist;
      answer = answer m;
      rank = G.rank;
      top = G.top;
      deep = deep;
      below = below m;
      node_inside = node_inside m;
      far_inside = far_inside m;
      home = routing.home;
      leads = leads m;
      closer = closer m;
      onward = onward m;
      apart = apart m;
      connected = connected m G;
      rises = rises m G;
      bounded = bounded m G;
    }

-- the network of the mesh that a call names
pub one_deep : 1 ≤ depth
one_deep = omega arith

abbrev pub real : ℕ → ℕ → ℕ → Network
real C R rule = network (net C R rule) one_deep (house_ranked (rule_of rule) C R 0)
