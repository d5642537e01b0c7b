-- A turn within a sweep: what it tries can be tried, on memory that was reached, and leaves the tally of one turn more. Assumes nothing.
use Prim.Native.Nat.{ℕ, suc, ◌+◌, ◌-◌, ◌*◌, ◌^◌, ◌≤◌, ◌<◌}
use mathlib.Core.Path.{◌≡◌, refl, sym, ◌∙◌, ap, subst}
use mathlib.Core.Bool.{Bool, true, false, ◌&&◌}
use mathlib.Core.List.{List}
use native.Mathlib.Omega.{arith}
use lib.Dec.{ltb}
use lib.ListN.{length, set, get_or}
use borrow.Author.Tests.{ltb-true, le-ltb}
use Rattle.route.specs.declared.meshes.Mesh.{Mesh as Coded}
use Rattle.route.specs.Grid.{pick}
use Rattle.route.specs.Mesh.{Mesh, ruled}
use Rattle.route.specs.Numbers.{channels, rule_of}
use Rattle.route.specs.Coded.{meant}
use Rattle.wormhole.specs.Memory.{sections, owner_of, none}
use Rattle.wormhole.specs.Steps.{known}
use Rattle.wormhole.specs.Calls.{allowed}
use Rattle.wormhole.specs.Drains.{Move}
use Rattle.wormhole.specs.Coded.{Fitting, Memory, built, laid}
use Rattle.report.specs.declared.turns.Counted.{Counted}
use Rattle.report.specs.declared.turns.Turn.{Turn}
use Rattle.report.specs.Sweeps.{Tally, own_turn, owner_turn, turn, tried, turns, sweep}
use Rattle.report.specs.Coded.{tally, Makes, accepted, done, Reached}
use Rattle.report.proofs.Counting.{length_recs, recs_at, counts_at}
use Rattle.report.proofs.Reaching.{long_words, many, owner_few, memory_reached, record_reached, few_each, reached_turns}
use Rattle.report.proofs.Trying.{no_turn, one_turn}
use Rattle.report.proofs.Turning.{accepted_so, done_so, nobody}

-- ---- the packet of a turn
turned : (n : ℕ) (w : List ℕ) (t : ℕ) → owner_of (sections n w) (t - 384) ≤ 64 → (b : Bool) → (b ≡ true → t < 384)
    → (pick b (own_turn t) (owner_turn n w (t - 384))).packet < 64
turned n w t o true f = omega (arith, f refl)
turned n w t o false f = omega (arith, o)

-- ---- in a sweep
module _ (C R rule : ℕ) (w₀ : List ℕ) (cs₀ : List Counted) (H : Reached C R rule (tally w₀ cs₀)) (t : ℕ) (w : List ℕ) (cs : List Counted)
    (e : tally w cs ≡ turns C R rule (tally w₀ cs₀) t) (m : Coded) (em : meant m ≡ ruled (rule_of rule) C R 0) (n : ℕ) (n_is : n ≡ channels m.columns m.rows) where
  hn : n ≡ channels C R
  hn = n_is ∙ ap (λ (g : Mesh). channels g.columns g.rows) em

  here : Reached C R rule (tally w cs)
  here = rw e (reached_turns C R rule (tally w₀ cs₀) H t)

  pub turn_long : length w ≡ n + n + n
  turn_long = rw hn (long_words C R rule (tally w cs) here)

  few_owners : owner_of (sections n w) (t - 384) ≤ 64
  few_owners = rw hn (owner_few C R rule (tally w cs) here (t - 384))

  pub turn_owner : owner_of (sections n w) (t - 384) < 257
  turn_owner = omega (arith, few_owners)

  pub turn_memory : Memory m w
  turn_memory = memory_reached C R rule (tally w cs) here m em

  all_there : length cs ≡ 64
  all_there = sym (length_recs cs) ∙ many C R rule (tally w cs) here

  -- the tally of one turn more
  next : {T : Tally} → T ≡ tried C R rule (tally w cs) (turn 64 n w t) → T ≡ turns C R rule (tally w₀ cs₀) (t + 1)
  unfolding turns
  next q =
      let s : t + 1 ≡ suc t = omega arith in
      let step : Tally → Tally = λ S. tried C R rule S (turn (length S.lent.records) (channels C R) S.lent.words t) in
      let there : turn 64 n w t ≡ turn (length (tally w cs).lent.records) (channels C R) w t = rw (many C R rule (tally w cs) here, hn) refl in
      q ∙ (ap (tried C R rule (tally w cs)) there ∙ (ap step e ∙ rw s refl))

  -- a turn that nobody could make
  pub turn_free : (384 ≤ t) × (owner_of (sections n w) (t - 384) ≡ 0) → tally w cs ≡ turns C R rule (tally w₀ cs₀) (t + 1)
  turn_free (late, free) =
      let ec : m.columns ≡ C = ap (λ (x : Mesh). x.columns) em in
      let er : m.rows ≡ R = ap (λ (x : Mesh). x.rows) em in
      let k = t - 384 in
      let follow : turn 64 n w t ≡ record { packet = owner_of (sections n w) k - 1; kind = 1; channel = k; direction = 0 } = rw (le-ltb t 384 late) refl in
      let none : Counted = record { packet = none; moves = 0 } in
      next (rw follow (no_turn C R rule w cs here (record { packet = owner_of (sections n w) k - 1; kind = 1; channel = k; direction = 0 }) (omega (arith, free, all_there)) none m em
      (sym (nobody (built m) (laid m w) (owner_of (sections n w) k - 1) k 0 (get_or cs (owner_of (sections n w) k - 1) none).packet (rw (ec, er, ← hn) free))) refl))

  module _ (v : Turn) (ev : Makes v (turn 64 n w t)) where
    abbrev to : Move
    to = turn 64 n w t

    pub turn_packet : v.packet < 64
    turn_packet = rw ev.packet (turned n w t few_owners (ltb t 384) (λ b. ltb-true t 384 b))

    low : v.packet < length cs
    low = omega (arith, turn_packet, all_there)

    module _ (d : Counted) where
      pub turn_count : (get_or cs v.packet d).moves + 1 < 2 ^ 32
      turn_count = let a = few_each C R rule (tally w cs) here v.packet in let b = counts_at cs v.packet d low in omega (arith, a, b)

    module _ (d : Counted) where
      pub turn_fitting : Fitting m (get_or cs v.packet d).packet
      turn_fitting = subst (Fitting m) (recs_at cs v.packet d low) (record_reached C R rule (tally w cs) here m em v.packet)

      module _ {b : Bool} (eb : b ≡ accepted (built m) (laid m w) v.packet (get_or cs v.packet d).packet v.step) where
        asked : b ≡ known (meant m) to.kind to.channel to.direction && allowed (built m) (laid m w) to.packet (get_or cs to.packet d).packet to.kind to.channel to.direction
        asked = eb ∙ accepted_so (built m) (laid m w) v to ev (get_or cs v.packet d).packet ∙ rw ev.packet refl

        pub turn_kept : b ≡ false → tally w cs ≡ turns C R rule (tally w₀ cs₀) (t + 1)
        turn_kept h = next (no_turn C R rule w cs here to (rw (← ev.packet) low) d m em asked h)

        pub turn_made : b ≡ true → (w' : List ℕ) (q : Counted) → record { words = laid m w'; counted = q } ≡ done (built m) (laid m w) v (get_or cs v.packet d)
            → tally w' (set cs v.packet q) ≡ turns C R rule (tally w₀ cs₀) (t + 1)
        turn_made h w' q a =
            rw ev.packet (next (one_turn C R rule w cs here to (rw (← ev.packet) low) d m em asked h w' q (a ∙ done_so (built m) (laid m w) v to ev (get_or cs v.packet d) ∙ rw ev.packet refl)))

  -- ---- its end
  pub sweep_done : t ≤ 384 + n → 384 + n ≤ t → tally w cs ≡ sweep C R rule (tally w₀ cs₀)
  sweep_done l g =
      let all : t ≡ 6 * length (tally w₀ cs₀).lent.records + channels C R = omega (arith, l, g, hn, many C R rule (tally w₀ cs₀) H) in
      rw (← all) e
