-- Sweeps one after another: a list that was read is reached, and each sweep is one of `drained` fewer. Assumes nothing.
use Prim.Native.Nat.{ℕ, zero, suc, ◌+◌, ◌-◌, ◌≤◌, ◌<◌}
use mathlib.Core.Path.{◌≡◌, refl, sym, ◌∙◌, ap}
use mathlib.Core.List.{List}
use native.Mathlib.Omega.{arith}
use lib.Dec.{eqb}
use lib.ListN.{length, replicate, length-replicate}
use borrow.Author.Tests.{eq-eqb, ne_eqb}
use Rattle.route.specs.declared.meshes.Mesh.{Mesh as Coded}
use Rattle.route.specs.declared.plans.Plan.{Plan}
use Rattle.route.specs.Grid.{pick}
use Rattle.route.specs.Mesh.{Mesh, ruled}
use Rattle.route.specs.Numbers.{rule_of}
use Rattle.route.specs.Coded.{meant}
use Rattle.wormhole.specs.Memory.{none}
use Rattle.traffic.specs.declared.lists.Lead.{Lead}
use Rattle.traffic.specs.Lists.{lead, after_lead, packets}
use Rattle.traffic.specs.Calls.{bad_read, read, filled, offerings}
use Rattle.traffic.proofs.Refusals.{Readable, readable}
use Rattle.traffic.proofs.Offering.{read_offers, read_most}
use Rattle.report.specs.declared.turns.Counted.{Counted}
use Rattle.report.specs.Sweeps.{Tally, sum, sweep, drained}
use Rattle.report.specs.Calls.{reading, drain}
use Rattle.report.specs.Coded.{recs, counts, tally, Reached}
use Rattle.report.proofs.Reaching.{reached_turns, few_made}

-- ---- a list that was read
pub sum_zeros : (n : ℕ) → sum (replicate n 0) ≡ 0
unfolding sum
sum_zeros zero = refl
sum_zeros (suc n) = omega (arith, sum_zeros n)

module _ (bs w : List ℕ) (z : bad_read bs (length w) 64 ≡ 0) where
  abbrev C : ℕ
  C = (lead bs).columns

  abbrev R : ℕ
  R = (lead bs).rows

  abbrev rule : ℕ
  rule = (lead bs).rule

  -- what drains
  abbrev pub source : Tally
  source = record { lent = record { words = (reading bs w).words; records = (reading bs w).records }; made = replicate 64 0 }

  pub readable_so : Readable bs (length w) 64
  readable_so = readable bs (length w) 64 (sym z) refl

  abbrev pub reached : Reached C R rule source
  reached =
      let m = readable_so.sizes.mesh in
      record {
        columns_low = m.columns_low;
        columns_high = m.columns_high;
        rows_low = m.rows_low;
        rows_high = m.rows_high;
        ruled = omega (arith, m.rule_known);
        calls = offerings C (after_lead bs);
        there = sym (read_offers bs w (replicate 64 none) z);
        few = read_most bs w (replicate 64 none) z;
        long = length-replicate {A = ℕ} 64 0;
        low = omega (arith, sum_zeros 64);
      }

  -- as the code has it: the mesh and the plan of the lead
  module _ (m : Coded) (em : meant m ≡ ruled (rule_of rule) C R 0) {l : Lead} (el : l ≡ lead bs) (p : Plan) (ep : p ≡ record { columns = l.columns; rows = l.rows; rule = l.rule })
      (v : List ℕ) (cs : List Counted) (ev : v ≡ replicate (length w) 0) (er : recs cs ≡ filled (packets m.columns (after_lead bs)) 64) (ec : counts cs ≡ replicate 64 0) where
    plan_is : p ≡ record { columns = C; rows = R; rule = rule }
    plan_is = ep ∙ ap (λ (l : Lead). record { columns = l.columns; rows = l.rows; rule = l.rule }) el

    packets_are : recs cs ≡ filled (packets C (after_lead bs)) 64
    packets_are = er ∙ ap (λ (g : Mesh). filled (packets g.columns (after_lead bs)) 64) em

    loaded : tally v cs ≡ source
    unfolding read
    loaded = rw (z, ev, packets_are, ec) refl

    pub begins : Reached p.columns p.rows p.rule (tally v cs)
    begins = rw (loaded, plan_is) reached

    pub ends : {S : Tally} → S ≡ drained p.columns p.rows p.rule 396801 (tally v cs) → S ≡ drain bs w
    ends e = e ∙ rw (loaded, plan_is) refl

-- the mesh of the lead is that of its plan
pub plan_mesh : (bs : List ℕ) {g : Mesh} {l : Lead} (p : Plan) → g ≡ ruled (rule_of (lead bs).rule) (lead bs).columns (lead bs).rows 0 → l ≡ lead bs
    → p ≡ record { columns = l.columns; rows = l.rows; rule = l.rule } → g ≡ ruled (rule_of p.rule) p.columns p.rows 0
plan_mesh bs p eg el ep = eg ∙ rw (ep, el) refl

-- ---- sweeps
module _ (C R rule : ℕ) (S : Tally) (H : Reached C R rule S) (w : List ℕ) (cs : List Counted) (e : tally w cs ≡ sweep C R rule S) where
  -- a sweep reaches on
  pub reached_sweep : Reached C R rule (tally w cs)
  reached_sweep = rw e (reached_turns C R rule S H _)

  pub few_swept : sum (counts cs) ≤ 396800
  few_swept = few_made C R rule (tally w cs) reached_sweep

  module _ (n : ℕ) (l : n < 396801) {a b : ℕ} (ea : a ≡ sum S.made) (eb : b ≡ sum (counts cs)) where
    one_sweep : drained C R rule (396801 - n) S ≡ pick (eqb b a) (tally w cs) (drained C R rule (396801 - (n + 1)) (tally w cs))
    unfolding drained
    one_sweep =
        let m : 396801 - n ≡ suc (396801 - (n + 1)) = omega arith in
        let same : sum (sweep C R rule S).made ≡ b = sym (eb ∙ ap (λ (T : Tally). sum T.made) e) in
        rw (m, same, ← ea, ← e) refl

    module _ {T : Tally} (q : drained C R rule (396801 - n) S ≡ T) where
      -- it is the last if it accepts nothing
      pub settled : b ≡ a → tally w cs ≡ T
      settled h = sym (one_sweep ∙ rw (eq-eqb b a h) refl) ∙ q

      -- and else others follow
      pub unsettled : (b ≡ a → ⊥) → drained C R rule (396801 - (n + 1)) (tally w cs) ≡ T
      unsettled h = sym (one_sweep ∙ rw (ne_eqb b a h) refl) ∙ q

-- no sweep is left
pub run_out : (C R rule : ℕ) (S : Tally) (n : ℕ) → 396801 ≤ n → {T : Tally} → drained C R rule (396801 - n) S ≡ T → S ≡ T
unfolding drained
run_out C R rule S n l q = let z : 396801 - n ≡ 0 = omega (arith, l) in rw z at q
