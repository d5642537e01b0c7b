-- Each turn is one of `turns` more, on memory that is reached. Assumes nothing.
use Rattle.std.proofs.Common.{refl}
use Rattle.std.proofs.lemmas.List.{set-get_or}
use Rattle.report.specs.Sweeps.{turns}
use Rattle.report.proofs.Sweeping.{turn_long, turn_owner, turn_packet, turn_fitting, turn_memory, turn_count, turn_free, turn_kept, turn_made, sweep_done}
use Rattle.report.proofs.drains.sweep.Goals as goal
use Rattle.report.proofs.drains.sweep.Goals.{then-is_accepted, else-is_accepted}

pub loop-t-init : goal.loop-t-init
unfolding turns
loop-t-init c = refl

pub invariant_of-turn_at : goal.invariant_of-turn_at
invariant_of-turn_at c = search turn_long

pub turn_at-requires-clause-owner_bound : goal.turn_at-requires-clause-owner_bound
turn_at-requires-clause-owner_bound c = search turn_owner

pub loop-t-preserved-in_default : goal.loop-t-preserved-in_default
loop-t-preserved-in_default c = search (turn_free, c.in_default.ensures.free)

pub bounds-all-v : goal.bounds-all-v
bounds-all-v c = search (turn_packet, c.in-Some.ensures.made)

pub is_accepted-requires-clause-fitting : goal.is_accepted-requires-clause-fitting
is_accepted-requires-clause-fitting c = search (turn_fitting, c.in-Some.ensures.made)

pub is_accepted-requires-clause-memory : goal.is_accepted-requires-clause-memory
is_accepted-requires-clause-memory c = search turn_memory

pub make-requires-clause-fitting : goal.make-requires-clause-fitting
make-requires-clause-fitting c = search (turn_fitting, c.in-Some.ensures.made)

pub make-requires-clause-memory : goal.make-requires-clause-memory
make-requires-clause-memory c = search turn_memory

pub make-requires-clause-moves_bound : goal.make-requires-clause-moves_bound
make-requires-clause-moves_bound c = search (turn_count, c.in-Some.ensures.made)

pub loop-t-preserved : goal.loop-t-preserved
loop-t-preserved c =
    elim c.if-is_accepted.branch [
      | then-is_accepted w ↦ rw (w.words-is, w.all-is) (search (turn_made, c.in-Some.ensures.made))
      | else-is_accepted w ↦ rw (w.words-is, w.all-is) (simp set-get_or (search (turn_kept, c.in-Some.ensures.made)))
    ]

pub returns : goal.returns
returns c = search sweep_done
