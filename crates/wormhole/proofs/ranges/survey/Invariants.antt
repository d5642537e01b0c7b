-- What is left fits exactly if all do, and of what was seen the lowest empty one is known. Assumes nothing.
use mathlib.Core.Path.{◌≡◌}
use Prim.Native.Nat.{◌<◌}
use lib.ListN.{length, drop}
use Rattle.std.specs.Prelude.{IfSome}
use Rattle.std.specs.Option.{unwrap_or}
use Rattle.route.specs.Coded.{meant}
use Rattle.wormhole.specs.Range.{every, record_fits}
use Rattle.wormhole.proofs.Surveying.{found}
use Rattle.wormhole.proofs.ranges.survey.Given as goal

abbrev pub invariant-loop-i : goal.invariant-loop-i
invariant-loop-i l = record {
  fit : every (record_fits (meant l.m)) l.records ≡ every (record_fits (meant l.m)) (drop l.i l.records);
  lowest : unwrap_or l.empty (length l.records) ≡ found l.records l.i;
  bound : IfSome l.empty (λ j. j < l.i);
}
