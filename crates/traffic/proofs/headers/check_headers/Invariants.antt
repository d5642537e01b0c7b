-- The headers before header i are not refused; each turn asks one more. Assumes nothing.
use Prim.Native.Nat.{◌*◌}
use mathlib.Core.Path.{◌≡◌}
use lib.ListN.{drop}
use Rattle.traffic.specs.Lists.{headers, bad_headers}
use Rattle.traffic.proofs.headers.check_headers.Given as goal

abbrev pub invariant-loop-i : goal.invariant-loop-i
invariant-loop-i l = bad_headers l.m.columns l.m.rows (headers l.bytes) ≡ bad_headers l.m.columns l.m.rows (headers (drop (3 * l.i) l.bytes))
