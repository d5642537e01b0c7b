-- By whether there is such a header; one that is not refused has flits that fit a byte. Assumes nothing.
use Prim.Native.Nat.{◌≤◌}
use mathlib.Core.Path.{sym, ◌∙◌}
use native.Mathlib.Omega.{arith}
use Rattle.wormhole.proofs.Whole.{none_is}
use Rattle.traffic.specs.Lists.{headers}
use Rattle.traffic.proofs.Heads.{length_headers, no_packet, low_flits, packet_made}
use Rattle.traffic.proofs.headers.packet_of.Goals as goal

pub returns-then-bytes-i : goal.returns-then-bytes-i
returns-then-bytes-i c = let x = c.args in
    none_is c.default.result c.default.ensures ∙ sym (no_packet x.m.columns (headers x.bytes.now) x.i (omega (arith, length_headers x.bytes.now)))

pub overflow_cast-h : goal.overflow_cast-h
overflow_cast-h c = let f : c.header_at-h.result.flits ≤ 200 = search low_flits in omega arith

pub returns : goal.returns
returns c = search packet_made
