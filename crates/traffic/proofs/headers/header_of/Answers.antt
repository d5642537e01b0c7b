-- The part after the lead is all that comes after two bytes, and header i stands at byte 3 * i of it. Assumes nothing.
use native.Mathlib.Omega.{arith}
use lib.ListN.{drop, length-drop}
use Rattle.traffic.proofs.Heads.{rest, length_headers, header_made}
use Rattle.traffic.proofs.headers.header_of.Goals as goal

pub overflow_mul-i : goal.overflow_mul-i
overflow_mul-i c = let l = c.args.list.now in omega (arith, length_headers (drop 2 l), length-drop 2 l)

pub header_at-requires : goal.header_at-requires
header_at-requires c = let l = c.args.list.now in
    rw (rest l 2) (omega (arith, length_headers (drop 2 l)))

pub returns : goal.returns
returns c = let x = c.args in
    header_made (drop 2 x.list.now) x.i (omega (arith, length_headers (drop 2 x.list.now))) (rw (rest x.list.now 2) at c.header_at.ensures)
