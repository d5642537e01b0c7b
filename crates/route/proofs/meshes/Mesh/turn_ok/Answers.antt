-- Straight on and back by the directions, a turn by its bit in the word. Assumes nothing.
use Prim.Native.Nat.{◌+◌, ◌%◌}
use mathlib.Core.Path.{refl, ◌∙◌}
use native.Mathlib.Nat.{add-zero}
use native.Mathlib.Omega.{arith}
use Rattle.route.specs.Turns.{parity}
use Rattle.route.specs.Mesh.{turn}
use Rattle.route.specs.Numbers.{facing}
use Rattle.route.specs.Coded.{turned, bits}
use Rattle.route.proofs.Codes.{straight_or_back, by_turn, bit_of}
use Rattle.route.proofs.Tests.{no_if, yes_if}
use Rattle.route.proofs.meshes.Mesh.turn_ok.Goals as goal

pub returns-in_default : goal.returns-in_default
unfolding turn
returns-in_default c = rw c.in_default.is refl

pub returns-then-not-bends : goal.returns-then-not-bends
unfolding turn
returns-then-not-bends c =
    let x = c.args in
    rw c.in-Going.is (c.eq.ensures ∙ straight_or_back (bits x.self.table (parity (x.column.0 + 0))) c.in-Going.from x.direction (no_if c.bends.ensures c.if-not-bends.true))

pub returns : goal.returns
unfolding turn
returns c =
    let x = c.args in
    let from = facing c.in-Going.from in
    let to = facing x.direction in
    rw c.in-Going.is
    (c.bit_at.ensures
    ∙ rw (c.turn_bit.ensures.value, add-zero) (bit_of x.self.table (x.column.0 % 2) (turned from to) (omega arith)
    ∙ by_turn (bits x.self.table (parity x.column.0)) from to (yes_if c.bends.ensures c.if-not-bends.false)))
