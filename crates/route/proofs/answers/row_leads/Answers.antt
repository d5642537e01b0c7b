-- Each return by the facts that its tests have taught. Assumes nothing.
use native.Mathlib.Omega.{arith}
use borrow.Author.Rules.{rules}
use Rattle.route.proofs.Outputs.{row_level, row_barred, row_straight, row_turns, row_near, row_no_turn, row_back}
use Rattle.route.proofs.Tests.{no_if, yes_if}
use Rattle.route.proofs.answers.row_leads.Goals as goal

pub returns-then-c-eq0 : goal.returns-then-c-eq0
returns-then-c-eq0 c =
    row_level _ _ _ _ (search rules) c.course_to-c.ensures
    (omega arith)

pub returns-then-not-turn_ok : goal.returns-then-not-turn_ok
returns-then-not-turn_ok c =
    row_barred _ _ _ _ (search rules) c.course_to-c.ensures
    (no_if c.turn_ok.ensures c.if-not-turn_ok.true)

pub returns-then-c-eq0-2 : goal.returns-then-c-eq0-2
returns-then-c-eq0-2 c =
    row_straight _ _ _ _ (search rules) c.course_to-c.ensures
    (yes_if c.turn_ok.ensures c.if-not-turn_ok.false) (omega arith) (omega arith)

pub returns-then-turn_ok : goal.returns-then-turn_ok
returns-then-turn_ok c =
    row_turns _ _ _ _ (search rules) c.course_to-c.ensures
    (yes_if c.turn_ok.ensures c.if-not-turn_ok.false) (omega arith) (omega arith) (yes_if c.turn_ok-2.ensures c.if-turn_ok.true)

pub returns-then-c-eq1 : goal.returns-then-c-eq1
returns-then-c-eq1 c =
    row_near _ _ _ _ (search rules) c.course_to-c.ensures
    (yes_if c.turn_ok.ensures c.if-not-turn_ok.false) (omega arith) (omega arith) (no_if c.turn_ok-2.ensures c.if-turn_ok.false) (omega arith)

pub returns-then-not-turn_ok-2 : goal.returns-then-not-turn_ok-2
returns-then-not-turn_ok-2 c =
    row_no_turn _ _ _ _ (search rules) c.course_to-c.ensures
    (yes_if c.turn_ok.ensures c.if-not-turn_ok.false) (omega arith) (omega arith) (no_if c.turn_ok-2.ensures c.if-turn_ok.false) (omega arith) (no_if c.turn_ok-3.ensures c.if-not-turn_ok-2.true)

pub returns : goal.returns
returns c =
    row_back _ _ _ _ (search rules) c.course_to-c.ensures
    (yes_if c.turn_ok.ensures c.if-not-turn_ok.false) (omega arith) (omega arith) (no_if c.turn_ok-2.ensures c.if-turn_ok.false) (omega arith) (yes_if c.turn_ok-3.ensures c.if-not-turn_ok-2.false) c.turn_ok-4.ensures
