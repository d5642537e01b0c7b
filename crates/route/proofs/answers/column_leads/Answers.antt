-- Each return by the facts that its tests have taught. Assumes nothing.
use native.Mathlib.Omega.{arith}
use borrow.Author.Rules.{rules}
use Rattle.route.proofs.Outputs.{column_level, column_barred, column_straight, column_turns}
use Rattle.route.proofs.Tests.{no_if, yes_if}
use Rattle.route.proofs.answers.column_leads.Goals as goal

pub returns-then-c-eq0 : goal.returns-then-c-eq0
returns-then-c-eq0 c =
    column_level _ _ _ _ (search rules) c.course_to-c.ensures
    (omega arith)

pub returns-then-not-turn_ok : goal.returns-then-not-turn_ok
returns-then-not-turn_ok c =
    column_barred _ _ _ _ (search rules) c.course_to-c.ensures
    (no_if c.turn_ok.ensures c.if-not-turn_ok.true)

pub returns-then-c-eq0-2 : goal.returns-then-c-eq0-2
returns-then-c-eq0-2 c =
    column_straight _ _ _ _ (search rules) c.course_to-c.ensures
    (yes_if c.turn_ok.ensures c.if-not-turn_ok.false) (omega arith) (omega arith)

pub returns : goal.returns
returns c =
    column_turns _ _ _ _ (search rules) c.course_to-c.ensures
    (yes_if c.turn_ok.ensures c.if-not-turn_ok.false) (omega arith) (omega arith) c.turn_ok-2.ensures
