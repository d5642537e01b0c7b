-- At the destination at once; else the two axes make up the set. Assumes nothing.
use mathlib.Core.Path.{refl}
use borrow.Author.Rules.{rules}
use Rattle.route.specs.Route.{outputs}
use Rattle.route.proofs.Tests.{no_if, yes_if}
use Rattle.route.proofs.Outputs.{set_is}
use Rattle.route.proofs.answers.outputs_at.Goals as goal

pub returns-then-eq : goal.returns-then-eq
unfolding outputs
returns-then-eq c = rw (yes_if c.eq.ensures c.if-eq.true) refl

pub returns : goal.returns
returns c =
    rw (c.value_if-along_column.ensures.value, c.value_if-along_row.ensures.value, c.column_leads.ensures, c.row_leads.ensures)
    (set_is _ _ _ _ (search rules) c.course_to-c.ensures (no_if c.eq.ensures c.if-eq.false))
