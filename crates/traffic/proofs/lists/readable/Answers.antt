-- The mesh is that of the lead's plan. Assumes nothing.
use mathlib.Core.Path.{◌∙◌, ap}
use Rattle.route.specs.declared.plans.Plan.{Plan}
use Rattle.route.specs.Mesh.{ruled}
use Rattle.route.specs.Numbers.{rule_of}
use Rattle.traffic.specs.declared.lists.Lead.{Lead}
use Rattle.traffic.proofs.lists.readable.Goals as goal

pub returns-clause-mesh : goal.returns-clause-mesh
returns-clause-mesh c =
    c.in_ok-m.ensures.mesh
    ∙ (ap (λ (p : Plan). ruled (rule_of p.rule) p.columns p.rows 0) c.plan.ensures ∙ ap (λ (l : Lead). ruled (rule_of l.rule) l.columns l.rows 0) c.lead_of-lead.ensures)
