-- The mesh is the one of the plan's own rule. Assumes nothing.
use Rattle.route.proofs.Listed.{of_rule}
use Rattle.route.proofs.plans.Plan.numbering.Goals as goal

pub returns-clause-mesh : goal.returns-clause-mesh
returns-clause-mesh c = of_rule _ _ c.mesh_of-mesh.ensures c.in_ok-rule.ensures.rule
