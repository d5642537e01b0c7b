-- M1 to M14 hold: antt computes the search over runs of channels. Assumes nothing.
use lib.Dec.{T}
use Rattle.route.specs.Grid.{gap, dist}
use Rattle.route.specs.Mesh.{turn}
use Rattle.route.specs.Paths.{some_run, answer}
use Rattle.route.specs.Route.{outputs, routed}
use Rattle.route.specs.Marks.{marks, all_hold}

pub marked : T (all_hold marks)
unfolding routed outputs answer some_run turn dist gap
marked = tt
