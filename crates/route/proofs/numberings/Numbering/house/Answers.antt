-- The frame's number is the house number of its place. Assumes nothing.
use Rattle.route.proofs.House.{in_house}
use Rattle.route.proofs.numberings.Numbering.house.Goals as goal

pub returns : goal.returns
returns c = in_house _ c.args.self.mesh _ _ c.frame_of.result c.frame_of.ensures c.number.ensures
