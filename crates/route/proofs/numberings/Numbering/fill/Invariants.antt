-- What is filled are the numbers of the channels so far, and the rest is as it was. Assumes nothing.
use mathlib.Core.Path.{◌≡◌}
use mathlib.Core.List.{◌++◌}
use lib.ListN.{drop}
use Rattle.route.specs.Numbers.{published}
use Rattle.route.specs.House.{house_of, upto}
use Rattle.route.specs.Coded.{meant}
use Rattle.route.proofs.numberings.Numbering.fill.Given as goal

abbrev pub invariant-loop-number : goal.invariant-loop-number
invariant-loop-number l = l.list ≡ upto (house_of (published l.self.rule) (meant l.self.mesh)) l.number ++ drop l.number l.initial.list
