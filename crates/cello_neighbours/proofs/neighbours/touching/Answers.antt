-- What is left of the proof of this function.
use Rattle.std.proofs.Common.{sym, subst}
use Rattle.leaf_set.specs.TouchingLeaves.{AreTouching}
use Rattle.cello_neighbours.proofs.Gatherings.{AreTouching-below}
use Rattle.cello_neighbours.proofs.neighbours.touching.Goals as goal

pub returns-in-Some-clause-below : goal.returns-in-Some-clause-below
returns-in-Some-clause-below c =
    AreTouching-below c.args.set.now.grid c.args.set.now.places c.args.b c.of.result c.requires.leaf
    (subst (AreTouching c.args.set.now.grid c.args.set.now.places c.args.b) (sym c.of.ensures) c.in-Some.ensures.touching)

pub returns-in-None-clause-below : goal.returns-in-None-clause-below
returns-in-None-clause-below c =
    AreTouching-below c.args.set.now.grid c.args.set.now.places c.args.b c.looked_up.result c.requires.leaf c.looked_up.ensures.touching
