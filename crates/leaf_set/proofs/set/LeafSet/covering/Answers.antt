-- What is left of the proof of this function.
use Rattle.std.proofs.Common.{refl, subst}
use Rattle.leaf_set.proofs.Ancestors.{HasSearched, HasSearched-none, HasSearched-covers, HasSearched-parent, HasSearched-ended}
use Rattle.leaf_set.proofs.set.LeafSet.covering.Goals as goal

pub loop-over-init : goal.loop-over-init
loop-over-init c = HasSearched-none c.args.self.now.places c.args.at

pub returns-in-Some-position-clause-found : goal.returns-in-Some-position-clause-found
returns-in-Some-position-clause-found c =
    let places = c.args.self.now.places in
    let place = c.in-Some.place in
    (place, c.in-Some-position.ensures.found, HasSearched-covers places c.args.at place (subst (HasSearched places c.args.at) c.in-Some.is c.loop-over.invariant))

pub loop-over-preserved : goal.loop-over-preserved
loop-over-preserved c =
    let places = c.args.self.now.places in
    HasSearched-parent places c.args.at c.in-Some.place c.parent-over.result (subst (HasSearched places c.args.at) c.in-Some.is c.loop-over.invariant)
    (c.in_default-position.ensures.none.0 refl)
    c.parent-over.ensures.root.0
    c.parent-over.ensures.root.1
    c.parent-over.ensures.value

pub returns-clause-none : goal.returns-clause-none
returns-clause-none c none = HasSearched-ended c.args.self.now.places c.args.at c.loop-over.over c.loop-over.invariant c.in_default.is
