-- The first cells begin the phase of their problem.
use Rattle.std.proofs.Common.{subst, sym}
use Rattle.block_index.specs.Places.{Grid}
use Rattle.adapt_core.specs.Problem.{problem_of, AdaptBegins}
use Rattle.adapt_core.proofs.PartsOfLeaves.{first_mesh, first_wishes, first_begins}
use Rattle.adapt_core.proofs.adapt.Adapt.begin_in_threads.Goals as goal

pub returns-clause-places : goal.returns-clause-places
returns-clause-places g c =
    let set = c.args.set.now in
    first_mesh set.grid set.places c.args.wishes.now c.in_ok-cells.cells.items c.domain-domain.ensures.tiles c.requires.one_each c.in_ok-cells.ensures

pub returns-clause-wishes : goal.returns-clause-wishes
returns-clause-wishes g c =
    let set = c.args.set.now in
    first_wishes set.grid set.places c.args.wishes.now c.in_ok-cells.cells.items c.domain-domain.ensures.tiles c.requires.one_each c.in_ok-cells.ensures

pub returns-clause-begins : goal.returns-clause-begins
returns-clause-begins g c =
    let set = c.args.set.now in
    let cells = c.in_ok-cells.cells.items in
    subst (λ (grid : Grid). AdaptBegins (problem_of grid cells) cells) (sym c.domain-domain.ensures.grid) (first_begins set.grid set.places c.args.wishes.now cells c.domain-domain.ensures.tiles c.requires.one_each c.in_ok-cells.ensures)
