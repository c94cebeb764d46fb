-- The blocks on the next mesh.
use Rattle.std.proofs.Common.{ap, ◌∙◌}
use Rattle.leaf_set.specs.Tiling.{Tiling}
use Rattle.adapt_core.specs.Problem.{wishes_of}
use Rattle.run_core.proofs.Steps.{Adapts-blocks, AreBlocksOfSet-run}
use Rattle.run_core.proofs.phase.next_state.Goals as goal

pub apply-requires-clause-blocks : goal.apply-requires-clause-blocks
apply-requires-clause-blocks c =
    AreBlocksOfSet-run c.args.params.now c.args.set.now c.args.blocks.items c.requires.grid c.requires.blocks c.requires.few

pub returns-clause-adapts : goal.returns-clause-adapts
returns-clause-adapts c =
    let are = c.requires.blocks in
    Adapts-blocks c.args.params.now c.args.set.now c.args.phase (wishes_of c.args.quiet.problem) c.in_ok-next.next.places c.args.blocks.items c.in_ok-blocks.blocks.items
    c.requires.grid are c.requires.wishes c.in_ok-next.ensures.decides
    (λ wishes levels solves is. c.in_ok-blocks.ensures.adapted _ _ _ wishes levels are solves (ap (λ (t : Tiling). t.places) c.keep_lists.ensures.same ∙ is))

pub returns-clause-blocks : goal.returns-clause-blocks
returns-clause-blocks c = c.in_ok-blocks.ensures.blocks _ _ _ c.requires.blocks
