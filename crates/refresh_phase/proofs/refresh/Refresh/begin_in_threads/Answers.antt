-- The first cells begin the phase of their problem.
use Rattle.std.proofs.Common.{List, sym, ap, ◌∙◌, subst, arith}
use Rattle.refresh_phase.specs.Cells.{LeafState, Setting, problem_of, state_in}
use Rattle.refresh_phase.specs.Problem.{RefreshBegins}
use Rattle.refresh_phase.proofs.Beginning.{some_block, own-parts, setting-is, state-is, begins}
use Rattle.refresh_phase.proofs.refresh.Refresh.begin_in_threads.Goals as goal

pub index-requires : goal.index-requires
index-requires g c =
    let set = c.args.set.now in
    let sized = c.requires.blocks in
    let some = some_block set.grid set.places c.domain.ensures.tiles c.args.blocks.items sized.0 sized.1 sized.2 sized.3 in
    omega (arith, some, c.args.blocks.ok.0)

pub returns-clause-grid : goal.returns-clause-grid
returns-clause-grid g c = ap (λ (s : Setting). s.grid) c.over-phase.ensures ∙ c.domain.ensures.grid

pub returns-clause-blocks : goal.returns-clause-blocks
returns-clause-blocks g c =
    let set = c.args.set.now in
    let sized = c.requires.blocks in
    own-parts set.grid set.places c.domain.ensures.tiles c.args.blocks.items sized.0 sized.1 sized.2 sized.3 c.in_ok-cells.cells.items c.in_ok-cells.ensures

pub returns-clause-sizes : goal.returns-clause-sizes
returns-clause-sizes g c n fields depth sized =
    let set = c.args.set.now in
    c.over-phase.ensures ∙ setting-is set.grid set.places c.domain.ensures.tiles c.args.blocks.items n fields depth sized c.domain.result.now c.index.result.now c.domain.ensures.grid c.index.ensures

pub returns-clause-state : goal.returns-clause-state
returns-clause-state g c n fields depth sized =
    let set = c.args.set.now in
    let cells : List LeafState = c.in_ok-cells.cells.items in
    let is = c.over-phase.ensures ∙ setting-is set.grid set.places c.domain.ensures.tiles c.args.blocks.items n fields depth sized c.domain.result.now c.index.result.now c.domain.ensures.grid c.index.ensures in
    ap (λ (s : Setting). state_in (problem_of s cells)) is ∙ state-is set.grid set.places c.domain.ensures.tiles c.args.blocks.items n fields depth sized cells c.in_ok-cells.ensures

pub returns-clause-begins : goal.returns-clause-begins
returns-clause-begins g c =
    let set = c.args.set.now in
    let cells : List LeafState = c.in_ok-cells.cells.items in
    let size = c.requires.blocks in
    let is = c.over-phase.ensures ∙ setting-is set.grid set.places c.domain.ensures.tiles c.args.blocks.items size.0 size.1 size.2 size.3 c.domain.result.now c.index.result.now c.domain.ensures.grid c.index.ensures in
    subst (λ (s : Setting). RefreshBegins (problem_of s cells) cells) (sym is) (begins set.grid set.places c.domain.ensures.tiles c.args.blocks.items size.0 size.1 size.2 size.3 cells c.in_ok-cells.ensures c.requires.few)
