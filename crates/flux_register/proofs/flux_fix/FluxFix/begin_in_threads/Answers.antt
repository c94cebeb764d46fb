-- The first cells begin the phase of their problem.
use Rattle.std.proofs.Common.{List, sym, ap, ◌∙◌, subst, arith}
use Rattle.flux_register.specs.Cells.{FluxState, Setting, problem_of, state_in}
use Rattle.flux_register.specs.Made.{IsMadeBy}
use Rattle.flux_register.specs.Problem.{FluxFixBegins}
use Rattle.flux_register.proofs.Beginning.{some_block, own-parts, setting-is, state-is, made-by, begins}
use Rattle.flux_register.proofs.flux_fix.FluxFix.begin_in_threads.Goals as goal

pub index-requires : goal.index-requires
index-requires g c =
    let set = c.args.set.now in
    let made = c.requires.made in
    let some = some_block set.grid set.places c.domain.ensures.tiles c.args.blocks.items made.0 made.1 made.2 made.4.sizes in
    omega (arith, some, c.args.blocks.ok.0)

pub cells_in_threads-requires-clause-blocks : goal.cells_in_threads-requires-clause-blocks
cells_in_threads-requires-clause-blocks g c κs within = let made = c.requires.made in (made.0, made.1, made.2, made.4.sizes)

pub cells_in_threads-requires-clause-one_each : goal.cells_in_threads-requires-clause-one_each
cells_in_threads-requires-clause-one_each g c κs within = c.requires.made.4.one_each

pub returns-clause-grid : goal.returns-clause-grid
returns-clause-grid g c = ap (λ (s : Setting). s.grid) c.over-phase.ensures ∙ c.domain.ensures.grid

pub returns-clause-sizes : goal.returns-clause-sizes
returns-clause-sizes g c n fields depth sized =
    let set = c.args.set.now in
    c.over-phase.ensures ∙ setting-is set.grid set.places c.domain.ensures.tiles c.args.blocks.items n fields depth sized c.domain.result.now c.index.result.now c.domain.ensures.grid c.index.ensures

pub returns-clause-state : goal.returns-clause-state
returns-clause-state g c n fields depth sized =
    let set = c.args.set.now in
    let cells : List FluxState = c.in_ok-cells.cells.items in
    let is = c.over-phase.ensures ∙ setting-is set.grid set.places c.domain.ensures.tiles c.args.blocks.items n fields depth sized c.domain.result.now c.index.result.now c.domain.ensures.grid c.index.ensures in
    ap (λ (s : Setting). state_in (problem_of s cells)) is ∙ state-is set.grid set.places c.domain.ensures.tiles c.args.blocks.items n fields depth sized c.args.faces.items cells c.in_ok-cells.ensures

pub returns-clause-parts : goal.returns-clause-parts
returns-clause-parts g c =
    let set = c.args.set.now in
    let made = c.requires.made in
    own-parts set.grid set.places c.domain.ensures.tiles c.args.blocks.items made.0 made.1 made.2 made.4.sizes c.args.faces.items c.in_ok-cells.cells.items c.in_ok-cells.ensures

pub returns-clause-made : goal.returns-clause-made
returns-clause-made g c n fields depth fluxes advanced =
    let set = c.args.set.now in
    let cells : List FluxState = c.in_ok-cells.cells.items in
    let is = c.over-phase.ensures ∙ setting-is set.grid set.places c.domain.ensures.tiles c.args.blocks.items n fields depth advanced.sizes c.domain.result.now c.index.result.now c.domain.ensures.grid c.index.ensures in
    subst (λ (s : Setting). IsMadeBy (problem_of s cells) fluxes) (sym is) (made-by set.grid set.places c.domain.ensures.tiles c.args.blocks.items n fields depth advanced.sizes c.args.faces.items cells c.in_ok-cells.ensures fluxes advanced)

pub returns-clause-begins : goal.returns-clause-begins
returns-clause-begins g c =
    let set = c.args.set.now in
    let cells : List FluxState = c.in_ok-cells.cells.items in
    let made = c.requires.made in
    let advanced = made.4 in
    let is = c.over-phase.ensures ∙ setting-is set.grid set.places c.domain.ensures.tiles c.args.blocks.items made.0 made.1 made.2 advanced.sizes c.domain.result.now c.index.result.now c.domain.ensures.grid c.index.ensures in
    subst (λ (s : Setting). FluxFixBegins (problem_of s cells) cells) (sym is) (begins set.grid set.places c.domain.ensures.tiles c.args.blocks.items made.0 made.1 made.2 advanced.sizes c.args.faces.items cells c.in_ok-cells.ensures made.3 advanced)
