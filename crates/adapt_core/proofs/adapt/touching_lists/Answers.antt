-- The lists that the cells have.
use Rattle.std.proofs.Common.{◌≡◌, ℕ, Vec, Global, map, ap, ◌∙◌}
use Rattle.adapt_core.specs.Cells.{LeafState}
use Rattle.adapt_core.proofs.TakenLists.{taken}
use Rattle.adapt_core.proofs.adapt.touching_lists.Goals as goal

pub returns : goal.returns
returns c =
    let p = c.args.quiet.problem in
    let is : map (λ (v : Vec ℕ Global). v.items) c.in_ok-lists.lists.items ≡ map (λ (x : LeafState). x.part.neighbours) c.args.quiet.cells =
    c.in_ok-lists.ensures ∙ ap (map (λ (x : LeafState). x.part.neighbours)) c.into_cells.ensures.cells in
    record { touching = taken p c.args.quiet.cells c.in_ok-lists.lists.items c.into_cells.ensures.holds is }
