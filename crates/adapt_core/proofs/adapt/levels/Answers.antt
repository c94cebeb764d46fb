-- The levels of the cells at rest are the least.
use Rattle.std.proofs.Common.{◌≡◌, List, map, rules}
use Rattle.leaf_set.specs.LevelRules.{IsLeast}
use Rattle.adapt_core.specs.Cells.{LeafState}
use Rattle.adapt_core.specs.Problem.{mesh_of, wishes_of}
use Rattle.adapt_core.proofs.Rest.{levels-IsLeast}
use Rattle.adapt_core.proofs.adapt.levels.Goals as goal

pub returns : goal.returns
returns c =
    let p = c.args.quiet.now.problem in
    let cells : List LeafState = c.args.quiet.now.cells in
    let is : c.in_ok-collect.field-0.items ≡ map (λ (x : LeafState). x.level) cells = search rules in
    let least : IsLeast p.grid (mesh_of p) (wishes_of p) (map (λ (x : LeafState). x.level) cells) = levels-IsLeast p cells c.cells.ensures.holds in
    record { least = rw is least }
