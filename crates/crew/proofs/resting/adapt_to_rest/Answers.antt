-- Each leaf has a cell, and the weight at the start is small.
use Rattle.std.proofs.Common.{◌≡◌, length, map, ◌∙◌, le_trans, arith}
use Rattle.std.proofs.lemmas.List.{length-map}
use Rattle.adapt_core.specs.Cells.{LeafPart, LeafState}
use Rattle.adapt_core.specs.Problem.{mesh_of, problem_of}
use Rattle.crew.proofs.resting.adapt_to_rest.Goals as goal

pub returns-clause-counts : goal.returns-clause-counts
returns-clause-counts g c =
    let cells = c.args.cells.items in
    let p = problem_of c.args.phase cells in
    let count : length (mesh_of p) ≡ length cells =
    length-map (map (λ (cell : LeafState). cell.part) cells) (λ (part : LeafPart). part.place) ∙ length-map cells (λ (cell : LeafState). cell.part) in
    record {
      least = omega (arith, count, c.in_ok-quiet.ensures.handles_each);
      most = le_trans c.in_ok-quiet.ensures.bounded (c.every_run_agrees.ensures.start_weight p);
    }
