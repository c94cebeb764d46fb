-- A shape more, of the field or not.
use Rattle.std.proofs.Common.{ℕ, ◌*◌, ◌≤◌, ◌∙◌, [], ◌∷◌, List, length, slice_index, sum_by, ap, sym, arith}
use Rattle.std.proofs.lemmas.Grind.{common_steps}
use Rattle.std.proofs.lemmas.List.{take_all}
use Rattle.params_check.specs.declared.shape.Form.TheVariants.{Cuboid}
use Rattle.params_check.specs.declared.shape.Shape.{Shape}
use Rattle.params_check.proofs.ShapeTotals.{shape_total, shapes_more, shapes_stay, initial_total-by_shapes}
use Rattle.params_check.proofs.totals.initial_total.Goals as goal
use Rattle.params_check.proofs.totals.initial_total.Goals.{then-shape-field, else-shape-field}

-- the numbers of root cells along the axes
edges_of : List ℕ → ℕ → List ℕ
edges_of trees block = slice_index trees 0 * block ∷ slice_index trees 1 * block ∷ slice_index trees 2 * block ∷ []

-- what stands past the last shape
past_last : Shape
past_last = record { field = 0; amount = 0; form = Cuboid [] [] }

pub returns : goal.returns
unfolding edges_of
returns c =
    let past : length c.args.shapes.now ≤ c.loop-shape.shape-index = omega arith in
    record {
      total =
          c.loop-shape.invariant.total
          ∙ ap (sum_by (shape_total (edges_of c.array.result c.args.block) c.args.field)) (take_all c.loop-shape.shape-index c.args.shapes.now past)
          ∙ ap (λ trees. sum_by (shape_total (edges_of trees c.args.block) c.args.field) c.args.shapes.now) c.array.ensures.trees
          ∙ sym (initial_total-by_shapes c.args.domain.now c.args.block c.args.shapes.now c.args.field);
    }

pub loop-shape-preserved : goal.loop-shape-preserved
unfolding edges_of past_last
loop-shape-preserved c =
    let edges : List ℕ = edges_of c.array.result c.args.block in
    elim c.if-shape-field.branch [
      | then-shape-field w ↦ record {
        total =
            w.total-is
            ∙ shapes_more edges c.args.field c.args.shapes.now c.loop-shape.shape-index past_last c.loop-shape.total w.from.result
            w.from-then-shape-field.result c.loop-shape-test.true c.loop-shape.invariant.total w.if-shape-field.true w.from.ensures
            (w.from-then-shape-field.ensures ∙ w.cell_count.ensures.count);
        few = grind (arith, common_steps);
      }
      | else-shape-field w ↦ record {
        total =
            w.total-is
            ∙ shapes_stay edges c.args.field c.args.shapes.now c.loop-shape.shape-index past_last c.loop-shape.total
            c.loop-shape-test.true c.loop-shape.invariant.total w.if-shape-field.false;
        few = omega arith;
      }
    ]
