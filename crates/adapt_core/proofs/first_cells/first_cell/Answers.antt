-- A cell made of the leaf's own data is its first cell.
use Rattle.std.proofs.Common.{◌≡◌, refl, sym, ◌∙◌, subst, arith}
use Rattle.std.proofs.lemmas.Option.{slice_get-get_or}
use Rattle.block_index.specs.declared.wish.Wish.TheVariants.{Coarsen}
use Rattle.leaf_set.specs.TouchingLeaves.{AreTouching}
use Rattle.adapt_core.specs.Problem.{siblings_among}
use Rattle.adapt_core.specs.Lemmas.FirstCells.{IsFirstCell}
use Rattle.adapt_core.proofs.first_cells.first_cell.Goals as goal

pub returns : goal.returns
returns c =
    let set = c.args.set.now in
    let wishes = c.args.wishes.now in
    let openings = c.args.openings.now in
    let listed = c.in_ok-neighbours.ensures.items ∙ c.items.ensures.items in
    subst (IsFirstCell set.grid set.places wishes openings c.args.at) (sym c.unopened.ensures) (record {
      fresh = refl;
      part = record {
        is = record {
          index = refl;
          touching = subst (AreTouching set.grid set.places c.args.at) (sym listed) c.touching.ensures.touching;
          siblings = subst (λ js. c.in_ok-siblings.siblings.items ≡ siblings_among set.places c.place-place.result js) c.deref.ensures.value c.in_ok-siblings.ensures;
        };
        place = c.place-place.ensures.leaf;
        wish = slice_get-get_or wishes c.args.at Coarsen (omega (arith, c.requires.leaf, c.requires.wishes));
        opening = slice_get-get_or openings c.args.at 0 (omega (arith, c.requires.leaf, c.requires.openings));
      };
    })
