-- Beside Stay only the threshold for refinement counts.
use Rattle.std.proofs.Common.{not, sym, ap, ◌∙◌}
use Rattle.block_index.specs.declared.wish.Wish.TheVariants.{Stay}
use Rattle.block_fields.specs.Blocks.{seen_at}
use Rattle.criteria.specs.Lemmas.CellWishes.{steep_plane}
use Rattle.criteria.specs.Wishes.{greater}
use Rattle.criteria.proofs.SteepCells.{plane_wish-Slope, verdict-Refine, verdict-not_Refine}
use Rattle.criteria.proofs.slope.later_plane.Goals as goal

pub returns-then-steep_plane : goal.returns-then-steep_plane
returns-then-steep_plane c =
    let a = c.args in
    let b = a.block.now in
    let s = seen_at b a.field in
    record {
      wish = verdict-Refine (steep_plane b.edge s a.refine a.z) (not (steep_plane b.edge s a.coarsen a.z)) (sym c.steep_plane.ensures.steep ∙ c.if-steep_plane.true)
          ∙ ap (greater Stay) (plane_wish-Slope b.edge (seen_at b) a.field a.refine a.coarsen a.z);
    }

pub returns-else-steep_plane : goal.returns-else-steep_plane
returns-else-steep_plane c =
    let a = c.args in
    let b = a.block.now in
    let s = seen_at b a.field in
    record {
      wish = verdict-not_Refine (steep_plane b.edge s a.refine a.z) (not (steep_plane b.edge s a.coarsen a.z)) (sym c.steep_plane.ensures.steep ∙ c.if-steep_plane.false)
          ∙ ap (greater Stay) (plane_wish-Slope b.edge (seen_at b) a.field a.refine a.coarsen a.z);
    }
