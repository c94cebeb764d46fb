-- A cell that is steeper than the lesser threshold is steeper than one of them.
use Rattle.std.proofs.Common.{◌≡◌, ◌||◌, true, false, sym, ap, ◌∙◌}
use Rattle.block_index.specs.declared.wish.Wish.TheVariants.{Stay}
use Rattle.block_fields.specs.Blocks.{seen_at}
use Rattle.criteria.specs.Lemmas.CellWishes.{steep_plane}
use Rattle.criteria.specs.Wishes.{greater}
use Rattle.criteria.proofs.SteepCells.{plane_wish-Slope, steep_plane-min, verdict-Stay, verdict-none}
use Rattle.criteria.proofs.slope.first_plane.Goals as goal

pub returns-then-steep_plane : goal.returns-then-steep_plane
returns-then-steep_plane c =
    let a = c.args in
    let b = a.block.now in
    let s = seen_at b a.field in
    let steep : (steep_plane b.edge s a.refine a.z || steep_plane b.edge s a.coarsen a.z) ≡ true = sym (steep_plane-min s a.refine a.coarsen b.edge a.z)
    ∙ sym (c.steep_plane.ensures.steep ∙ ap (λ h. steep_plane b.edge s h a.z) c.min.ensures) ∙ c.if-steep_plane.true in
    let plane = plane_wish-Slope b.edge (seen_at b) a.field a.refine a.coarsen a.z in
    record {
      wish = c.later_plane.ensures.wish ∙ sym (ap (greater Stay) plane) ∙ verdict-Stay (steep_plane b.edge s a.refine a.z) (steep_plane b.edge s a.coarsen a.z) steep ∙ plane;
    }

pub returns-else-steep_plane : goal.returns-else-steep_plane
returns-else-steep_plane c =
    let a = c.args in
    let b = a.block.now in
    let s = seen_at b a.field in
    let flat : (steep_plane b.edge s a.refine a.z || steep_plane b.edge s a.coarsen a.z) ≡ false = sym (steep_plane-min s a.refine a.coarsen b.edge a.z)
    ∙ sym (c.steep_plane.ensures.steep ∙ ap (λ h. steep_plane b.edge s h a.z) c.min.ensures) ∙ c.if-steep_plane.false in
    record {
      wish = verdict-none (steep_plane b.edge s a.refine a.z) (steep_plane b.edge s a.coarsen a.z) flat ∙ plane_wish-Slope b.edge (seen_at b) a.field a.refine a.coarsen a.z;
    }
