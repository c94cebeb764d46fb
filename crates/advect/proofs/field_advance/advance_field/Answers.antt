use Rattle.std.proofs.Common.{◌+◌, ◌-◌, ◌^◌, ◌<◌, ◌≤◌, slice_index, sym, ◌∙◌, subst, arith, pos, negsuc}
use Rattle.block_fields.specs.Blocks.{BlockState, number_at}
use Rattle.grid_fluxes.specs.Axes.{along_x, along_y, along_z}
use Rattle.advect.specs.Lemmas.Advances.{AdvancesField, field_in}
use Rattle.advect.specs.Lemmas.Rims.{NotesField}
use Rattle.advect.specs.Lemmas.Streams.{Field, enters, field_of, goes, seen_along, stream_flux, stream_on}
use Rattle.advect.proofs.Advanced.{advances, field-same, seen-field, small-list}
use Rattle.advect.proofs.Insides.{elements}
use Rattle.advect.proofs.field_advance.advance_field.Goals as goal

pub move_field-requires-clause-small : goal.move_field-requires-clause-small
move_field-requires-clause-small c =
    let k = c.copies-before.ensures in
    let least = c.edge-n.ensures.limits.least in
    small-list c.args.block.now c.args.field 0 (2 ^ 42) c.copies-before.result.amounts.now (omega (arith, least)) k.amounts k.cells c.requires.small.amounts

pub move_field-requires-clause-below : goal.move_field-requires-clause-below
move_field-requires-clause-below c = λ a i j hi hj.
    let k = c.copies-before.ensures in
    let b = c.args.block.now in
    let e = field-same b c.args.field c.edge-n.result c.depth-depth.result c.copies-before.result.amounts.now c.copies-before.result.ghosts.now c.edge-n.ensures.edge c.depth-depth.ensures.depth k.amounts k.ghosts in
    subst (λ (q : Field). seen_along q a (negsuc 0) i j ≤ 2 ^ 42) (sym e) (subst (λ t. t ≤ 2 ^ 42) (sym (seen-field b c.args.field a (negsuc 0) i j))
    (c.requires.small.below a i j (subst (λ t. i < t) c.edge-n.ensures.edge hi) (subst (λ t. j < t) c.edge-n.ensures.edge hj)))

pub move_field-requires-clause-above : goal.move_field-requires-clause-above
move_field-requires-clause-above c = λ a i j hi hj.
    let k = c.copies-before.ensures in
    let b = c.args.block.now in
    let e = field-same b c.args.field c.edge-n.result c.depth-depth.result c.copies-before.result.amounts.now c.copies-before.result.ghosts.now c.edge-n.ensures.edge c.depth-depth.ensures.depth k.amounts k.ghosts in
    subst (λ n. seen_along (field_of c.edge-n.result c.depth-depth.result c.copies-before.result.amounts.now c.copies-before.result.ghosts.now) a (pos n) i j ≤ 2 ^ 42) (sym c.edge-n.ensures.edge)
    (subst (λ (q : Field). seen_along q a (pos b.edge) i j ≤ 2 ^ 42) (sym e) (subst (λ t. t ≤ 2 ^ 42) (sym (seen-field b c.args.field a (pos b.edge) i j))
    (c.requires.small.above a i j (subst (λ t. i < t) c.edge-n.ensures.edge hi) (subst (λ t. j < t) c.edge-n.ensures.edge hj))))

pub returns-clause-advances : goal.returns-clause-advances
returns-clause-advances c =
    let k = c.copies-before.ensures in
    let b = c.args.block.now in
    let f = c.args.field in
    let s = c.args.streams in
    let n = c.edge-n.result in
    let en = c.edge-n.ensures.edge in
    let q = field_of n c.depth-depth.result c.copies-before.result.amounts.now c.copies-before.result.ghosts.now in
    let e = field-same b f n c.depth-depth.result c.copies-before.result.amounts.now c.copies-before.result.ghosts.now en c.depth-depth.ensures.depth k.amounts k.ghosts in
    let w = c.move_field.new.next in
    subst (λ (t : BlockState). AdvancesField s f b t) (sym c.exchange.ensures.exchanged)
    (advances s b c.edge-n.ensures.limits f c.requires.field w (c.move_field.auto.next ∙ k.same_cells)
    (λ x y z hx hy hz.
    (λ t. slice_index w (number_at (sym en t) x y z))
    ∙ c.move_field.ensures.moved x y z (subst (λ t. x < t) (sym en) hx) (subst (λ t. y < t) (sym en) hy) (subst (λ t. z < t) (sym en) hz)
    ∙ (λ t. slice_index (k.amounts t) (number_at (en t) x y z)
    - (goes s.x (e t) along_x x y z + goes s.y (e t) along_y y x z + goes s.z (e t) along_z z x y)
    + (enters s.x (e t) along_x x y z + enters s.y (e t) along_y y x z + enters s.z (e t) along_z z x y))))

pub returns-clause-low : goal.returns-clause-low
returns-clause-low c =
    let k = c.copies-before.ensures in
    let b = c.args.block.now in
    let e = field-same b c.args.field c.edge-n.result c.depth-depth.result c.copies-before.result.amounts.now c.copies-before.result.ghosts.now c.edge-n.ensures.edge c.depth-depth.ensures.depth k.amounts k.ghosts in
    subst (λ n. NotesField n c.args.field (λ a. stream_flux (stream_on c.args.streams a) (field_in b c.args.field) a 0) (elements c.args.low.now.items) (elements c.move_field.new.low.items)) c.edge-n.ensures.edge
    (subst (λ (q : Field). NotesField c.edge-n.result c.args.field (λ a. stream_flux (stream_on c.args.streams a) q a 0) (elements c.args.low.now.items) (elements c.move_field.new.low.items)) e c.move_field.ensures.low)

pub returns-clause-high : goal.returns-clause-high
returns-clause-high c =
    let k = c.copies-before.ensures in
    let b = c.args.block.now in
    let e = field-same b c.args.field c.edge-n.result c.depth-depth.result c.copies-before.result.amounts.now c.copies-before.result.ghosts.now c.edge-n.ensures.edge c.depth-depth.ensures.depth k.amounts k.ghosts in
    subst (λ n. NotesField n c.args.field (λ a. stream_flux (stream_on c.args.streams a) (field_in b c.args.field) a n) (elements c.args.high.now.items) (elements c.move_field.new.high.items)) c.edge-n.ensures.edge
    (subst (λ (q : Field). NotesField c.edge-n.result c.args.field (λ a. stream_flux (stream_on c.args.streams a) q a c.edge-n.result) (elements c.args.high.now.items) (elements c.move_field.new.high.items)) e c.move_field.ensures.high)
