use Rattle.std.proofs.Common.{◌≡◌, ◌+◌, ◌*◌, true, length, sym, ap, ◌∙◌, subst, arith}
use Rattle.block_fields.specs.Blocks.{amounts_of}
use Rattle.ghost_pieces.specs.Boxes.{box_size, has_region, region_box}
use Rattle.ghost_pieces.specs.Sent.{piece_amounts}
use Rattle.ghost_pieces.specs.Lemmas.Fills.{HasSamples}
use Rattle.ghost_pieces.specs.Lemmas.Parts.{box_amounts}
use Rattle.ghost_pieces.proofs.FieldSteps.{list_size}
use Rattle.ghost_pieces.proofs.PieceParts.{piece-box}
use Rattle.ghost_pieces.proofs.SampleSteps.{boxed-region, samples_all, samples_more}
use Rattle.ghost_pieces.proofs.filling.fill_piece.Goals as goal

pub fill_field-requires-clause-size : goal.fill_field-requires-clause-size
fill_field-requires-clause-size c =
    let b = c.args.block.now in
    let p = c.args.piece.now in
    let g = c.args.domain.now in
    let x = c.parts_of-parts.result.x in
    let y = c.parts_of-parts.result.y in
    let z = c.parts_of-parts.result.z in
    let e = c.parts_of-parts.ensures in
    let n = c.edge-n.result in
    let d = c.depth.result in
    let r = c.receiver-receiver.result in
    let s = c.sender-sender.result in
    let dir = c.direction.result in
    let has : has_region g n d r dir s ≡ true = (λ i. has_region g (c.edge-n.ensures.edge i) (c.depth.ensures.depth i) (c.receiver-receiver.ensures i) (c.direction.ensures i) (c.sender-sender.ensures i)) ∙ c.requires.region.reached in
    let q = c.field.result.now in
    let boxed = boxed-region g n d r s dir q x.first x.count x.start y.first y.count y.start z.first z.count z.start x.runs y.runs z.runs has
    (record { first_x = e.part_x.first_is; count_x = e.part_x.count_is; first_y = e.part_y.first_is; count_y = e.part_y.count_is; first_z = e.part_z.first_is; count_z = e.part_z.count_is }) in
    let size : z.count * y.count * x.count ≡ box_size (region_box b.edge b.depth p.receiver p.region.direction p.sender) =
    (λ i. boxed.count_z i * boxed.count_y i * boxed.count_x i)
    ∙ (λ i. box_size (region_box (c.edge-n.ensures.edge i) (c.depth.ensures.depth i) (c.receiver-receiver.ensures i) (c.direction.ensures i) (c.sender-sender.ensures i))) in
    ap length (c.loop-f.invariant.rest c.loop-f.f (omega arith))
    ∙ list_size b.edge b.depth (length b.amounts) p c.requires.fits c.loop-f.f (omega (arith, c.loop-f-test.true, c.fields-f-end.ensures.fields))
    ∙ sym size

pub loop-f-preserved : goal.loop-f-preserved
loop-f-preserved c =
    let b = c.args.block.now in
    let p = c.args.piece.now in
    let g = c.args.domain.now in
    let f = c.loop-f.f in
    let x = c.parts_of-parts.result.x in
    let y = c.parts_of-parts.result.y in
    let z = c.parts_of-parts.result.z in
    let e = c.parts_of-parts.ensures in
    let n = c.edge-n.result in
    let d = c.depth.result in
    let r = c.receiver-receiver.result in
    let s = c.sender-sender.result in
    let dir = c.direction.result in
    let q = c.field.result.now in
    let has : has_region g n d r dir s ≡ true = (λ i. has_region g (c.edge-n.ensures.edge i) (c.depth.ensures.depth i) (c.receiver-receiver.ensures i) (c.direction.ensures i) (c.sender-sender.ensures i)) ∙ c.requires.region.reached in
    let boxed = boxed-region g n d r s dir q x.first x.count x.start y.first y.count y.start z.first z.count z.start x.runs y.runs z.runs has
    (record { first_x = e.part_x.first_is; count_x = e.part_x.count_is; first_y = e.part_y.first_is; count_y = e.part_y.count_is; first_z = e.part_z.first_is; count_z = e.part_z.count_is }) in
    let w = box_amounts n c.level.result c.level-in-loop-f.result q x.start x.runs x.count y.start y.runs y.count z.start z.runs z.count in
    let same : w ≡ piece_amounts g b.edge b.depth p.receiver p.region.direction p.sender (amounts_of b f) =
    (λ i. box_amounts n (c.level.ensures.level i) (c.level-in-loop-f.ensures.level i) q x.start x.runs x.count y.start y.runs y.count z.start z.runs z.count)
    ∙ piece-box g n d r s dir q x.first x.count x.start y.first y.count y.start z.first z.count z.start x.runs y.runs z.runs boxed e.follows_x e.follows_y e.follows_z
    ∙ (λ i. piece_amounts g (c.edge-n.ensures.edge i) (c.depth.ensures.depth i) (c.receiver-receiver.ensures i) (c.direction.ensures i) (c.sender-sender.ensures i) (c.field.ensures.amounts i)) in
    subst (HasSamples g b p (f + 1)) (sym c.fill_field.ensures.filled)
    (samples_more g b p f c.loop-f.piece w (omega (arith, c.loop-f-test.true, c.fields-f-end.ensures.fields, c.requires.fits.one_each)) c.loop-f.invariant same)

pub returns : goal.returns
returns c =
    record {
      filled = samples_all c.args.domain.now c.args.block.now c.args.piece.now c.loop-f.f c.loop-f.piece c.requires.fits.one_each
          (omega (arith, c.loop-f-test.false, c.fields-f-end.ensures.fields, c.requires.fits.one_each)) c.loop-f.invariant;
    }
