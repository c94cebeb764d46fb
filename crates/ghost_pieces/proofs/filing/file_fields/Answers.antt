use Rattle.std.proofs.Common.{◌≡◌, ◌+◌, ◌*◌, [], length, slice_index_or, sym, ap, ◌∙◌, subst, arith}
use Rattle.cello_neighbours.specs.Directions.{IsDirection}
use Rattle.block_fields.specs.Blocks.{BlockState, ghosts_of, with_ghosts}
use Rattle.block_fields.specs.Shells.{ghost_size}
use Rattle.block_fields.proofs.ShellSizes.{box-ghost_size}
use Rattle.ghost_pieces.specs.Filing.{filed_ghosts, number_of, pasted, side_of_step}
use Rattle.ghost_pieces.specs.Lemmas.FiledFields.{HasFields}
use Rattle.ghost_pieces.specs.Lemmas.Rows.{box_of_runs}
use Rattle.ghost_pieces.proofs.FieldSteps.{fields_all, fields_more, list_size}
use Rattle.ghost_pieces.proofs.FiledLists.{side-three}
use Rattle.ghost_pieces.proofs.Pastes.{not_middle}
use Rattle.ghost_pieces.proofs.filing.file_fields.Goals as goal

pub file_field-requires-clause-list : goal.file_field-requires-clause-list
file_field-requires-clause-list c =
    let b = c.args.block.now in
    let p = c.args.piece.now in
    let e = p.region.direction in
    let s = c.spot_of_piece-spot.ensures in
    let number : c.number_of-number.result ≡ number_of e = c.number_of-number.ensures.number ∙ ap number_of c.direction.ensures in
    let dir = subst IsDirection c.direction.ensures c.number_of-number.ensures.limits in
    let edge : c.loop-f.block.edge ≡ b.edge = ap (λ (b : BlockState). b.edge) c.loop-f.invariant.same in
    let depth : c.loop-f.block.depth ≡ b.depth = ap (λ (b : BlockState). b.depth) c.loop-f.invariant.same in
    (λ i. s.deep i * s.high i * s.wide i)
    ∙ box-ghost_size b.edge b.depth (side_of_step e.x) (side_of_step e.y) (side_of_step e.z) (side-three e.x) (side-three e.y) (side-three e.z) (not_middle e dir)
    ∙ (λ i. ghost_size (sym edge i) (sym depth i) (sym number i))

pub file_field-requires-clause-amounts : goal.file_field-requires-clause-amounts
file_field-requires-clause-amounts c =
    let b = c.args.block.now in
    let p = c.args.piece.now in
    let s = c.spot_of_piece-spot.ensures in
    ap length c.amounts.ensures
    ∙ list_size b.edge b.depth (length b.amounts) p c.requires.fits c.loop-f.f (omega (arith, c.loop-f-test.true, c.fields-f-end.ensures.fields))
    ∙ (λ i. sym s.count_z i * sym s.count_y i * sym s.count_x i)

pub loop-f-preserved : goal.loop-f-preserved
loop-f-preserved c =
    let b = c.args.block.now in
    let p = c.args.piece.now in
    let f = c.loop-f.f in
    let now = c.loop-f.block in
    let s = c.spot_of_piece-spot.ensures in
    let x = c.spot_of_piece-spot.result.x in
    let y = c.spot_of_piece-spot.result.y in
    let z = c.spot_of_piece-spot.result.z in
    let limits = s.limits in
    let number : c.number_of-number.result ≡ number_of p.region.direction = c.number_of-number.ensures.number ∙ ap number_of c.direction.ensures in
    let rest = c.loop-f.invariant.rest f (omega arith) in
    let w = pasted x.length y.length (box_of_runs x.first x.count y.first y.count z.first z.count) c.amounts.result.now (ghosts_of now f c.number_of-number.result) in
    let same : w ≡ filed_ghosts b p f = λ i. pasted (s.wide i) (s.high i) (box_of_runs (s.first_x i) (s.count_x i) (s.first_y i) (s.count_y i) (s.first_z i) (s.count_z i)) (c.amounts.ensures i) (slice_index_or (rest i) (number i) []) in
    subst (HasFields b p (f + 1)) (sym (c.file_field.ensures.filed ∙ ap (λ k. with_ghosts now f k w) number))
    (fields_more b p f now w (omega (arith, c.loop-f-test.true, c.fields-f-end.ensures.fields, limits.one_shell_each)) c.loop-f.invariant same)

pub returns : goal.returns
returns c =
    let b = c.args.block.now in
    let limits = c.spot_of_piece-spot.ensures.limits in
    record { filed = fields_all b c.args.piece.now c.loop-f.f c.loop-f.block (omega (arith, c.loop-f-test.false, c.fields-f-end.ensures.fields, limits.one_shell_each)) c.loop-f.invariant }
