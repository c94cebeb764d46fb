use Rattle.std.proofs.Common.{◌≡◌, ap, ◌∙◌, length}
use Rattle.block_fields.specs.Blocks.{with_ghosts}
use Rattle.block_fields.specs.Shells.{ghost_size}
use Rattle.block_fields.proofs.Lendings.{with_direction-whole}
use Rattle.ghost_pieces.specs.Filing.{pasted}
use Rattle.ghost_pieces.specs.Lemmas.Rows.{box_of_runs}
use Rattle.ghost_pieces.proofs.Pastes.{length-pasted}
use Rattle.ghost_pieces.proofs.filing.file_field.Goals as goal

pub returns : goal.returns
returns c =
    let b = c.args.block.now in
    let f = c.args.field in
    let d = c.args.number in
    let w = c.paste.new.list in
    let x = c.args.spot.now.x in
    let y = c.args.spot.now.y in
    let z = c.args.spot.now.z in
    let box = box_of_runs x.first x.count y.first y.count z.first z.count in
    let l : length w ≡ ghost_size b.edge b.depth d = ap length c.paste.ensures.pasted ∙ length-pasted x.length y.length box c.args.amounts.now c.ghosts_mut.result.now ∙ c.ghosts_mut.ensures.size in
    record {
      filed = with_direction-whole b c.fields-fields.ensures.limits f c.requires.field w d c.requires.number l
          ∙ ap (with_ghosts b f d) (c.paste.ensures.pasted ∙ ap (pasted x.length y.length box c.args.amounts.now) c.ghosts_mut.ensures.ghosts);
    }
