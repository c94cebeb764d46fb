use Rattle.std.proofs.Common.{◌≡◌, ℕ, ◌*◌, List, Some, slice_get, length, map, replicate, sym, ap, ◌∙◌, arith}
use Rattle.std.proofs.lemmas.List.{length-replicate}
use Rattle.std.proofs.lemmas.Option.{slice_get-get_or}
use Rattle.block_index.specs.Places.{Cube, child_of}
use Rattle.block_fields.specs.Blocks.{BlockState, zero_block}
use Rattle.block_fields.specs.Divisions.{join_amounts}
use Rattle.split_join.specs.Lemmas.NewBlocks.{joined_block}
use Rattle.split_join.proofs.new_blocks.parent_from.Goals as goal

-- a block of zeros has as many fields
fields_of_zeros : (at : Cube) (n fields depth : ℕ) (p : BlockState) → p ≡ zero_block at n fields depth → length p.amounts ≡ fields
fields_of_zeros at n fields depth p z = ap (λ (p : BlockState). length p.amounts) z ∙ length-replicate fields (replicate (n * n * n) 0)

joined-is : (at : Cube) (n fields depth e f d : ℕ) (family : List BlockState) (p q : BlockState) → e ≡ n → f ≡ fields → d ≡ depth → p ≡ zero_block at e f d → q ≡ record p { amounts = join_amounts p.edge (length p.amounts) p.place (map (λ b. b.amounts) family) } → q ≡ joined_block n fields depth at family
joined-is at n fields depth e f d family p q en ff dd z j =
    let zeros : p ≡ zero_block at n fields depth = z ∙ ap (λ e. zero_block at e f d) en ∙ ap (λ f. zero_block at n f d) ff ∙ ap (zero_block at n fields) dd in
    j
    ∙ ap (λ l. record p { amounts = join_amounts p.edge l p.place (map (λ (b : BlockState). b.amounts) family) }) (fields_of_zeros at n fields depth p zeros)
    ∙ ap (λ (p : BlockState). record p { amounts = join_amounts p.edge fields p.place (map (λ (b : BlockState). b.amounts) family) }) zeros

pub join_cells-requires-clause-family : goal.join_cells-requires-clause-family
join_cells-requires-clause-family c =
    let w = c.requires.family.3 in
    let family = c.args.family.now in
    let first = c.index-family-0.result in
    let at : slice_get family 0 ≡ Some first = slice_get-get_or family 0 first (omega (arith, w.eight)) ∙ ap Some (sym c.index-family-0.is) in
    let size = w.sizes 0 first at in
    let parent = c.in_ok-parent.parent in
    let zeros = c.in_ok-parent.ensures.zeros in
    let edge : parent.edge ≡ c.requires.family.0 = ap (λ (p : BlockState). p.edge) zeros ∙ c.edge.ensures.edge ∙ size.same_edge in
    let fields : length parent.amounts ≡ c.requires.family.1 = fields_of_zeros c.args.at c.edge.result c.fields.result c.depth.result parent zeros ∙ c.fields.ensures.fields ∙ size.same_fields in
    record {
      eight = w.eight;
      each = λ k b e.
          record {
            place = w.places k b e ∙ ap (λ (p : BlockState). child_of p.place k) (sym zeros);
            edge = (w.sizes k b e).same_edge ∙ sym edge;
            fields = (w.sizes k b e).same_fields ∙ sym fields;
          };
    }

pub returns : goal.returns
returns c = λ n fields depth w.
    let family = c.args.family.now in
    let first = c.index-family-0.result in
    let at : slice_get family 0 ≡ Some first = slice_get-get_or family 0 first (omega (arith, w.eight)) ∙ ap Some (sym c.index-family-0.is) in
    let size = w.sizes 0 first at in
    joined-is c.args.at n fields depth c.edge.result c.fields.result c.depth.result family c.in_ok-parent.parent c.join_cells.new.parent
    (c.edge.ensures.edge ∙ size.same_edge) (c.fields.ensures.fields ∙ size.same_fields) (c.depth.ensures.depth ∙ size.same_depth)
    c.in_ok-parent.ensures.zeros c.join_cells.ensures.sums
