use Rattle.std.proofs.Common.{◌≡◌, ◌+◌, ◌*◌, ◌-◌, ◌<◌, [], get_or, length, replicate, take, drop, sym, ap, ◌∙◌, arith}
use Rattle.block_fields.specs.Layout.{cut}
use Rattle.ghost_pieces.specs.Pieces.{PieceState}
use Rattle.ghost_pieces.proofs.FlatLists.{ends-within, how-many, list-at}
use Rattle.ghost_pieces.proofs.piece.Piece.amounts.Goals as goal

pub overflow_mul-start : goal.overflow_mul-start
overflow_mul-start c =
    let b = c.self.inside in
    let v = b.amounts in
    let few : length (cut (replicate b.fields b.size) v.items) ≡ length c.args.self.now.amounts = ap (λ (p : PieceState). length p.amounts) c.self.view_is in
    let ends = ends-within b.fields b.size c.args.field (omega (arith, few, how-many b.fields b.size v.items, c.requires.field)) in
    omega (arith, ends, c.self.invariant, v.ok.0, v.ok.1, v.small)

pub overflow_add-start : goal.overflow_add-start
overflow_add-start c =
    let b = c.self.inside in
    let v = b.amounts in
    let few : length (cut (replicate b.fields b.size) v.items) ≡ length c.args.self.now.amounts = ap (λ (p : PieceState). length p.amounts) c.self.view_is in
    let ends = ends-within b.fields b.size c.args.field (omega (arith, few, how-many b.fields b.size v.items, c.requires.field)) in
    omega (arith, ends, c.self.invariant, v.ok.0, v.ok.1, v.small)

pub part_of-requires-clause-within : goal.part_of-requires-clause-within
part_of-requires-clause-within c =
    let b = c.self.inside in
    let v = b.amounts in
    let few : length (cut (replicate b.fields b.size) v.items) ≡ length c.args.self.now.amounts = ap (λ (p : PieceState). length p.amounts) c.self.view_is in
    let ends = ends-within b.fields b.size c.args.field (omega (arith, few, how-many b.fields b.size v.items, c.requires.field)) in
    let same : length c.as_slice.result.now ≡ length v.items = ap length c.as_slice.ensures.value in
    omega (arith, ends, c.self.invariant, same)

pub returns : goal.returns
returns c =
    let b = c.self.inside in
    let v = b.amounts in
    let d = c.args.field in
    let few : length (cut (replicate b.fields b.size) v.items) ≡ length c.args.self.now.amounts = ap (λ (p : PieceState). length p.amounts) c.self.view_is in
    let h : d < b.fields = omega (arith, few, how-many b.fields b.size v.items, c.requires.field) in
    let n : d * b.size + b.size - d * b.size ≡ b.size = omega arith in
    c.part_of.ensures.part
    ∙ (λ i. take (n i) (drop (d * b.size) (c.as_slice.ensures.value i)))
    ∙ sym (list-at b.fields b.size d v.items h)
    ∙ ap (λ (p : PieceState). get_or p.amounts d []) c.self.view_is
