use Rattle.std.proofs.Common.{◌≡◌, ℕ, ◌+◌, ◌*◌, ◌-◌, ◌<◌, List, [], ◌++◌, get_or, length, replicate, set, take, drop, sym, ap, ◌∙◌, arith}
use Rattle.block_fields.specs.Layout.{cut}
use Rattle.block_fields.proofs.Lendings.{refilled-whole, with_items-refilled}
use Rattle.ghost_pieces.specs.Pieces.{PieceState}
use Rattle.ghost_pieces.specs.Lemmas.Parts.{box_amounts}
use Rattle.ghost_pieces.proofs.FlatLists.{ends-within, how-many, length-list, length-over, list-at, written-at}
use Rattle.ghost_pieces.proofs.piece.Piece.fill_field.Goals as goal

pub overflow_mul-start : goal.overflow_mul-start
overflow_mul-start c =
    let b = c.self.inside in
    let v = b.amounts in
    let few : length (cut (replicate b.fields b.size) v.items) ≡ length c.args.self.now.amounts = ap (λ (p : PieceState). length p.amounts) c.self.view_is in
    let ends = ends-within b.fields b.size c.args.field (omega (arith, few, how-many b.fields b.size v.items, c.requires.field)) in
    omega (arith, ends, c.self.invariant, v.ok.0, v.ok.1, v.small)

pub overflow_add-start : goal.overflow_add-start
overflow_add-start c =
    let b = c.self.inside in
    let v = b.amounts in
    let few : length (cut (replicate b.fields b.size) v.items) ≡ length c.args.self.now.amounts = ap (λ (p : PieceState). length p.amounts) c.self.view_is in
    let ends = ends-within b.fields b.size c.args.field (omega (arith, few, how-many b.fields b.size v.items, c.requires.field)) in
    omega (arith, ends, c.self.invariant, v.ok.0, v.ok.1, v.small)

pub run_mut-list-requires-clause-in_bounds : goal.run_mut-list-requires-clause-in_bounds
run_mut-list-requires-clause-in_bounds c =
    let b = c.self.inside in
    let v = b.amounts in
    let few : length (cut (replicate b.fields b.size) v.items) ≡ length c.args.self.now.amounts = ap (λ (p : PieceState). length p.amounts) c.self.view_is in
    let ends = ends-within b.fields b.size c.args.field (omega (arith, few, how-many b.fields b.size v.items, c.requires.field)) in
    omega (arith, ends, c.self.invariant, v.ok.0)

pub fill_box-requires-clause-size : goal.fill_box-requires-clause-size
fill_box-requires-clause-size c =
    let b = c.self.inside in
    let v = b.amounts in
    let d = c.args.field in
    let few : length (cut (replicate b.fields b.size) v.items) ≡ length c.args.self.now.amounts = ap (λ (p : PieceState). length p.amounts) c.self.view_is in
    let h : d < b.fields = omega (arith, few, how-many b.fields b.size v.items, c.requires.field) in
    let n : d * b.size + b.size - d * b.size ≡ b.size = omega arith in
    ap length
    (c.run_mut-list.ensures.value
    ∙ (λ i. take (n i) (drop (d * b.size) v.items))
    ∙ sym (list-at b.fields b.size d v.items h)
    ∙ ap (λ (p : PieceState). get_or p.amounts d []) c.self.view_is)
    ∙ c.requires.size

pub returns : goal.returns
returns c =
    let b = c.self.inside in
    let v = b.amounts in
    let d = c.args.field in
    let few : length (cut (replicate b.fields b.size) v.items) ≡ length c.args.self.now.amounts = ap (λ (p : PieceState). length p.amounts) c.self.view_is in
    let h : d < b.fields = omega (arith, few, how-many b.fields b.size v.items, c.requires.field) in
    let n : d * b.size + b.size - d * b.size ≡ b.size = omega arith in
    let w = c.fill_box.new.out in
    let p = c.args.parts.now in
    let all = box_amounts c.args.n c.args.level c.args.from c.args.q.now p.x.start p.x.runs p.x.count p.y.start p.y.runs p.y.count p.z.start p.z.runs p.z.count in
    let old : c.run_mut-list.result.now ≡ take b.size (drop (d * b.size) v.items) = c.run_mut-list.ensures.value ∙ (λ i. take (n i) (drop (d * b.size) v.items)) in
    let long : length w ≡ b.size = omega (arith, c.fill_box.auto.out, ap length old, length-list b.fields b.size d v.items h c.self.invariant) in
    let over = take (d * b.size) v.items ++ (w ++ drop (length w) (drop (d * b.size) v.items)) in
    let amounts : cut (replicate b.fields b.size) (take v.len (over ++ drop (length over) v.items)) ≡ set (cut (replicate b.fields b.size) v.items) d all =
    ap (cut (replicate b.fields b.size)) (with_items-refilled v over ∙ refilled-whole v.items over (length-over b.fields b.size d v.items w h c.self.invariant long))
    ∙ written-at b.fields b.size d v.items w h c.self.invariant long
    ∙ ap (set (cut (replicate b.fields b.size) v.items) d) c.fill_box.ensures.box_amounts in
    record {
      filled = ap (λ (l : List (List ℕ)). record { region = record { receiver = b.to; sender = b.from; direction = b.direction }; receiver = b.receiver; sender = b.sender; amounts = l }) amounts
          ∙ ap (λ (p : PieceState). record p { amounts = set p.amounts d all }) c.self.view_is;
    }
