-- All fields.
use Rattle.std.proofs.Common.{◌≡◌, ℕ, ◌*◌, [], length, map, replicate, ap, ◌∙◌, arith}
use Rattle.std.specs.List.{range_with_len}
use Rattle.std.proofs.lemmas.List.{length-replicate}
use Rattle.std.proofs.lemmas.List.FromFn.{fill_by_all}
use Rattle.block_fields.specs.Blocks.{BlockState, zero_block}
use Rattle.block_fields.specs.Cells.{cells_of}
use Rattle.initial_fill.specs.RootBlocks.{given_by, root_depth}
use Rattle.initial_fill.proofs.filling.root_block.Goals as goal

pub returns : goal.returns
returns c =
    let p = c.args.params.now in
    let n = p.block in
    let place = c.args.place in
    let now = c.loop-f.block.amounts in
    let many : length c.items.result.now ≡ length p.fields = ap length (c.items.ensures.items ∙ c.fields.ensures.fields) in
    let zeros : c.in_ok-block.block ≡ zero_block place n (length p.fields) root_depth =
    c.in_ok-block.ensures.zeros ∙ (λ i. zero_block place (c.block.ensures.block i) (many i) (c.depth.ensures.depth i)) in
    let first : length c.in_ok-block.block.amounts ≡ length p.fields =
    ap (λ (b : BlockState). length b.amounts) zeros ∙ length-replicate (length p.fields) (replicate {A = ℕ} (n * n * n) 0) in
    let all : now ≡ map (λ f. map (given_by p f) (cells_of n place)) (range_with_len 0 (length p.fields)) =
    fill_by_all (λ f. map (given_by p f) (cells_of n place)) now (length p.fields) [] (c.loop-f.invariant.long ∙ first)
    (λ g h. c.loop-f.invariant.filled g (omega (arith, many))) in
    c.loop-f.invariant.same
    ∙ ap (λ (b : BlockState). record b { amounts = now }) zeros
    ∙ ap (λ a. record (zero_block place n (length p.fields) root_depth) { amounts = a }) all
