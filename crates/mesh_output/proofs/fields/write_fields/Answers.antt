-- The first block, each block, a page that fails, and the last page.
use Rattle.std.proofs.Common.{◌+◌, ◌++◌, drop, subst, ◌∙◌, arith}
use Rattle.cello_io.specs.Writes.{GrewByPart, Wrote}
use Rattle.block_fields.specs.BlockStates.{state_of}
use Rattle.mesh_output.specs.FieldFiles.{field_bytes}
use Rattle.mesh_output.proofs.FieldFiles.{block_bytes, blocks_bytes, blocks_bytes-next, blocks_bytes-end, some_block, field_bytes-blocks}
use Rattle.mesh_output.proofs.Pages.{Wrote-from_err, Holds-wrote}
use Rattle.mesh_output.proofs.Puts.{Holds-put, Holds-failed, Holds-end}
use Rattle.mesh_output.proofs.fields.write_fields.Goals as goal

pub bounds-blocks-0 : goal.bounds-blocks-0
bounds-blocks-0 g c =
    some_block c.args.set.now c.args.blocks.now c.len-leaves.ensures.tiles c.requires.blocks.3.places

pub returns-in_err-put_leaf-clause-wrote : goal.returns-in_err-put_leaf-clause-wrote
returns-in_err-put_leaf-clause-wrote g c = λ n fields depth are.
    let set = c.args.set.now in
    let blocks = c.args.blocks.now in
    let i = c.loop-block.block-index in
    let b = c.block-item.result in
    let whole = field_bytes-blocks c.args.cycle c.from.result c.len-leaves.result c.from-2.result set n fields depth blocks c.index-blocks-0.result c.header-page.result c.len-leaves.ensures.tiles are
    c.index-blocks-0.is (c.from.ensures ∙ c.fields.ensures.fields) c.len-leaves.ensures.len (c.from-2.ensures ∙ c.edge.ensures.edge) c.header-page.ensures.numbers in
    Wrote-from_err _ _ _ (field_bytes c.args.cycle (state_of set.grid n fields blocks)) c.from_residual.result c.from_residual.ensures.1
    (subst (GrewByPart (g.K.Sink.written c.args.sink.now) (g.K.Sink.written c.put_leaf.new.sink)) whole
    (Holds-failed _ _ _ _ c.loop-block.page (blocks_bytes (drop i blocks)) (block_bytes b) (blocks_bytes (drop (i + 1) blocks))
    (blocks_bytes-next blocks i b c.loop-block-test.true c.block-item.is)
    c.loop-block.invariant.holds c.in_err-put_leaf.ensures.puts))

pub loop-block-preserved : goal.loop-block-preserved
loop-block-preserved g c =
    let blocks = c.args.blocks.now in
    let i = c.loop-block.block-index in
    let b = c.block-item.result in
    record {
      holds = Holds-put _ _ _ _ c.loop-block.page (blocks_bytes (drop i blocks)) (block_bytes b) (blocks_bytes (drop (i + 1) blocks)) c.put_leaf.new.page
          (blocks_bytes-next blocks i b c.loop-block-test.true c.block-item.is)
          c.loop-block.invariant.holds c.in_ok-put_leaf.ensures.puts;
      same_rest = c.in_ok-put_leaf.ensures.same_rest ∙ c.loop-block.invariant.same_rest;
      no_fall = omega (arith, c.in_ok-put_leaf.ensures.cause, c.loop-block.invariant.no_fall);
    }

pub returns-clause-wrote : goal.returns-clause-wrote
returns-clause-wrote g c = λ n fields depth are.
    let set = c.args.set.now in
    let blocks = c.args.blocks.now in
    let i = c.loop-block.block-index in
    let old = g.K.Sink.written c.args.sink.now in
    let mid = g.K.Sink.written c.loop-block.sink in
    let new = g.K.Sink.written c.write_all.new.sink in
    let page = c.loop-block.page in
    let all = c.header-page.result ++ blocks_bytes blocks in
    let whole = field_bytes-blocks c.args.cycle c.from.result c.len-leaves.result c.from-2.result set n fields depth blocks c.index-blocks-0.result c.header-page.result c.len-leaves.ensures.tiles are
    c.index-blocks-0.is (c.from.ensures ∙ c.fields.ensures.fields) c.len-leaves.ensures.len (c.from-2.ensures ∙ c.edge.ensures.edge) c.header-page.ensures.numbers in
    let last = subst (Wrote mid new c.write_all.result) c.bytes.ensures.bytes c.write_all.ensures.wrote in
    subst (Wrote old new c.write_all.result) whole
    (Holds-wrote old mid new all page c.write_all.result
    (Holds-end old mid all page (blocks_bytes (drop i blocks)) (blocks_bytes-end blocks i c.loop-block-test.false) c.loop-block.invariant.holds)
    last)
