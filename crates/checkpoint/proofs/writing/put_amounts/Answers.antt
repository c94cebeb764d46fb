-- A block that was put on the page, and a page that fails.
use Rattle.std.proofs.Common.{◌+◌, drop, ◌∙◌, arith}
use Rattle.mesh_output.proofs.Puts.{Puts-from_err, Holds-put, Holds-failed}
use Rattle.checkpoint.proofs.Amounts.{blocks_bytes, fields_bytes, blocks_bytes-next}
use Rattle.checkpoint.proofs.writing.put_amounts.Goals as goal

pub returns-in_err-put_block-clause-puts : goal.returns-in_err-put_block-clause-puts
returns-in_err-put_block-clause-puts g c =
    let blocks = c.args.blocks.now in
    let i = c.loop-block.block-index in
    let b = c.block-item.result in
    Puts-from_err _ _ _ c.args.page.now c.put_block.new.page (blocks_bytes blocks) c.from_residual.result c.from_residual.ensures.1
    (Holds-failed _ _ _ _ c.loop-block.page (blocks_bytes (drop i blocks)) (fields_bytes b.amounts) (blocks_bytes (drop (i + 1) blocks))
    (blocks_bytes-next blocks i b c.loop-block-test.true c.block-item.is)
    c.loop-block.invariant.holds c.in_err-put_block.ensures.puts)

pub loop-block-preserved : goal.loop-block-preserved
loop-block-preserved g c =
    let blocks = c.args.blocks.now in
    let i = c.loop-block.block-index in
    let b = c.block-item.result in
    record {
      holds = Holds-put _ _ _ _ c.loop-block.page (blocks_bytes (drop i blocks)) (fields_bytes b.amounts) (blocks_bytes (drop (i + 1) blocks)) c.put_block.new.page
          (blocks_bytes-next blocks i b c.loop-block-test.true c.block-item.is)
          c.loop-block.invariant.holds c.in_ok-put_block.ensures.puts;
      same_rest = c.in_ok-put_block.ensures.same_rest ∙ c.loop-block.invariant.same_rest;
      no_fall = omega (arith, c.in_ok-put_block.ensures.cause, c.loop-block.invariant.no_fall);
    }
