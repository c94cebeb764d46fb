-- A part that was put on the page, and a page that fails.
use Rattle.std.proofs.Common.{◌+◌, drop, ◌∙◌, arith}
use Rattle.mesh_output.proofs.Puts.{Puts-from_err, Holds-put, Holds-failed}
use Rattle.std.specs.List.{flat_map}
use Rattle.checkpoint.specs.SavedStates.{saved}
use Rattle.checkpoint.specs.Spelling.{part_bytes}
use Rattle.checkpoint.proofs.Amounts.{parts_bytes-next}
use Rattle.checkpoint.proofs.writing.put_parts.Goals as goal

pub returns-in_err-put_part-clause-puts : goal.returns-in_err-put_part-clause-puts
returns-in_err-put_part-clause-puts g c =
    let s = saved c.args.state.now.params.now c.args.state.now.cycle c.args.state.now.set.now.places c.args.state.now.blocks.now c.args.state.now.ledger.now in
    let parts = c.args.parts.now in
    let i = c.loop-i.i in
    let p = c.part_at.result in
    Puts-from_err _ _ _ c.args.page.now c.put_part.new.page (flat_map (part_bytes s) parts) c.from_residual.result c.from_residual.ensures.1
    (Holds-failed _ _ _ _ c.loop-i.page (flat_map (part_bytes s) (drop i parts)) (part_bytes s p) (flat_map (part_bytes s) (drop (i + 1) parts))
    (parts_bytes-next s parts i p c.loop-i-test.true c.part_at.ensures.part)
    c.loop-i.invariant.holds c.in_err-put_part.ensures.puts)

pub loop-i-preserved : goal.loop-i-preserved
loop-i-preserved g c =
    let s = saved c.args.state.now.params.now c.args.state.now.cycle c.args.state.now.set.now.places c.args.state.now.blocks.now c.args.state.now.ledger.now in
    let parts = c.args.parts.now in
    let i = c.loop-i.i in
    let p = c.part_at.result in
    record {
      holds = Holds-put _ _ _ _ c.loop-i.page (flat_map (part_bytes s) (drop i parts)) (part_bytes s p) (flat_map (part_bytes s) (drop (i + 1) parts)) c.put_part.new.page
          (parts_bytes-next s parts i p c.loop-i-test.true c.part_at.ensures.part)
          c.loop-i.invariant.holds c.in_ok-put_part.ensures.puts;
      same_rest = c.in_ok-put_part.ensures.same_rest ∙ c.loop-i.invariant.same_rest;
      no_fall = omega (arith, c.in_ok-put_part.ensures.cause, c.loop-i.invariant.no_fall);
    }
