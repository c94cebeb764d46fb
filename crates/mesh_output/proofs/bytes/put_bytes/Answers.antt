-- A few bytes that were put on the page, and a page that fails.
use Rattle.std.proofs.Common.{◌∙◌, arith}
use Rattle.mesh_output.proofs.Puts.{Puts-from_err, Holds-put, Holds-failed, some_front}
use Rattle.mesh_output.proofs.bytes.put_bytes.Goals as goal

pub returns-in_err-put_few_bytes-clause-puts : goal.returns-in_err-put_few_bytes-clause-puts
returns-in_err-put_few_bytes-clause-puts g c =
    let split = c.split_at.ensures in
    let left = c.loop-left.left.now in
    let few = c.split_at.result.0.now in
    let more = c.split_at.result.1.now in
    Puts-from_err _ _ _ c.args.page.now c.put_few_bytes.new.page c.args.bytes.now c.from_residual.result c.from_residual.ensures.1
    (Holds-failed _ _ _ _ c.loop-left.page left few more (some_front c.min.result left few more split.front split.back)
    c.loop-left.invariant.holds c.in_err-put_few_bytes.ensures.puts)

pub loop-left-preserved : goal.loop-left-preserved
loop-left-preserved g c =
    let split = c.split_at.ensures in
    let left = c.loop-left.left.now in
    let few = c.split_at.result.0.now in
    let more = c.split_at.result.1.now in
    record {
      holds = Holds-put _ _ _ _ c.loop-left.page left few more c.put_few_bytes.new.page
          (some_front c.min.result left few more split.front split.back)
          c.loop-left.invariant.holds c.in_ok-put_few_bytes.ensures.puts;
      same_rest = c.in_ok-put_few_bytes.ensures.same_rest ∙ c.loop-left.invariant.same_rest;
      no_fall = omega (arith, c.in_ok-put_few_bytes.ensures.cause, c.loop-left.invariant.no_fall);
    }
