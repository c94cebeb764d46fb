-- One block more.
use Rattle.std.proofs.Common.{None, length, refl, ap, arith}
use Rattle.std.specs.Vec.Iter.{into_iter_items}
use Rattle.parallel_maps.specs.declared.moving.Moving.{Moving}
use Rattle.parallel_maps.proofs.Moved.{joins}
use Rattle.parallel_maps.proofs.moving.all_still.Goals as goal

pub loop-block-preserved : goal.loop-block-preserved
loop-block-preserved c =
    let at = c.loop-block in
    let steps = c.in-Some.ensures.steps in
    let one : Moving = record { block = c.in-Some.block; faces = None } in
    record {
      walks = joins (λ (m : Moving). m.block) c.args.blocks.items at.moving.items c.push.new.self.items (into_iter_items at.block-iterator)
          (into_iter_items c.next.new.self) one c.in-Some.block at.invariant.walks steps.0 c.in_ok-push.ensures.items refl;
      long = (let was = at.invariant.long in let gone = steps.1 in let short = ap length steps.0 in omega arith);
    }
