use Rattle.std.proofs.Common.{◌≡◌, ◌∷◌, List, length, refl, sym, ap, subst, arith}
use Rattle.std.specs.Vec.Iter.{into_iter_items}
use Rattle.block_fields.specs.Blocks.{BlockState}
use Rattle.cello_bench.specs.Inputs.{AllSmall}
use Rattle.cello_bench.proofs.SmallFields.{AllSmall-rest}
use Rattle.cello_bench.proofs.advancing.advance_all.Goals as goal

pub loop-block-init : goal.loop-block-init
loop-block-init c =
    let gives = c.into_iter-block-iterator.ensures.into_iter_gives in
    record {
      rest = subst AllSmall (sym gives.0) c.requires.small;
      long = (let v = c.args.blocks.ok in let l = ap length gives.0 in omega (arith, gives.1, v.0));
    }

pub advanced-block-requires : goal.advanced-block-requires
advanced-block-requires c =
    let steps = c.in-Some.ensures.steps in
    let first : into_iter_items c.loop-block.block-iterator ≡ c.in-Some.block ∷ into_iter_items c.next.new.self = steps.0 in
    let all = subst AllSmall first c.loop-block.invariant.rest in
    record { small = all 0 c.in-Some.block refl }

pub loop-block-preserved : goal.loop-block-preserved
loop-block-preserved c =
    let at = c.loop-block in
    let steps = c.in-Some.ensures.steps in
    let rest : List BlockState = into_iter_items c.next.new.self in
    let first : into_iter_items at.block-iterator ≡ c.in-Some.block ∷ rest = steps.0 in
    record {
      rest = AllSmall-rest c.in-Some.block rest (subst AllSmall first at.invariant.rest);
      long = (let long = at.invariant.long in let gone = steps.1 in let short = ap length first in omega arith);
    }
