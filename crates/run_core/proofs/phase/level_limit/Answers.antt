-- A leaf that wishes past the finest level, and none.
use Rattle.std.proofs.Common.{◌<◌, sym, ◌∙◌, length, arith, rules}
use Rattle.std.proofs.lemmas.Bool.{false≢true}
use Rattle.std.proofs.lemmas.Option.{slice_get-get_or}
use Rattle.block_index.specs.declared.wish.Wish.TheVariants.{Coarsen}
use Rattle.run_core.proofs.LevelLimits.{level_limit-found, level_limit-kept, level_limit-none}
use Rattle.run_core.proofs.phase.level_limit.Goals as goal

pub returns-then-is_too_fine-clause-found : goal.returns-then-is_too_fine-clause-found
returns-then-is_too_fine-clause-found c =
    let within : c.loop-i.i < length c.args.wishes.now = omega (arith, c.loop-i-test.true) in
    level_limit-found c.args.params.now c.args.phase c.args.set.now.places c.args.wishes.now c.loop-i.i c.place-place.result _ c.max_level-finest.result
    (search rules) c.place-place.ensures.leaf (slice_get-get_or c.args.wishes.now c.loop-i.i Coarsen within) (search rules)
    (c.is_too_fine.ensures.too_fine.0 (search rules)) c.loop-i.invariant.none

pub loop-i-preserved : goal.loop-i-preserved
loop-i-preserved c =
    let within : c.loop-i.i < length c.args.wishes.now = omega (arith, c.loop-i-test.true) in
    record {
      none = level_limit-kept c.args.params.now c.args.phase c.args.set.now.places c.args.wishes.now c.loop-i.i c.place-place.result _ c.max_level-finest.result
          c.place-place.ensures.leaf (slice_get-get_or c.args.wishes.now c.loop-i.i Coarsen within) (search rules)
          (λ both. false≢true (sym c.if-is_too_fine.false ∙ c.is_too_fine.ensures.too_fine.1 both)) c.loop-i.invariant.none;
    }

pub returns-clause-none : goal.returns-clause-none
returns-clause-none c = level_limit-none c.args.params.now c.args.set.now.places c.args.wishes.now c.loop-i.i (omega (arith, c.loop-i-test.false, c.len-i-end.ensures.len)) c.loop-i.invariant.none
