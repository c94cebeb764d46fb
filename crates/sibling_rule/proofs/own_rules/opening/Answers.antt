-- One more opening level, and at the end all.
use Rattle.std.proofs.Common.{◌<◌, [], ◌∷◌, length, length-append, arith, sym, ap, subst}
use Rattle.std.proofs.lemmas.Option.{slice_get-get_or}
use Rattle.block_index.specs.declared.wish.Wish.TheVariants.{Coarsen}
use Rattle.sibling_rule.proofs.OpeningSteps.{AreOpening, AreOpening-push, IsOpening-AreOpening}
use Rattle.sibling_rule.proofs.own_rules.opening.Goals as goal

pub loop-i-preserved : goal.loop-i-preserved
loop-i-preserved c =
    let within : c.loop-i.i < length c.args.wishes.now = omega (arith, c.loop-i-test.true) in
    record {
      one_each = omega (arith, ap length c.in_ok-push.ensures.items, length-append c.loop-i.levels.items (c.opening_level.result ∷ []), c.loop-i.invariant.one_each);
      opening =
          subst (AreOpening c.args.set.now.grid c.args.set.now.places c.args.wishes.now) (sym c.in_ok-push.ensures.items)
          (AreOpening-push c.args.set.now.grid c.args.set.now.places c.args.wishes.now c.loop-i.levels.items c.loop-i.i c.place.result _ c.opening_level.result
          c.loop-i.invariant.one_each c.loop-i.invariant.opening c.place.ensures.leaf
          (slice_get-get_or c.args.wishes.now c.loop-i.i Coarsen within)
          c.opening_level.ensures);
    }

pub returns : goal.returns
returns c = record {
  opening =
      IsOpening-AreOpening _ _ _ c.loop-i.levels.items
      (omega (arith, c.loop-i.invariant.one_each, c.loop-i-test.false, c.loop-i.auto.i-end, c.requires.one_each))
      c.requires.one_each c.loop-i.invariant.opening;
}
