-- The test and the rule.
use Rattle.std.proofs.Common.{ℕ, ◌<◌, [], slice_index, subst, sym}
use Rattle.std.proofs.lemmas.Bool.{ltb-true, lt-ltb}
use Rattle.sibling_rule.proofs.BrokenRules.{below-jump}
use Rattle.sibling_rule.proofs.level_check.breaks_jump.Goals as goal

pub returns : goal.returns
returns c =
    let own : ℕ = slice_index c.args.levels.now c.args.i in
    let e = c.saturating_sub.ensures in
    record {
      breaks = (
        (λ h. below-jump c.args.set.now.grid c.args.set.now.places [] c.args.levels.now c.args.i c.args.j c.requires.leaf c.requires.touch
            (subst (λ k. own < k) e (ltb-true own c.saturating_sub.result h))),
        λ b. lt-ltb own c.saturating_sub.result (subst (λ k. own < k) (sym e) b.below),
      );
    }
