-- The leaves around are all those that can break the rule, in order.
use Rattle.std.proofs.Common.{[], arith}
use Rattle.sibling_rule.specs.BrokenRules.{BreaksSibling}
use Rattle.sibling_rule.proofs.BrokenRules.{sibling-around}
use Rattle.sibling_rule.proofs.FirstAround.{first-around, none-around}
use Rattle.sibling_rule.proofs.level_check.first_sibling.Goals as goal

pub returns-then-breaks_sibling-clause-found : goal.returns-then-breaks_sibling-clause-found
returns-then-breaks_sibling-clause-found c =
    let set = c.args.set.now in
    let t = c.requires.tiles in
    first-around (BreaksSibling set.places c.args.levels.now c.args.i) c.args.around.now
    (sibling-around set.grid set.places [] c.args.levels.now t.domain t.mesh c.args.i c.args.around.now c.requires.around) c.requires.around.ascending c.loop-j.j-index (omega arith) c.loop-j.invariant
    (c.breaks_sibling.ensures.breaks.0 c.if-breaks_sibling.true)

pub returns-clause-none : goal.returns-clause-none
returns-clause-none c n =
    let set = c.args.set.now in
    let t = c.requires.tiles in
    none-around (BreaksSibling set.places c.args.levels.now c.args.i) c.args.around.now
    (sibling-around set.grid set.places [] c.args.levels.now t.domain t.mesh c.args.i c.args.around.now c.requires.around)
    (λ k h. c.loop-j.invariant k (omega arith))
