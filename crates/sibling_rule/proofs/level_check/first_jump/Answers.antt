-- The leaves around are all those that can break the rule, in order.
use Rattle.std.proofs.Common.{[], arith}
use Rattle.sibling_rule.specs.BrokenRules.{BreaksJump}
use Rattle.sibling_rule.proofs.BrokenRules.{jump-around}
use Rattle.sibling_rule.proofs.FirstAround.{first-around}
use Rattle.sibling_rule.proofs.level_check.first_jump.Goals as goal

pub returns-then-breaks_jump-clause-found : goal.returns-then-breaks_jump-clause-found
returns-then-breaks_jump-clause-found c =
    let set = c.args.set.now in
    first-around (BreaksJump set.grid set.places c.args.levels.now c.args.i) c.args.around.now
    (jump-around set.grid set.places [] c.args.levels.now c.args.i c.args.around.now c.requires.around) c.requires.around.ascending c.loop-j.j-index (omega arith) c.loop-j.invariant
    (c.breaks_jump.ensures.breaks.0 c.if-breaks_jump.true)
