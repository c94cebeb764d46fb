use Rattle.std.proofs.Common.{rules, ◌<◌, length, arith}
use Rattle.std.proofs.lemmas.Grind.{common_steps}
use Rattle.quiet_table.proofs.Emptying.{head_tail}
use Rattle.quiet_table.proofs.board.closing.first_and_others.Goals as goal

pub returns : goal.returns
returns g c =
    let low : 0 < length c.args.seats.items = first_of (search rules, grind (arith, common_steps)) in
    head_tail c.args.seats.items c.remove-first.result c.remove-first.new.self.items low c.remove-first.ensures.value c.remove-first.ensures.items
