-- What is left of the proof of this function.
use Rattle.std.proofs.Common.{[], ◌∙◌, arith, rules}
use Rattle.params_check.specs.Lemmas.Firsts.{first_fault}
use Rattle.params_check.specs.Walks.{group_faults, in_turn}
use Rattle.params_check.proofs.InTurn.{in_turn-found}
use Rattle.params_check.proofs.name_walk.walk_names.Goals as goal

pub returns-in_err-walk_group : goal.returns-in_err-walk_group
returns-in_err-walk_group c =
    let groups = c.args.groups.now in
    let x = c.index-groups-i.result in
    record { fault = in_turn-found group_faults groups c.loop-i.i x c.in_err-walk_group.field-0.0 (first_fault (in_turn group_faults [] groups)) c.loop-i.invariant (omega arith) c.index-groups-i.is c.in_err-walk_group.ensures.fault ∙ search rules }
