-- What is left of the proof of this function.
use Rattle.std.proofs.Common.{[], ap, codes, length, arith}
use Rattle.params_check.specs.Keys.{field_keys}
use Rattle.params_check.specs.TreeValues.{settings_of}
use Rattle.params_check.proofs.KeptGroups.{field-fits}
use Rattle.params_check.proofs.SlotValues.{kept-keys}
use Rattle.params_check.proofs.value_walk.walk_fields.Goals as goal

pub of-requires : goal.of-requires
unfolding field_keys
of-requires c =
    let sets = settings_of (codes "Field") c.args.groups.now in
    let kept = kept-keys (codes "Field") [] [] [] sets field_keys (rw c.field_keys.ensures.keys at c.in_ok-walk_group.ensures.fault) in
    let names = rw (c.value_of.ensures.value, c.items_of.ensures.items) at c.in_ok-names.ensures.names in
    record { few = omega (arith, ap length names, (field-fits sets kept).0.few) }
