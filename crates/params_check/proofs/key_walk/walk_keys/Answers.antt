-- What is left of the proof of this function.
use Rattle.std.proofs.Common.{map, arith}
use Rattle.params_check.specs.declared.fault.CheckError.TheVariants.{Param}
use Rattle.params_check.specs.Keys.{Key}
use Rattle.params_check.specs.Lemmas.Slots.{given, settings_in}
use Rattle.params_check.specs.Lemmas.Tables.{entry}
use Rattle.params_check.specs.TreeValues.{value_at}
use Rattle.params_check.specs.Values.{value_of}
use Rattle.params_check.specs.Walks.{key_faults, keys_faults}
use Rattle.params_check.proofs.FirstFaults.{finds-err}
use Rattle.params_check.proofs.KeyWalks.{passed-found}
use Rattle.params_check.proofs.key_walk.walk_keys.Goals as goal

pub returns-in_err-walk_key-clause-fault : goal.returns-in_err-walk_key-clause-fault
returns-in_err-walk_key-clause-fault c =
    let a = c.args in
    let f = c.in_err-walk_key.field-0.0 in
    finds-err (keys_faults a.place.now.group a.place.now.sub a.names.now a.kind.now (settings_in a.lines.now) (map entry a.keys.now)) c.from_residual.result (Param f)
    c.from_residual.ensures.1
    (passed-found entry given (λ (k : Key). value_at k (settings_in a.lines.now))
    (λ (k : Key). key_faults a.place.now.group a.place.now.sub a.names.now a.kind.now k (value_of k.name (settings_in a.lines.now)))
    a.keys.now c.loop-key.key-index c.loop-key.slots.items _ c.loop-key.invariant (omega arith) f (rw c.value_of-value.ensures.value at c.in_err-walk_key.ensures.fault))
