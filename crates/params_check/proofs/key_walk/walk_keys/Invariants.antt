-- What holds at each turn of the loop.
use Rattle.params_check.specs.Lemmas.Slots.{given, settings_in}
use Rattle.params_check.specs.Lemmas.Tables.{entry}
use Rattle.params_check.specs.TreeValues.{value_at}
use Rattle.params_check.specs.Values.{value_of}
use Rattle.params_check.specs.Walks.{key_faults}
use Rattle.params_check.proofs.KeyWalks.{HasPassed}
use Rattle.params_check.proofs.key_walk.walk_keys.Given as goal

abbrev pub invariant-loop-key : goal.invariant-loop-key
invariant-loop-key l =
    HasPassed entry given (λ k. value_at k (settings_in l.lines))
    (λ k. key_faults l.place.group l.place.sub l.names l.kind k (value_of k.name (settings_in l.lines)))
    l.keys l.key-index l.slots.items
