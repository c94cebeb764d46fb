-- So many slots so far.
use Rattle.std.proofs.Common.{◌≡◌, length}
use Rattle.adapt_core.proofs.making.empty_slots.Given as goal

abbrev pub invariant-loop : goal.invariant-loop
invariant-loop l = length l.slots.items ≡ l.counter
