-- What holds at each turn of the loop.
use Rattle.std.proofs.Common.{◌≡◌, ℕ, map, replicate, Vec, Global}
use Rattle.block_fields.proofs.block.made.zero_lists.Given as goal

abbrev pub invariant-loop : goal.invariant-loop
invariant-loop l = map (λ (v : Vec ℕ Global). v.items) l.lists.items ≡ replicate l.counter (replicate l.length 0)
