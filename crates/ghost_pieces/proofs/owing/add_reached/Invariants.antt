use Rattle.std.proofs.Common.{◌≡◌, ◌++◌}
use Rattle.std.specs.List.{flat_map, range_with_len}
use Rattle.ghost_pieces.specs.Lemmas.Counts.{count_at, plane_pieces}
use Rattle.ghost_pieces.proofs.owing.add_reached.Given as goal

abbrev pub invariant-loop-z : goal.invariant-loop-z
invariant-loop-z l =
    l.found.items ≡ l.fn.found.items ++ flat_map (λ k. plane_pieces l.pair.fields l.pair.to l.pair.receiver l.pair.from l.pair.sender (count_at l.reach.x.before l.reach.x.own l.reach.x.after) (count_at l.reach.y.before l.reach.y.own l.reach.y.after) (count_at l.reach.z.before l.reach.z.own l.reach.z.after k) k) (range_with_len 0 l.z)
