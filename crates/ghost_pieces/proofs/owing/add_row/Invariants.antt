use Rattle.std.proofs.Common.{◌≡◌, ◌*◌, ◌++◌}
use Rattle.std.specs.List.{flat_map, range_with_len}
use Rattle.ghost_pieces.specs.Lemmas.Counts.{count_at, piece_of_size}
use Rattle.ghost_pieces.specs.Lemmas.OwedLists.{step_at}
use Rattle.ghost_pieces.proofs.owing.add_row.Given as goal

abbrev pub invariant-loop-x : goal.invariant-loop-x
invariant-loop-x l =
    l.found.items ≡ l.fn.found.items ++ flat_map (λ k. piece_of_size l.pair.fields l.pair.to l.pair.receiver l.pair.from l.pair.sender (l.area * count_at l.wide.before l.wide.own l.wide.after k) (record { x = step_at k; y = step_at l.y; z = step_at l.z })) (range_with_len 0 l.x)
