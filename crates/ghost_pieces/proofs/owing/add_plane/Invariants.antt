use Rattle.std.proofs.Common.{◌≡◌, ◌*◌, ◌++◌}
use Rattle.std.specs.List.{flat_map, range_with_len}
use Rattle.ghost_pieces.specs.Lemmas.Counts.{count_at, row_pieces}
use Rattle.ghost_pieces.proofs.owing.add_plane.Given as goal

abbrev pub invariant-loop-y : goal.invariant-loop-y
invariant-loop-y l =
    l.found.items ≡ l.fn.found.items ++ flat_map (λ k. row_pieces l.pair.fields l.pair.to l.pair.receiver l.pair.from l.pair.sender (count_at l.wide.before l.wide.own l.wide.after) (l.deep * count_at l.high.before l.high.own l.high.after k) k l.z) (range_with_len 0 l.y)
