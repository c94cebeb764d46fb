use Rattle.std.proofs.Common.{◌≡◌, ◌≤◌, ◌<◌, ◌+◌, ◌*◌, ℕ, map, take, length, get_or}
use Rattle.quiet_table.specs.Contents.{pool}
use Rattle.quiet_table.specs.Words.{FirstWords}
use Rattle.quiet_table.proofs.board.making.first_words.Given as goal

abbrev pub invariant-loop-k : goal.invariant-loop-k
invariant-loop-k g l = record {
  words : FirstWords (length l.cells.items) l.words.items (length (pool (take l.k (map g.C.Load.parcels l.cells.items))) + length (pool (take l.k (map g.B.Load.parcels l.boxes.items))));
  zeros : (j : ℕ) → l.k ≤ j → j < length l.cells.items → get_or l.words.items (2 * length l.cells.items + j) 0 ≡ 0;
}
