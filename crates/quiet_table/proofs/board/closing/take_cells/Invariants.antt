use Rattle.std.proofs.Common.{◌≡◌, ◌<◌, ◌≤◌, ℕ, map, take, false, Some, get_or, vec_len}
use Rattle.std.specs.Prelude.{vec_capacity}
use Rattle.std.specs.Mem.Slots.{slots_items, slots_filled, slots_len}
use Rattle.std.specs.Mem.Slots.Ownership.{Filled}
use Rattle.quiet_table.specs.declared.item.Item.TheVariants.{Cell}
use Rattle.quiet_table.proofs.board.closing.take_cells.Given as goal

abbrev pub invariant-loop-k : goal.invariant-loop-k
invariant-loop-k g l = record {
  full : Filled (slots_filled l.closed.slots) l.k (slots_len l.closed.slots);
  below : (j : ℕ) → j < l.k → get_or (slots_filled l.closed.slots) j false ≡ false;
  items : slots_items l.closed.slots ≡ slots_items l.fn.closed.slots;
  len : slots_len l.closed.slots ≡ slots_len l.fn.closed.slots;
  words : l.closed.words ≡ l.fn.closed.words;
  laid : map (λ c. Some (Cell c)) l.cells.items ≡ take l.k (slots_items l.fn.closed.slots);
  count : vec_len l.cells ≡ l.k;
  room : l.fn.shards ≤ vec_capacity l.cells;
}
