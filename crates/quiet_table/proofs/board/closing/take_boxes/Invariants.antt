use Rattle.std.proofs.Common.{◌≡◌, ◌<◌, ◌≤◌, ◌+◌, ℕ, map, take, drop, false, Some, get_or, vec_len}
use Rattle.std.specs.Prelude.{vec_capacity}
use Rattle.std.specs.Mem.Slots.{slots_items, slots_filled, slots_len}
use Rattle.std.specs.Mem.Slots.Ownership.{Filled}
use Rattle.quiet_table.specs.declared.item.Item.TheVariants.{Inbox}
use Rattle.quiet_table.proofs.board.closing.take_boxes.Given as goal

abbrev pub invariant-loop-k : goal.invariant-loop-k
invariant-loop-k g l = record {
  full : Filled (slots_filled l.closed.slots) (l.fn.shards + l.k) (slots_len l.closed.slots);
  below : (j : ℕ) → j < (l.fn.shards + l.k) → get_or (slots_filled l.closed.slots) j false ≡ false;
  items : slots_items l.closed.slots ≡ slots_items l.fn.closed.slots;
  len : slots_len l.closed.slots ≡ slots_len l.fn.closed.slots;
  words : l.closed.words ≡ l.fn.closed.words;
  laid : map (λ c. Some (Inbox c)) l.boxes.items ≡ take l.k (drop l.fn.shards (slots_items l.fn.closed.slots));
  count : vec_len l.boxes ≡ l.k;
  room : l.fn.shards ≤ vec_capacity l.boxes;
}
