use Rattle.std.proofs.Common.{◌≡◌, map, ◌++◌, Some}
use Rattle.quiet_table.specs.declared.item.Item.TheVariants.{Cell, Inbox}
use Rattle.quiet_table.proofs.board.making.lay.Given as goal

abbrev pub invariant-loop-cell : goal.invariant-loop-cell
invariant-loop-cell g l = l.slots.items ≡ map (λ c. Some (Cell c)) l.yielded

abbrev pub invariant-loop-inbox : goal.invariant-loop-inbox
invariant-loop-inbox g l = l.slots.items ≡ map (λ c. Some (Cell c)) l.fn.cells.items ++ map (λ b. Some (Inbox b)) l.yielded
