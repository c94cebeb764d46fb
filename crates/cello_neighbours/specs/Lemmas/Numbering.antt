-- The 27 offsets of steps of -1, 0 and 1 by number, x fastest, then y, then z. Number 13, in the middle, is none.
use Rattle.std.specs.Prelude.{ℕ, zero, suc, ◌/◌, ◌%◌, ℤ, pos, negsuc}
use Rattle.block_index.specs.Beyond.{Offset}

-- how many offsets there are
abbrev pub offset_count : ℕ
offset_count = 27

abbrev pub step_numbered : ℕ → ℤ
step_numbered zero = negsuc 0
step_numbered (suc zero) = pos 0
step_numbered (suc (suc k)) = pos 1

abbrev pub offset_numbered : ℕ → Offset
offset_numbered n = record { x = step_numbered (n % 3); y = step_numbered (n / 3 % 3); z = step_numbered (n / 9) }
