-- The one spelling of a saved state. All numbers are binary, the highest byte first.
use Rattle.std.specs.Prelude.{ℕ, List, codes, length, map}
use Rattle.std.specs.Int.{bytes_high_first}
use Rattle.std.specs.List.{flat_map}
use Rattle.block_index.specs.Places.{packed}
use Rattle.checkpoint.specs.Parts.{parts_of_version_1}
use Rattle.checkpoint.specs.SavedStates.{SavedState}
use Rattle.checkpoint.specs.declared.part.Part.{Part}
use Rattle.checkpoint.specs.declared.part.Part.TheVariants.{Magic, Version, TextLength, Text, Cycle, LeafCount, Places, Amounts, Totals, Gone}

-- numbers of 8 bytes, one after another
abbrev pub numbers_bytes : List ℕ → List ℕ
numbers_bytes numbers = flat_map (bytes_high_first 8) numbers

-- the amounts of blocks, block after block, and in each field after field
abbrev pub all_amounts : List (List (List ℕ)) → List ℕ
all_amounts blocks = flat_map (λ fields. flat_map (λ amounts. amounts) fields) blocks

-- the bytes of a part
abbrev pub part_bytes : SavedState → Part → List ℕ
part_bytes s Magic = codes "CELLOAMR"
part_bytes s Version = bytes_high_first 2 1
part_bytes s TextLength = bytes_high_first 4 (length s.params.text)
part_bytes s Text = s.params.text
part_bytes s Cycle = bytes_high_first 4 s.cycle
part_bytes s LeafCount = bytes_high_first 4 (length s.places)
part_bytes s Places = numbers_bytes (map packed s.places)
part_bytes s Amounts = numbers_bytes (all_amounts s.amounts)
part_bytes s Totals = numbers_bytes s.totals
part_bytes s Gone = numbers_bytes s.gone

-- the bytes of a state, part after part
abbrev pub bytes_of : SavedState → List ℕ
bytes_of s = flat_map (part_bytes s) parts_of_version_1
