-- The limits of a parameter text.
use Rattle.std.specs.Prelude.{ℕ}

-- the most bytes of a text
abbrev pub longest : ℕ
longest = 65536

-- the most bytes of a name or a word
abbrev pub longest_name : ℕ
longest_name = 32

-- the greatest number, and less its sign the least
abbrev pub greatest : ℕ
greatest = 9223372036854775807

-- the most elements of a list
abbrev pub most_elements : ℕ
most_elements = 64
