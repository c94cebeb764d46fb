-- The commands, by the words after the program's name. Every other list of words is outside the set.
use Rattle.std.specs.Prelude.{◌≡◌, ◌⊎◌, ◌≤◌, ℕ, Bool, true, false, ◌==◌, ◌&&◌, ◌||◌, nat_le, List, [], ◌∷◌, codes, decimal, length}
use Rattle.demo_params.specs.DemoTexts.{most_seed, most_size}
use Rattle.params_check.specs.Bounds.{most_cycles}
use Rattle.params_check.specs.Forms.{each}

-- the command `solo`: the run on one thread
abbrev pub IsSolo : List (List ℕ) → Type 0
IsSolo words = words ≡ codes "solo" ∷ []

-- the command `check`: the canonical text of parameters
abbrev pub IsCheck : List (List ℕ) → Type 0
IsCheck words = words ≡ codes "check" ∷ []

-- a letter from `a` to `z`, or a digit
abbrev pub begins_file_name : ℕ → Bool
begins_file_name b = (nat_le 97 b && nat_le b 122) || (nat_le 48 b && nat_le b 57)

-- such a byte, or `_`, `-` or `.`
abbrev pub is_file_byte : ℕ → Bool
is_file_byte b = begins_file_name b || (b == 95) || (b == 45) || (b == 46)

abbrev pub longest_file_name : ℕ
longest_file_name = 32

-- The name of a file: a letter or a digit, then letters, digits, `_`, `-` and `.`, and not too long.
abbrev pub is_file_name : List ℕ → Bool
is_file_name [] = false
is_file_name (b ∷ bs) = begins_file_name b && each is_file_byte bs && nat_le (length (b ∷ bs)) longest_file_name

-- The command `resume`: the run that goes on from the checkpoint in the file of a name, up to a cycle. The cycle stands
-- there in the one decimal spelling of its number.
pub record IsResume (words : List (List ℕ)) (name : List ℕ) (until : ℕ) : Type 0 where
  pub spelled : words ≡ codes "resume" ∷ name ∷ codes "--until" ∷ decimal until ∷ []
  pub named : is_file_name name ≡ true
  pub within : until ≤ most_cycles

-- the command `resume` of some file and some cycle
abbrev pub IsSomeResume : List (List ℕ) → Type 0
IsSomeResume words = (name : List ℕ) × (until : ℕ) × IsResume words name until

-- the commands that read the source
abbrev pub ReadsSource : List (List ℕ) → Type 0
ReadsSource words = IsSolo words ⊎ IsCheck words

-- The command `demo`: the summary of the demonstration of a seed and a size. Each stands there in the one decimal spelling
-- of its number.
pub record IsDemo (words : List (List ℕ)) (seed size : ℕ) : Type 0 where
  pub spelled : words ≡ codes "demo" ∷ decimal seed ∷ decimal size ∷ []
  pub seed_within : seed ≤ most_seed
  pub some : 1 ≤ size
  pub size_within : size ≤ most_size

-- the command `demo` of some seed and some size
abbrev pub IsSomeDemo : List (List ℕ) → Type 0
IsSomeDemo words = (seed : ℕ) × (size : ℕ) × IsDemo words seed size

abbrev pub IsCommand : List (List ℕ) → Type 0
IsCommand words = ReadsSource words ⊎ (IsSomeResume words ⊎ IsSomeDemo words)
