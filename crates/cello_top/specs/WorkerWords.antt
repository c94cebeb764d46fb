-- The commands with workers, by the words after the program's name, and the words that ask for the same without workers.
use Rattle.std.specs.Prelude.{◌≡◌, ◌≤◌, ◌+◌, ℕ, zero, suc, Bool, true, false, ◌==◌, ◌&&◌, ◌||◌, cond, List, [], ◌∷◌, codes, decimal, get_or, length}
use Rattle.std.specs.Str.{bytes_eq}
use Rattle.params_check.specs.Bounds.{most_cycles}
use Rattle.cello_top.specs.Words.{is_file_name}

abbrev pub most_workers : ℕ
most_workers = 16

-- The command `run`: as `solo`, by so many workers. Their number stands there in its one decimal spelling.
pub record IsRun (words : List (List ℕ)) (workers : ℕ) : Type 0 where
  pub spelled : words ≡ codes "run" ∷ codes "--workers" ∷ decimal workers ∷ []
  pub some : 1 ≤ workers
  pub within : workers ≤ most_workers

-- the words of `restart`, with its two options in either order
pub data AreOfRestart (words : List (List ℕ)) (name : List ℕ) (until workers : ℕ) : Type 0 where
  workers_first : words ≡ codes "restart" ∷ name ∷ codes "--workers" ∷ decimal workers ∷ codes "--until" ∷ decimal until ∷ [] →
      AreOfRestart words name until workers
  until_first : words ≡ codes "restart" ∷ name ∷ codes "--until" ∷ decimal until ∷ codes "--workers" ∷ decimal workers ∷ [] →
      AreOfRestart words name until workers

-- The command `restart`: as `resume`, by so many workers.
pub record IsRestart (words : List (List ℕ)) (name : List ℕ) (until workers : ℕ) : Type 0 where
  pub spelled : AreOfRestart words name until workers
  pub named : is_file_name name ≡ true
  pub until_within : until ≤ most_cycles
  pub some : 1 ≤ workers
  pub within : workers ≤ most_workers

-- a word is the decimal spelling of a number from 1 to this one
unfoldable pub spells_up_to : ℕ → List ℕ → Bool
spells_up_to zero word = false
spells_up_to (suc n) word = bytes_eq word (decimal (suc n)) || spells_up_to n word

-- a word is the number of some workers
abbrev pub is_workers : List ℕ → Bool
is_workers word = spells_up_to most_workers word

-- the word at a position
abbrev pub word_at : List (List ℕ) → ℕ → List ℕ
word_at words position = get_or words position []

-- these are words of `run`
abbrev pub asks_run : List (List ℕ) → Bool
asks_run words = (length words == 3) && bytes_eq (word_at words 0) (codes "run") && bytes_eq (word_at words 1) (codes "--workers")
    && is_workers (word_at words 2)

-- These are words of `restart` of anything up to anything, with its options at these positions.
abbrev pub asks_restart : ℕ → ℕ → List (List ℕ) → Bool
asks_restart workers until words = (length words == 6) && bytes_eq (word_at words 0) (codes "restart")
    && bytes_eq (word_at words workers) (codes "--workers") && is_workers (word_at words (workers + 1))
    && bytes_eq (word_at words until) (codes "--until")

-- the words of `resume` for words of `restart` with the option `--until` at this position
abbrev pub resume_words : ℕ → List (List ℕ) → List (List ℕ)
resume_words until words = codes "resume" ∷ word_at words 1 ∷ codes "--until" ∷ word_at words (until + 1) ∷ []

-- What is asked without workers: `solo` where `run` is asked, and `resume` where `restart` is. Whether the file and the cycle
-- are fit for `resume` shows there. All other words are themselves.
abbrev pub plain_words : List (List ℕ) → List (List ℕ)
plain_words words = cond (asks_run words) (codes "solo" ∷ [])
    (cond (asks_restart 2 4 words) (resume_words 4 words) (cond (asks_restart 4 2 words) (resume_words 2 words) words))
