-- How far several reads came.
use Rattle.std.specs.Prelude.{◌≡◌, ◌≤◌, ◌⊎◌, ℕ, Bool, IsTrue, List, length, Option}
use Rattle.std.specs.Io.KnownBytes.{prepend_known, IsAtEnd}

-- Some bytes at the front of those that were left, at most so many, are gone.
pub record LostAtMost (limit : ℕ) (old new : Option (List ℕ)) : Type 0 where
  pub bytes : List ℕ
  pub gone : old ≡ prepend_known bytes new
  pub within : length bytes ≤ limit

-- Reading stopped at the end, where nothing is left, or after so many bytes.
abbrev pub StoppedAt : ℕ → Bool → Option (List ℕ) → List ℕ → Type 0
StoppedAt limit has_ended left bytes = (IsTrue has_ended × IsAtEnd left) ⊎ (length bytes ≡ limit)
