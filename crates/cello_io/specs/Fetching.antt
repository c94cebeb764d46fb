-- What fetching a whole file does, and how far it came.
use Rattle.std.specs.Prelude.{◌≡◌, ℕ, ◌≤◌, List, length, take, IfSome, IsSomeAnd, Some}
use Rattle.cello_io.specs.declared.failed.FetchFault.{FetchFault}
use Rattle.cello_io.specs.declared.failed.FetchFault.TheVariants.{Failed, Absent}
use Rattle.cello_io.specs.declared.fetching.FetchError.{FetchError}
use Rattle.cello_io.specs.declared.fetching.FetchError.TheVariants as errors
use Rattle.cello_io.specs.Files.{ShelfTells}

-- a fault of one fetch as the whole one's
abbrev pub error_of : FetchFault → FetchError
error_of Failed = errors.Failed
error_of Absent = errors.Absent

-- what no fetch changes: all but the counts of fetching, which don't fall
pub record OnlyFetched (old new : ShelfTells) : Type 0 where
  pub past : new.past ≡ old.past
  pub written : new.written ≡ old.written
  pub writing : new.is_writing ≡ old.is_writing
  pub write_faults : new.write_faults ≡ old.write_faults
  pub fetch_faults : old.fetch_faults ≤ new.fetch_faults
  pub absences : old.absences ≤ new.absences

-- these are the first bytes of the past file of this name, as many as the limit or all, where the past is told
abbrev pub HasFetched : List ℕ → ℕ → List ℕ → ShelfTells → Type 0
HasFetched name limit bytes tells = IfSome tells.past (λ past. IsSomeAnd (past name) (λ file. bytes ≡ take limit file))

-- these bytes stand at the front of the past file of this name, if there is one
abbrev pub IsFront : List ℕ → List ℕ → ShelfTells → Type 0
IsFront name bytes tells = IfSome tells.past (λ past. (file : List ℕ) → past name ≡ Some file →
    (length bytes ≤ length file) × (bytes ≡ take (length bytes) file))

-- there is one
abbrev pub IsThere : List ℕ → ShelfTells → Type 0
IsThere name tells = IfSome tells.past (λ past. IsSomeAnd (past name) (λ file. Unit {0}))
