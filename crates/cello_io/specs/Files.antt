-- What a shelf tells of its files, and what its calls do to that.
use Rattle.std.specs.Prelude.{◌≡◌, ℕ, ◌+◌, ◌-◌, ◌^◌, min, ◌<◌, ◌≤◌, ◌⊎◌, ◌↔◌, Bool, true, false, not, IsTrue, IsFalse, List, [], ◌∷◌, ◌++◌, length, take, drop, None, Some, MatchResult, IfSome, IfOk, OnOk, OnErr, IsErrOf, IsSomeAnd, Option, Result}
use Rattle.std.specs.Option.{option_map}
use Rattle.cello_io.specs.declared.failed.Failed.{Failed}
use Rattle.cello_io.specs.declared.failed.FetchFault.{FetchFault}
use Rattle.cello_io.specs.declared.failed.FetchFault.TheVariants.{Failed as FetchFailed, Absent}
use Rattle.cello_io.specs.Counts.{Rose, HasCause}

-- a file that was made: its name, its bytes, and whether it is complete
pub record MadeFile : Type 0 where
  pub name : List ℕ
  pub bytes : List ℕ
  pub sealed : Bool

-- the bytes of each name that the shelf was handed in with
abbrev pub PastFiles : Type 0
PastFiles = List ℕ → Option (List ℕ)

-- What a shelf tells: the past files and the made ones where it can, and the rest always.
pub record ShelfTells : Type 0 where
  pub past : Option PastFiles
  pub written : Option (List MadeFile)
  pub is_writing : Bool
  pub write_faults : ℕ
  pub fetch_faults : ℕ
  pub absences : ℕ

-- the list with its last element changed
abbrev pub with_last : {A : Type 0} → (A → A) → List A → List A
with_last change [] = []
with_last change (file ∷ []) = change file ∷ []
with_last change (file ∷ next ∷ files) = file ∷ with_last change (next ∷ files)

-- the last file is there and isn't sealed
abbrev pub is_last_open : List MadeFile → Bool
is_last_open [] = false
is_last_open (file ∷ []) = not file.sealed
is_last_open (file ∷ next ∷ files) = is_last_open (next ∷ files)

-- an empty file that isn't sealed
abbrev pub new_file : List ℕ → MadeFile
new_file name = record { name = name; bytes = []; sealed = false }

-- the file with bytes at its end
abbrev pub grown : List ℕ → MadeFile → MadeFile
grown bytes file = record file { bytes = file.bytes ++ bytes }

-- the file, complete
abbrev pub sealed_file : MadeFile → MadeFile
sealed_file file = record file { sealed = true }

-- what no writing call changes: the past files, and the counts of fetching
pub record SamePast (old new : ShelfTells) : Type 0 where
  pub past : new.past ≡ old.past
  pub fetch_faults : new.fetch_faults ≡ old.fetch_faults
  pub absences : new.absences ≡ old.absences

-- a new file stands behind the made ones; after `Failed` it does, or they are as before
pub record Creates (name : List ℕ) (old new : ShelfTells) (result : Result (Unit {0}) Failed) : Type 0 where
  pub made : OnOk result (new.written ≡ option_map (λ files. files ++ new_file name ∷ []) old.written)
  pub writing : OnOk result (IsTrue new.is_writing)
  pub failed : OnErr result ((new.written ≡ old.written) ⊎ (new.written ≡ option_map (λ files. files ++ new_file name ∷ []) old.written))
  pub past : SamePast old new
  pub cause : HasCause old.write_faults new.write_faults result

-- the last file grew by the front of the piece; after `Failed` it is as before
pub record Appends (piece : List ℕ) (old new : ShelfTells) (result : Result ℕ Failed) : Type 0 where
  pub within : IfOk result (λ count. (0 < count) × (count ≤ length piece))
  pub appended : IfOk result (λ count. new.written ≡ option_map (λ files. with_last (grown (take count piece)) files) old.written)
  pub failed : OnErr result (new.written ≡ old.written)
  pub writing : new.is_writing ≡ old.is_writing
  pub past : SamePast old new
  pub cause : HasCause old.write_faults new.write_faults result

-- the last file is sealed; after `Failed` it is, or all are as before
pub record Seals (old new : ShelfTells) (result : Result (Unit {0}) Failed) : Type 0 where
  pub sealed : OnOk result (new.written ≡ option_map (λ files. with_last sealed_file files) old.written)
  pub writing : OnOk result (IsFalse new.is_writing)
  pub failed : OnErr result ((new.written ≡ old.written) ⊎ (new.written ≡ option_map (λ files. with_last sealed_file files) old.written))
  pub past : SamePast old new
  pub cause : HasCause old.write_faults new.write_faults result

-- these are the bytes that stand at an offset in a file, none exactly at its end or past it
pub record StandsAt (file : List ℕ) (from count : ℕ) (bytes : List ℕ) : Type 0 where
  pub bytes_are : take count bytes ≡ take count (drop from file)
  pub none_at_end : (count ≡ 0) ↔ (length file ≤ from)

-- bytes of the past file of this name, where the past is told; no file and no writing fault is new
pub record Fetches (name : List ℕ) (from : ℕ) (buf : List ℕ) (old new : ShelfTells) (result : Result ℕ FetchFault) : Type 0 where
  pub within : IfOk result (λ count. count ≤ length buf)
  pub bytes : IfOk result (λ count. IfSome old.past (λ past. IsSomeAnd (past name) (λ file. StandsAt file from count buf)))
  pub absent : IsErrOf result Absent → IfSome old.past (λ past. past name ≡ None)
  pub past : new.past ≡ old.past
  pub written : new.written ≡ old.written
  pub writing : new.is_writing ≡ old.is_writing
  pub write_faults : new.write_faults ≡ old.write_faults
  pub fetch_faults : old.fetch_faults ≤ new.fetch_faults
  pub absences : old.absences ≤ new.absences
  pub failed_cause : IsErrOf result FetchFailed → Rose old.fetch_faults new.fetch_faults
  pub absent_cause : IsErrOf result Absent → Rose old.absences new.absences

-- what a shelf tells that can't tell of its files
abbrev pub untold : Bool → ℕ → ℕ → ℕ → ShelfTells
untold is_writing write_faults fetch_faults absences = record {
  past = None;
  written = None;
  is_writing = is_writing;
  write_faults = write_faults;
  fetch_faults = fetch_faults;
  absences = absences;
}

-- what a shelf without files tells
abbrev pub idle : ℕ → ℕ → ShelfTells
idle write_faults fetch_faults = untold false write_faults fetch_faults 0

-- what a shelf tells that was handed in with these files, and on which no call was made yet
abbrev pub new_shelf : PastFiles → ShelfTells
new_shelf past = record {
  past = Some past;
  written = Some [];
  is_writing = false;
  write_faults = 0;
  fetch_faults = 0;
  absences = 0;
}

-- one more fault of writing, and nothing else
abbrev pub CountsWriteFault : ShelfTells → ShelfTells → Type 0
CountsWriteFault old new = new ≡ record old { write_faults = min (old.write_faults + 1) (2 ^ 64 - 1) }

-- one more fault of fetching, and nothing else
abbrev pub CountsFetchFault : ShelfTells → ShelfTells → Type 0
CountsFetchFault old new = new ≡ record old { fetch_faults = min (old.fetch_faults + 1) (2 ^ 64 - 1) }

-- one more absence, and nothing else
abbrev pub CountsAbsence : ShelfTells → ShelfTells → Type 0
CountsAbsence old new = new ≡ record old { absences = min (old.absences + 1) (2 ^ 64 - 1) }

-- What a writing call does exactly, where after an error no more than a fault of writing is counted: there is a new
-- file, the last one is longer, or the last one is sealed.
abbrev pub MakesFile : {T E : Type 0} → List ℕ → ShelfTells → ShelfTells → Result T E → Type 0
MakesFile name old new result =
    MatchResult result (λ _. new ≡ record old { written = option_map (λ files. files ++ new_file name ∷ []) old.written; is_writing = true }) (λ _. CountsWriteFault old new)

abbrev pub LengthensLast : {T E : Type 0} → List ℕ → ShelfTells → ShelfTells → Result T E → Type 0
LengthensLast bytes old new result =
    MatchResult result (λ _. new ≡ record old { written = option_map (λ files. with_last (grown bytes) files) old.written }) (λ _. CountsWriteFault old new)

abbrev pub SealsLast : {T E : Type 0} → ShelfTells → ShelfTells → Result T E → Type 0
SealsLast old new result =
    MatchResult result (λ _. new ≡ record old { written = option_map (λ files. with_last sealed_file files) old.written; is_writing = false }) (λ _. CountsWriteFault old new)
