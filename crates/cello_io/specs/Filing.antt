-- How far the writing of one file came.
use Rattle.std.specs.Prelude.{◌≡◌, ℕ, Bool, true, false, List, [], ◌∷◌, ◌++◌, IsFalse, OnOk, OnErr, Option, Result}
use Rattle.std.specs.Option.{option_map}
use Rattle.cello_io.specs.declared.failed.Failed.{Failed}
use Rattle.cello_io.specs.Counts.{HasCause}
use Rattle.cello_io.specs.Files.{MadeFile, ShelfTells, SamePast}

-- a file of this name with these bytes, complete or not
abbrev pub made_file : List ℕ → List ℕ → Bool → MadeFile
made_file name bytes is_sealed = record { name = name; bytes = bytes; sealed = is_sealed }

-- the made files, where they are told, and one more behind them
abbrev pub with_file : Option (List MadeFile) → MadeFile → Option (List MadeFile)
with_file old file = option_map (λ files. files ++ file ∷ []) old

-- A file is there in part: not at all, or with the first of its bytes and not sealed, or whole.
pub data IsFiledInPart (name bytes : List ℕ) (old new : Option (List MadeFile)) : Type 0 where
  absent : new ≡ old → IsFiledInPart name bytes old new
  unsealed : (part missing : List ℕ) → part ++ missing ≡ bytes → new ≡ with_file old (made_file name part false) → IsFiledInPart name bytes old new
  whole : new ≡ with_file old (made_file name bytes true) → IsFiledInPart name bytes old new

-- One file was written: on `Ok` it stands behind the others, sealed, with all its bytes; after `Failed` in part.
pub record WritesFile (name bytes : List ℕ) (old new : ShelfTells) (result : Result (Unit {0}) Failed) : Type 0 where
  pub whole : OnOk result (new.written ≡ with_file old.written (made_file name bytes true))
  pub idle : OnOk result (IsFalse new.is_writing)
  pub part : OnErr result (IsFiledInPart name bytes old.written new.written)
  pub past : SamePast old new
  pub cause : HasCause old.write_faults new.write_faults result
