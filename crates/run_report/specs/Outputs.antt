-- How far actions came on a sink and a shelf.
use Rattle.std.specs.Prelude.{◌≡◌, ℕ, true, List, [], ◌∷◌, ◌++◌, IsFalse, OnOk, Option, Result, MatchResult}
use Rattle.std.specs.List.{flat_map}
use Rattle.std.specs.Option.{option_map}
use Rattle.std.specs.Io.KnownBytes.{append_known}
use Rattle.cello_io.specs.declared.failed.Failed.{Failed}
use Rattle.cello_io.specs.Counts.{HasCause}
use Rattle.cello_io.specs.Files.{MadeFile, ShelfTells, SamePast}
use Rattle.cello_io.specs.Filing.{IsFiledInPart, made_file}
use Rattle.cello_io.specs.Writes.{GrewByPart}
use Rattle.run_report.specs.Actions.{Action, piece, file}

-- What a sink and a shelf tell of what was written: its bytes, and its files in order, each where they are told.
pub record Output : Type 0 where
  pub bytes : Option (List ℕ)
  pub files : Option (List MadeFile)

abbrev pub output : Option (List ℕ) → Option (List MadeFile) → Output
output bytes files = record { bytes = bytes; files = files }

-- the bytes of an action that is a piece
abbrev pub piece_bytes : Action → List ℕ
piece_bytes (piece bytes) = bytes
piece_bytes (file name bytes) = []

-- the file that an action makes, complete, where it makes one
abbrev pub file_of : Action → List MadeFile
file_of (piece bytes) = []
file_of (file name bytes) = made_file name bytes true ∷ []

-- the bytes of the pieces, one after another, and the files in order
abbrev pub pieces_bytes : List Action → List ℕ
pieces_bytes actions = flat_map piece_bytes actions

abbrev pub files_of : List Action → List MadeFile
files_of actions = flat_map file_of actions

-- the made files, where they are told, and more behind them
abbrev pub with_files : Option (List MadeFile) → List MadeFile → Option (List MadeFile)
with_files old files = option_map (λ made. made ++ files) old

-- what is told when all of these actions are done
abbrev pub with_actions : Output → List Action → Output
with_actions old actions = output (append_known old.bytes (pieces_bytes actions)) (with_files old.files (files_of actions))

-- An action is there in part or not at all: the first bytes of a piece; of a file nothing, or one that isn't sealed with
-- its first bytes, or all of it, where no more than its sealing failed.
abbrev pub IsInPart : Action → Output → Output → Type 0
IsInPart (piece bytes) old new = GrewByPart old.bytes new.bytes bytes × (new.files ≡ old.files)
IsInPart (file name bytes) old new = (new.bytes ≡ old.bytes) × IsFiledInPart name bytes old.files new.files

-- of these actions the first is there in part or not at all, and nothing of those behind it
abbrev pub FirstInPart : List Action → Output → Output → Type 0
FirstInPart [] old new = new ≡ old
FirstInPart (action ∷ later) old new = IsInPart action old new

-- Some first actions are there whole, the next one in part or not at all, and nothing of those behind it.
pub record StandsWithin (actions : List Action) (old new : Output) : Type 0 where
  pub whole : List Action
  pub later : List Action
  pub all : whole ++ later ≡ actions
  pub next : FirstInPart later (with_actions old whole) new

-- all of these actions were done on `Ok`, and a part of them else
abbrev pub Acted : {T E : Type 0} → List Action → Output → Output → Result T E → Type 0
Acted actions old new result = MatchResult result (λ _. new ≡ with_actions old actions) (λ _. StandsWithin actions old new)

-- Of these actions, which are files, all were made on `Ok`, and a part of them else, whatever bytes a sink tells beside.
pub record MakesFiles (actions : List Action) (old new : ShelfTells) (result : Result (Unit {0}) Failed) : Type 0 where
  pub acted : (bytes : Option (List ℕ)) → Acted actions (output bytes old.written) (output bytes new.written) result
  pub idle : OnOk result (IsFalse new.is_writing)
  pub past : SamePast old new
  pub cause : HasCause old.write_faults new.write_faults result
