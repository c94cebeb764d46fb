-- The last of the made files: grown, emptied and sealed.
use Rattle.std.proofs.Common.{◌≡◌, ℕ, List, [], ◌∷◌, ◌++◌, Option, None, Some, refl, sym, ap, ◌∙◌}
use Rattle.std.proofs.lemmas.Bool.{false≢true}
use Rattle.std.specs.Prelude.{IsTrue, IfSome, IfOk, Bool, Ok, Err, take, Result}
use Rattle.std.specs.Option.{option_map}
use Rattle.std.specs.Io.KnownBytes.{append_known}
use Rattle.cello_io.specs.declared.failed.Failed.{Failed}
use Rattle.cello_io.specs.Files.{MadeFile, ShelfTells, SamePast, Appends, with_last, grown, is_last_open}
use Rattle.mesh_output.specs.Pens.{last_bytes, emptied, around_pen}

-- a file that grows has its bytes and more
pub last_bytes-grown : (piece : List ℕ) (files : List MadeFile) → IsTrue (is_last_open files) → last_bytes (with_last (grown piece) files) ≡ last_bytes files ++ piece
last_bytes-grown piece [] is_open = absurd (false≢true is_open)
last_bytes-grown piece (file ∷ []) is_open = refl
last_bytes-grown piece (file ∷ next ∷ []) is_open = refl
last_bytes-grown piece (file ∷ next ∷ more ∷ files) is_open = last_bytes-grown piece (next ∷ more ∷ files) is_open

-- and without them it is as before
pub emptied-grown : (piece : List ℕ) (files : List MadeFile) → with_last emptied (with_last (grown piece) files) ≡ with_last emptied files
emptied-grown piece [] = refl
emptied-grown piece (file ∷ []) = refl
emptied-grown piece (file ∷ next ∷ []) = refl
emptied-grown piece (file ∷ next ∷ more ∷ files) = ap (λ (l : List MadeFile). file ∷ l) (emptied-grown piece (next ∷ more ∷ files))

-- the same where the files may not be told
pub known-grown : (piece : List ℕ) (old new : Option (List MadeFile)) → IfSome old (λ files. IsTrue (is_last_open files)) → new ≡ option_map (with_last (grown piece)) old
    → option_map last_bytes new ≡ append_known (option_map last_bytes old) piece
known-grown piece None new is_open is = rw is refl
known-grown piece (Some files) new is_open is = rw is (ap (λ (l : List ℕ). Some l) (last_bytes-grown piece files is_open))

pub around-grown : (piece : List ℕ) (old new : Option (List MadeFile)) → new ≡ option_map (with_last (grown piece)) old → option_map (with_last emptied) new ≡ option_map (with_last emptied) old
around-grown piece None new is = rw is refl
around-grown piece (Some files) new is = rw is (ap (λ (l : List MadeFile). Some l) (emptied-grown piece files))

-- what changes the last file changes the one that was added
pub with_last-added : (change : MadeFile → MadeFile) (files : List MadeFile) (file : MadeFile) → with_last change (files ++ file ∷ []) ≡ files ++ change file ∷ []
with_last-added change [] file = refl
with_last-added change (a ∷ []) file = refl
with_last-added change (a ∷ b ∷ files) file = ap (λ (l : List MadeFile). a ∷ l) (with_last-added change (b ∷ files) file)

pub last_bytes-added : (files : List MadeFile) (file : MadeFile) → last_bytes (files ++ file ∷ []) ≡ file.bytes
last_bytes-added [] file = refl
last_bytes-added (a ∷ []) file = refl
last_bytes-added (a ∷ b ∷ files) file = last_bytes-added (b ∷ files) file

-- ---- what a call of a pen changes

-- where a file is being written, it is the last one
pub open_last : (files : Option (List MadeFile)) (is_writing : Bool) → IfSome files (λ l. is_writing ≡ is_last_open l) → IsTrue is_writing → IfSome files (λ l. IsTrue (is_last_open l))
open_last None is_writing is_last writes = is_last
open_last (Some files) is_writing is_last writes = sym is_last ∙ writes

pub last_bytes-appended : (piece : List ℕ) (old new : ShelfTells) (r : Result ℕ Failed) → IfSome old.written (λ l. old.is_writing ≡ is_last_open l) → IsTrue old.is_writing → Appends piece old new r
    → IfOk r (λ count. option_map last_bytes new.written ≡ append_known (option_map last_bytes old.written) (take count piece))
last_bytes-appended piece old new (Ok count) is_last writes appends =
    known-grown (take count piece) old.written new.written (open_last old.written old.is_writing is_last writes) appends.appended
last_bytes-appended piece old new (Err error) is_last writes appends = tt

around-same : (old new : ShelfTells) → SamePast old new → new.is_writing ≡ old.is_writing → option_map (with_last emptied) new.written ≡ option_map (with_last emptied) old.written → around_pen new ≡ around_pen old
around-same old new past is_writing files = λ i. record {
  past = past.past i;
  written = files i;
  is_writing = is_writing i;
  write_faults = 0;
  fetch_faults = past.fetch_faults i;
  absences = past.absences i;
}

pub around-appended : (piece : List ℕ) (old new : ShelfTells) (r : Result ℕ Failed) → Appends piece old new r → around_pen new ≡ around_pen old
around-appended piece old new (Ok count) appends = around-same old new appends.past appends.writing (around-grown (take count piece) old.written new.written appends.appended)
around-appended piece old new (Err error) appends = around-same old new appends.past appends.writing (ap (option_map (with_last emptied)) appends.failed)
