-- What a shelf in memory tells after a call.
use Rattle.std.proofs.Common.{◌≡◌, ℕ, ◌<◌, Bool, true, false, IsTrue, List, [], ◌∷◌, ◌++◌, length, Some, Ok, sym, ap, ◌∙◌, arith}
use Rattle.std.proofs.lemmas.List.{take_all}
use Rattle.cello_io.specs.declared.files.WrittenFile.{WrittenFile}
use Rattle.cello_io.specs.Files.{MadeFile, PastFiles, ShelfTells, Creates, Appends, Seals, with_last, is_last_open, new_file, grown, sealed_file}
use Rattle.cello_io.specs.StoredFiles.{made_files, lie_from, longer, complete}
use Rattle.cello_io.proofs.MadeFiles.{made_files-added, made_files-longer, made_files-complete, is_last_open-added, is_last_open-grown, is_last_open-sealed}

-- what is told of these files, and whether one is being written
abbrev pub telling : PastFiles → List MadeFile → Bool → ℕ → ℕ → ℕ → ShelfTells
telling past files is_writing w f a = record {
  past = Some past;
  written = Some files;
  is_writing = is_writing;
  write_faults = w;
  fetch_faults = f;
  absences = a;
}

telling-same : (past : PastFiles) (files other : List MadeFile) (is other_is : Bool) (w f a : ℕ) → files ≡ other → is ≡ other_is → telling past files is w f a ≡ telling past other other_is w f a
telling-same past files other is other_is w f a same same_is = λ i. telling past (same i) (same_is i) w f a

pub tells-added : (past : PastFiles) (room name : List ℕ) (made now : List WrittenFile) (start w f a : ℕ) → now ≡ made ++ record { name = name; start = start; length = 0; sealed = false } ∷ []
    → telling past (made_files room now) (is_last_open (made_files room now)) w f a ≡ telling past (made_files room made ++ new_file name ∷ []) true w f a
tells-added past room name made now start w f a is =
    let files : made_files room now ≡ made_files room made ++ new_file name ∷ [] = ap (made_files room) is ∙ made_files-added room name made start in
    telling-same past (made_files room now) (made_files room made ++ new_file name ∷ []) (is_last_open (made_files room now)) true w f a files
    (ap is_last_open files ∙ is_last_open-added (made_files room made) name)

pub tells-longer : (past : PastFiles) (room piece more : List ℕ) (made now : List WrittenFile) (w f a : ℕ) → more ≡ room ++ piece → now ≡ with_last (longer (length piece)) made
    → 0 < length made → IsTrue (lie_from 0 made (length room))
    → telling past (made_files more now) (is_last_open (made_files more now)) w f a ≡ telling past (with_last (grown piece) (made_files room made)) (is_last_open (made_files room made)) w f a
tells-longer past room piece more made now w f a is_more is some lie =
    let files : made_files more now ≡ with_last (grown piece) (made_files room made) =
    ap (λ r. made_files r now) is_more ∙ ap (made_files (room ++ piece)) is ∙ made_files-longer 0 made room piece some lie in
    telling-same past (made_files more now) (with_last (grown piece) (made_files room made)) (is_last_open (made_files more now)) (is_last_open (made_files room made)) w f a files
    (ap is_last_open files ∙ is_last_open-grown piece (made_files room made))

pub tells-sealed : (past : PastFiles) (room : List ℕ) (made now : List WrittenFile) (w f a : ℕ) → now ≡ with_last complete made
    → telling past (made_files room now) (is_last_open (made_files room now)) w f a ≡ telling past (with_last sealed_file (made_files room made)) false w f a
tells-sealed past room made now w f a is =
    let files : made_files room now ≡ with_last sealed_file (made_files room made) = ap (made_files room) is ∙ made_files-complete room made in
    telling-same past (made_files room now) (with_last sealed_file (made_files room made)) (is_last_open (made_files room now)) false w f a files
    (ap is_last_open files ∙ is_last_open-sealed (made_files room made))

-- ---- such a shelf did what its trait says

pub Creates-made : (past : PastFiles) (files : List MadeFile) (name : List ℕ) (is : Bool) (w f a : ℕ) (new : ShelfTells) → new ≡ telling past (files ++ new_file name ∷ []) true w f a
    → Creates name (telling past files is w f a) new (Ok tt)
Creates-made past files name is w f a new told = record {
  made = ap (λ (t : ShelfTells). t.written) told;
  writing = ap (λ (t : ShelfTells). t.is_writing) told;
  failed = tt;
  past = record { past = ap (λ (t : ShelfTells). t.past) told; fetch_faults = ap (λ (t : ShelfTells). t.fetch_faults) told; absences = ap (λ (t : ShelfTells). t.absences) told };
  cause = record { no_fall = omega (arith, ap (λ (t : ShelfTells). t.write_faults) told); rose = tt };
}

pub Appends-made : (past : PastFiles) (files : List MadeFile) (piece : List ℕ) (is : Bool) (w f a : ℕ) (new : ShelfTells) → 0 < length piece → new ≡ telling past (with_last (grown piece) files) is w f a
    → Appends piece (telling past files is w f a) new (Ok (length piece))
Appends-made past files piece is w f a new some told = record {
  within = (some, omega arith);
  appended = ap (λ (t : ShelfTells). t.written) told ∙ ap (λ (l : List ℕ). Some (with_last (grown l) files)) (sym (take_all (length piece) piece (omega arith)));
  failed = tt;
  writing = ap (λ (t : ShelfTells). t.is_writing) told;
  past = record { past = ap (λ (t : ShelfTells). t.past) told; fetch_faults = ap (λ (t : ShelfTells). t.fetch_faults) told; absences = ap (λ (t : ShelfTells). t.absences) told };
  cause = record { no_fall = omega (arith, ap (λ (t : ShelfTells). t.write_faults) told); rose = tt };
}

pub Seals-made : (past : PastFiles) (files : List MadeFile) (is : Bool) (w f a : ℕ) (new : ShelfTells) → new ≡ telling past (with_last sealed_file files) false w f a
    → Seals (telling past files is w f a) new (Ok tt)
Seals-made past files is w f a new told = record {
  sealed = ap (λ (t : ShelfTells). t.written) told;
  writing = ap (λ (t : ShelfTells). t.is_writing) told;
  failed = tt;
  past = record { past = ap (λ (t : ShelfTells). t.past) told; fetch_faults = ap (λ (t : ShelfTells). t.fetch_faults) told; absences = ap (λ (t : ShelfTells). t.absences) told };
  cause = record { no_fall = omega (arith, ap (λ (t : ShelfTells). t.write_faults) told); rose = tt };
}
