-- A file that is created, written by a pen and sealed.
use Rattle.std.proofs.Common.{◌≡◌, ℕ, List, [], ◌∷◌, ◌++◌, Option, None, Some, true, false, length, inl, inr, refl, sym, ap, ◌∙◌, arith, append-nil}
use Rattle.std.proofs.lemmas.Option.{none-some}
use Rattle.std.specs.Prelude.{◌⊎◌, Ok, Err, Result, IsErrAnd}
use Rattle.std.specs.Option.{option_map}
use Rattle.std.specs.Io.KnownBytes.{append_known}
use Rattle.cello_io.specs.declared.failed.Failed.{Failed}
use Rattle.cello_io.specs.Counts.{HasCause}
use Rattle.cello_io.specs.Files.{MadeFile, ShelfTells, SamePast, Creates, Seals, with_last, new_file, sealed_file}
use Rattle.cello_io.specs.Filing.{IsFiledInPart, WritesFile, made_file, with_file}
use Rattle.cello_io.specs.Writes.{GrewByPart}
use Rattle.mesh_output.specs.Pens.{last_bytes, emptied, around_pen}
use Rattle.mesh_output.proofs.LastFiles.{with_last-added, last_bytes-added}

-- the first element, and those behind it
head_of : MadeFile → List MadeFile → MadeFile
head_of other [] = other
head_of other (file ∷ files) = file

tail_of : List MadeFile → List MadeFile
tail_of [] = []
tail_of (file ∷ files) = files

-- files that agree with these but for the bytes of the last one are these with its bytes
same_but_last : (files : List MadeFile) (file : MadeFile) (other : List MadeFile) → with_last emptied other ≡ files ++ emptied file ∷ []
    → other ≡ files ++ record file { bytes = last_bytes other } ∷ []
unfolding head_of tail_of
same_but_last [] file [] same = absurd (omega (arith, ap length same))
same_but_last [] file (a ∷ []) same = ap (λ (l : List MadeFile). record (head_of file l) { bytes = a.bytes } ∷ []) same
same_but_last [] file (a ∷ b ∷ []) same = absurd (omega (arith, ap length same))
same_but_last [] file (a ∷ b ∷ c ∷ other) same = absurd (omega (arith, ap length same))
same_but_last (f ∷ files) file [] same = absurd (omega (arith, ap length same))
same_but_last (f ∷ []) file (a ∷ []) same = absurd (omega (arith, ap length same))
same_but_last (f ∷ g ∷ files) file (a ∷ []) same = absurd (omega (arith, ap length same))
same_but_last (f ∷ files) file (a ∷ b ∷ other) same =
    ap (λ (l : List MadeFile). head_of file l ∷ b ∷ other) same ∙ ap (λ (l : List MadeFile). f ∷ l) (same_but_last files file (b ∷ other) (ap tail_of same))

some_of : List MadeFile → Option (List MadeFile) → List MadeFile
some_of other None = other
some_of other (Some files) = files

bytes_of : Option (List ℕ) → List ℕ
bytes_of None = []
bytes_of (Some bytes) = bytes

-- what a pen wrote stands in the file that was created
pub written_by_pen : (name bytes : List ℕ) (before created now : Option (List MadeFile)) → created ≡ with_file before (new_file name)
    → option_map (with_last emptied) now ≡ option_map (with_last emptied) created
    → option_map last_bytes now ≡ append_known (option_map last_bytes created) bytes
    → now ≡ with_file before (made_file name bytes false)
unfolding some_of bytes_of
written_by_pen name bytes None created None is same wrote = refl
written_by_pen name bytes None created (Some files) is same wrote = absurd (none-some (with_last emptied files) (sym (same ∙ ap (option_map (with_last emptied)) is)))
written_by_pen name bytes (Some old) created None is same wrote = absurd (none-some (with_last emptied (old ++ new_file name ∷ [])) (same ∙ ap (option_map (with_last emptied)) is))
written_by_pen name bytes (Some old) created (Some files) is same wrote =
    let around : with_last emptied files ≡ old ++ emptied (new_file name) ∷ [] =
    ap (some_of []) (same ∙ ap (option_map (with_last emptied)) is) ∙ with_last-added emptied old (new_file name) in
    let inside : last_bytes files ≡ bytes =
    ap bytes_of (wrote ∙ ap (λ known. append_known (option_map last_bytes known) bytes) is) ∙ ap (λ (l : List ℕ). l ++ bytes) (last_bytes-added old (new_file name)) in
    ap (λ (l : List MadeFile). Some l) (same_but_last old (new_file name) files around ∙ ap (λ (l : List ℕ). old ++ made_file name l false ∷ []) inside)

-- ---- the three calls

pub not_created : (name bytes : List ℕ) (before now : Option (List MadeFile)) → (now ≡ before) ⊎ (now ≡ with_file before (new_file name)) → IsFiledInPart name bytes before now
not_created name bytes before now (inl same) = IsFiledInPart.absent same
not_created name bytes before now (inr made) = IsFiledInPart.unsealed [] bytes refl made

pub not_all_written : (name bytes : List ℕ) (before created now : Option (List MadeFile)) → created ≡ with_file before (new_file name)
    → option_map (with_last emptied) now ≡ option_map (with_last emptied) created
    → GrewByPart (option_map last_bytes created) (option_map last_bytes now) bytes
    → IsFiledInPart name bytes before now
not_all_written name bytes before created now is same some =
    IsFiledInPart.unsealed some.part some.missing some.full (written_by_pen name some.part before created now is same some.grew)

pub sealed_by : (name bytes : List ℕ) (before written now : Option (List MadeFile)) → written ≡ with_file before (made_file name bytes false)
    → now ≡ option_map (with_last sealed_file) written → now ≡ with_file before (made_file name bytes true)
sealed_by name bytes None written now is sealing = sealing ∙ ap (option_map (with_last sealed_file)) is
sealed_by name bytes (Some old) written now is sealing =
    sealing ∙ ap (option_map (with_last sealed_file)) is ∙ ap (λ (l : List MadeFile). Some l) (with_last-added sealed_file old (made_file name bytes false))

pub not_sealed : (name bytes : List ℕ) (before written now : Option (List MadeFile)) → written ≡ with_file before (made_file name bytes false)
    → (now ≡ written) ⊎ (now ≡ option_map (with_last sealed_file) written) → IsFiledInPart name bytes before now
not_sealed name bytes before written now is (inl same) = IsFiledInPart.unsealed bytes [] (append-nil bytes) (same ∙ is)
not_sealed name bytes before written now is (inr sealing) = IsFiledInPart.whole (sealed_by name bytes before written now is sealing)

-- ---- what stays

pub past-then : (old mid new : ShelfTells) → SamePast old mid → SamePast mid new → SamePast old new
past-then old mid new first second = record {
  past = second.past ∙ first.past;
  fetch_faults = second.fetch_faults ∙ first.fetch_faults;
  absences = second.absences ∙ first.absences;
}

pub past-pen : (old new : ShelfTells) → around_pen new ≡ around_pen old → SamePast old new
past-pen old new same = record {
  past = ap (λ (t : ShelfTells). t.past) same;
  fetch_faults = ap (λ (t : ShelfTells). t.fetch_faults) same;
  absences = ap (λ (t : ShelfTells). t.absences) same;
}

-- ---- the whole file, by where its writing ended

pub WritesFile-create : (Q : Failed → Type 0) (name bytes : List ℕ) (old new : ShelfTells) (error : Failed) (result : Result (Unit {0}) Failed) → IsErrAnd result Q → Creates name old new (Err error) → WritesFile name bytes old new result
WritesFile-create Q name bytes old new error (Ok x) is_err creates = absurd is_err
WritesFile-create Q name bytes old new error (Err e) is_err creates = record {
  whole = tt;
  idle = tt;
  part = not_created name bytes old.written new.written creates.failed;
  past = creates.past;
  cause = record { no_fall = creates.cause.no_fall; rose = creates.cause.rose };
}

pub WritesFile-pen : (Q : Failed → Type 0) (name bytes : List ℕ) (old created new : ShelfTells) (done : Unit {0}) (error : Failed) (result : Result (Unit {0}) Failed) → IsErrAnd result Q → Creates name old created (Ok done)
    → around_pen new ≡ around_pen created → GrewByPart (option_map last_bytes created.written) (option_map last_bytes new.written) bytes
    → HasCause {T = Unit {0}} {E = Failed} created.write_faults new.write_faults (Err error) → WritesFile name bytes old new result
WritesFile-pen Q name bytes old created new done error (Ok x) is_err creates around some cause = absurd is_err
WritesFile-pen Q name bytes old created new done error (Err e) is_err creates around some cause = record {
  whole = tt;
  idle = tt;
  part = not_all_written name bytes old.written created.written new.written creates.made (ap (λ (t : ShelfTells). t.written) around) some;
  past = past-then old created new creates.past (past-pen created new around);
  cause = record { no_fall = omega (arith, creates.cause.no_fall, cause.no_fall); rose = omega (arith, creates.cause.no_fall, cause.rose) };
}

pub WritesFile-seal : (name bytes : List ℕ) (old created written new : ShelfTells) (done : Unit {0}) (result : Result (Unit {0}) Failed) → Creates name old created (Ok done)
    → around_pen written ≡ around_pen created → option_map last_bytes written.written ≡ append_known (option_map last_bytes created.written) bytes
    → HasCause {T = Unit {0}} {E = Failed} created.write_faults written.write_faults (Ok done) → Seals written new result → WritesFile name bytes old new result
WritesFile-seal name bytes old created written new done (Ok x) creates around wrote cause seals =
    let whole = written_by_pen name bytes old.written created.written written.written creates.made (ap (λ (t : ShelfTells). t.written) around) wrote in
    record {
      whole = sealed_by name bytes old.written written.written new.written whole seals.sealed;
      idle = seals.writing;
      part = tt;
      past = past-then old created new creates.past (past-then created written new (past-pen created written around) seals.past);
      cause = record { no_fall = omega (arith, creates.cause.no_fall, cause.no_fall, seals.cause.no_fall); rose = tt };
    }
WritesFile-seal name bytes old created written new done (Err e) creates around wrote cause seals =
    let whole = written_by_pen name bytes old.written created.written written.written creates.made (ap (λ (t : ShelfTells). t.written) around) wrote in
    record {
      whole = tt;
      idle = tt;
      part = not_sealed name bytes old.written written.written new.written whole seals.failed;
      past = past-then old created new creates.past (past-then created written new (past-pen created written around) seals.past);
      cause = record { no_fall = omega (arith, creates.cause.no_fall, cause.no_fall, seals.cause.no_fall); rose = omega (arith, creates.cause.no_fall, cause.no_fall, seals.cause.rose) };
    }
