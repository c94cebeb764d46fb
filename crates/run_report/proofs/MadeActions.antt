-- Files, one after another.
use Rattle.std.proofs.Common.{◌≡◌, ℕ, List, [], ◌∷◌, ◌++◌, Option, Ok, Err, Result, Bool, true, false, refl, sym, subst, arith}
use Rattle.std.specs.Prelude.{IsErrAnd, IsFalse}
use Rattle.std.proofs.lemmas.Bool.{false≢true}
use Rattle.cello_io.specs.declared.failed.Failed.{Failed}
use Rattle.cello_io.specs.Files.{ShelfTells}
use Rattle.cello_io.specs.Filing.{WritesFile}
use Rattle.cello_io.proofs.WriteLemmas.{append_known-nil}
use Rattle.mesh_output.proofs.Filing.{past-then}
use Rattle.run_report.specs.Actions.{Action, file, where_due}
use Rattle.run_report.specs.Outputs.{output, Acted, MakesFiles}
use Rattle.run_report.proofs.Prefixes.{same_outputs, with_actions-nil, within-part, within-more, acted-then}

-- no file was to be made
pub makes-none : (now : ShelfTells) (done : Unit {0}) → IsFalse now.is_writing → MakesFiles [] now now (Ok done)
makes-none now done idle = record {
  acted = λ bytes. sym (with_actions-nil (output bytes now.written));
  idle = idle;
  past = record { past = refl; fetch_faults = refl; absences = refl };
  cause = record { no_fall = omega arith; rose = tt };
}

-- one file was
pub acted-file : (name bytes : List ℕ) (told : Option (List ℕ)) (old new : ShelfTells) (result : Result (Unit {0}) Failed) → WritesFile name bytes old new result
    → Acted (file name bytes ∷ []) (output told old.written) (output told new.written) result
acted-file name bytes told old new (Ok done) writes = same_outputs _ _ _ _ (sym (append_known-nil told)) writes.whole
acted-file name bytes told old new (Err error) writes = within-part (file name bytes) (output told old.written) (output told new.written) (refl, writes.part)

pub makes-one : (name bytes : List ℕ) (old new : ShelfTells) (result : Result (Unit {0}) Failed) → WritesFile name bytes old new result → MakesFiles (file name bytes ∷ []) old new result
makes-one name bytes old new result writes = record {
  acted = λ told. acted-file name bytes told old new result writes;
  idle = writes.idle;
  past = writes.past;
  cause = writes.cause;
}

-- these files were made, and then others as the result says
pub makes-then : (first actions : List Action) (old mid new : ShelfTells) (done : Unit {0}) (result : Result (Unit {0}) Failed) → MakesFiles first old mid (Ok done) → MakesFiles actions mid new result
    → MakesFiles (first ++ actions) old new result
makes-then first actions old mid new done (Ok value) before after = record {
  acted = λ told. acted-then {T = Unit {0}} {E = Failed} first actions (output told old.written) (output told mid.written) (output told new.written) (Ok value) (before.acted told) (after.acted told);
  idle = after.idle;
  past = past-then old mid new before.past after.past;
  cause = record { no_fall = omega (arith, before.cause.no_fall, after.cause.no_fall); rose = tt };
}
makes-then first actions old mid new done (Err error) before after = record {
  acted = λ told. acted-then {T = Unit {0}} {E = Failed} first actions (output told old.written) (output told mid.written) (output told new.written) (Err error) (before.acted told) (after.acted told);
  idle = tt;
  past = past-then old mid new before.past after.past;
  cause = record { no_fall = omega (arith, before.cause.no_fall, after.cause.no_fall); rose = omega (arith, before.cause.no_fall, after.cause.rose) };
}

-- a part of these files was made, and others were to come
pub makes-err : (Q : Failed → Type 0) (first more : List Action) (old new : ShelfTells) (error : Failed) (result : Result (Unit {0}) Failed) → IsErrAnd result Q → MakesFiles first old new (Err error)
    → MakesFiles (first ++ more) old new result
makes-err Q first more old new error (Ok done) is_err part = absurd is_err
makes-err Q first more old new error (Err other) is_err part = record {
  acted = λ told. within-more first more (output told old.written) (output told new.written) (part.acted told);
  idle = tt;
  past = part.past;
  cause = record { no_fall = part.cause.no_fall; rose = part.cause.rose };
}

-- a file that is due was made
pub makes-due : (due : Bool) (name named bytes : List ℕ) (old new : ShelfTells) (result : Result (Unit {0}) Failed) → due ≡ true → name ≡ named → WritesFile name bytes old new result
    → MakesFiles (where_due due (file named bytes)) old new result
makes-due true name named bytes old new result yes_due is writes =
    subst (λ (n : List ℕ). MakesFiles (file n bytes ∷ []) old new result) is (makes-one name bytes old new result writes)
makes-due false name named bytes old new result yes_due is writes = absurd (false≢true yes_due)
