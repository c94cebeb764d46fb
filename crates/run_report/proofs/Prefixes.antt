-- Actions, one after another, and how far they came.
use Rattle.std.proofs.Common.{◌≡◌, ℕ, List, [], ◌∷◌, ◌++◌, Option, None, Some, Ok, Err, Result, refl, sym, ap, subst, ◌∙◌, append_assoc, append-nil}
use Rattle.std.specs.Prelude.{IsErrAnd}
use Rattle.std.specs.Io.KnownBytes.{append_known}
use Rattle.std.proofs.lemmas.List.Concat.{flat_map-append}
use Rattle.cello_io.specs.Files.{MadeFile}
use Rattle.cello_io.specs.Filing.{IsFiledInPart}
use Rattle.cello_io.specs.Writes.{GrewByPart, Wrote}
use Rattle.cello_io.proofs.WriteLemmas.{append_known-append, append_known-nil, grew_less, grew_none, grew_then}
use Rattle.run_report.specs.Actions.{Action, piece, file}
use Rattle.run_report.specs.Outputs.{Output, output, piece_bytes, file_of, pieces_bytes, files_of, with_files, with_actions, IsInPart, FirstInPart, StandsWithin, Acted}

-- ---- what is told after actions

pub with_files-nil : (old : Option (List MadeFile)) → with_files old [] ≡ old
with_files-nil None = refl
with_files-nil (Some made) = ap (λ (l : List MadeFile). Some l) (append-nil made)

pub with_files-append : (old : Option (List MadeFile)) (first more : List MadeFile) → with_files (with_files old first) more ≡ with_files old (first ++ more)
with_files-append None first more = refl
with_files-append (Some made) first more = ap (λ (l : List MadeFile). Some l) (append_assoc made first more)

pub same_outputs : (a b : Option (List ℕ)) (f g : Option (List MadeFile)) → a ≡ b → f ≡ g → output a f ≡ output b g
same_outputs a b f g bytes files = ap (λ (x : Option (List ℕ)). output x f) bytes ∙ ap (λ (x : Option (List MadeFile)). output b x) files

pub with_actions-nil : (old : Output) → with_actions old [] ≡ old
with_actions-nil old = same_outputs (append_known old.bytes []) old.bytes (with_files old.files []) old.files (append_known-nil old.bytes) (with_files-nil old.files)

pub with_actions-append : (old : Output) (first more : List Action) → with_actions (with_actions old first) more ≡ with_actions old (first ++ more)
with_actions-append old first more =
    same_outputs _ _ _ _
    (append_known-append old.bytes (pieces_bytes first) (pieces_bytes more) ∙ ap (λ (l : List ℕ). append_known old.bytes l) (sym (flat_map-append piece_bytes first more)))
    (with_files-append old.files (files_of first) (files_of more) ∙ ap (λ (l : List MadeFile). with_files old.files l) (sym (flat_map-append file_of first more)))

-- ---- how far actions came

-- nothing is done yet
none_yet : (later : List Action) (now : Output) → FirstInPart later now now
none_yet [] now = refl
none_yet (piece bytes ∷ later) now = (grew_none now.bytes bytes, refl)
none_yet (file name bytes ∷ later) now = (refl, IsFiledInPart.absent refl)

first-more : (later more : List Action) (old new : Output) → FirstInPart later old new → FirstInPart (later ++ more) old new
first-more [] more old new same = subst (λ (o : Output). FirstInPart more old o) (sym same) (none_yet more old)
first-more (action ∷ later) more old new part = part

pub within-none : (actions : List Action) (now : Output) → StandsWithin actions now now
within-none actions now = record {
  whole = [];
  later = actions;
  all = refl;
  next = subst (λ (o : Output). FirstInPart actions o now) (sym (with_actions-nil now)) (none_yet actions now);
}

-- all of them are done
pub within-all : (actions : List Action) (old new : Output) → new ≡ with_actions old actions → StandsWithin actions old new
within-all actions old new is = record { whole = actions; later = []; all = append-nil actions; next = is }

-- an action is there in part
pub within-part : (action : Action) (old new : Output) → IsInPart action old new → StandsWithin (action ∷ []) old new
within-part action old new part = record {
  whole = [];
  later = action ∷ [];
  all = refl;
  next = subst (λ (o : Output). IsInPart action o new) (sym (with_actions-nil old)) part;
}

-- more actions were to come
pub within-more : (actions more : List Action) (old new : Output) → StandsWithin actions old new → StandsWithin (actions ++ more) old new
within-more actions more old new stands = record {
  whole = stands.whole;
  later = stands.later ++ more;
  all = sym (append_assoc stands.whole stands.later more) ∙ ap (λ (l : List Action). l ++ more) stands.all;
  next = first-more stands.later more (with_actions old stands.whole) new stands.next;
}

-- other actions were done before
pub within-then : (first actions : List Action) (old mid new : Output) → mid ≡ with_actions old first → StandsWithin actions mid new → StandsWithin (first ++ actions) old new
within-then first actions old mid new is stands = record {
  whole = first ++ stands.whole;
  later = stands.later;
  all = append_assoc first stands.whole stands.later ∙ ap (λ (l : List Action). first ++ l) stands.all;
  next = subst (λ (o : Output). FirstInPart stands.later o new)
      (ap (λ (o : Output). with_actions o stands.whole) is ∙ with_actions-append old first stands.whole) stands.next;
}

-- these actions were done, and then others as the result says
pub acted-then : {T E : Type 0} (first actions : List Action) (old mid new : Output) (result : Result T E) → mid ≡ with_actions old first → Acted actions mid new result → Acted (first ++ actions) old new result
acted-then first actions old mid new (Ok value) is second =
    second ∙ ap (λ (o : Output). with_actions o actions) is ∙ with_actions-append old first actions
acted-then first actions old mid new (Err error) is second = within-then first actions old mid new is second

-- a result that is an error comes where a part was done
pub acted-err : {T E : Type 0} (Q : E → Type 0) (actions : List Action) (old new : Output) (result : Result T E) → IsErrAnd result Q → StandsWithin actions old new → Acted actions old new result
acted-err Q actions old new (Ok value) is_err stands = absurd is_err
acted-err Q actions old new (Err error) is_err stands = stands

-- a piece was written as the result says, and no file was made
pub acted-piece : {T E : Type 0} (bytes : List ℕ) (old new : Option (List ℕ)) (files : Option (List MadeFile)) (result : Result T E) → Wrote old new result bytes
    → Acted (piece bytes ∷ []) (output old files) (output new files) result
acted-piece bytes old new files (Ok value) is =
    same_outputs new (append_known old (bytes ++ [])) files (with_files files []) (is ∙ ap (λ (l : List ℕ). append_known old l) (sym (append-nil bytes))) (sym (with_files-nil files))
acted-piece bytes old new files (Err error) some = within-part (piece bytes) (output old files) (output new files) (some, refl)

-- of the pieces that are left a beginning is written
next-bytes : (later : List Action) (old new : Output) → FirstInPart later old new → GrewByPart old.bytes new.bytes (pieces_bytes later)
next-bytes [] old new same = subst (λ (o : Output). GrewByPart old.bytes o.bytes []) (sym same) (grew_none old.bytes [])
next-bytes (piece bytes ∷ later) old new part = grew_less old.bytes new.bytes bytes (pieces_bytes later) part.0
next-bytes (file name bytes ∷ later) old new part =
    subst (λ (b : Option (List ℕ)). GrewByPart old.bytes b (pieces_bytes later)) (sym part.0) (grew_none old.bytes (pieces_bytes later))

-- and of all pieces
pub within-bytes : (actions : List Action) (old new : Output) → StandsWithin actions old new → GrewByPart old.bytes new.bytes (pieces_bytes actions)
within-bytes actions old new stands =
    let mid = append_known old.bytes (pieces_bytes stands.whole) in
    subst (GrewByPart old.bytes new.bytes) (sym (flat_map-append piece_bytes stands.whole stands.later) ∙ ap (λ (l : List Action). pieces_bytes l) stands.all)
    (grew_then old.bytes mid new.bytes (pieces_bytes stands.whole) (pieces_bytes stands.later) refl (next-bytes stands.later (with_actions old stands.whole) new stands.next))
