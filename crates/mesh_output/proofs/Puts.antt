-- Bytes that are put on a page, of which others are still to come.
use Rattle.std.proofs.Common.{◌≡◌, ℕ, List, [], ◌++◌, take, drop, Option, Result, Ok, Err, sym, ap, subst, ◌∙◌, append_assoc, append-nil, take-append-drop}
use Rattle.std.specs.Prelude.{IsErrAnd}
use Rattle.cello_io.specs.Writes.{GrewByPart}
use Rattle.cello_io.proofs.WriteLemmas.{grew_within, written_then}
use Rattle.mesh_output.specs.Pages.{Holds, Puts}

-- a result that is an error comes where a part was written
pub Puts-from_err : {T E : Type 0} (Q : E → Type 0) (old new : Option (List ℕ)) (before now more : List ℕ) (r : Result T E) → IsErrAnd r Q → GrewByPart old new (before ++ more) → Puts old new before now r more
Puts-from_err Q old new before now more (Ok x) is some = absurd is
Puts-from_err Q old new before now more (Err e) is some = some

-- of what was left, the bytes that come next were put on the page
pub Holds-put : (old mid new : Option (List ℕ)) (all before left next rest now : List ℕ) → left ≡ next ++ rest → Holds old mid all (before ++ left) → Holds mid new (before ++ next) now
    → Holds old new all (now ++ rest)
Holds-put old mid new all before left next rest now are h k = record {
  part = h.part ++ k.part;
  full =
      append_assoc h.part k.part (now ++ rest)
      ∙ ap (λ (l : List ℕ). h.part ++ l)
      (sym (append_assoc k.part now rest) ∙ ap (λ (l : List ℕ). l ++ rest) k.full ∙ append_assoc before next rest ∙ ap (λ (l : List ℕ). before ++ l) (sym are))
      ∙ h.full;
  grew = written_then old mid new h.part k.part h.grew k.grew;
}

-- or writing failed, when a part was written
pub Holds-failed : (old mid new : Option (List ℕ)) (all before left next rest : List ℕ) → left ≡ next ++ rest → Holds old mid all (before ++ left) → GrewByPart mid new (before ++ next)
    → GrewByPart old new all
Holds-failed old mid new all before left next rest are h some =
    grew_within old mid new all h.part (before ++ next) rest
    (ap (λ (l : List ℕ). h.part ++ l) (append_assoc before next rest ∙ ap (λ (l : List ℕ). before ++ l) (sym are)) ∙ h.full)
    h.grew some

-- nothing is left any more
pub Holds-end : (old new : Option (List ℕ)) (all now left : List ℕ) → left ≡ [] → Holds old new all (now ++ left) → Holds old new all now
Holds-end old new all now left none h = subst (Holds old new all) (ap (λ (l : List ℕ). now ++ l) none ∙ append-nil now) h

-- the first of some bytes, and those after them
pub some_front : (k : ℕ) (left few more : List ℕ) → few ≡ take k left → more ≡ drop k left → left ≡ few ++ more
some_front k left few more is_few is_more = rw (is_few, is_more) (sym (take-append-drop k left))
