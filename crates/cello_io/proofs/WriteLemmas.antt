-- Writes, one after another.
use Rattle.std.proofs.Common.{◌≡◌, ℕ, ◌-◌, List, [], ◌++◌, length, take, drop, None, Some, Ok, Err, Result, refl, sym, ◌∙◌, ap, subst, append_assoc, append-nil, take-append-drop}
use Rattle.std.proofs.lemmas.List.{take_rest}
use Rattle.std.specs.Io.KnownBytes.{append_known}
use Rattle.std.specs.declared.option.Option.{Option}
use Rattle.cello_io.specs.Writes.{GrewByPart, Wrote}

pub append_known-append : (known : Option (List ℕ)) (front next : List ℕ) → append_known (append_known known front) next ≡ append_known known (front ++ next)
append_known-append None front next = refl
append_known-append (Some bytes) front next = ap (λ (l : List ℕ). Some l) (append_assoc bytes front next)

pub append_known-nil : (known : Option (List ℕ)) → append_known known [] ≡ known
append_known-nil None = refl
append_known-nil (Some bytes) = ap (λ (l : List ℕ). Some l) (append-nil bytes)

-- nothing was written yet
pub grew_none : (known : Option (List ℕ)) (bytes : List ℕ) → GrewByPart known known bytes
grew_none known bytes = record { part = []; missing = bytes; full = refl; grew = sym (append_known-nil known) }

-- these bytes were written, and more were to come
pub grew_front : (old new : Option (List ℕ)) (bytes more : List ℕ) → new ≡ append_known old bytes → GrewByPart old new (bytes ++ more)
grew_front old new bytes more is = record { part = bytes; missing = more; full = refl; grew = is }

-- a part of these bytes was written, and more were to come
pub grew_less : (old new : Option (List ℕ)) (bytes more : List ℕ) → GrewByPart old new bytes → GrewByPart old new (bytes ++ more)
grew_less old new bytes more some = record {
  part = some.part;
  missing = some.missing ++ more;
  full = sym (append_assoc some.part some.missing more) ∙ ap (λ (l : List ℕ). l ++ more) some.full;
  grew = some.grew;
}

-- these bytes were written, and then others
pub written_then : (old mid new : Option (List ℕ)) (done next : List ℕ) → mid ≡ append_known old done → new ≡ append_known mid next → new ≡ append_known old (done ++ next)
written_then old mid new done next first second = second ∙ ap (λ known. append_known known next) first ∙ append_known-append old done next

-- these bytes were written, and then a part of others
pub grew_then : (old mid new : Option (List ℕ)) (done next : List ℕ) → mid ≡ append_known old done → GrewByPart mid new next → GrewByPart old new (done ++ next)
grew_then old mid new done next first some = record {
  part = done ++ some.part;
  missing = some.missing;
  full = append_assoc done some.part some.missing ∙ ap (λ (l : List ℕ). done ++ l) some.full;
  grew = written_then old mid new done some.part first some.grew;
}

-- these bytes were written, and then others as the result says
pub wrote_then : {T E : Type 0} (old mid new : Option (List ℕ)) (done next : List ℕ) (result : Result T E) → mid ≡ append_known old done → Wrote mid new result next → Wrote old new result (done ++ next)
wrote_then old mid new done next (Ok value) first second = written_then old mid new done next first second
wrote_then old mid new done next (Err error) first second = grew_then old mid new done next first second

-- the front of what is left goes over to what is done
pub front_moves : (all done left : List ℕ) (n : ℕ) → done ++ left ≡ all → (done ++ take n left) ++ take (length left - n) (drop n left) ≡ all
front_moves all done left n full =
    ap (λ (l : List ℕ). (done ++ take n left) ++ l) (take_rest left n)
    ∙ append_assoc done (take n left) (drop n left)
    ∙ ap (λ (l : List ℕ). done ++ l) (take-append-drop n left)
    ∙ full

-- in the midst of many bytes: those before were written, and a part of the next ones
pub grew_within : (old mid new : Option (List ℕ)) (all done next more : List ℕ) → done ++ (next ++ more) ≡ all → mid ≡ append_known old done → GrewByPart mid new next → GrewByPart old new all
grew_within old mid new all done next more full first some =
    subst (GrewByPart old new) full (grew_then old mid new done (next ++ more) first (grew_less mid new next more some))
