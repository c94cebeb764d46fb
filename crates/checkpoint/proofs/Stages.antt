-- From a part of a file to the next.
use Rattle.std.proofs.Common.{◌≡◌, ℕ, ◌+◌, ◌-◌, ◌<◌, ◌≤◌, List, [], ◌∷◌, ◌++◌, length, take, drop, take-append-drop, length-take-le, append_assoc, append-nil, inr, Result, Ok, Err, IfErr, refl, sym, ap, subst, ◌∙◌, arith}
use Rattle.std.specs.Prelude.{IsErrAnd}
use Rattle.std.specs.List.{flat_map}
use Rattle.std.proofs.lemmas.List.{length-append}
use Rattle.std.proofs.lemmas.List.Concat.{flat_map-append}
use Rattle.params_syntax.specs.Trees.{Each}
use Rattle.checkpoint.specs.Lemmas.Stages.{EndsRead, StandsBefore, StandsInFront, parts_before}
use Rattle.checkpoint.specs.Parts.{parts_of_version_1}
use Rattle.checkpoint.specs.Reading.{BeginsWith, short, faulty, trailing, IsPartFault, IsSound, size}
use Rattle.checkpoint.specs.SavedStates.{SavedState, saved}
use Rattle.checkpoint.specs.Spelling.{bytes_of, part_bytes}
use Rattle.checkpoint.specs.declared.part.Part.{Part}
use Rattle.checkpoint.specs.declared.part.Part.TheVariants as parts
use Rattle.checkpoint.specs.declared.state.State.{State}
use Rattle.checkpoint.specs.declared.fault.CheckFault.{CheckFault}
use Rattle.checkpoint.specs.declared.fault.CheckFault.TheVariants as faults

Each-push : {X : Type 0} (P : X → Type 0) (xs : List X) (x : X) → Each P xs → P x → Each P (xs ++ x ∷ [])
Each-push P [] x h p = (p, tt)
Each-push P (y ∷ xs) x h p = (h.0, Each-push P xs x h.1 p)

-- a file stands before its first part
pub begins : (bytes : List ℕ) (s : SavedState) → StandsBefore parts.Magic bytes s bytes
begins bytes s = record {
  more = parts.Version ∷ parts.TextLength ∷ parts.Text ∷ parts.Cycle ∷ parts.LeafCount ∷ parts.Places ∷ parts.Amounts ∷ parts.Totals ∷ parts.Gone ∷ [];
  in_order = refl;
  sound = tt;
  bytes_are = refl;
}

-- a part isn't there whole
pub is-short : (next : Part) (bytes : List ℕ) (s : SavedState) (left : List ℕ) → StandsBefore next bytes s left → length left < size s next → EndsRead bytes (faults.Truncated (length bytes))
is-short next bytes s left h less = inr (short s (parts_before next) next left h less refl)

split-again : (k : ℕ) (left here after : List ℕ) → here ≡ take k left → after ≡ drop k left → left ≡ here ++ after
split-again k left here after is_here is_after = sym (take-append-drop k left) ∙ (λ i. sym is_here i ++ sym is_after i)

-- a part is at fault
pub is-faulty : (next : Part) (bytes : List ℕ) (s : SavedState) (left here after : List ℕ) (k : ℕ) (fault : CheckFault) → StandsBefore next bytes s left → here ≡ take k left → after ≡ drop k left
    → k ≤ length left → k ≡ size s next → IsPartFault s next here fault → EndsRead bytes fault
is-faulty next bytes s left here after k fault h is_here is_after within whole bad =
    inr (faulty s (parts_before next) next here after (subst (BeginsWith bytes s (parts_before next) next) (split-again k left here after is_here is_after) h)
    (ap length is_here ∙ length-take-le k left within ∙ whole) bad)

-- a part is sound
pub extends : (next : Part) (bytes : List ℕ) (s t : SavedState) (left here after : List ℕ) (k : ℕ) → StandsBefore next bytes s left → here ≡ take k left → after ≡ drop k left
    → flat_map (part_bytes s) (parts_before next) ≡ flat_map (part_bytes t) (parts_before next) → Each (IsSound t) (parts_before next) → IsSound t next → here ≡ part_bytes t next
    → Each (IsSound t) (parts_before next ++ next ∷ []) × (bytes ≡ flat_map (part_bytes t) (parts_before next ++ next ∷ []) ++ after)
extends next bytes s t left here after k h is_here is_after same sound new spelled =
    let front = flat_map (part_bytes t) (parts_before next) in
    let part = part_bytes t next in (
      Each-push (IsSound t) (parts_before next) next sound new,
      h.bytes_are
          ∙ ap (λ (l : List ℕ). l ++ left) same
          ∙ ap (λ (l : List ℕ). front ++ l) (split-again k left here after is_here is_after ∙ ap (λ (l : List ℕ). l ++ after) spelled)
          ∙ sym (append_assoc front part after)
          ∙ ap (λ (l : List ℕ). l ++ after) (ap (λ (l : List ℕ). front ++ l) (sym (append-nil part)) ∙ sym (flat_map-append (part_bytes t) (parts_before next) (next ∷ []))),
    )

-- a part is sound, and the next one comes
pub goes-on : (next following : Part) (more : List Part) (bytes : List ℕ) (s t : SavedState) (left here after : List ℕ) (k : ℕ) → StandsBefore next bytes s left → here ≡ take k left → after ≡ drop k left
    → parts_before following ≡ parts_before next ++ next ∷ [] → parts_of_version_1 ≡ parts_before following ++ following ∷ more
    → flat_map (part_bytes s) (parts_before next) ≡ flat_map (part_bytes t) (parts_before next) → Each (IsSound t) (parts_before next) → IsSound t next → here ≡ part_bytes t next
    → StandsBefore following bytes t after
goes-on next following more bytes s t left here after k h is_here is_after before order same sound new spelled =
    let both = extends next bytes s t left here after k h is_here is_after same sound new spelled in
    record {
      more = more;
      in_order = order;
      sound = subst (Each (IsSound t)) (sym before) both.0;
      bytes_are = both.1 ∙ ap (λ (l : List Part). flat_map (part_bytes t) l ++ after) (sym before);
    }

-- a fault that a `?` hands on
pub passed-on : {A : Type 0} (Q : CheckFault → Type 0) (bytes : List ℕ) (r : Result A CheckFault) (fault : CheckFault) → IsErrAnd r Q → ((x : CheckFault) → Q x → x ≡ fault) → EndsRead bytes fault
    → IfErr r (EndsRead bytes)
passed-on Q bytes (Ok x) fault is same h = absurd is
passed-on Q bytes (Err e) fault is same h = subst (EndsRead bytes) (sym (same e is)) h

-- bytes after the last part
pub trails : (bytes : List ℕ) (s : State) (left : List ℕ) → StandsInFront bytes s left → (length left ≡ 0 → ⊥) → EndsRead bytes (faults.Trailing (length bytes - length left))
trails bytes s left h some =
    let spelled = bytes_of (saved s.params s.cycle s.set.places s.blocks.items s.ledger) in
    let all : length bytes ≡ length spelled + length left = ap length h.bytes_are ∙ length-append spelled left in
    inr (trailing (saved s.params s.cycle s.set.places s.blocks.items s.ledger) left h.kept h.bytes_are (omega (arith, some))
    (ap (λ (n : ℕ). faults.Trailing n) (omega (arith, all))))
