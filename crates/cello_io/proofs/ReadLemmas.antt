-- Reads, one after another.
use Rattle.std.proofs.Common.{◌≡◌, ℕ, ◌+◌, ◌≤◌, List, [], ◌++◌, length, None, Some, refl, sym, ◌∙◌, ap, arith, append_assoc, length-append}
use Rattle.std.specs.Io.KnownBytes.{prepend_known}
use Rattle.std.specs.declared.option.Option.{Option}
use Rattle.cello_io.specs.Reads.{LostAtMost}

pub prepend_known-append : (front next : List ℕ) (left : Option (List ℕ)) → prepend_known (front ++ next) left ≡ prepend_known front (prepend_known next left)
prepend_known-append front next None = refl
prepend_known-append front next (Some bytes) = ap (λ (l : List ℕ). Some l) (append_assoc front next bytes)

pub prepend_known-nil : (left : Option (List ℕ)) → prepend_known [] left ≡ left
prepend_known-nil None = refl
prepend_known-nil (Some bytes) = refl

-- bytes were read behind others
pub read_then : (old mid new : Option (List ℕ)) (front next : List ℕ) → old ≡ prepend_known front mid → mid ≡ prepend_known next new → old ≡ prepend_known (front ++ next) new
read_then old mid new front next first second = first ∙ ap (prepend_known front) second ∙ sym (prepend_known-append front next new)

-- bytes were read, and then others were lost
pub lost_then : (limit room : ℕ) (old mid new : Option (List ℕ)) (front : List ℕ) → old ≡ prepend_known front mid → LostAtMost room mid new → length front + room ≤ limit → LostAtMost limit old new
lost_then limit room old mid new front first lost fits = record {
  bytes = front ++ lost.bytes;
  gone = read_then old mid new front lost.bytes first lost.gone;
  within = omega (arith, lost.within, fits, length-append front lost.bytes);
}
