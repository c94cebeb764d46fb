-- Fetches, one after another: what was fetched stays the front of the file.
use Rattle.std.proofs.Common.{◌≡◌, ℕ, ◌≤◌, List, ◌++◌, length, take, drop, Option, None, Some, IfSome, IsSomeAnd, sym, ◌∙◌, ap, subst, arith, length-append}
use Rattle.std.proofs.lemmas.List.{length-drop, length-take, length-take-le, take-append-drop}
use Rattle.std.proofs.Math.Seq.{take-append-add}
use Rattle.cello_io.specs.Files.{PastFiles, StandsAt}

-- a front of a file, and what stands behind it, are a front
front_then : (file bytes more : List ℕ) → length bytes ≤ length file → bytes ≡ take (length bytes) file → more ≡ take (length more) (drop (length bytes) file) →
    (length (bytes ++ more) ≤ length file) × (bytes ++ more ≡ take (length (bytes ++ more)) file)
front_then file bytes more within front behind =
    let rest = drop (length bytes) file in
    let whole : bytes ++ rest ≡ file = ap (λ (xs : List ℕ). xs ++ rest) front ∙ take-append-drop (length bytes) file in
    let short : length more ≤ length rest = omega (arith, ap length behind, length-take (length more) rest) in (
      omega (arith, length-append bytes more, within, short, length-drop (length bytes) file),
      ap (λ (xs : List ℕ). bytes ++ xs) behind
          ∙ sym (take-append-add bytes rest (length more))
          ∙ ap (λ (n : ℕ). take n (bytes ++ rest)) (sym (length-append bytes more))
          ∙ ap (λ (xs : List ℕ). take (length (bytes ++ more)) xs) whole,
    )

-- the same of the past file of a name, if there is one
pub front_more : (name bytes buf : List ℕ) (from count : ℕ) (past : Option PastFiles) → from ≡ length bytes →
    IfSome past (λ files. (file : List ℕ) → files name ≡ Some file → (length bytes ≤ length file) × (bytes ≡ take (length bytes) file)) →
    IfSome past (λ files. IsSomeAnd (files name) (λ file. StandsAt file from count buf)) → count ≤ length buf →
    IfSome past (λ files. (file : List ℕ) → files name ≡ Some file →
    (length (bytes ++ take count buf) ≤ length file) × (bytes ++ take count buf ≡ take (length (bytes ++ take count buf)) file))
front_more name bytes buf from count None starts front stands fits = front
front_more name bytes buf from count (Some files) starts front stands fits = λ file is.
    let at : StandsAt file from count buf = subst (λ (o : Option (List ℕ)). IsSomeAnd o (λ file. StandsAt file from count buf)) is stands in
    let long : length (take count buf) ≡ count = length-take-le count buf fits in
    front_then file bytes (take count buf) ((front file is).0) ((front file is).1)
    (at.bytes_are ∙ ap (λ (n : ℕ). take count (drop n file)) starts ∙ ap (λ (n : ℕ). take n (drop (length bytes) file)) (sym long))
