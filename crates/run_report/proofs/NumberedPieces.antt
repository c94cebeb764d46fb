-- Numbered pieces, one after another.
use Rattle.std.proofs.Common.{◌≡◌, ℕ, ◌+◌, ◌<◌, zero, suc, List, [], ◌∷◌, ◌++◌, length, take, drop, Option, Some, Ok, refl, sym, ap, subst, ◌∙◌, add-one, arith}
use Rattle.std.specs.Prelude.{slice_get, slice_index_or}
use Rattle.std.specs.Io.KnownBytes.{append_known}
use Rattle.std.proofs.lemmas.Option.{none-some, same_Some, slice_get_read}
use Rattle.cello_io.specs.Files.{MadeFile}
use Rattle.cello_io.specs.Writes.{GrewByPart}
use Rattle.run_report.specs.Actions.{Action, piece, numbered_pieces}
use Rattle.run_report.specs.Outputs.{Output, output, with_actions, StandsWithin}
use Rattle.run_report.proofs.Prefixes.{acted-piece, with_actions-append, within-then, within-more, within-part}

-- the pieces before one, and those from it on
numbered-split : {A : Type 0} (line : ℕ → A → List ℕ) (k : ℕ) (xs : List A) (i : ℕ) (x : A) → slice_get xs i ≡ Some x
    → numbered_pieces line k (take i xs) ++ (piece (line (k + i) x) ∷ numbered_pieces line (k + suc i) (drop (suc i) xs)) ≡ numbered_pieces line k xs
numbered-split line k [] i x at = absurd (none-some x at)
numbered-split {A} line k (y ∷ ys) zero x at =
    let same : k + 0 ≡ k = omega arith in
    ap (λ (n : ℕ). piece (line n x) ∷ numbered_pieces line (k + 1) ys) same
    ∙ ap (λ (z : A). piece (line k z) ∷ numbered_pieces line (k + 1) ys) (sym (same_Some y x at))
numbered-split line k (y ∷ ys) (suc i) x at =
    let here : k + suc i ≡ k + 1 + i = omega arith in
    let after : k + suc (suc i) ≡ k + 1 + suc i = omega arith in
    let middle = numbered_pieces line (k + 1) (take i ys) in
    ap (λ (l : List Action). piece (line k y) ∷ l)
    (ap (λ (n : ℕ). middle ++ (piece (line n x) ∷ numbered_pieces line (k + suc (suc i)) (drop (suc i) ys))) here
    ∙ ap (λ (n : ℕ). middle ++ (piece (line (k + 1 + i) x) ∷ numbered_pieces line n (drop (suc i) ys))) after
    ∙ numbered-split line (k + 1) ys i x at)

numbered-taken : {A : Type 0} (line : ℕ → A → List ℕ) (k : ℕ) (xs : List A) (i : ℕ) (x : A) → slice_get xs i ≡ Some x
    → numbered_pieces line k (take (suc i) xs) ≡ numbered_pieces line k (take i xs) ++ piece (line (k + i) x) ∷ []
numbered-taken line k [] i x at = absurd (none-some x at)
numbered-taken {A} line k (y ∷ ys) zero x at =
    let same : k ≡ k + 0 = omega arith in
    ap (λ (z : A). piece (line k z) ∷ []) (same_Some y x at) ∙ ap (λ (n : ℕ). piece (line n x) ∷ []) same
numbered-taken line k (y ∷ ys) (suc i) x at =
    let here : k + 1 + i ≡ k + suc i = omega arith in
    ap (λ (l : List Action). piece (line k y) ∷ l)
    (numbered-taken line (k + 1) ys i x at ∙ ap (λ (n : ℕ). numbered_pieces line (k + 1) (take i ys) ++ piece (line n x) ∷ []) here)

module _ {A : Type 0} (line : ℕ → A → List ℕ) (all items : List A) (i number : ℕ) (x : A) (old mid new : Option (List ℕ)) (files : Option (List MadeFile))
    (same : items ≡ all) (within : i < length items) (item : x ≡ slice_index_or items i x) (counted : number ≡ i)
    (before : output mid files ≡ with_actions (output old files) (numbered_pieces line 0 (take i items))) where
  here : slice_get items i ≡ Some x
  here = slice_get_read items (length items) i x refl within item

  at : number ≡ 0 + i
  at = omega (arith, counted)

  rest : List Action
  rest = numbered_pieces line (0 + suc i) (drop (suc i) items)

  -- a part of one piece, in the midst of all
  pub numbered-within : GrewByPart mid new (line number x) → StandsWithin (numbered_pieces line 0 all) (output old files) (output new files)
  unfolding rest
  numbered-within some =
      let next = piece (line (0 + i) x) in
      let part : StandsWithin (next ∷ []) (output mid files) (output new files) =
      within-part next (output mid files) (output new files) (subst (λ (n : ℕ). GrewByPart mid new (line n x)) at some, refl) in
      subst (λ (l : List A). StandsWithin (numbered_pieces line 0 l) (output old files) (output new files)) same
      (subst (λ (l : List Action). StandsWithin l (output old files) (output new files)) (numbered-split line 0 items i x here)
      (within-then (numbered_pieces line 0 (take i items)) (next ∷ rest) (output old files) (output mid files) (output new files) before
      (within-more (next ∷ []) rest (output mid files) (output new files) part)))

  -- one piece more
  pub numbered-more : new ≡ append_known mid (line number x) → output new files ≡ with_actions (output old files) (numbered_pieces line 0 (take (i + 1) items))
  numbered-more wrote =
      let next : output new files ≡ with_actions (output mid files) (piece (line number x) ∷ []) =
      acted-piece {T = Unit {0}} {E = Unit {0}} (line number x) mid new files (Ok tt) wrote in
      let all_of : List Action → Output = λ (l : List Action). with_actions (output old files) (numbered_pieces line 0 (take i items) ++ l) in
      next
      ∙ ap (λ (o : Output). with_actions o (piece (line number x) ∷ [])) before
      ∙ with_actions-append (output old files) (numbered_pieces line 0 (take i items)) (piece (line number x) ∷ [])
      ∙ ap (λ (n : ℕ). all_of (piece (line n x) ∷ [])) at
      ∙ ap (λ (l : List Action). with_actions (output old files) l) (sym (numbered-taken line 0 items i x here))
      ∙ ap (λ (n : ℕ). with_actions (output old files) (numbered_pieces line 0 (take n items))) (sym (add-one i))
