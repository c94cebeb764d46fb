-- Lists sorted by shard stay sorted.
use Rattle.std.proofs.Common.{◌≡◌, ℕ, ◌<◌, List, [], ◌∷◌, ◌++◌, length, Some, sym, ◌∙◌, subst, inl, inr}
use Rattle.std.specs.Prelude.{All, slice_get, slice_set}
use Rattle.std.proofs.lemmas.Bool.{cases_eq}
use Rattle.std.proofs.lemmas.List.Elements.{All-push, All-nil, All-cons, All-head, All-tail}
use Rattle.std.proofs.lemmas.Option.{same_Some}
use Rattle.phase_core.specs.declared.envelope.Envelope.{Envelope}
use Rattle.post_office.specs.Shares.{IsFor, Sorted}
use Rattle.post_office.specs.Lemmas.PartLaws.{get_set, get_else, get_within}

module _ {M : Type 0} (owners : List ℕ) where
  -- a list with envelopes for its shard takes the place of another
  pub sorted_set : (mail : List (List (Envelope M))) (s : ℕ) (es : List (Envelope M)) → Sorted owners mail → s < length mail → All (λ e. IsFor owners s e) es → Sorted owners (slice_set mail s es)
  sorted_set mail s es sorted within ours = λ t fs at. elim (cases_eq t s) [
    | inl i ↦
        let z : es ≡ fs = same_Some es fs (sym (get_set mail s es within) ∙ subst (λ y. slice_get (slice_set mail s es) y ≡ Some fs) i at) in
        subst (λ y. All (λ (e : Envelope M). IsFor owners y e) fs) (sym i) (subst (All (λ (e : Envelope M). IsFor owners s e)) z ours)
    | inr n ↦ sorted t fs (sym (get_else mail s t es n) ∙ at)
  ]

  pub sorted_put : (mail : List (List (Envelope M))) (s : ℕ) (es : List (Envelope M)) (e : Envelope M) → Sorted owners mail → slice_get mail s ≡ Some es → IsFor owners s e → Sorted owners (slice_set mail s (es ++ e ∷ []))
  sorted_put mail s es e sorted at for = sorted_set mail s (es ++ e ∷ []) sorted (get_within mail s es at) (All-push (λ (x : Envelope M). IsFor owners s x) es e (sorted s es at) for)

module _ {X : Type 0} (P : X → Type 0) where
  pub all_front : (xs ys : List X) → All P (xs ++ ys) → All P xs
  all_front [] ys h = All-nil P
  all_front (x ∷ xs) ys h = All-cons P x xs (All-head P x (xs ++ ys) h) (all_front xs ys (All-tail P x (xs ++ ys) h))

  pub all_back : (xs ys : List X) → All P (xs ++ ys) → All P ys
  all_back [] ys h = h
  all_back (x ∷ xs) ys h = all_back xs ys (All-tail P x (xs ++ ys) h)

-- the first ones left a list
pub still_sorted : {M : Type 0} (owners : List ℕ) (s : ℕ) (mail mail' : List (List (Envelope M))) (es rest : List (Envelope M)) → slice_get mail s ≡ Some (es ++ rest) → mail' ≡ slice_set mail s rest → Sorted owners mail → Sorted owners mail'
still_sorted owners s mail mail' es rest at is sorted =
    subst (Sorted owners) (sym is) (sorted_set owners mail s rest sorted (get_within mail s (es ++ rest) at) (all_back (λ e. IsFor owners s e) es rest (sorted s (es ++ rest) at)))
