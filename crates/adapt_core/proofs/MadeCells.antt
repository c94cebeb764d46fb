-- Slots that all have a first cell.
use Rattle.std.proofs.Common.{◌≡◌, ℕ, List, Option, Some, length, map, sym, ap, ◌∙◌, subst}
use Rattle.std.specs.Prelude.{slice_get, IfSome}
use Rattle.std.proofs.lemmas.List.{length-map}
use Rattle.phase_core.specs.Lemmas.ListsByPlaces.{Has}
use Rattle.phase_core.specs.Lemmas.Lookups.{get-map}

-- the cells that were taken out of their slots
pub Has-taken : {A : Type 0} (P : ℕ → A → Type 0) (count : ℕ) (slots : List (Option A)) (cells : List A) → length slots ≡ count
    → ((i : ℕ) (slot : Option A) → slice_get slots i ≡ Some slot → IfSome slot (P i)) → map Some cells ≡ slots → Has P count cells
Has-taken {A} P count slots cells long each taken =
    let some : A → Option A = Some in
    record {
      many = sym (length-map cells some) ∙ (ap length taken ∙ long);
      each = λ i x at. each i (Some x) (subst (λ (l : List (Option A)). slice_get l i ≡ Some (Some x)) taken (get-map some cells i x at));
    }
