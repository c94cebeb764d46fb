-- Notes of fluxes, list by list.
use Rattle.std.proofs.Common.{◌≡◌, ℕ, ◌+◌, ◌*◌, ◌<◌, List, [], length, slice_index, slice_index_or, set, ap, sym, ◌∙◌, subst, arith, Vec, Global}
use Rattle.std.specs.Vec.{with_items}
use Rattle.std.proofs.lemmas.List.{get_or-set_same, get_or-set_other, length-set, with_items_is}
use Rattle.block_fields.proofs.Fields.{HaveLength-set, field-set}
use Rattle.grid_fluxes.specs.Axes.{Axis, along_x, along_y, along_z}
use Rattle.advect.specs.Coordinates.{face_number}
use Rattle.advect.specs.Flows.{axis_number}
use Rattle.advect.specs.Lemmas.Rims.{AreSides, NotesField, NotesRim}
use Rattle.advect.proofs.Insides.{elements}

-- one list is written
pub note-one : (n at : ℕ) (flux : ℕ → ℕ → ℕ) (vs : List (Vec ℕ Global)) (v : Vec ℕ Global) (w : List ℕ) → at < length (elements vs) → AreSides n (elements vs) → length w ≡ v.len → length w ≡ n * n →
    ((i j : ℕ) → i < n → j < n → slice_index w (face_number n i j) ≡ flux i j) → NotesRim n at flux (elements vs) (elements (set vs at (with_items v w)))
note-one n at flux vs v w there sides long size fluxes =
    let e : elements (set vs at (with_items v w)) ≡ set (elements vs) at w = field-set (Vec ℕ Global) (λ v. v.items) vs at (with_items v w) w (with_items_is v w long) in
    subst (NotesRim n at flux (elements vs)) (sym e) record {
      here = λ i j hi hj. ap (λ (l : List ℕ). slice_index l (face_number n i j)) (get_or-set_same (elements vs) at w [] there) ∙ fluxes i j hi hj;
      others = λ k other. get_or-set_other (elements vs) at k w [] other;
      long = length-set (elements vs) at w;
      sizes = HaveLength-set (n * n) (elements vs) at w sides size;
    }

-- the three lists of a field
pub note-three : (n f : ℕ) (flux : Axis → ℕ → ℕ → ℕ) (a b c d : List (List ℕ)) → NotesRim n (3 * f) (flux along_x) a b → NotesRim n (3 * f + 1) (flux along_y) b c → NotesRim n (3 * f + 2) (flux along_z) c d → NotesField n f flux a d
note-three n f flux a b c d x y z = record {
  here = by_axis;
  earlier = λ k h. z.others k (λ e. omega (arith, e, h)) ∙ y.others k (λ e. omega (arith, e, h)) ∙ x.others k (λ e. omega (arith, e, h));
  later = λ k h. z.others k (λ e. omega (arith, e, h)) ∙ y.others k (λ e. omega (arith, e, h)) ∙ x.others k (λ e. omega (arith, e, h));
  long = z.long ∙ y.long ∙ x.long;
  sizes = z.sizes;
}
  where
    by_axis : (a : Axis) (i j : ℕ) → i < n → j < n → slice_index (slice_index_or d (3 * f + axis_number a) []) (face_number n i j) ≡ flux a i j
    by_axis along_x i j hi hj =
        let e : 3 * f + 0 ≡ 3 * f = omega arith in
        ap (λ (l : List ℕ). slice_index l (face_number n i j)) (z.others (3 * f + 0) (λ e. omega (arith, e)) ∙ y.others (3 * f + 0) (λ e. omega (arith, e)))
        ∙ ap (λ k. slice_index (slice_index_or b k []) (face_number n i j)) e ∙ x.here i j hi hj
    by_axis along_y i j hi hj =
        ap (λ (l : List ℕ). slice_index l (face_number n i j)) (z.others (3 * f + 1) (λ e. omega (arith, e))) ∙ y.here i j hi hj
    by_axis along_z i j hi hj = z.here i j hi hj
