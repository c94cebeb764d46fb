-- A search for the faces of a leaf, side by side.
use Rattle.std.proofs.Common.{◌≡◌, ℕ, ◌+◌, ◌*◌, ◌<◌, ◌≤◌, ◌==◌, Bool, true, false, cond, List, [], ◌∷◌, ◌++◌, length, refl, sym, subst, arith, sum_by, inl, inr}
use Rattle.std.specs.Prelude.{Contains}
use Rattle.std.proofs.lemmas.Bool.{cases_eq, cond-true, cond-false, eq-eqb, ne_eqb}
use Rattle.std.proofs.lemmas.List.{length_push}
use Rattle.std.proofs.lemmas.List.Elements.{Contains-append_left, Contains-push, Contains-push_cases}
use Rattle.std.proofs.lemmas.List.Sums.{sum_by-append, sum_by-cons}
use Rattle.block_index.specs.Beyond.{Offset}
use Rattle.block_index.specs.Places.{Cube, Grid}
use Rattle.grid_fluxes.specs.Axes.{Axis, along_x, along_y, along_z}
use Rattle.advect.specs.FaceFluxes.{axis_of, is_end}
use Rattle.advect.specs.Flows.{axis_number}
use Rattle.flux_register.specs.Faces.{FluxFace, IsFluxFace, AreOwedFaces, on_side, side_number}

-- these are the faces of leaf i on the first `count` sides that have a coarser leaf across, at most one on a side
pub record FoundFaces (grid : Grid) (mesh : List Cube) (i count : ℕ) (faces : List FluxFace) : Type 0 where
  pub each : (face : FluxFace) → Contains faces face → IsFluxFace grid mesh face
  pub own : (face : FluxFace) → Contains faces face → face.from ≡ i
  pub all : (face : FluxFace) → IsFluxFace grid mesh face → face.from ≡ i → side_number face.side < count → Contains faces face
  pub once : (n : ℕ) → sum_by (on_side n) faces ≤ 1
  pub later : (n : ℕ) → count ≤ n → sum_by (on_side n) faces ≡ 0
  pub few : length faces ≤ count

-- there are six sides
pub side_number_below : (d : Offset) → side_number d < 6
side_number_below d = by_parts (axis_of d) (is_end d)
  where
    by_parts : (a : Axis) (b : Bool) → 2 * axis_number a + cond b 1 0 < 6
    by_parts along_x true = omega arith
    by_parts along_x false = omega arith
    by_parts along_y true = omega arith
    by_parts along_y false = omega arith
    by_parts along_z true = omega arith
    by_parts along_z false = omega arith

module _ (grid : Grid) (mesh : List Cube) (i : ℕ) where
  none_holds : (face : FluxFace) → Contains {X = FluxFace} [] face → ⊥
  none_holds face h = let l = h.1 in omega (arith, l)

  pub found_none : (faces : List FluxFace) → faces ≡ [] → FoundFaces grid mesh i 0 faces
  found_none faces none = subst (FoundFaces grid mesh i 0) (sym none) (record {
    each = λ face h. absurd (none_holds face h);
    own = λ face h. absurd (none_holds face h);
    all = λ face is from less. absurd (omega (arith, less));
    once = λ n. (let e : sum_by (on_side n) [] ≡ 0 = refl in omega (arith, e));
    later = λ n l. refl;
    few = (let e : length {A = FluxFace} [] ≡ 0 = refl in omega (arith, e));
  })

  -- no face at all
  pub no_faces : (faces : List FluxFace) → faces ≡ [] → ((face : FluxFace) → IsFluxFace grid mesh face → face.from ≡ i → ⊥) → AreOwedFaces grid mesh i faces
  no_faces faces none no_face = subst (AreOwedFaces grid mesh i) (sym none) (record {
    each = λ face h. absurd (none_holds face h);
    own = λ face h. absurd (none_holds face h);
    all = λ face is from. absurd (no_face face is from);
    once = λ n. (let e : sum_by (on_side n) [] ≡ 0 = refl in omega (arith, e));
    few = (let e : length {A = FluxFace} [] ≡ 0 = refl in omega (arith, e));
  })

  -- no coarser leaf lies across the next side
  pub found_no_more : (n : ℕ) (faces : List FluxFace) → FoundFaces grid mesh i n faces → ((face : FluxFace) → IsFluxFace grid mesh face → face.from ≡ i → side_number face.side ≡ n → ⊥) → FoundFaces grid mesh i (n + 1) faces
  found_no_more n faces found none = record {
    each = found.each;
    own = found.own;
    all = λ face is from less. elim (cases_eq (side_number face.side) n) [
      | inl here ↦ absurd (none face is from here)
      | inr before ↦ found.all face is from (omega (arith, less, before))
    ];
    once = found.once;
    later = λ m l. found.later m (omega (arith, l));
    few = (let few = found.few in omega (arith, few));
  }

  side_is : (m : ℕ) (face : FluxFace) → on_side m face ≤ 1
  side_is m face = elim (cases_eq (side_number face.side) m) [
    | inl e ↦ (let v = cond-true {A = ℕ} (side_number face.side == m) 1 0 (eq-eqb (side_number face.side) m e) in omega (arith, v))
    | inr n ↦ (let v = cond-false {A = ℕ} (side_number face.side == m) 1 0 (ne_eqb (side_number face.side) m n) in omega (arith, v))
  ]

  other_side : (m : ℕ) (face : FluxFace) → (side_number face.side ≡ m → ⊥) → on_side m face ≡ 0
  other_side m face n = cond-false {A = ℕ} (side_number face.side == m) 1 0 (ne_eqb (side_number face.side) m n)

  sum-push : (m : ℕ) (faces : List FluxFace) (new : FluxFace) → sum_by (on_side m) (faces ++ new ∷ []) ≡ sum_by (on_side m) faces + on_side m new
  sum-push m faces new =
      let a = sum_by-append (on_side m) faces (new ∷ []) in
      let b = sum_by-cons (on_side m) new [] in
      let e : sum_by (on_side m) [] ≡ 0 = refl in
      omega (arith, a, b, e)

  -- the face on the next side
  pub found_one : (n : ℕ) (faces now : List FluxFace) (new : FluxFace) → FoundFaces grid mesh i n faces → now ≡ faces ++ new ∷ [] → IsFluxFace grid mesh new → new.from ≡ i → side_number new.side ≡ n
      → ((face : FluxFace) → IsFluxFace grid mesh face → face.from ≡ i → side_number face.side ≡ n → new ≡ face) → FoundFaces grid mesh i (n + 1) now
  found_one n faces now new found pushed is own side every = subst (FoundFaces grid mesh i (n + 1)) (sym pushed) (record {
    each = λ face h. elim (Contains-push_cases faces new face h) [
      | inl old ↦ found.each face old
      | inr same ↦ subst (IsFluxFace grid mesh) same is
    ];
    own = λ face h. elim (Contains-push_cases faces new face h) [
      | inl old ↦ found.own face old
      | inr same ↦ subst (λ (f : FluxFace). f.from ≡ i) same own
    ];
    all = λ face right from less. elim (cases_eq (side_number face.side) n) [
      | inl here ↦ subst (λ (f : FluxFace). Contains (faces ++ new ∷ []) f) (every face right from here) (Contains-push faces new)
      | inr before ↦ Contains-append_left faces (new ∷ []) face (found.all face right from (omega (arith, less, before)))
    ];
    once = λ m. elim (cases_eq m n) [
      | inl here ↦ (let none = found.later m (omega (arith, here)) in let s = sum-push m faces new in let one = side_is m new in omega (arith, none, s, one))
      | inr there ↦ (let once = found.once m in let s = sum-push m faces new in let z = other_side m new (λ e. there (omega (arith, e, side))) in omega (arith, once, s, z))
    ];
    later = λ m l. (let none = found.later m (omega (arith, l)) in let s = sum-push m faces new in let z = other_side m new (λ e. omega (arith, e, side, l)) in omega (arith, none, s, z));
    few = (let few = found.few in let long = length_push faces new in omega (arith, few, long));
  })

  pub found_all : (faces : List FluxFace) → FoundFaces grid mesh i 6 faces → AreOwedFaces grid mesh i faces
  found_all faces found = record {
    each = found.each;
    own = found.own;
    all = λ face is from. found.all face is from (side_number_below face.side);
    once = found.once;
    few = found.few;
  }
