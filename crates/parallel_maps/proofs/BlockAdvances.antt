-- Blocks that are advanced one after another.
use Rattle.std.proofs.Common.{◌≡◌, ℕ, zero, suc, ◌+◌, ◌<◌, ◌≤◌, ◌⊎◌, List, [], ◌∷◌, ◌++◌, Some, length, refl, sym, ap, ◌∙◌, subst, arith, inl, inr}
use Rattle.std.specs.Prelude.{slice_get, slice_set}
use Rattle.std.proofs.lemmas.Bool.{cases_eq}
use Rattle.std.proofs.lemmas.List.{length-set}
use Rattle.std.proofs.lemmas.Option.{same_Some, none-some, slice_get_within}
use Rattle.phase_core.specs.Lemmas.Lookups.{get-set_same, get-set_other}
use Rattle.block_fields.specs.Blocks.{BlockState}
use Rattle.params_check.specs.Parameters.{Parameters}
use Rattle.advect.specs.FaceFluxes.{FaceFluxState}
use Rattle.flux_register.specs.Made.{AreUpwindAdvanced}
use Rattle.parallel_maps.specs.Advances.{IsAdvanced}
use Rattle.parallel_maps.specs.Lemmas.Moving.{AdvancesUpTo}

-- before the first
pub advances-none : (p : Parameters) (blocks : List BlockState) → AdvancesUpTo p 0 blocks blocks []
advances-none p blocks = record {
  one_each = refl;
  counted = refl;
  ahead = λ i h. refl;
  each = λ i b new q h. absurd (omega (arith, h));
}

-- an element of a list with one more behind
pushed : {A : Type 0} (xs : List A) (y z : A) (i : ℕ) → slice_get (xs ++ y ∷ []) i ≡ Some z → (slice_get xs i ≡ Some z) ⊎ ((i ≡ length xs) × (y ≡ z))
pushed [] y z zero e = inr (refl, same_Some y z e)
pushed [] y z (suc i) e = absurd (none-some z e)
pushed (x ∷ xs) y z zero e = inl e
pushed (x ∷ xs) y z (suc i) e =
    elim (pushed xs y z i e) [
      | inl h ↦ inl h
      | inr h ↦ inr (ap suc h.0, h.1)
    ]

-- one more
pub advances-more : (p : Parameters) (k : ℕ) (befores blocks : List BlockState) (faces all : List FaceFluxState) (b new : BlockState) (q : FaceFluxState)
    → AdvancesUpTo p k befores blocks faces → slice_get blocks k ≡ Some b → IsAdvanced p b new q → all ≡ faces ++ q ∷ []
    → AdvancesUpTo p (k + 1) befores (slice_set blocks k new) all
advances-more p k befores blocks faces all b new q w here one pushes = record {
  one_each = length-set blocks k new ∙ w.one_each;
  counted = ap length pushes ∙ length-snoc faces q ∙ omega (arith, w.counted);
  ahead = λ i h. get-set_other blocks k i new (λ e. omega (arith, e, h)) ∙ w.ahead i (omega (arith, h));
  each = λ i c d r below before now face.
      let found = pushed faces q r i (subst (λ (l : List FaceFluxState). slice_get l i ≡ Some r) pushes face) in
      elim (cases_eq i k) [
        | inl same ↦
            let was : slice_get befores k ≡ Some c = subst (λ j. slice_get befores j ≡ Some c) same before in
            let is : slice_get (slice_set blocks k new) k ≡ Some d = subst (λ j. slice_get (slice_set blocks k new) j ≡ Some d) same now in
            let first : b ≡ c = same_Some b c (sym here ∙ w.ahead k (omega arith) ∙ was) in
            let second : new ≡ d = same_Some new d (sym (get-set_same blocks k b new here) ∙ is) in
            elim found [
              | inl old ↦ absurd (let l = slice_get_within faces i r old in omega (arith, l, same, w.counted))
              | inr last ↦ subst (λ (x : BlockState). IsAdvanced p x d r) first (subst (λ (y : BlockState). IsAdvanced p b y r) second (subst (λ (z : FaceFluxState). IsAdvanced p b new z) last.1 one))
            ]
        | inr other ↦
            elim found [
              | inl old ↦ w.each i c d r (omega (arith, below, other)) before (sym (get-set_other blocks k i new other) ∙ now) old
              | inr last ↦ absurd (other (omega (arith, last.0, w.counted)))
            ]
      ];
}
  where
    length-snoc : {A : Type 0} (xs : List A) (x : A) → length (xs ++ x ∷ []) ≡ length xs + 1
    length-snoc [] x = refl
    length-snoc (y ∷ xs) x = let e = length-snoc xs x in omega (arith, e)

-- all
pub advances-all : (p : Parameters) (k : ℕ) (befores blocks : List BlockState) (faces : List FaceFluxState) → (k < length befores → ⊥) → k ≤ length befores
    → AdvancesUpTo p k befores blocks faces → AreUpwindAdvanced p befores blocks faces
advances-all p k befores blocks faces past few w =
    let all : k ≡ length befores = omega (arith, few, past) in
    let before_of : (i : ℕ) → i < k → (b : BlockState) × (slice_get befores i ≡ Some b) = λ i h. element befores i (omega (arith, h, all)) in
    let block_of : (i : ℕ) → i < k → (b : BlockState) × (slice_get blocks i ≡ Some b) = λ i h. element blocks i (omega (arith, h, all, w.one_each)) in
    let faces_of : (i : ℕ) → i < k → (q : FaceFluxState) × (slice_get faces i ≡ Some q) = λ i h. element faces i (omega (arith, h, w.counted)) in
    let by_faces : (i : ℕ) (q : FaceFluxState) → slice_get faces i ≡ Some q → i < k = λ i q h. (let l = slice_get_within faces i q h in omega (arith, l, w.counted)) in
    let of_faces : (i : ℕ) (q : FaceFluxState) → (h : slice_get faces i ≡ Some q) → IsAdvanced p (before_of i (by_faces i q h)).0 (block_of i (by_faces i q h)).0 q =
    λ i q h. (let l = by_faces i q h in w.each i (before_of i l).0 (block_of i l).0 q l (before_of i l).1 (block_of i l).1 h) in
    record {
      provisional = record {
        one_each = w.one_each;
        limits = λ i new h.
            let l : i < k = (let m = slice_get_within blocks i new h in omega (arith, m, all, w.one_each)) in
            (w.each i (before_of i l).0 new (faces_of i l).0 l (before_of i l).1 h (faces_of i l).1).block;
        each = λ i b new h g.
            let l : i < k = (let m = slice_get_within blocks i new g in omega (arith, m, all, w.one_each)) in
            (w.each i b new (faces_of i l).0 l h g (faces_of i l).1).provisional;
      };
      one_each = w.counted ∙ all;
      limits = λ i q h. (let a = of_faces i q h in (a.faces, a.edge, a.fields));
      made_by = λ i q h. (let a = of_faces i q h in (a.velocity, a.den));
      noted = λ i b q h g.
          let l = by_faces i q g in
          (w.each i b (block_of i l).0 q l h (block_of i l).1 g).noted;
    }
  where
    element : {A : Type 0} (xs : List A) (i : ℕ) → i < length xs → (x : A) × (slice_get xs i ≡ Some x)
    element [] i h = absurd (omega (arith, h))
    element (x ∷ xs) zero h = (x, refl)
    element (x ∷ xs) (suc i) h = element xs i (omega (arith, h))
