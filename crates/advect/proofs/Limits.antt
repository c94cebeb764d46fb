-- The limits of face fluxes and of pieces.
use Rattle.std.proofs.Common.{◌≡◌, ℕ, ◌+◌, ◌*◌, ◌/◌, ◌<◌, ◌≤◌, Bool, true, false, List, [], Some, slice_get, slice_index, length, map, sym, ap, ◌∙◌, subst, arith, inl, inr, cond}
use Rattle.std.specs.List.{range_with_len}
use Rattle.std.proofs.lemmas.Bool.{cases_lt}
use Rattle.std.proofs.lemmas.List.{length-map, get_or_past}
use Rattle.std.proofs.lemmas.List.FromFn.{get_or-map-range_with_len, length-range_with_len}
use Rattle.std.proofs.lemmas.Option.{slice_get_within, get_or_from_slice_get, slice_get-get_or}
use Rattle.block_index.specs.Beyond.{Offset}
use Rattle.grid_fluxes.specs.Axes.{Axis, along_x, along_y, along_z}
use Rattle.advect.specs.Flows.{axis_number}
use Rattle.advect.specs.FaceFluxes.{AreFluxes, FaceFluxState, IsFaceFluxes, axis_of, fluxes_on, greatest_flux, high_of, is_end, low_of}
use Rattle.advect.specs.FluxPieces.{IsFluxPiece, greatest_sum, sum_of_four, sums_of_four, FluxPieceState}
use Rattle.advect.proofs.Fours.{four-most}

pub axis_number-within : (a : Axis) → axis_number a < 3
axis_number-within along_x = omega arith
axis_number-within along_y = omega arith
axis_number-within along_z = omega arith

module _ (s : FaceFluxState) (k : IsFaceFluxes s) (f : ℕ) (h : f < s.fields) where
  pub low-are : (a : Axis) → AreFluxes s.edge (low_of s f a)
  low-are a =
      let w = axis_number-within a in
      let l = k.all_low in
      k.each_low (3 * f + axis_number a) (low_of s f a) (slice_get-get_or s.low (3 * f + axis_number a) [] (omega arith))

  pub high-are : (a : Axis) → AreFluxes s.edge (high_of s f a)
  high-are a =
      let w = axis_number-within a in
      let l = k.all_high in
      k.each_high (3 * f + axis_number a) (high_of s f a) (slice_get-get_or s.high (3 * f + axis_number a) [] (omega arith))

  by_end : (e : Bool) (d : Offset) → AreFluxes s.edge (cond e (high_of s f (axis_of d)) (low_of s f (axis_of d)))
  by_end true d = high-are (axis_of d)
  by_end false d = low-are (axis_of d)

  pub fluxes_on-are : (d : Offset) → AreFluxes s.edge (fluxes_on s f d)
  fluxes_on-are d = by_end (is_end d) d

-- an element of a list by a function of its positions
pub each-made : (F : ℕ) (g : ℕ → List ℕ) (f : ℕ) (q : List ℕ) → slice_get (map g (range_with_len 0 F)) f ≡ Some q → (f < F) × (g f ≡ q)
each-made F g f q e =
    let l : length (map g (range_with_len 0 F)) ≡ F = length-map (range_with_len 0 F) g ∙ length-range_with_len 0 F in
    let h : f < F = subst (λ n. f < n) l (slice_get_within (map g (range_with_len 0 F)) f q e) in
    (h, sym (get_or-map-range_with_len g 0 F f f q h (omega arith)) ∙ get_or_from_slice_get (map g (range_with_len 0 F)) f q q e)

pub sums-length : (n : ℕ) (q : List ℕ) → length (sums_of_four n q) ≡ n / 2 * (n / 2)
sums-length n q = length-map (range_with_len 0 (n / 2 * (n / 2))) (sum_of_four n q) ∙ length-range_with_len 0 (n / 2 * (n / 2))

pub sums-small : (n : ℕ) (q : List ℕ) → ((k : ℕ) → slice_index q k ≤ greatest_flux) → (k : ℕ) → slice_index (sums_of_four n q) k ≤ greatest_sum
sums-small n q small k =
    let m = n / 2 * (n / 2) in
    let l = sums-length n q in
    elim (cases_lt k m) [
      | inl less ↦
          let e : slice_index (sums_of_four n q) k ≡ sum_of_four n q k = get_or-map-range_with_len (sum_of_four n q) 0 m k k 0 less (omega arith) in
          let most : sum_of_four n q k ≤ 4 * greatest_flux = four-most n k q greatest_flux small in
          omega (arith, e, most)
      | inr past ↦ let e : slice_index (sums_of_four n q) k ≡ 0 = get_or_past (sums_of_four n q) k 0 (omega (arith, l, past)) in omega (arith, e)
    ]

-- a piece with the sums of four of face fluxes keeps its limits
pub reduced-IsFluxPiece : (p : FluxPieceState) → IsFluxPiece p → (s : FaceFluxState) → IsFaceFluxes s → (d : Offset) (sums : List (List ℕ)) → p.edge ≡ s.edge →
    sums ≡ map (λ f. sums_of_four s.edge (fluxes_on s f d)) (range_with_len 0 s.fields) → IsFluxPiece (record p { sums = sums })
reduced-IsFluxPiece p k s w d sums same e = record {
  side = k.side;
  even = k.even;
  least = k.least;
  most = k.most;
  few =
      let l : length sums ≡ s.fields = ap length e ∙ length-map (range_with_len 0 s.fields) (λ f. sums_of_four s.edge (fluxes_on s f d)) ∙ length-range_with_len 0 s.fields in
      let few = w.few in
      omega (arith, l, few);
  each = λ f q at.
      let made = each-made s.fields (λ f. sums_of_four s.edge (fluxes_on s f d)) f q (subst (λ (l : List (List ℕ)). slice_get l f ≡ Some q) e at) in
      let are = fluxes_on-are s w f made.0 d in
      let size : length q ≡ p.edge / 2 * (p.edge / 2) = ap length (sym made.1) ∙ sums-length s.edge (fluxes_on s f d) ∙ ap (λ n. n / 2 * (n / 2)) (sym same) in
      let small : (k : ℕ) → slice_index q k ≤ greatest_sum = subst (λ (q : List ℕ). (k : ℕ) → slice_index q k ≤ greatest_sum) made.1 (sums-small s.edge (fluxes_on s f d) are.1) in
      (size, small);
}
