-- Lists of zeros.
use Rattle.std.proofs.Common.{◌≡◌, ℕ, ◌*◌, ◌/◌, ◌%◌, ◌<◌, ◌≤◌, List, [], ◌∷◌, Some, slice_get, slice_index, length, replicate, sym, ap, subst, arith, refl, inl, inr, ◌∙◌, pos}
use Rattle.std.proofs.lemmas.List.{length-replicate, get_or-replicate, get_or_past}
use Rattle.std.proofs.lemmas.Option.{slice_get_within, get_or_from_slice_get}
use Rattle.std.proofs.lemmas.Bool.{cases_lt}
use Rattle.block_index.specs.Places.{Cube}
use Rattle.block_index.specs.Beyond.{Offset}
use Rattle.advect.specs.FaceFluxes.{AreFluxes, IsFaceFluxes, IsSide, face_fluxes}
use Rattle.advect.specs.FluxPieces.{IsFluxPiece, flux_piece, greatest_sum}

pub each-replicate : (m : ℕ) (q : List ℕ) (k : ℕ) (r : List ℕ) → slice_get (replicate m q) k ≡ Some r → q ≡ r
each-replicate m q k r e =
    let h : k < m = subst (λ n. k < n) (length-replicate m q) (slice_get_within (replicate m q) k r e) in
    sym (get_or-replicate m k q q h) ∙ get_or_from_slice_get (replicate m q) k r q e

pub at-zeros : (m k : ℕ) → slice_index (replicate m 0) k ≡ 0
at-zeros m k =
    elim (cases_lt k m) [
      | inl less ↦ get_or-replicate m k 0 0 less
      | inr past ↦ get_or_past (replicate m 0) k 0 (let l : length {A = ℕ} (replicate m 0) ≡ m = length-replicate m 0 in omega (arith, l))
    ]

pub zeros-are : (n : ℕ) (q : List ℕ) → replicate (n * n) 0 ≡ q → AreFluxes n q
zeros-are n q e = subst (AreFluxes n) e (length-replicate (n * n) 0, λ k. let z = at-zeros (n * n) k in omega arith)

-- new face fluxes, and a new piece, keep their limits
pub zeros-IsFaceFluxes : (n fields : ℕ) (low high : List (List ℕ)) → n % 2 ≡ 0 → 4 ≤ n → n ≤ 16 → fields ≤ 4 →
    low ≡ replicate (3 * fields) (replicate (n * n) 0) → high ≡ replicate (3 * fields) (replicate (n * n) 0) →
    IsFaceFluxes (face_fluxes n fields (pos 0 ∷ pos 0 ∷ pos 0 ∷ []) 1 low high)
zeros-IsFaceFluxes n fields low high even least most few e k = record {
  even = even;
  least = least;
  most = most;
  few = few;
  three = refl;
  all_low = ap length e ∙ length-replicate (3 * fields) (replicate (n * n) 0);
  all_high = ap length k ∙ length-replicate (3 * fields) (replicate (n * n) 0);
  each_low = λ i q at. zeros-are n q (each-replicate (3 * fields) (replicate (n * n) 0) i q (subst (λ (l : List (List ℕ)). slice_get l i ≡ Some q) e at));
  each_high = λ i q at. zeros-are n q (each-replicate (3 * fields) (replicate (n * n) 0) i q (subst (λ (l : List (List ℕ)). slice_get l i ≡ Some q) k at));
}

pub zeros-IsFluxPiece : (to from : ℕ) (place : Cube) (side : Offset) (n fields : ℕ) (sums : List (List ℕ)) → IsSide side → n % 2 ≡ 0 → 4 ≤ n → n ≤ 16 → fields ≤ 4 →
    sums ≡ replicate fields (replicate (n / 2 * (n / 2)) 0) → IsFluxPiece (flux_piece to from place side n sums)
zeros-IsFluxPiece to from place side n fields sums is even least most few e = record {
  side = is;
  even = even;
  least = least;
  most = most;
  few = let l : length sums ≡ fields = ap length e ∙ length-replicate fields (replicate (n / 2 * (n / 2)) 0) in omega arith;
  each = λ f q at.
      subst (λ (q : List ℕ). (length q ≡ n / 2 * (n / 2)) × ((k : ℕ) → slice_index q k ≤ greatest_sum))
      (each-replicate fields (replicate (n / 2 * (n / 2)) 0) f q (subst (λ (l : List (List ℕ)). slice_get l f ≡ Some q) e at))
      (length-replicate (n / 2 * (n / 2)) 0, λ k. let z = at-zeros (n / 2 * (n / 2)) k in omega arith);
}
