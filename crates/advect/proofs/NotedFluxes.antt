-- The fluxes that are noted for the outermost faces of a block, seen from its cells.
use Rattle.std.proofs.Common.{◌≡◌, ℕ, ◌+◌, ◌%◌, ◌<◌, slice_index, ap, sym, ◌∙◌, subst}
use Rattle.std.proofs.lemmas.Nat.{mod_below}
use Rattle.block_index.specs.Places.{Cube}
use Rattle.grid_fluxes.specs.Axes.{Axis, coordinate}
use Rattle.advect.specs.CellFluxes.{noted_after, noted_before, own_after, own_before}
use Rattle.advect.specs.Coordinates.{across_first, across_second, face_number}
use Rattle.advect.specs.FaceFluxes.{FaceFluxState, HoldsFluxes, high_of, low_of}
use Rattle.advect.specs.OwnFluxes.{FacesOfBlock}
use Rattle.advect.proofs.Corrected.{first-within, second-within}
use Rattle.advect.proofs.StateFluxes.{along-cell}

module _ (own : FacesOfBlock) (faces : FaceFluxState) (notes : HoldsFluxes own faces) (n : ℕ) (some : 0 < n) (edge : faces.edge ≡ n) (f : ℕ) (known : f < faces.fields) (a : Axis) (c : Cube) where
  abbrev i : ℕ
  i = across_first a (c.x % n) (c.y % n) (c.z % n)

  abbrev j : ℕ
  j = across_second a (c.x % n) (c.y % n) (c.z % n)

  first : i < faces.edge
  first = subst (λ m. i < m) (sym edge) (first-within a n (c.x % n) (c.y % n) (c.z % n) (mod_below c.x n some) (mod_below c.y n some) (mod_below c.z n some))

  second : j < faces.edge
  second = subst (λ m. j < m) (sym edge) (second-within a n (c.x % n) (c.y % n) (c.z % n) (mod_below c.x n some) (mod_below c.y n some) (mod_below c.z n some))

  pub noted-before : coordinate a c % n ≡ 0 → noted_before n faces f a c ≡ own_before n own f a c
  noted-before low =
      ap (λ m. slice_index (low_of faces f a) (face_number m i j)) (sym edge)
      ∙ notes.low f a i j known first second
      ∙ ap (λ u. own f a u i j) (sym (along-cell a n c ∙ low))

  pub noted-after : coordinate a c % n + 1 ≡ n → noted_after n faces f a c ≡ own_after n own f a c
  noted-after high =
      ap (λ m. slice_index (high_of faces f a) (face_number m i j)) (sym edge)
      ∙ notes.high f a i j known first second
      ∙ ap (λ u. own f a u i j) (edge ∙ sym high ∙ ap (λ u. u + 1) (sym (along-cell a n c)))
