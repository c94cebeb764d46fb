-- Lists that are filled row by row, plane by plane.
use Rattle.std.proofs.Common.{◌≡◌, ℕ, ◌+◌, ◌*◌, ◌/◌, ◌%◌, ◌<◌, ◌≤◌, inl, inr, sym, ap, ◌∙◌, subst, arith, List, slice_index, length, map, mul-le-mul_right}
use Rattle.std.specs.List.{range_with_len}
use Rattle.std.proofs.lemmas.Bool.{cases_eq}
use Rattle.std.proofs.lemmas.List.FromFn.{fill_by_all}
use Rattle.std.proofs.lemmas.Nat.{div-add-mod'}
use Rattle.ghost_pieces.specs.Lemmas.Fills.{FillsPlane, FillsPlanes}
use Rattle.ghost_pieces.proofs.SentBounds.{box_places}

row_first : (a y z : ℕ) → y < z → y * a + a ≤ z * a
row_first a y z h = let r : (y + 1) * a ≤ z * a = mul-le-mul_right a (let e : y + 1 ≤ z = omega arith in e) in omega arith

pub row_filled : (g : ℕ → ℕ → ℕ) (at count j : ℕ) (before mid after : List ℕ) → FillsPlane g at count j before mid → length after ≡ length mid → ((i : ℕ) → i < count → slice_index after (at + j * count + i) ≡ g i j) → ((i : ℕ) → i < at + j * count → slice_index after i ≡ slice_index mid i) → FillsPlane g at count (j + 1) before after
row_filled g at count j before mid after plane long row earlier = record { long = long ∙ plane.long; cells = cells; earlier = λ i h. earlier i (omega arith) ∙ plane.earlier i h }
  where
    cells : (i v : ℕ) → i < count → v < j + 1 → slice_index after (at + v * count + i) ≡ g i v
    cells i v hi hv =
        elim (cases_eq v j) [
          | inl same ↦ subst (λ v. slice_index after (at + v * count + i) ≡ g i v) (sym same) (row i hi)
          | inr other ↦
              let b = row_first count v j (omega arith) in
              earlier (at + v * count + i) (omega arith) ∙ plane.cells i v hi (omega arith)
        ]

pub plane_filled : (g : ℕ → ℕ → ℕ → ℕ) (count rows k : ℕ) (before mid after : List ℕ) → FillsPlanes g count rows k before mid → FillsPlane (λ i j. g i j k) (k * rows * count) count rows mid after → FillsPlanes g count rows (k + 1) before after
plane_filled g count rows k before mid after planes plane = record { long = plane.long ∙ planes.long; cells = cells }
  where
    cells : (i j v : ℕ) → i < count → j < rows → v < k + 1 → slice_index after ((v * rows + j) * count + i) ≡ g i j v
    cells i j v hi hj hv =
        elim (cases_eq v k) [
          | inl same ↦
              subst (λ v. slice_index after ((v * rows + j) * count + i) ≡ g i j v) (sym same)
              (ap (slice_index after) (let e : (k * rows + j) * count + i ≡ k * rows * count + j * count + i = omega arith in e) ∙ plane.cells i j hi hj)
          | inr other ↦
              let a = row_first rows v k (omega arith) in
              let b = row_first count (v * rows + j) (k * rows) (omega arith) in
              plane.earlier ((v * rows + j) * count + i) (omega arith) ∙ planes.cells i j v hi hj (omega arith)
        ]

pub box_filled : (g : ℕ → ℕ → ℕ → ℕ) (cx cy cz : ℕ) (before after : List ℕ) → length before ≡ cz * cy * cx → FillsPlanes g cx cy cz before after → after ≡ map (λ i. g (i % cx) (i / cx % cy) (i / cx / cy)) (range_with_len 0 (cz * cy * cx))
box_filled g cx cy cz before after size w =
    fill_by_all (λ i. g (i % cx) (i / cx % cy) (i / cx / cy)) after (cz * cy * cx) 0 (w.long ∙ size) (λ i h.
    let o = box_places i cx cy cz h in
    let back : (i / cx / cy * cy + i / cx % cy) * cx + i % cx ≡ i = ap (λ r. r * cx + i % cx) (div-add-mod' (i / cx) cy) ∙ div-add-mod' i cx in
    ap (slice_index after) (sym back) ∙ w.cells (i % cx) (i / cx % cy) (i / cx / cy) o.0 o.1 o.2)
