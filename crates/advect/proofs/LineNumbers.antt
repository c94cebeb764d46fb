-- Cells, faces and ghosts along an axis, by their numbers.
use Rattle.std.proofs.Common.{◌≡◌, ℕ, ◌+◌, ◌-◌, ◌*◌, ◌<◌, true, nat_lt, [], ◌∷◌, slice_index, slice_index_or, arith, sym, ◌∙◌, refl, ℤ, pos, negsuc}
use Rattle.std.proofs.lemmas.Bool.{cond-true, cond-false}
use Rattle.std.proofs.lemmas.Bool.Decides.{nat_tests}
use Rattle.std.proofs.lemmas.Nat.{mul-add-lt}
use Rattle.block_fields.specs.Blocks.{BlockState, seen_at}
use Rattle.block_fields.specs.Shells.{direction_of, number_around, position_of, side_length, side_of}
use Rattle.block_fields.proofs.Seen.{seen-around, seen-within}
use Rattle.grid_fluxes.specs.Axes.{Axis, along_x, along_y, along_z}
use Rattle.advect.specs.Coordinates.{face_number, number_along}
use Rattle.advect.specs.Lemmas.Lines.{high_direction, low_direction, position_at, run_at, runs_along, wide_along}
use Rattle.advect.specs.Lemmas.Passes.{cell}
use Rattle.advect.specs.Lemmas.Streams.{Field, seen_along}

pub cell-along : (n : ℕ) (a : Axis) (u i j : ℕ) → cell n (wide_along n a) (run_at n a i j) u (position_at n a i j) ≡ number_along n a u i j
cell-along n along_x u i j = omega arith
cell-along n along_y u i j = refl
cell-along n along_z u i j = omega arith

pub face-along : (n : ℕ) (a : Axis) (i j : ℕ) → run_at n a i j * wide_along n a + position_at n a i j ≡ face_number n i j
face-along n along_x i j = omega arith
face-along n along_y i j = refl
face-along n along_z i j = omega arith

pub run-within : (n : ℕ) (a : Axis) (i j : ℕ) → i < n → j < n → run_at n a i j < runs_along n a
run-within n along_x i j hi hj = mul-add-lt j n i n hj hi
run-within n along_y i j hi hj = hj
run-within n along_z i j hi hj = omega arith

pub position-within : (n : ℕ) (a : Axis) (i j : ℕ) → i < n → j < n → position_at n a i j < wide_along n a
position-within n along_x i j hi hj = omega arith
position-within n along_y i j hi hj = hi
position-within n along_z i j hi hj = mul-add-lt j n i n hj hi

-- ---- what is seen

-- a block of one field
abbrev block_with : Field → BlockState
block_with q = record {
  place = record { level = 0; x = 0; y = 0; z = 0 };
  edge = q.edge;
  depth = q.depth;
  amounts = q.amounts ∷ [];
  before = [];
  ghosts = q.shell ∷ [];
}

module _ (n depth i : ℕ) (h : i < n) where
  inner : nat_lt i n ≡ true
  inner = grind (arith, nat_tests)

  side-inner : side_of n (pos i) ≡ 1
  side-inner = cond-true (nat_lt i n) 1 2 inner

  position-inner : position_of n depth (pos i) ≡ i
  position-inner = cond-true (nat_lt i n) i (i - n) inner

side-past : (n : ℕ) → side_of n (pos n) ≡ 2
side-past n = cond-false (nat_lt n n) 1 2 (grind (arith, nat_tests))

position-past : (n depth : ℕ) → position_of n depth (pos n) ≡ 0
position-past n depth = cond-false (nat_lt n n) n (n - n) (grind (arith, nat_tests)) ∙ (let e : n - n ≡ 0 = omega arith in e)

module _ (q : Field) (a : Axis) (i j : ℕ) (hi : i < q.edge) (hj : j < q.edge) where
  pub seen-own_cell : (u : ℕ) → u < q.edge → seen_along q a (pos u) i j ≡ slice_index q.amounts (number_along q.edge a u i j)
  seen-own_cell u hu = by_axis a
    where
      by_axis : (a : Axis) → seen_along q a (pos u) i j ≡ slice_index q.amounts (number_along q.edge a u i j)
      by_axis along_x = seen-within (block_with q) 0 u i j hu hi hj
      by_axis along_y = seen-within (block_with q) 0 i u j hi hu hj
      by_axis along_z = seen-within (block_with q) 0 i j u hi hj hu

-- a direction that isn't the block itself, by its number
around : (q : Field) (x y z : ℤ) (d k : ℕ) → direction_of q.edge x y z ≡ d → (d ≡ 13 → ⊥) → number_around q.edge q.depth x y z ≡ k →
    seen_at (block_with q) 0 x y z ≡ slice_index (slice_index_or q.shell d []) k
around q x y z d k e other number =
    seen-around (block_with q) 0 x y z (λ t. other (sym e ∙ t))
    ∙ (λ t. slice_index (slice_index_or q.shell (e t) []) (number t))

flat : (g d n i j : ℕ) → (g * n + j) * n + i ≡ (0 * d + g) * (n * n) + (j * n + i)
flat g d n i j = omega arith

module _ (q : Field) (i j : ℕ) (hi : i < q.edge) (hj : j < q.edge) where
  -- before the block
  pub seen-low : (a : Axis) → seen_along q a (negsuc 0) i j
      ≡ slice_index (slice_index_or q.shell (low_direction a) []) ((run_at q.edge a i j * q.depth + (q.depth - 1)) * wide_along q.edge a + position_at q.edge a i j)
  seen-low along_x =
      let si = side-inner q.edge q.depth i hi in let sj = side-inner q.edge q.depth j hj in
      let pi = position-inner q.edge q.depth i hi in let pj = position-inner q.edge q.depth j hj in
      around q (negsuc 0) (pos i) (pos j) 12 ((face_number q.edge i j * q.depth + (q.depth - 1)) * 1 + 0) (λ t. 0 + 3 * si t + 9 * sj t) (λ e. omega (arith, e))
      ((λ t. (pj t * side_length q.edge q.depth (si t) + pi t) * q.depth + (q.depth - 1)) ∙ (let e : (j * q.edge + i) * q.depth + (q.depth - 1) ≡ (face_number q.edge i j * q.depth + (q.depth - 1)) * 1 + 0 = omega arith in e))
  seen-low along_y =
      let si = side-inner q.edge q.depth i hi in let sj = side-inner q.edge q.depth j hj in
      let pi = position-inner q.edge q.depth i hi in let pj = position-inner q.edge q.depth j hj in
      around q (pos i) (negsuc 0) (pos j) 10 ((j * q.depth + (q.depth - 1)) * q.edge + i) (λ t. si t + 3 * 0 + 9 * sj t) (λ e. omega (arith, e))
      (λ t. (pj t * q.depth + (q.depth - 1)) * side_length q.edge q.depth (si t) + pi t)
  seen-low along_z =
      let si = side-inner q.edge q.depth i hi in let sj = side-inner q.edge q.depth j hj in
      let pi = position-inner q.edge q.depth i hi in let pj = position-inner q.edge q.depth j hj in
      around q (pos i) (pos j) (negsuc 0) 4 ((0 * q.depth + (q.depth - 1)) * (q.edge * q.edge) + face_number q.edge i j) (λ t. si t + 3 * sj t + 9 * 0) (λ e. omega (arith, e))
      ((λ t. ((q.depth - 1) * side_length q.edge q.depth (sj t) + pj t) * side_length q.edge q.depth (si t) + pi t) ∙ flat (q.depth - 1) q.depth q.edge i j)

  -- past it
  pub seen-high : (a : Axis) → seen_along q a (pos q.edge) i j
      ≡ slice_index (slice_index_or q.shell (high_direction a) []) ((run_at q.edge a i j * q.depth + 0) * wide_along q.edge a + position_at q.edge a i j)
  seen-high along_x =
      let si = side-inner q.edge q.depth i hi in let sj = side-inner q.edge q.depth j hj in
      let pi = position-inner q.edge q.depth i hi in let pj = position-inner q.edge q.depth j hj in
      let sn = side-past q.edge in let pn = position-past q.edge q.depth in
      around q (pos q.edge) (pos i) (pos j) 14 ((face_number q.edge i j * q.depth + 0) * 1 + 0) (λ t. sn t + 3 * si t + 9 * sj t) (λ e. omega (arith, e))
      ((λ t. (pj t * side_length q.edge q.depth (si t) + pi t) * side_length q.edge q.depth (sn t) + pn t) ∙ (let e : (j * q.edge + i) * q.depth + 0 ≡ (face_number q.edge i j * q.depth + 0) * 1 + 0 = omega arith in e))
  seen-high along_y =
      let si = side-inner q.edge q.depth i hi in let sj = side-inner q.edge q.depth j hj in
      let pi = position-inner q.edge q.depth i hi in let pj = position-inner q.edge q.depth j hj in
      let sn = side-past q.edge in let pn = position-past q.edge q.depth in
      around q (pos i) (pos q.edge) (pos j) 16 ((j * q.depth + 0) * q.edge + i) (λ t. si t + 3 * sn t + 9 * sj t) (λ e. omega (arith, e))
      (λ t. (pj t * side_length q.edge q.depth (sn t) + pn t) * side_length q.edge q.depth (si t) + pi t)
  seen-high along_z =
      let si = side-inner q.edge q.depth i hi in let sj = side-inner q.edge q.depth j hj in
      let pi = position-inner q.edge q.depth i hi in let pj = position-inner q.edge q.depth j hj in
      let sn = side-past q.edge in let pn = position-past q.edge q.depth in
      around q (pos i) (pos j) (pos q.edge) 22 ((0 * q.depth + 0) * (q.edge * q.edge) + face_number q.edge i j) (λ t. si t + 3 * sj t + 9 * sn t) (λ e. omega (arith, e))
      ((λ t. (pn t * side_length q.edge q.depth (sj t) + pj t) * side_length q.edge q.depth (si t) + pi t) ∙ flat 0 q.depth q.edge i j)
