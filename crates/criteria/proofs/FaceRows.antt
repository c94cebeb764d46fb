-- Where the rows of a block's own cells, and the cells at their ends, lie in their lists.
use Rattle.std.proofs.Common.{◌≡◌, ℕ, ◌+◌, ◌-◌, ◌*◌, ◌<◌, ◌≤◌, sym, ap, ◌∙◌, subst, arith, List, get_or, pos}
use Rattle.block_fields.specs.Blocks.{BlockState, seen_at}
use Rattle.block_fields.specs.Shells.{position_of, side_length, side_of}
use Rattle.criteria.specs.Samples.{before}
use Rattle.criteria.specs.Lemmas.Rows.{HoldsCells, box_size, cells_toward, row_number, row_side}
use Rattle.criteria.proofs.CellRows.{before-one}
use Rattle.criteria.proofs.RowNumbers.{position-own, row-within, seen-high, seen-low, side-own}

own_side-of : (n y : ℕ) → y < n → side_of n (before (y + 1)) ≡ 1
own_side-of n y h = ap (side_of n) (before-one y) ∙ side-own n y h

own_position-of : (n g y : ℕ) → y < n → position_of n g (before (y + 1)) ≡ y
own_position-of n g y h = ap (position_of n g) (before-one y) ∙ position-own n g y h

last-below : (r g box : ℕ) → 1 ≤ g → (r + 1) * g ≤ box → r * g + (g - 1) < box
last-below r g box hg h = omega arith

first-below : (r g box : ℕ) → 1 ≤ g → (r + 1) * g ≤ box → r * g < box
first-below r g box hg h = omega arith

module _ (n g y z : ℕ) (hy : y < n) (hz : z < n) where
  pub own-side : row_side n (y + 1) (z + 1) ≡ 4
  own-side =
      let a = own_side-of n y hy in
      let b = own_side-of n z hz in
      λ i. a i + 3 * b i

  pub own-number : row_number n g (y + 1) (z + 1) ≡ z * n + y
  own-number =
      let a = own_side-of n y hy in
      let p = own_position-of n g y hy in
      let q = own_position-of n g z hz in
      λ i. q i * side_length n g (a i) + p i

  pub low_x-within : 1 ≤ g → (z * n + y) * g + (g - 1) < box_size n g 12
  low_x-within hg =
      let within : (row_number n g (y + 1) (z + 1) + 1) * g ≤ box_size n g (0 + 3 * row_side n (y + 1) (z + 1)) = row-within n g (y + 1) (z + 1) hg (omega arith) (omega arith) 0 (omega arith) in
      let w : (z * n + y + 1) * g ≤ box_size n g 12 = subst (λ r. (r + 1) * g ≤ box_size n g 12) own-number (subst (λ s. (row_number n g (y + 1) (z + 1) + 1) * g ≤ box_size n g (0 + 3 * s)) own-side within) in
      last-below (z * n + y) g (box_size n g 12) hg w

  pub high_x-within : 1 ≤ g → (z * n + y) * g < box_size n g 14
  high_x-within hg =
      let within : (row_number n g (y + 1) (z + 1) + 1) * g ≤ box_size n g (2 + 3 * row_side n (y + 1) (z + 1)) = row-within n g (y + 1) (z + 1) hg (omega arith) (omega arith) 2 (omega arith) in
      let w : (z * n + y + 1) * g ≤ box_size n g 14 = subst (λ r. (r + 1) * g ≤ box_size n g 14) own-number (subst (λ s. (row_number n g (y + 1) (z + 1) + 1) * g ≤ box_size n g (2 + 3 * s)) own-side within) in
      first-below (z * n + y) g (box_size n g 14) hg w

-- a list of the direction of a row's side
pub toward-side : (b : BlockState) (f y z s : ℕ) (cells : List ℕ) → row_side b.edge y z ≡ s → HoldsCells b f (1 + 3 * s) cells → HoldsCells b f (1 + 3 * row_side b.edge y z) cells
toward-side b f y z s cells e h = subst (λ k. HoldsCells b f (1 + 3 * k) cells) (sym e) h

-- the cells next to a row of own cells
pub low_end-seen : (b : BlockState) (f y z at : ℕ) (cells : List ℕ) → y < b.edge → z < b.edge → HoldsCells b f 12 cells → at ≡ (z * b.edge + y) * b.depth + (b.depth - 1) → get_or cells at 0 ≡ seen_at b f (before 0) (before (y + 1)) (before (z + 1))
low_end-seen b f y z at cells hy hz h e =
    let side = own-side b.edge b.depth y z hy hz in
    let number = own-number b.edge b.depth y z hy hz in
    (λ i. get_or (h.toward i) (e i) 0)
    ∙ sym (seen-low b f (y + 1) (z + 1) ∙ (λ i. get_or (cells_toward b f (3 * side i)) (number i * b.depth + (b.depth - 1)) 0))

pub high_end-seen : (b : BlockState) (f y z at : ℕ) (cells : List ℕ) → y < b.edge → z < b.edge → HoldsCells b f 14 cells → at ≡ (z * b.edge + y) * b.depth → get_or cells at 0 ≡ seen_at b f (pos b.edge) (before (y + 1)) (before (z + 1))
high_end-seen b f y z at cells hy hz h e =
    let side = own-side b.edge b.depth y z hy hz in
    let number = own-number b.edge b.depth y z hy hz in
    (λ i. get_or (h.toward i) (e i) 0)
    ∙ sym (seen-high b f (y + 1) (z + 1) ∙ (λ i. get_or (cells_toward b f (2 + 3 * side i)) (number i * b.depth) 0))
