-- The ghosts beside a block along an axis.
use Rattle.std.proofs.Common.{◌≡◌, ℕ, ◌+◌, ◌-◌, ◌*◌, ◌/◌, ◌%◌, ◌^◌, ◌<◌, ◌≤◌, Bool, cond, List, [], length, slice_index, slice_index_or, arith, ap, sym, ◌∙◌, subst, refl, inl, inr, pos, negsuc, le_trans, mod-lt}
use Rattle.std.proofs.lemmas.Bool.{cases_lt}
use Rattle.std.proofs.lemmas.Nat.{div-add-mod', mul-le}
use Rattle.std.proofs.lemmas.List.{get_or_past}
use Rattle.block_fields.specs.Layout.{cut}
use Rattle.block_fields.specs.Shells.{ghost_size, ghost_sizes}
use Rattle.grid_fluxes.specs.Axes.{Axis, along_x, along_y, along_z}
use Rattle.advect.specs.Lemmas.Lines.{high_direction, low_direction, position_at, run_at, runs_along, wide_along}
use Rattle.advect.specs.Lemmas.Streams.{field_of, seen_along}
use Rattle.advect.specs.Lemmas.Shares.{carried}
use Rattle.advect.specs.declared.share.Share.{Share}
use Rattle.advect.proofs.Cells.{unless_le}
use Rattle.advect.proofs.Shares.{carried_le}
use Rattle.advect.proofs.LineNumbers.{seen-high, seen-low}

-- how many there are
pub ghosts-low : (n depth : ℕ) (a : Axis) (d runs wide : ℕ) → d ≡ low_direction a → runs ≡ runs_along n a → wide ≡ wide_along n a → ghost_size n depth d ≡ runs * depth * wide
ghosts-low n depth a d runs wide e k l = ap (ghost_size n depth) e ∙ by_axis a ∙ (λ t. sym k t * depth * sym l t)
  where
    by_axis : (a : Axis) → ghost_size n depth (low_direction a) ≡ runs_along n a * depth * wide_along n a
    by_axis along_x = omega arith
    by_axis along_y = omega arith
    by_axis along_z = omega arith

pub ghosts-high : (n depth : ℕ) (a : Axis) (d runs wide : ℕ) → d ≡ high_direction a → runs ≡ runs_along n a → wide ≡ wide_along n a → ghost_size n depth d ≡ runs * depth * wide
ghosts-high n depth a d runs wide e k l = ap (ghost_size n depth) e ∙ by_axis a ∙ (λ t. sym k t * depth * sym l t)
  where
    by_axis : (a : Axis) → ghost_size n depth (high_direction a) ≡ runs_along n a * depth * wide_along n a
    by_axis along_x = omega arith
    by_axis along_y = omega arith
    by_axis along_z = omega arith

-- and how many faces
pub faces-count : (n : ℕ) (a : Axis) (runs wide : ℕ) → runs ≡ runs_along n a → wide ≡ wide_along n a → n * n ≡ runs * wide
faces-count n a runs wide e k = by_axis a ∙ (λ t. sym e t * sym k t)
  where
    by_axis : (a : Axis) → n * n ≡ runs_along n a * wide_along n a
    by_axis along_x = omega arith
    by_axis along_y = refl
    by_axis along_z = omega arith

pub quotient-below : (k n m : ℕ) → 0 < n → k < m * n → k / n < m
quotient-below k n m some h =
    elim (cases_lt (k / n) m) [
      | inl fine ↦ fine
      | inr more ↦
          let a : m * n ≤ k / n * n = mul-le m n (k / n) n more (omega arith) in
          let d : k / n * n + k % n ≡ k = div-add-mod' k n in
          absurd (omega (arith, a, d, h))
    ]

-- each run and position is one of two coordinates across
pub across : (n : ℕ) (a : Axis) (P : ℕ → ℕ → Type 0) → ((i j : ℕ) → i < n → j < n → P (run_at n a i j) (position_at n a i j)) →
    (r p : ℕ) → 0 < n → r < runs_along n a → p < wide_along n a → P r p
across n along_x P h r p some hr hp =
    let d : r / n * n + r % n ≡ r = div-add-mod' r n in
    let m : r % n < n = mod-lt r some in
    let q : r / n < n = quotient-below r n n some hr in
    subst (λ t. P r t) (let e : 0 ≡ p = omega arith in e) (subst (λ t. P t 0) d (h (r % n) (r / n) m q))
across n along_y P h r p some hr hp = h p r hp hr
across n along_z P h r p some hr hp =
    let d : p / n * n + p % n ≡ p = div-add-mod' p n in
    let m : p % n < n = mod-lt p some in
    let q : p / n < n = quotient-below p n n some hp in
    subst (λ t. P t p) (let e : 0 ≡ r = omega arith in e) (subst (λ t. P 0 t) d (h (p % n) (p / n) m q))

-- what is read of them is what is seen beside the block
module _ (n depth : ℕ) (amounts ghosts : List ℕ) (a : Axis) (d : ℕ) (beside : List ℕ) (runs wide : ℕ) (some : 0 < n)
    (is : beside ≡ slice_index_or (cut (ghost_sizes n depth) ghosts) d []) (run : runs ≡ runs_along n a) (width : wide ≡ wide_along n a) where
  pub low-small : d ≡ low_direction a → ((i j : ℕ) → i < n → j < n → seen_along (field_of n depth amounts ghosts) a (negsuc 0) i j ≤ 2 ^ 42) →
      (r p : ℕ) → r < runs → p < wide → slice_index beside ((r * depth + (depth - 1)) * wide + p) ≤ 2 ^ 42
  low-small e small r p hr hp =
      let b : beside ≡ slice_index_or (cut (ghost_sizes n depth) ghosts) (low_direction a) [] = is ∙ ap (λ d. slice_index_or (cut (ghost_sizes n depth) ghosts) d []) e in
      subst (λ m. slice_index beside ((r * depth + (depth - 1)) * m + p) ≤ 2 ^ 42) (sym width)
      (subst (λ (l : List ℕ). slice_index l ((r * depth + (depth - 1)) * wide_along n a + p) ≤ 2 ^ 42) (sym b)
      (across n a (λ r p. slice_index (slice_index_or (cut (ghost_sizes n depth) ghosts) (low_direction a) []) ((r * depth + (depth - 1)) * wide_along n a + p) ≤ 2 ^ 42)
      (λ i j hi hj. subst (λ t. t ≤ 2 ^ 42) (seen-low (field_of n depth amounts ghosts) i j hi hj a) (small i j hi hj))
      r p some (subst (λ t. r < t) run hr) (subst (λ t. p < t) width hp)))

  pub high-small : d ≡ high_direction a → ((i j : ℕ) → i < n → j < n → seen_along (field_of n depth amounts ghosts) a (pos n) i j ≤ 2 ^ 42) →
      (r p : ℕ) → r < runs → p < wide → slice_index beside ((r * depth + 0) * wide + p) ≤ 2 ^ 42
  high-small e small r p hr hp =
      let b : beside ≡ slice_index_or (cut (ghost_sizes n depth) ghosts) (high_direction a) [] = is ∙ ap (λ d. slice_index_or (cut (ghost_sizes n depth) ghosts) d []) e in
      subst (λ m. slice_index beside ((r * depth + 0) * m + p) ≤ 2 ^ 42) (sym width)
      (subst (λ (l : List ℕ). slice_index l ((r * depth + 0) * wide_along n a + p) ≤ 2 ^ 42) (sym b)
      (across n a (λ r p. slice_index (slice_index_or (cut (ghost_sizes n depth) ghosts) (high_direction a) []) ((r * depth + 0) * wide_along n a + p) ≤ 2 ^ 42)
      (λ i j hi hj. subst (λ t. t ≤ 2 ^ 42) (seen-high (field_of n depth amounts ghosts) i j hi hj a) (small i j hi hj))
      r p some (subst (λ t. r < t) run hr) (subst (λ t. p < t) width hp)))

-- what comes in is small
pub entry-small : (share : Share) (barred : Bool) (beside faces : List ℕ) (runs depth position wide : ℕ) → 0 < wide → length faces ≡ runs * wide →
    ((r i : ℕ) → r < runs → i < wide → slice_index faces (r * wide + i) ≡ cond barred 0 (carried share (slice_index beside ((r * depth + position) * wide + i)))) →
    ((r i : ℕ) → r < runs → i < wide → slice_index beside ((r * depth + position) * wide + i) ≤ 2 ^ 42) → (k : ℕ) → slice_index faces k ≤ 2 ^ 42
entry-small share barred beside faces runs depth position wide some long entry small k =
    elim (cases_lt k (runs * wide)) [
      | inl less ↦
          let r = k / wide in
          let i = k % wide in
          let hr : r < runs = quotient-below k wide runs some less in
          let hi : i < wide = mod-lt k some in
          let e : r * wide + i ≡ k = div-add-mod' k wide in
          let q = slice_index beside ((r * depth + position) * wide + i) in
          subst (λ t. slice_index faces t ≤ 2 ^ 42) e (subst (λ t. t ≤ 2 ^ 42) (sym (entry r i hr hi)) (unless_le barred (carried share q) (2 ^ 42) (le_trans (carried_le share q) (small r i hr hi))))
      | inr past ↦ let e : slice_index faces k ≡ 0 = get_or_past faces k 0 (omega (arith, long, past)) in omega (arith, e)
    ]
