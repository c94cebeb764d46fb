-- The numbers of the cells of a parent, and of those of its children.
use Rattle.std.proofs.Common.{◌≡◌, ℕ, ◌+◌, ◌*◌, ◌/◌, ◌%◌, ◌<◌, ◌≤◌, ap, ◌∙◌, arith, List, [], Some, slice_get, slice_index, slice_index_or, length, map, sum, sum_by, mul-le-mul_right, inl, inr}
use Rattle.std.proofs.lemmas.Bool.{cases_lt}
use Rattle.std.proofs.lemmas.Nat.{div_below, mod_below, div-mul-add, mod-mul-add, div-add-mod'}
use Rattle.std.proofs.lemmas.List.FromFn.{fill_by_all}
use Rattle.std.proofs.lemmas.List.{length-map, get_or-map, get_or_past}
use Rattle.std.proofs.lemmas.List.Sums.{get_or-le-sum_by}
use Rattle.std.proofs.lemmas.Option.{get_or_from_slice_get, slice_get_within}
use Rattle.std.proofs.lemmas.Simd.{map-map}
use Rattle.block_index.specs.Places.{Cube, child_of, child_number}
use Rattle.leaf_set.specs.NextMesh.{children_of}
use Rattle.block_fields.specs.Blocks.{BlockState, amounts_of}
use Rattle.block_fields.specs.Cells.{block_of, cell_at, cells_of, cell_number}
use Rattle.block_fields.specs.Divisions.{sums_of}
use Rattle.block_fields.proofs.CellFacts.{cells_of-length, slice_get-cells_of}
use Rattle.prolong_restrict.specs.Lemmas.JoinNumbers.{octant, number_below, octant_of_row, row_below, eight_from, fields_of, joined_sum, join_list}

-- ---- a field of one of the blocks

pub fields_of-at : (f : ℕ) (blocks : List BlockState) (k : ℕ) (b : BlockState) → slice_get blocks k ≡ Some b → slice_index_or (fields_of f blocks) k [] ≡ amounts_of b f
fields_of-at f blocks k b e =
    get_or-map (λ (b : BlockState). amounts_of b f) blocks k b [] (slice_get_within blocks k b e)
    ∙ ap (λ (b : BlockState). amounts_of b f) (get_or_from_slice_get blocks k b b e)

pub element_most : (q : List ℕ) (m i : ℕ) → sum q ≤ m → slice_index q i ≤ m
element_most q m i h =
    elim (cases_lt i (length q)) [
      | inl l ↦ let w : slice_index q i ≤ sum q = get_or-le-sum_by (λ x. x) q i 0 l in omega arith
      | inr g ↦ let e : slice_index q i ≡ 0 = get_or_past q i 0 g in omega arith
    ]

-- ---- rows

pub row_below-within : (n r : ℕ) → n % 2 ≡ 0 → 4 ≤ n → row_below n r + n * n + n + n ≤ n * n * n
row_below-within n r even least =
    let h = n / 2 in
    let z : r / n % h < h = mod_below (r / n) h (omega arith) in
    let y : r % n % h < h = mod_below (r % n) h (omega arith) in
    let a = 2 * (r / n % h) in
    let b = 2 * (r % n % h) in
    let high : (a + 2) * n ≤ n * n = mul-le-mul_right n (let e : a + 2 ≤ n = omega arith in e) in
    let low : b + 2 ≤ n = omega arith in
    let row : a * n + b + n + 2 ≤ n * n = omega arith in
    let all : (a * n + b + n + 2) * n ≤ n * n * n = mul-le-mul_right n row in
    omega arith

-- the x-th cell of row r
pub joined_sum-row : (n f r x : ℕ) (blocks : List BlockState) → x < n → joined_sum n f blocks (r * n + x) ≡ eight_from n (slice_index_or (fields_of f blocks) (octant_of_row n r + x / (n / 2)) []) (row_below n r + 2 * (x % (n / 2)))
joined_sum-row n f r x blocks hx =
    let d : (r * n + x) / n ≡ r = div-mul-add r n x hx in
    let m : (r * n + x) % n ≡ x = mod-mul-add r n x hx in
    let h = n / 2 in
    let whole : ℕ → ℕ → ℕ = λ row x. eight_from n (slice_index_or (fields_of f blocks) (x / h + 2 * (row % n / h) + 4 * (row / n / h)) []) ((2 * (row / n % h) * n + 2 * (row % n % h)) * n + 2 * (x % h)) in
    ap (λ u. whole u ((r * n + x) % n)) d
    ∙ ap (whole r) m
    ∙ ap (λ u. eight_from n (slice_index_or (fields_of f blocks) u []) (row_below n r + 2 * (x % h))) (let e : x / h + 2 * (r % n / h) + 4 * (r / n / h) ≡ octant_of_row n r + x / h = omega arith in e)

pub first_half : (n f r x : ℕ) (blocks : List BlockState) → n % 2 ≡ 0 → x < n / 2 → joined_sum n f blocks (r * n + x) ≡ eight_from n (slice_index_or (fields_of f blocks) (octant_of_row n r) []) (row_below n r + 2 * x)
first_half n f r x blocks even hx =
    let h = n / 2 in
    let none : x ≡ 0 * h + x = omega arith in
    let d : x / h ≡ 0 = ap (λ u. u / h) none ∙ div-mul-add 0 h x hx in
    let m : x % h ≡ x = ap (λ u. u % h) none ∙ mod-mul-add 0 h x hx in
    joined_sum-row n f r x blocks (omega arith)
    ∙ ap (λ u. eight_from n (slice_index_or (fields_of f blocks) u []) (row_below n r + 2 * (x % h))) (let e : octant_of_row n r + x / h ≡ octant_of_row n r = omega arith in e)
    ∙ ap (λ u. eight_from n (slice_index_or (fields_of f blocks) (octant_of_row n r) []) (row_below n r + 2 * u)) m

pub second_half : (n f r x : ℕ) (blocks : List BlockState) → n % 2 ≡ 0 → x < n / 2 → joined_sum n f blocks (r * n + (n / 2 + x)) ≡ eight_from n (slice_index_or (fields_of f blocks) (octant_of_row n r + 1) []) (row_below n r + 2 * x)
second_half n f r x blocks even hx =
    let h = n / 2 in
    let d : (1 * h + x) / h ≡ 1 = div-mul-add 1 h x hx in
    let m : (1 * h + x) % h ≡ x = mod-mul-add 1 h x hx in
    let one : h + x ≡ 1 * h + x = omega arith in
    joined_sum-row n f r (h + x) blocks (omega arith)
    ∙ ap (λ u. eight_from n (slice_index_or (fields_of f blocks) (octant_of_row n r + u) []) (row_below n r + 2 * ((h + x) % h))) (ap (λ u. u / h) one ∙ d)
    ∙ ap (λ u. eight_from n (slice_index_or (fields_of f blocks) (octant_of_row n r + 1) []) (row_below n r + 2 * u)) (ap (λ u. u % h) one ∙ m)

-- ---- the sums of eight children, by number

-- along an axis, the two cells below the cell x of a parent lie in one child, one beside the other
along_axis : (n p x j : ℕ) → n % 2 ≡ 0 → 0 < n → x < n → j < 2 → ((2 * (p * n + x) + j) / n % 2 ≡ x / (n / 2)) × ((2 * (p * n + x) + j) % n ≡ 2 * (x % (n / 2)) + j)
along_axis n p x j even some hx hj =
    let h = n / 2 in
    let twice : n ≡ h + h = omega arith in
    let low : x % h < h = mod_below x h (omega arith) in
    let whole : x / h * h + x % h ≡ x = div-add-mod' x h in
    let few : x / h < 2 = div_below x h 2 (omega arith) (omega arith) in
    let rest : 2 * (x % h) + j < n = omega arith in
    let spread : (2 * p + x / h) * n ≡ 2 * (p * n) + (x / h * h + x / h * h) = scaled p (x / h) n h twice in
    let e : 2 * (p * n + x) + j ≡ (2 * p + x / h) * n + (2 * (x % h) + j) = omega arith in
    let d = div-mul-add (2 * p + x / h) n (2 * (x % h) + j) rest in
    let m = mod-mul-add (2 * p + x / h) n (2 * (x % h) + j) rest in
    (ap (λ u. u / n % 2) e ∙ ap (λ u. u % 2) d ∙ (let o : (2 * p + x / h) % 2 ≡ x / h = omega arith in o), ap (λ u. u % n) e ∙ m)
  where
    scaled : (p a n h : ℕ) → n ≡ h + h → (2 * p + a) * n ≡ 2 * (p * n) + (a * h + a * h)
    scaled p a n h e =
        let t : a * n ≡ a * (h + h) = ap (λ u. a * u) e in
        omega arith

-- one of the eight cells: its amount in the block that holds it
module _ (n f : ℕ) (p : Cube) (i : ℕ) (qs : List (List ℕ)) (even : n % 2 ≡ 0) (some : 0 < n) (hi : i < n * n * n) where
  finer : (k : ℕ) → k < 8 → slice_index (slice_index_or qs (child_number (block_of n (child_of (cell_at n p i) k))) []) (cell_number n (child_of (cell_at n p i) k)) ≡ slice_index (slice_index_or qs (octant n i) []) (number_below n i + (k / 4 * (n * n) + k / 2 % 2 * n + k % 2))
  finer k hk =
      let e = child_of (cell_at n p i) k in
      let h = n / 2 in
      let x = along_axis n p.x (i % n) (k % 2) even some (mod_below i n some) (omega arith) in
      let y = along_axis n p.y (i / n % n) (k / 2 % 2) even some (mod_below (i / n) n some) (omega arith) in
      let z = along_axis n p.z (i / n / n) (k / 4) even some (div_below (i / n) n n some (div_below i n (n * n) some hi)) (omega arith) in
      let block : child_number (block_of n e) ≡ octant n i = omega (arith, x.0, y.0, z.0) in
      let at : cell_number n e ≡ ((2 * (i / n / n % h) + k / 4) * n + (2 * (i / n % n % h) + k / 2 % 2)) * n + (2 * (i % n % h) + k % 2) = ap (λ u. (u * n + e.y % n) * n + e.x % n) z.1 ∙ ap (λ u. ((2 * (i / n / n % h) + k / 4) * n + u) * n + e.x % n) y.1 ∙ ap (λ u. ((2 * (i / n / n % h) + k / 4) * n + (2 * (i / n % n % h) + k / 2 % 2)) * n + u) x.1 in
      let number : cell_number n e ≡ number_below n i + (k / 4 * (n * n) + k / 2 % 2 * n + k % 2) = at ∙ (let o : ((2 * (i / n / n % h) + k / 4) * n + (2 * (i / n % n % h) + k / 2 % 2)) * n + (2 * (i % n % h) + k % 2) ≡ number_below n i + (k / 4 * (n * n) + k / 2 % 2 * n + k % 2) = omega arith in o) in
      ap (λ u. slice_index (slice_index_or qs u []) (cell_number n e)) block
      ∙ ap (slice_index (slice_index_or qs (octant n i) [])) number

  pub sum_of_finer : sum_by (λ e. slice_index (slice_index_or qs (child_number (block_of n e)) []) (cell_number n e)) (children_of (cell_at n p i)) ≡ eight_from n (slice_index_or qs (octant n i) []) (number_below n i)
  sum_of_finer =
      let q = slice_index_or qs (octant n i) [] in
      let b = number_below n i in
      let at : (k u : ℕ) → k < 8 → b + (k / 4 * (n * n) + k / 2 % 2 * n + k % 2) ≡ u → slice_index (slice_index_or qs (child_number (block_of n (child_of (cell_at n p i) k))) []) (cell_number n (child_of (cell_at n p i) k)) ≡ slice_index q u = λ k u l e. finer k l ∙ ap (slice_index q) e in
      omega (arith, at 0 b (omega arith) (omega arith), at 1 (b + 1) (omega arith) (omega arith), at 2 (b + n) (omega arith) (omega arith), at 3 (b + n + 1) (omega arith) (omega arith), at 4 (b + n * n) (omega arith) (omega arith), at 5 (b + n * n + 1) (omega arith) (omega arith), at 6 (b + n * n + n) (omega arith) (omega arith), at 7 (b + n * n + n + 1) (omega arith) (omega arith))

pub sums_of-join_list : (n f : ℕ) (p : Cube) (blocks : List BlockState) → n % 2 ≡ 0 → 0 < n → sums_of n p (map (λ b. slice_index_or b f []) (map (λ b. b.amounts) blocks)) ≡ join_list n f blocks
sums_of-join_list n f p blocks even some =
    let qs = map (λ b. slice_index_or b f []) (map (λ (b : BlockState). b.amounts) blocks) in
    let same : qs ≡ fields_of f blocks = map-map (λ b. slice_index_or b f []) (λ (b : BlockState). b.amounts) blocks in
    let g : Cube → ℕ = λ c. sum_by (λ e. slice_index (slice_index_or qs (child_number (block_of n e)) []) (cell_number n e)) (children_of c) in
    let xs = cells_of n p in
    let len = cells_of-length n some p in
    fill_by_all (joined_sum n f blocks) (map g xs) (n * n * n) 0 (length-map xs g ∙ len) (λ i h.
    let c = cell_at n p i in
    get_or-map g xs i c 0 (omega arith)
    ∙ ap g (get_or_from_slice_get xs i c c (slice_get-cells_of n some p i h))
    ∙ sum_of_finer n f p i qs even some h
    ∙ ap (λ (l : List (List ℕ)). eight_from n (slice_index_or l (octant n i) []) (number_below n i)) same)
