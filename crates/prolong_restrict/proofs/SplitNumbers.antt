-- The numbers of the cells of a child, and of those of its parent.
use Rattle.std.proofs.Common.{◌≡◌, ℕ, zero, suc, ◌+◌, ◌-◌, ◌*◌, ◌/◌, ◌%◌, ◌<◌, ◌≤◌, sym, ap, ◌∙◌, subst, arith, List, slice_index, map}
use Rattle.std.proofs.Math.Nat.{mul_comm}
use Rattle.std.proofs.lemmas.Nat.{div_below, mod_below, mul-add-lt, div-mul-add, mod-mul-add}
use Rattle.std.proofs.lemmas.List.FromFn.{fill_by_all}
use Rattle.std.proofs.lemmas.List.{length-map, get_or-map}
use Rattle.std.proofs.lemmas.Option.{get_or_from_slice_get}
use Rattle.block_index.specs.Places.{Cube, child_of, parent_of, child_number}
use Rattle.cello_num.specs.Parts.{part}
use Rattle.block_fields.specs.Cells.{cell_at, cells_of, cell_number}
use Rattle.block_fields.specs.Divisions.{parts_of}
use Rattle.block_fields.proofs.CellFacts.{cells_of-length, slice_get-cells_of}
use Rattle.prolong_restrict.specs.Lemmas.SplitNumbers.{number_above, part_number, split_part, split_list, row_above, row_part}

half_below : (n b x : ℕ) → b < 2 → x < n → (b * n + x) / 2 < n
half_below n zero x h k = omega arith
half_below n (suc zero) x h k = omega arith
half_below n (suc (suc b)) x h k = absurd (omega arith)

-- half of the coordinate in the child's half
halved : (n b x : ℕ) → n % 2 ≡ 0 → b < 2 → (b * n + x) / 2 ≡ b * (n / 2) + x / 2
halved n zero x e h = omega arith
halved n (suc zero) x e h = omega arith
halved n (suc (suc b)) x e h = absurd (omega arith)

half_room : (n b : ℕ) → n % 2 ≡ 0 → b < 2 → b * (n / 2) + n / 2 ≤ n
half_room n zero e h = omega arith
half_room n (suc zero) e h = omega arith
half_room n (suc (suc b)) e h = absurd (omega arith)

-- a row of the parent, with room for half a row from its beginning or from its middle
pub row_above-within : (n k r : ℕ) → n % 2 ≡ 0 → 4 ≤ n → k < 8 → r < n * n → row_above n k r + n / 2 ≤ n * n * n
row_above-within n k r even least hk hr =
    let some : 0 < n = omega arith in
    let y = (k / 2 % 2 * n + r % n) / 2 in
    let z = (k / 4 * n + r / n) / 2 in
    let hy : y < n = half_below n (k / 2 % 2) (r % n) (omega arith) (mod_below r n some) in
    let hz : z < n = half_below n (k / 4) (r / n) (omega arith) (div_below r n n some hr) in
    let row : z * n + y < n * n = mul-add-lt z n y n hz hy in
    let last : (z * n + y) * n + (n - 1) < n * n * n = row_end (z * n + y) n (n * n) row some in
    let x = half_room n (k % 2) even (omega arith) in
    omega arith
  where
    row_end : (r n m : ℕ) → r < m → 0 < n → r * n + (n - 1) < m * n
    row_end r n m h some = subst (λ t. r * n + (n - 1) < t) (mul_comm n m) (mul-add-lt r n (n - 1) m h (omega arith))

-- the x-th cell of row r
pub row_cell : (n k r x : ℕ) (q : List ℕ) → n % 2 ≡ 0 → 4 ≤ n → x < n → part (slice_index q (row_above n k r + x / 2)) (row_part n r + x % 2) ≡ split_part n k q (r * n + x)
row_cell n k r x q even least hx =
    let d : (r * n + x) / n ≡ r = div-mul-add r n x hx in
    let m : (r * n + x) % n ≡ x = mod-mul-add r n x hx in
    let half = halved n (k % 2) x even (omega arith) in
    let at : row_above n k r + x / 2 ≡ ((k / 4 * n + r / n) / 2 * n + (k / 2 % 2 * n + r % n) / 2) * n + (k % 2 * n + x) / 2 = omega arith in
    let which : row_part n r + x % 2 ≡ x % 2 + 2 * (r % n % 2) + 4 * (r / n % 2) = omega arith in
    let whole : ℕ → ℕ → ℕ = λ row x. part (slice_index q (((k / 4 * n + row / n) / 2 * n + (k / 2 % 2 * n + row % n) / 2) * n + (k % 2 * n + x) / 2)) (x % 2 + 2 * (row % n % 2) + 4 * (row / n % 2)) in
    ap (λ u. part (slice_index q u) (row_part n r + x % 2)) at
    ∙ ap (part (slice_index q (((k / 4 * n + r / n) / 2 * n + (k / 2 % 2 * n + r % n) / 2) * n + (k % 2 * n + x) / 2))) which
    ∙ ap (λ u. whole u x) (sym d)
    ∙ ap (whole ((r * n + x) / n)) (sym m)

-- ---- the parts of a parent, by number

along_axis : (n p b x : ℕ) → n % 2 ≡ 0 → 0 < n → b < 2 → x < n → (((2 * p + b) * n + x) / 2 % n ≡ (b * n + x) / 2) × (((2 * p + b) * n + x) % 2 ≡ x % 2)
along_axis n p b x even some hb hx =
    let half : (2 * p + b) * n + x ≡ 2 * (p * n) + (b * n + x) = omega arith in
    let e : ((2 * p + b) * n + x) / 2 ≡ p * n + (b * n + x) / 2 = omega arith in
    let low = half_below n b x hb hx in
    (ap (λ u. u % n) e ∙ mod-mul-add p n ((b * n + x) / 2) low, parity (2 * p + b) n x even)
  where
    parity : (m n x : ℕ) → n % 2 ≡ 0 → (m * n + x) % 2 ≡ x % 2
    parity m n x even =
        let f : m * n ≡ 2 * (m * (n / 2)) = doubled m n even in
        omega arith
      where
        doubled : (m n : ℕ) → n % 2 ≡ 0 → m * n ≡ 2 * (m * (n / 2))
        doubled m n even = ap (λ u. m * u) (let e : n ≡ 2 * (n / 2) = omega arith in e) ∙ (let e : m * (2 * (n / 2)) ≡ 2 * (m * (n / 2)) = omega arith in e)

pub parts_of-split_list : (n k : ℕ) (a : Cube) (q : List ℕ) → n % 2 ≡ 0 → 0 < n → k < 8 → parts_of n (child_of a k) q ≡ split_list n k q
parts_of-split_list n k a q even some hk =
    let f : Cube → ℕ = λ c. part (slice_index q (cell_number n (parent_of c))) (child_number c) in
    let xs = cells_of n (child_of a k) in
    let len = cells_of-length n some (child_of a k) in
    fill_by_all (split_part n k q) (map f xs) (n * n * n) 0 (length-map xs f ∙ len) (λ i h.
    let c = cell_at n (child_of a k) i in
    let x = along_axis n a.x (k % 2) (i % n) even some (omega arith) (mod_below i n some) in
    let y = along_axis n a.y (k / 2 % 2) (i / n % n) even some (omega arith) (mod_below (i / n) n some) in
    let z = along_axis n a.z (k / 4) (i / n / n) even some (omega arith) (div_below (i / n) n n some (div_below i n (n * n) some h)) in
    get_or-map f xs i c 0 (omega arith)
    ∙ ap f (get_or_from_slice_get xs i c c (slice_get-cells_of n some (child_of a k) i h))
    ∙ ap (λ u. part (slice_index q ((c.z / 2 % n * n + c.y / 2 % n) * n + u)) (child_number c)) x.0
    ∙ ap (λ u. part (slice_index q ((c.z / 2 % n * n + u) * n + (k % 2 * n + i % n) / 2)) (child_number c)) y.0
    ∙ ap (λ u. part (slice_index q ((u * n + (k / 2 % 2 * n + i / n % n) / 2) * n + (k % 2 * n + i % n) / 2)) (child_number c)) z.0
    ∙ ap (part (slice_index q (number_above n k i))) (let e : child_number c ≡ part_number n i = omega (arith, x.1, y.1, z.1) in e))
