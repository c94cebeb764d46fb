-- Where the rows of a block and its shell lie in its lists.
use Rattle.std.proofs.Common.{◌≡◌, ℕ, zero, suc, ◌+◌, ◌-◌, ◌*◌, ◌/◌, ◌%◌, ◌<◌, ◌≤◌, true, false, nat_lt, refl, sym, ap, ◌∙◌, subst, arith, List, length, get_or, ℤ, pos}
use Rattle.std.proofs.Math.Nat.{mul_comm}
use Rattle.std.proofs.lemmas.Nat.{mul-add-lt, mul-le}
use Rattle.std.proofs.lemmas.Bool.{cond-true, cond-false}
use Rattle.std.proofs.lemmas.Bool.Decides.{nat_tests}
use Rattle.block_fields.specs.Blocks.{BlockState, seen_at}
use Rattle.block_fields.specs.Shells.{IsAround, direction_of, number_around, position_of, side_length, side_of}
use Rattle.block_fields.proofs.GhostWrites.{position-below, side-below}
use Rattle.block_fields.proofs.ShellSizes.{length-most}
use Rattle.criteria.specs.Samples.{before}
use Rattle.criteria.specs.Lemmas.Rows.{HoldsCells, box_size, cells_toward, row_number, row_side}

-- a coordinate next to the block lies around it
pub beside-around : (n g u : ℕ) → 1 ≤ g → u < n + 2 → IsAround n g (before u)
beside-around n g zero hg h = omega arith
beside-around n g (suc u) hg h = omega arith

module _ (n g y z : ℕ) (hg : 1 ≤ g) (hy : y < n + 2) (hz : z < n + 2) where
  pub row_side-few : row_side n y z < 9
  row_side-few = omega (arith, side-below n (before y), side-below n (before z))

  pub row_number-below : row_number n g y z < side_length n g (side_of n (before z)) * side_length n g (side_of n (before y))
  row_number-below =
      subst (λ k. row_number n g y z < k) (mul_comm (side_length n g (side_of n (before y))) (side_length n g (side_of n (before z))))
      (mul-add-lt (position_of n g (before z)) (side_length n g (side_of n (before y))) (position_of n g (before y)) (side_length n g (side_of n (before z)))
      (position-below n g (before z) (beside-around n g z hg hz)) (position-below n g (before y) (beside-around n g y hg hy)))

  pub row_number-few : n ≤ 16 → g ≤ 2 → row_number n g y z < 256
  row_number-few hn hd =
      let most = mul-le (side_length n g (side_of n (before z))) (side_length n g (side_of n (before y))) 16 16
      (length-most n g (side_of n (before z)) hn hd) (length-most n g (side_of n (before y)) hn hd) in
      omega (arith, row_number-below)

  pub box_size-sides : (x : ℕ) → x < 3 → box_size n g (x + 3 * row_side n y z) ≡ side_length n g x * side_length n g (side_of n (before y)) * side_length n g (side_of n (before z))
  box_size-sides x hx =
      let sy = side-below n (before y) in
      let sz = side-below n (before z) in
      let d = x + 3 * row_side n y z in
      let ex : d % 3 ≡ x = omega (arith, sy, sz) in
      let ey : d / 3 % 3 ≡ side_of n (before y) = omega (arith, sy, sz) in
      let ez : d / 9 ≡ side_of n (before z) = omega (arith, sy, sz) in
      λ i. side_length n g (ex i) * side_length n g (ey i) * side_length n g (ez i)

  pub row-within : (x : ℕ) → x < 3 → (row_number n g y z + 1) * side_length n g x ≤ box_size n g (x + 3 * row_side n y z)
  row-within x hx =
      let a = side_length n g x in
      let b = side_length n g (side_of n (before y)) in
      let c = side_length n g (side_of n (before z)) in
      let below : row_number n g y z + 1 ≤ c * b = omega (arith, row_number-below) in
      let more : (row_number n g y z + 1) * a ≤ c * b * a = mul-le (row_number n g y z + 1) a (c * b) a below (omega arith) in
      let e : c * b * a ≡ a * b * c = omega arith in
      subst (λ k. (row_number n g y z + 1) * a ≤ k) (e ∙ sym (box_size-sides x hx)) more

-- what a block holds in a row, by the side along x and the position there
pub seen-row : (b : BlockState) (f : ℕ) (x : ℤ) (y z s l p : ℕ) → side_of b.edge x ≡ s → side_length b.edge b.depth s ≡ l → position_of b.edge b.depth x ≡ p → seen_at b f x (before y) (before z) ≡ get_or (cells_toward b f (s + 3 * row_side b.edge y z)) (row_number b.edge b.depth y z * l + p) 0
seen-row b f x y z s l p hs hl hp =
    let n = b.edge in
    let g = b.depth in
    let d : direction_of n x (before y) (before z) ≡ s + 3 * row_side n y z = omega (arith, hs) in
    let number : number_around n g x (before y) (before z) ≡ row_number n g y z * l + p =
    (λ i. row_number n g y z * side_length n g (hs i) + hp i) ∙ ap (λ k. row_number n g y z * k + p) hl in
    λ i. get_or (cells_toward b f (d i)) (number i) 0

pub side-own : (n x : ℕ) → x < n → side_of n (pos x) ≡ 1
side-own n x h = cond-true (nat_lt x n) 1 2 (let t : nat_lt x n ≡ true = grind (arith, nat_tests) in t)

pub position-own : (n g x : ℕ) → x < n → position_of n g (pos x) ≡ x
position-own n g x h = cond-true (nat_lt x n) x (x - n) (let t : nat_lt x n ≡ true = grind (arith, nat_tests) in t)

pub side-past : (n : ℕ) → side_of n (pos n) ≡ 2
side-past n = cond-false (nat_lt n n) 1 2 (let t : nat_lt n n ≡ false = grind (arith, nat_tests) in t)

pub position-past : (n g : ℕ) → position_of n g (pos n) ≡ 0
position-past n g = cond-false (nat_lt n n) n (n - n) (let t : nat_lt n n ≡ false = grind (arith, nat_tests) in t) ∙ omega arith

pub seen-middle : (b : BlockState) (f x y z : ℕ) → x < b.edge → seen_at b f (pos x) (before y) (before z) ≡ get_or (cells_toward b f (1 + 3 * row_side b.edge y z)) (row_number b.edge b.depth y z * b.edge + x) 0
seen-middle b f x y z h = seen-row b f (pos x) y z 1 b.edge x (side-own b.edge x h) refl (position-own b.edge b.depth x h)

pub seen-low : (b : BlockState) (f y z : ℕ) → seen_at b f (before 0) (before y) (before z) ≡ get_or (cells_toward b f (3 * row_side b.edge y z)) (row_number b.edge b.depth y z * b.depth + (b.depth - 1)) 0
seen-low b f y z =
    seen-row b f (before 0) y z 0 b.depth (b.depth - 1) refl refl refl
    ∙ ap (λ d. get_or (cells_toward b f d) (row_number b.edge b.depth y z * b.depth + (b.depth - 1)) 0) (let e : 0 + 3 * row_side b.edge y z ≡ 3 * row_side b.edge y z = omega arith in e)

pub seen-high : (b : BlockState) (f y z : ℕ) → seen_at b f (pos b.edge) (before y) (before z) ≡ get_or (cells_toward b f (2 + 3 * row_side b.edge y z)) (row_number b.edge b.depth y z * b.depth) 0
seen-high b f y z =
    seen-row b f (pos b.edge) y z 2 b.depth 0 (side-past b.edge) refl (position-past b.edge b.depth)
    ∙ ap (λ k. get_or (cells_toward b f (2 + 3 * row_side b.edge y z)) k 0) (let e : row_number b.edge b.depth y z * b.depth + 0 ≡ row_number b.edge b.depth y z * b.depth = omega arith in e)

-- a row lies within the list of its side
pub row-fits : (b : BlockState) (f y z number n : ℕ) (cells : List ℕ) → 1 ≤ b.depth → y < b.edge + 2 → z < b.edge + 2 → HoldsCells b f (1 + 3 * row_side b.edge y z) cells → number ≡ row_number b.edge b.depth y z → n ≡ b.edge → number * n + n ≤ length cells
row-fits b f y z number n cells hg hy hz h e en =
    let within : (row_number b.edge b.depth y z + 1) * b.edge ≤ box_size b.edge b.depth (1 + 3 * row_side b.edge y z) = row-within b.edge b.depth y z hg hy hz 1 (omega arith) in
    let long : (number + 1) * n ≤ length cells = subst (λ k. k ≤ length cells) (λ i. (sym e i + 1) * sym en i) (subst (λ k. (row_number b.edge b.depth y z + 1) * b.edge ≤ k) (sym h.size) within) in
    let parts : (number + 1) * n ≡ number * n + n = omega arith in
    subst (λ k. k ≤ length cells) parts long
