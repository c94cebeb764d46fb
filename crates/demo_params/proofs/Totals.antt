-- What the ball of the demonstration can hold in all.
use Rattle.std.proofs.Common.{ℕ, zero, suc, ◌*◌, ◌≤◌, Bool, true, false, cond, ◌&&◌, ◌==◌, [], ◌∷◌, arith}
use Rattle.std.proofs.Math.Nat.{mul-le-mul}
use Rattle.std.proofs.lemmas.List.Sums.{sum_by-cons}
use Rattle.block_index.specs.Places.{Grid}
use Rattle.cello_num.specs.Sums.{sum_below}
use Rattle.params_check.specs.declared.shape.Shape.{Shape}
use Rattle.params_check.specs.Amounts.{holds_cell, root_amount, initial_total}

-- a sum of so many numbers of at most this size
sum_below-most : (f : ℕ → ℕ) (most n : ℕ) → ((k : ℕ) → f k ≤ most) → sum_below n f ≤ n * most
sum_below-most f most zero each = omega arith
sum_below-most f most (suc n) each = omega (arith, sum_below-most f most n each, each n)

amount-most : (b : Bool) (amount : ℕ) → cond b amount 0 ≤ amount
amount-most true amount = omega arith
amount-most false amount = omega arith

-- what one shape puts into a cell
cell-most : (s : Shape) (field x y z : ℕ) → root_amount (s ∷ []) field x y z ≤ s.amount
cell-most s field x y z =
    let f : Shape → ℕ = λ t. cond ((t.field == field) && holds_cell t.form x y z) t.amount 0 in
    omega (arith, sum_by-cons f s [], amount-most ((s.field == field) && holds_cell s.form x y z) s.amount)

-- what one shape puts into all cells
pub total-most : (grid : Grid) (block : ℕ) (s : Shape) (field : ℕ)
    → initial_total grid block (s ∷ []) field
    ≤ grid.trees_z * block * (grid.trees_y * block * (grid.trees_x * block * s.amount))
total-most grid block s field =
    let row : (y z : ℕ) → sum_below (grid.trees_x * block) (λ x. root_amount (s ∷ []) field x y z) ≤ grid.trees_x * block * s.amount =
    λ y z. sum_below-most (λ x. root_amount (s ∷ []) field x y z) s.amount (grid.trees_x * block) (λ x. cell-most s field x y z) in
    let plane : (z : ℕ) → sum_below (grid.trees_y * block) (λ y. sum_below (grid.trees_x * block) (λ x. root_amount (s ∷ []) field x y z))
    ≤ grid.trees_y * block * (grid.trees_x * block * s.amount) =
    λ z. sum_below-most (λ y. sum_below (grid.trees_x * block) (λ x. root_amount (s ∷ []) field x y z)) (grid.trees_x * block * s.amount) (grid.trees_y * block) (λ y. row y z) in
    sum_below-most (λ z. sum_below (grid.trees_y * block) (λ y. sum_below (grid.trees_x * block) (λ x. root_amount (s ∷ []) field x y z)))
    (grid.trees_y * block * (grid.trees_x * block * s.amount)) (grid.trees_z * block) plane

-- a product of three short edges and a small amount
pub product-most : (edge amount : ℕ) → edge ≤ 32 → amount ≤ 999 → edge * (edge * (edge * amount)) ≤ 32 * (32 * (32 * 999))
product-most edge amount short small = mul-le-mul short (mul-le-mul short (mul-le-mul short small))

pub cube-most : (size : ℕ) → size ≤ 4 → size * size * size ≤ 64
cube-most size few = mul-le-mul (mul-le-mul few few) few
