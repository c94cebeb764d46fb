-- Cells beside a block in the half of a place that lies against it, and the one block that holds the eight cells in a
-- cell.
use Rattle.std.proofs.Common.{◌≡◌, ℕ, zero, suc, ◌+◌, ◌-◌, ◌*◌, ◌/◌, ◌%◌, ◌<◌, ◌≤◌, true, refl, sym, ap, ◌∙◌, arith, ℤ, pos, negsuc}
use Rattle.std.proofs.lemmas.Bool.{eq-eqb}
use Rattle.std.proofs.lemmas.Nat.{mod_below, div-mul-add, div-add-mod'}
use Rattle.std.proofs.Math.Nat.{div-div-eq-div-mul}
use Rattle.block_index.specs.Axes.{IsUnitStep}
use Rattle.block_index.specs.Places.{Cube, child_of}
use Rattle.block_index.proofs.Beyond.{at_steps}
use Rattle.leaf_set.proofs.Containment.{same_cube}
use Rattle.cello_neighbours.specs.Covers.{is_near_half}
use Rattle.block_fields.specs.Cells.{block_of}

-- along an axis, for a step of 1 in the lower half of the block, for a step of -1 in the upper half
abbrev pub LiesNearOnAxis : ℕ → ℤ → ℕ → Type 0
LiesNearOnAxis n (pos zero) v = Unit {0}
LiesNearOnAxis n (pos (suc s)) v = 2 * (v % n) < n
LiesNearOnAxis n (negsuc s) v = n ≤ 2 * (v % n)

lower_half : (n v b : ℕ) → n % 2 ≡ 0 → 0 < n → 2 * (v % n) < n → b < 2 → (2 * v + b) / n % 2 ≡ 0
lower_half n v b even some h k =
    let s = div-add-mod' v n in
    let e : 2 * v + b ≡ 2 * (v / n) * n + (2 * (v % n) + b) = omega arith in
    ap (λ u. u / n % 2) e ∙ ap (λ u. u % 2) (div-mul-add (2 * (v / n)) n (2 * (v % n) + b) (omega arith)) ∙ (let f : 2 * (v / n) % 2 ≡ 0 = omega arith in f)

upper_half : (n v b : ℕ) → n % 2 ≡ 0 → 0 < n → n ≤ 2 * (v % n) → b < 2 → (2 * v + b) / n % 2 ≡ 1
upper_half n v b even some h k =
    let s = div-add-mod' v n in
    let r = mod_below v n some in
    let e : 2 * v + b ≡ (2 * (v / n) + 1) * n + (2 * (v % n) - n + b) = omega arith in
    ap (λ u. u / n % 2) e ∙ ap (λ u. u % 2) (div-mul-add (2 * (v / n) + 1) n (2 * (v % n) - n + b) (omega arith)) ∙ (let f : (2 * (v / n) + 1) % 2 ≡ 1 = omega arith in f)

pub near_on_axis : (n v b : ℕ) → n % 2 ≡ 0 → 0 < n → b < 2 → (s : ℤ) → IsUnitStep s → LiesNearOnAxis n s v → is_near_half s ((2 * v + b) / n % 2) ≡ true
near_on_axis n v b even some k s w =
    at_steps (λ s. LiesNearOnAxis n s v → is_near_half s ((2 * v + b) / n % 2) ≡ true) (λ h. eq-eqb ((2 * v + b) / n % 2) 1 (upper_half n v b even some h k)) (λ h. refl) (λ h. eq-eqb ((2 * v + b) / n % 2) 0 (lower_half n v b even some h k)) s w

-- an even n is twice a number, and halves of coordinates have the same quotients
one_half : (n x b : ℕ) → n % 2 ≡ 0 → 0 < n → b < 2 → (2 * x + b) / n ≡ (2 * x + 0) / n
one_half n x b even some h =
    let k = n / 2 in
    let e : n ≡ 2 * k = omega arith in
    halved (2 * x + b) k n e ∙ ap (λ u. u / k) (let f : (2 * x + b) / 2 ≡ (2 * x + 0) / 2 = omega arith in f) ∙ sym (halved (2 * x + 0) k n e)
  where
    halved : (y k n : ℕ) → n ≡ 2 * k → y / n ≡ y / 2 / k
    halved y k n e = ap (λ u. y / u) e ∙ sym (div-div-eq-div-mul y 2 k)

pub children-one_block : (n : ℕ) (c : Cube) (k : ℕ) → n % 2 ≡ 0 → 0 < n → k < 8 → block_of n (child_of c k) ≡ block_of n (child_of c 0)
children-one_block n c k even some h =
    same_cube (block_of n (child_of c k)) (block_of n (child_of c 0)) refl (one_half n c.x (k % 2) even some (omega arith)) (one_half n c.y (k / 2 % 2) even some (omega arith)) (one_half n c.z (k / 4) even some (omega arith))
