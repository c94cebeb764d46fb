-- The sum over the cells of the roots as a sum over coordinates.
use Rattle.std.proofs.Common.{◌≡◌, ℕ, ◌+◌, ◌*◌, ◌/◌, ◌%◌, ◌<◌, refl, sym, ap, ◌∙◌, arith, sum_by}
use Rattle.std.proofs.lemmas.Nat.{div-mul-add, mod-mul-add}
use Rattle.cello_num.specs.Sums.{sum_below}
use Rattle.block_index.specs.Places.{Cube, Grid}
use Rattle.leaf_set.specs.RootMesh.{root_at, root_mesh, tree_count}
use Rattle.leaf_set.proofs.Containment.{same_cube}
use Rattle.block_fields.specs.Cells.{cell_at, cells_of, cells}
use Rattle.block_fields.specs.InitialStates.{sum_over_roots}
use Rattle.block_fields.proofs.Sums.{sum-flat_map}
use Rattle.cello_num.proofs.Sums.{sum_below-same, sum_below-exchange, sum_below-rows, sum_by-numbers}

-- three digits of a number
module _ (a b : ℕ) (x y z : ℕ) (hx : x < a) (hy : y < b) where
  digit_x : ((z * b + y) * a + x) % a ≡ x
  digit_x = mod-mul-add (z * b + y) a x hx

  row : ((z * b + y) * a + x) / a ≡ z * b + y
  row = div-mul-add (z * b + y) a x hx

  digit_y : ((z * b + y) * a + x) / a % b ≡ y
  digit_y = ap (λ k. k % b) row ∙ mod-mul-add z b y hy

  digit_z : ((z * b + y) * a + x) / a / b ≡ z
  digit_z = ap (λ k. k / b) row ∙ div-mul-add z b y hy

-- a sum over c * b * a numbers by their three digits
by_digits : (f : ℕ → ℕ) (a b c : ℕ) → sum_below (c * b * a) f ≡ sum_below c (λ z. sum_below b (λ y. sum_below a (λ x. f ((z * b + y) * a + x))))
by_digits f a b c = sum_below-rows f (c * b) a ∙ sum_below-rows (λ r. sum_below a (λ x. f (r * a + x))) c b

at_coordinates : (n : ℕ) (b : Cube) (x y z : ℕ) → Cube
at_coordinates n b x y z = record { level = b.level; x = b.x * n + x; y = b.y * n + y; z = b.z * n + z }

block_by_coordinates : (g : Cube → ℕ) (n : ℕ) (b : Cube) → sum_by g (cells_of n b) ≡ sum_below n (λ z. sum_below n (λ y. sum_below n (λ x. g (record { level = b.level; x = b.x * n + x; y = b.y * n + y; z = b.z * n + z }))))
block_by_coordinates g n b =
    sum_by-numbers g (cell_at n b) (n * n * n)
    ∙ by_digits (λ i. g (cell_at n b i)) n n n
    ∙ sum_below-same (λ z. sum_below n (λ y. sum_below n (λ x. g (cell_at n b ((z * n + y) * n + x))))) (λ z. sum_below n (λ y. sum_below n (λ x. g (record { level = b.level; x = b.x * n + x; y = b.y * n + y; z = b.z * n + z })))) n (λ z hz.
    sum_below-same (λ y. sum_below n (λ x. g (cell_at n b ((z * n + y) * n + x)))) (λ y. sum_below n (λ x. g (record { level = b.level; x = b.x * n + x; y = b.y * n + y; z = b.z * n + z }))) n (λ y hy.
    sum_below-same (λ x. g (cell_at n b ((z * n + y) * n + x))) (λ x. g (record { level = b.level; x = b.x * n + x; y = b.y * n + y; z = b.z * n + z })) n (λ x hx.
    ap g (same_cube (cell_at n b ((z * n + y) * n + x)) (record { level = b.level; x = b.x * n + x; y = b.y * n + y; z = b.z * n + z }) refl (ap (λ k. b.x * n + k) (digit_x n n x y z hx hy)) (ap (λ k. b.y * n + k) (digit_y n n x y z hx hy)) (ap (λ k. b.z * n + k) (digit_z n n x y z hx hy))))))

roots_by_coordinates : (h : Cube → ℕ) (grid : Grid) → sum_by h (root_mesh grid) ≡ sum_below grid.trees_z (λ z. sum_below grid.trees_y (λ y. sum_below grid.trees_x (λ x. h (record { level = 0; x = x; y = y; z = z }))))
roots_by_coordinates h grid =
    let a = grid.trees_x in
    let b = grid.trees_y in
    let c = grid.trees_z in
    sum_by-numbers h (root_at grid) (tree_count grid)
    ∙ ap (λ k. sum_below k (λ i. h (root_at grid i))) (let e : a * b * c ≡ c * b * a = omega arith in e)
    ∙ by_digits (λ i. h (root_at grid i)) a b c
    ∙ sum_below-same (λ z. sum_below b (λ y. sum_below a (λ x. h (root_at grid ((z * b + y) * a + x))))) (λ z. sum_below b (λ y. sum_below a (λ x. h (record { level = 0; x = x; y = y; z = z })))) c (λ z hz.
    sum_below-same (λ y. sum_below a (λ x. h (root_at grid ((z * b + y) * a + x)))) (λ y. sum_below a (λ x. h (record { level = 0; x = x; y = y; z = z }))) b (λ y hy.
    sum_below-same (λ x. h (root_at grid ((z * b + y) * a + x))) (λ x. h (record { level = 0; x = x; y = y; z = z })) a (λ x hx.
    ap h (same_cube (root_at grid ((z * b + y) * a + x)) (record { level = 0; x = x; y = y; z = z }) refl (digit_x a b x y z hx hy) (digit_y a b x y z hx hy) (digit_z a b x y z hx hy)))))

-- the sums over trees and over cells in them, axis by axis
by_axes : (w : ℕ → ℕ → ℕ → ℕ) (a b c n : ℕ) → sum_below c (λ p. sum_below b (λ q. sum_below a (λ r. sum_below n (λ z. sum_below n (λ y. sum_below n (λ x. w (r * n + x) (q * n + y) (p * n + z))))))) ≡ sum_below (c * n) (λ z. sum_below (b * n) (λ y. sum_below (a * n) (λ x. w x y z)))
by_axes w a b c n =
    sum_below-same (λ p. sum_below b (λ q. sum_below a (λ r. sum_below n (λ z. sum_below n (λ y. sum_below n (λ x. w (r * n + x) (q * n + y) (p * n + z))))))) (λ p. sum_below n (λ z. sum_below (b * n) (λ y. sum_below (a * n) (λ x. w x y (p * n + z))))) c (λ p hp. plane p)
    ∙ sym (sum_below-rows (λ z. sum_below (b * n) (λ y. sum_below (a * n) (λ x. w x y z))) c n)
  where
    line : (y z : ℕ) → sum_below a (λ r. sum_below n (λ x. w (r * n + x) y z)) ≡ sum_below (a * n) (λ x. w x y z)
    line y z = sym (sum_below-rows (λ x. w x y z) a n)

    rows : (q z : ℕ) → sum_below a (λ r. sum_below n (λ y. sum_below n (λ x. w (r * n + x) (q * n + y) z))) ≡ sum_below n (λ y. sum_below (a * n) (λ x. w x (q * n + y) z))
    rows q z =
        sum_below-exchange (λ r y. sum_below n (λ x. w (r * n + x) (q * n + y) z)) a n
        ∙ sum_below-same (λ y. sum_below a (λ r. sum_below n (λ x. w (r * n + x) (q * n + y) z))) (λ y. sum_below (a * n) (λ x. w x (q * n + y) z)) n (λ y hy. line (q * n + y) z)

    plane : (p : ℕ) → sum_below b (λ q. sum_below a (λ r. sum_below n (λ z. sum_below n (λ y. sum_below n (λ x. w (r * n + x) (q * n + y) (p * n + z)))))) ≡ sum_below n (λ z. sum_below (b * n) (λ y. sum_below (a * n) (λ x. w x y (p * n + z))))
    plane p =
        sum_below-same (λ q. sum_below a (λ r. sum_below n (λ z. sum_below n (λ y. sum_below n (λ x. w (r * n + x) (q * n + y) (p * n + z)))))) (λ q. sum_below n (λ z. sum_below n (λ y. sum_below (a * n) (λ x. w x (q * n + y) (p * n + z))))) b (λ q hq.
        sum_below-exchange (λ r z. sum_below n (λ y. sum_below n (λ x. w (r * n + x) (q * n + y) (p * n + z)))) a n
        ∙ sum_below-same (λ z. sum_below a (λ r. sum_below n (λ y. sum_below n (λ x. w (r * n + x) (q * n + y) (p * n + z))))) (λ z. sum_below n (λ y. sum_below (a * n) (λ x. w x (q * n + y) (p * n + z)))) n (λ z hz. rows q (p * n + z)))
        ∙ sum_below-exchange (λ q z. sum_below n (λ y. sum_below (a * n) (λ x. w x (q * n + y) (p * n + z)))) b n
        ∙ sum_below-same (λ z. sum_below b (λ q. sum_below n (λ y. sum_below (a * n) (λ x. w x (q * n + y) (p * n + z))))) (λ z. sum_below (b * n) (λ y. sum_below (a * n) (λ x. w x y (p * n + z)))) n (λ z hz. sym (sum_below-rows (λ y. sum_below (a * n) (λ x. w x y (p * n + z))) b n))

pub root_cells-sum : (g : Cube → ℕ) (grid : Grid) (n : ℕ) → sum_by g (cells n (root_mesh grid)) ≡ sum_over_roots grid n (λ x y z. g (record { level = 0; x = x; y = y; z = z }))
root_cells-sum g grid n =
    let w : ℕ → ℕ → ℕ → ℕ = λ x y z. g (record { level = 0; x = x; y = y; z = z }) in
    let a = grid.trees_x in
    let b = grid.trees_y in
    let c = grid.trees_z in
    sum-flat_map g (cells_of n) (root_mesh grid)
    ∙ roots_by_coordinates (λ p. sum_by g (cells_of n p)) grid
    ∙ sum_below-same (λ p. sum_below b (λ q. sum_below a (λ r. sum_by g (cells_of n (record { level = 0; x = r; y = q; z = p }))))) (λ p. sum_below b (λ q. sum_below a (λ r. sum_below n (λ z. sum_below n (λ y. sum_below n (λ x. w (r * n + x) (q * n + y) (p * n + z))))))) c (λ p hp.
    sum_below-same (λ q. sum_below a (λ r. sum_by g (cells_of n (record { level = 0; x = r; y = q; z = p })))) (λ q. sum_below a (λ r. sum_below n (λ z. sum_below n (λ y. sum_below n (λ x. w (r * n + x) (q * n + y) (p * n + z)))))) b (λ q hq.
    sum_below-same (λ r. sum_by g (cells_of n (record { level = 0; x = r; y = q; z = p }))) (λ r. sum_below n (λ z. sum_below n (λ y. sum_below n (λ x. w (r * n + x) (q * n + y) (p * n + z))))) a (λ r hr. block_by_coordinates g n (record { level = 0; x = r; y = q; z = p }))))
    ∙ by_axes w a b c n
