-- Offsets within a block, and the numbers of cells there.
use Rattle.std.proofs.Common.{◌≡◌, ℕ, zero, suc, ◌+◌, ◌-◌, ◌*◌, ◌/◌, ◌%◌, ◌^◌, ◌<◌, ◌≤◌, ap, ◌∙◌, subst, arith}
use Rattle.std.proofs.Math.Nat.{mul_comm}
use Rattle.std.proofs.lemmas.Nat.{mul-add-lt, mul-le, div_below, mod_below}
use Rattle.ghost_pieces.specs.Boxes.{span}

pub span-same : (n l m : ℕ) → n % 2 ≡ 0 → l ≡ m → span n l m ≡ n
span-same n l m even e = ap (λ u. n / 2 * 2 ^ u) (let f : l + 1 - m ≡ 1 = omega arith in f) ∙ (let g : n / 2 * 2 ^ 1 ≡ n = omega arith in g)

pub span-coarser : (n l m : ℕ) → n % 2 ≡ 0 → l ≡ m + 1 → span n l m ≡ 2 * n
span-coarser n l m even e = ap (λ u. n / 2 * 2 ^ u) (let f : l + 1 - m ≡ 2 = omega arith in f) ∙ (let g : n / 2 * 2 ^ 2 ≡ 2 * n = omega arith in g)

pub span-finer : (n l m : ℕ) → l < m → span n l m ≡ n / 2
span-finer n l m e = ap (λ u. n / 2 * 2 ^ u) (let f : l + 1 - m ≡ 0 = omega arith in f) ∙ (let g : n / 2 * 2 ^ 0 ≡ n / 2 = omega arith in g)

pub number_within : (n x y z : ℕ) → x < n → y < n → z < n → (z * n + y) * n + x < n * n * n
number_within n x y z a b c =
    let r : z * n + y < n * n = mul-add-lt z n y n c b in
    let w : (z * n + y) * n + x < n * (n * n) = mul-add-lt (z * n + y) n x (n * n) r a in
    subst (λ m. (z * n + y) * n + x < m) (mul_comm n (n * n)) w

pub cube_most : (n : ℕ) → n ≤ 16 → n * n * n ≤ 4096
cube_most n h =
    let a : n * n ≤ 16 * 16 = mul-le n n 16 16 h h in
    mul-le (n * n) n 256 16 a h

factor : (k c i : ℕ) → i < k * c → 0 < c
factor k zero i h = absurd (omega arith)
factor k (suc c) i h = omega arith

pub box_places : (i cx cy cz : ℕ) → i < cz * cy * cx → (i % cx < cx) × (i / cx % cy < cy) × (i / cx / cy < cz)
box_places i cx cy cz h =
    let some_x : 0 < cx = factor (cz * cy) cx i h in
    let below : i / cx < cz * cy = div_below i cx (cz * cy) some_x h in
    let some_y : 0 < cy = factor cz cy (i / cx) below in
    (mod_below i cx some_x, mod_below (i / cx) cy some_y, div_below (i / cx) cy cz some_y below)
