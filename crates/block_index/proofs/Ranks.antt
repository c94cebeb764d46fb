-- The order of places by their ranks: step by step, one place for one rank, an ancestor before its descendants.
use Rattle.std.proofs.Common.{◌≡◌, ℕ, ◌+◌, ◌-◌, ◌*◌, ◌/◌, ◌^◌, ◌<◌, ◌≤◌, arith, sym, ap, subst, ◌∙◌, lit≤, inl, inr}
use Rattle.std.proofs.lemmas.Bool.{cases_lt}
use Rattle.std.proofs.lemmas.Nat.{div_below, pow_pos, pow-add, shr-shr, same_from_place}
use Rattle.std.proofs.Math.Nat.{eq_of_mul-eq-mul_right, one-le-pow, mul_assoc, mul-le-mul_right, div-mul-le_self, div-one}
use Rattle.std.specs.Ordering.{nat_cmp, ordering_then}
use Rattle.block_index.specs.Places.{Cube, IsPlace}
use Rattle.block_index.specs.Order.{path_of, path_digits, tree_of, tree_number, filled_path, rank, IsBefore, compared_in_steps}
use Rattle.block_index.proofs.Comparing.{nat_cmp-digit, ordering_then_five}
use Rattle.block_index.proofs.Paths.{SameCoordinates, same_from_path, path_digits-div}
use Rattle.block_index.proofs.Covering.{Covers}
use Rattle.block_index.proofs.Widths.{filled_path_below}

-- a tree of a place is one of 16 along an axis
pub tree_below : (l x : ℕ) → x < 16 * 2 ^ l → tree_of l x < 16
tree_below l x inside = div_below x (2 ^ l) 16 (pow_pos l) inside

-- trees compared by z, then y, then x
nat_cmp-tree_number : (a c : Cube) → IsPlace a → IsPlace c
    → nat_cmp (tree_number a) (tree_number c)
    ≡ ordering_then (ordering_then (nat_cmp (tree_of a.level a.z) (tree_of c.level c.z)) (nat_cmp (tree_of a.level a.y) (tree_of c.level c.y)))
    (nat_cmp (tree_of a.level a.x) (tree_of c.level c.x))
nat_cmp-tree_number a c a_limits c_limits =
    nat_cmp-digit 16 (tree_of a.level a.z * 16 + tree_of a.level a.y) (tree_of a.level a.x)
    (tree_of c.level c.z * 16 + tree_of c.level c.y) (tree_of c.level c.x)
    (tree_below a.level a.x a_limits.x) (tree_below c.level c.x c_limits.x)
    ∙ ap (λ o. ordering_then o (nat_cmp (tree_of a.level a.x) (tree_of c.level c.x)))
    (nat_cmp-digit 16 (tree_of a.level a.z) (tree_of a.level a.y) (tree_of c.level c.z) (tree_of c.level c.y)
    (tree_below a.level a.y a_limits.y) (tree_below c.level c.y c_limits.y))

-- ranks compare as places do, step by step
pub nat_cmp-rank : (a c : Cube) → IsPlace a → IsPlace c → nat_cmp (rank a) (rank c) ≡ compared_in_steps a c
unfolding rank
nat_cmp-rank a c a_limits c_limits =
    let tree_z = nat_cmp (tree_of a.level a.z) (tree_of c.level c.z) in
    let tree_y = nat_cmp (tree_of a.level a.y) (tree_of c.level c.y) in
    let tree_x = nat_cmp (tree_of a.level a.x) (tree_of c.level c.x) in
    let path = nat_cmp (filled_path a) (filled_path c) in
    let level = nat_cmp a.level c.level in
    nat_cmp-digit 7 (tree_number a * 8 ^ 6 + filled_path a) a.level (tree_number c * 8 ^ 6 + filled_path c) c.level
    (omega (arith, a_limits.level)) (omega (arith, c_limits.level))
    ∙ ap (λ o. ordering_then o level)
    (nat_cmp-digit (8 ^ 6) (tree_number a) (filled_path a) (tree_number c) (filled_path c)
    (filled_path_below a a_limits.level) (filled_path_below c c_limits.level))
    ∙ ap (λ o. ordering_then (ordering_then o path) level) (nat_cmp-tree_number a c a_limits c_limits)
    ∙ ordering_then_five tree_z tree_y tree_x path level

-- one tree number is one tree along each axis
pub trees_from_number : (a c : Cube) → IsPlace a → IsPlace c → tree_number a ≡ tree_number c
    → SameCoordinates (tree_of a.level a.x) (tree_of a.level a.y) (tree_of a.level a.z)
    (tree_of c.level c.x) (tree_of c.level c.y) (tree_of c.level c.z)
trees_from_number a c a_limits c_limits same =
    let by_x = same_from_place (tree_of a.level a.z * 16 + tree_of a.level a.y) (tree_of a.level a.x)
    (tree_of c.level c.z * 16 + tree_of c.level c.y) (tree_of c.level c.x) 16
    (tree_below a.level a.x a_limits.x) (tree_below c.level c.x c_limits.x) same in
    let by_y = same_from_place (tree_of a.level a.z) (tree_of a.level a.y) (tree_of c.level c.z) (tree_of c.level c.y) 16
    (tree_below a.level a.y a_limits.y) (tree_below c.level c.y c_limits.y) by_x.0 in
    record { x = by_x.1; y = by_y.1; z = by_y.0 }

-- places of one level, one tree and one filled-up path have the same coordinates
same_from_filled : (l l' x y z x' y' z' : ℕ) → l ≡ l'
    → SameCoordinates (tree_of l x) (tree_of l y) (tree_of l z) (tree_of l' x') (tree_of l' y') (tree_of l' z')
    → path_digits l x y z * 8 ^ (6 - l) ≡ path_digits l' x' y' z' * 8 ^ (6 - l')
    → SameCoordinates x y z x' y' z'
same_from_filled l l' x y z x' y' z' levels =
    let P : ℕ → Type 0 = λ n.
    SameCoordinates (tree_of l x) (tree_of l y) (tree_of l z) (tree_of n x') (tree_of n y') (tree_of n z')
    → path_digits l x y z * 8 ^ (6 - l) ≡ path_digits n x' y' z' * 8 ^ (6 - n)
    → SameCoordinates x y z x' y' z' in
    subst P levels (λ trees filled. same_from_path l x y z x' y' z' trees
    (eq_of_mul-eq-mul_right (8 ^ (6 - l)) (one-le-pow (6 - l) 8 (lit≤ tt)) (path_digits l x y z) (path_digits l x' y' z') filled))

-- places of one rank are one place
pub same_from_rank : (a c : Cube) → IsPlace a → IsPlace c → rank a ≡ rank c → a ≡ c
unfolding rank path_of
same_from_rank a c a_limits c_limits ranks =
    let by_level : (tree_number a * 8 ^ 6 + filled_path a ≡ tree_number c * 8 ^ 6 + filled_path c) × (a.level ≡ c.level) =
    same_from_place (tree_number a * 8 ^ 6 + filled_path a) a.level (tree_number c * 8 ^ 6 + filled_path c) c.level 7
    (omega (arith, a_limits.level)) (omega (arith, c_limits.level)) ranks in
    let by_path = same_from_place (tree_number a) (filled_path a) (tree_number c) (filled_path c) (8 ^ 6)
    (filled_path_below a a_limits.level) (filled_path_below c c_limits.level) by_level.0 in
    let same = same_from_filled a.level c.level a.x a.y a.z c.x c.y c.z by_level.1
    (trees_from_number a c a_limits c_limits by_path.0) by_path.1 in
    λ i. record { level = by_level.1 i; x = same.x i; y = same.y i; z = same.z i }

-- a tree of a place is that of the place that covers it
pub tree_of-covers : (l m x v : ℕ) → l ≤ m → x / 2 ^ (m - l) ≡ v → tree_of l v ≡ tree_of m x
tree_of-covers l m x v above covers_it =
    let full : m - l + l ≡ m = omega arith in
    ap (λ n. n / 2 ^ l) (sym covers_it) ∙ shr-shr x (m - l) l ∙ ap (λ n. x / 2 ^ n) full

-- the first digits of a path are those of the place that many levels down from the root
pub path_of-div : (l : ℕ) (c : Cube) → l ≤ c.level
    → path_of c / 8 ^ (c.level - l)
    ≡ path_digits l (c.x / 2 ^ (c.level - l)) (c.y / 2 ^ (c.level - l)) (c.z / 2 ^ (c.level - l))
unfolding path_of
path_of-div l c above =
    let full : l + (c.level - l) ≡ c.level = omega arith in
    let digits = path_digits-div (c.level - l) l c.x c.y c.z in
    cc

-- the path of a place begins as the path of a place that covers it
pub path_of-covers : (a c : Cube) → Covers a c → path_of a ≡ path_of c / 8 ^ (c.level - a.level)
unfolding path_of
path_of-covers a c h =
    let digits = path_of-div a.level c h.level in
    cc (h.x, h.y, h.z)

-- so its filled-up path is no greater
filled_path-covers : (a c : Cube) → c.level ≤ 6 → Covers a c → filled_path a ≤ filled_path c
filled_path-covers a c deep h =
    let d = c.level - a.level in
    let rest : d + (6 - c.level) ≡ 6 - a.level = omega (arith, h.level) in
    let power : 8 ^ (6 - a.level) ≡ 8 ^ d * 8 ^ (6 - c.level) = ap (λ n. 8 ^ n) (sym rest) ∙ pow-add 8 d (6 - c.level) in
    let left : filled_path a ≡ path_of c / 8 ^ d * 8 ^ d * 8 ^ (6 - c.level) =
    ap (λ p. path_of a * p) power ∙ sym (mul_assoc (path_of a) (8 ^ d) (8 ^ (6 - c.level)))
    ∙ ap (λ p. p * 8 ^ d * 8 ^ (6 - c.level)) (path_of-covers a c h) in
    omega (arith, mul-le-mul_right (8 ^ (6 - c.level)) (div-mul-le_self (path_of c) (8 ^ d)))

-- a place stands before the others that it covers
pub IsBefore-covers : (a c : Cube) → c.level ≤ 6 → Covers a c → a.level < c.level → IsBefore a c
unfolding rank
IsBefore-covers a c deep h finer =
    omega (
      arith,
      filled_path-covers a c deep h,
      tree_of-covers a.level c.level c.x a.x h.level h.x,
      tree_of-covers a.level c.level c.y a.y h.level h.y,
      tree_of-covers a.level c.level c.z a.z h.level h.z,
    )

-- a place that covers another is coarser
pub finer-covers : (a c : Cube) → Covers a c → (a ≡ c → ⊥) → a.level < c.level
finer-covers a c h apart = elim (cases_lt a.level c.level) [
  | inl finer ↦ finer
  | inr no_finer ↦
      let same_level : a.level ≡ c.level = omega (arith, h.level) in
      let no_deeper : c.level - a.level ≡ 0 = omega arith in
      let x : a.x ≡ c.x = sym h.x ∙ ap (λ n. c.x / 2 ^ n) no_deeper ∙ div-one c.x in
      let y : a.y ≡ c.y = sym h.y ∙ ap (λ n. c.y / 2 ^ n) no_deeper ∙ div-one c.y in
      let z : a.z ≡ c.z = sym h.z ∙ ap (λ n. c.z / 2 ^ n) no_deeper ∙ div-one c.z in
      absurd (apart (λ i. record { level = same_level i; x = x i; y = y i; z = z i }))
]
