-- Which places a place covers, by where they stand: itself and those after it, as far as the finest places that it
-- holds go. So they stand together.
use Rattle.std.proofs.Common.{◌≡◌, ℕ, ◌+◌, ◌-◌, ◌*◌, ◌/◌, ◌^◌, ◌<◌, ◌≤◌, arith, sym, ap, refl, subst, ◌∙◌, lit≤, inl, inr}
use Rattle.std.proofs.lemmas.Bool.{cases_lt}
use Rattle.std.proofs.lemmas.Nat.{pow-add, same_from_place}
use Rattle.std.proofs.Math.Nat.{div-div-eq-div-mul, div-eq_of_lt-le, mul-div_cancel, mul-add-div_right, mul_assoc, mul_comm, add-mul, one-le-pow, div-mul-le_self, lt-div-mul-add}
use Rattle.block_index.specs.Places.{Cube, IsPlace}
use Rattle.block_index.specs.Order.{path_of, tree_number, filled_path, first_finest, rank, IsBefore}
use Rattle.block_index.proofs.Covering.{Covers}
use Rattle.block_index.proofs.Paths.{same_from_path, path_digits_below}
use Rattle.block_index.proofs.Ranks.{tree_of-covers, path_of-covers, path_of-div, trees_from_number}
use Rattle.block_index.proofs.Widths.{pow-rest}

-- how many finest places a place of a level covers
abbrev pub finest_count : ℕ → ℕ
finest_count l = 8 ^ (6 - l)

-- the tree and the path as one number
abbrev pub tree_and_path : Cube → ℕ
tree_and_path c = tree_number c * 8 ^ c.level + path_of c

first_finest-factors : (c : Cube) → c.level ≤ 6 → first_finest c ≡ tree_and_path c * finest_count c.level
first_finest-factors c deep =
    ap (λ p. tree_number c * p + filled_path c) (sym (pow-rest 8 c.level deep))
    ∙ ap (λ n. n + filled_path c) (sym (mul_assoc (tree_number c) (8 ^ c.level) (finest_count c.level)))
    ∙ sym (add-mul (tree_number c * 8 ^ c.level) (path_of c) (finest_count c.level))

-- the finest places of a coarser level, as those of a finer one
finest_count-finer : (l m : ℕ) → l ≤ m → m ≤ 6 → finest_count l ≡ finest_count m * 8 ^ (m - l)
finest_count-finer l m above deep =
    let rest : 6 - l ≡ 6 - m + (m - l) = omega arith in
    ap (λ n. 8 ^ n) rest ∙ pow-add 8 (6 - m) (m - l)

-- the ancestor of a level, as a tree and a path, is where the place's first finest one lies
first_finest-div : (l : ℕ) (c : Cube) → l ≤ c.level → c.level ≤ 6
    → first_finest c / finest_count l ≡ tree_number c * 8 ^ l + path_of c / 8 ^ (c.level - l)
first_finest-div l c above deep =
    let d = c.level - l in
    let full : c.level ≡ l + d = omega arith in
    let some = one-le-pow (6 - c.level) 8 (lit≤ tt) in
    let power : tree_number c * 8 ^ c.level ≡ tree_number c * 8 ^ l * 8 ^ d =
    ap (λ n. tree_number c * 8 ^ n) full ∙ ap (λ p. tree_number c * p) (pow-add 8 l d)
    ∙ sym (mul_assoc (tree_number c) (8 ^ l) (8 ^ d)) in
    ap (λ n. n / finest_count l) (first_finest-factors c deep)
    ∙ ap (λ n. tree_and_path c * finest_count c.level / n) (finest_count-finer l c.level above deep)
    ∙ sym (div-div-eq-div-mul (tree_and_path c * finest_count c.level) (finest_count c.level) (8 ^ d))
    ∙ ap (λ n. n / 8 ^ d) (mul-div_cancel (tree_and_path c) some)
    ∙ ap (λ n. (n + path_of c) / 8 ^ d) power
    ∙ mul-add-div_right (one-le-pow d 8 (lit≤ tt)) (tree_number c * 8 ^ l) (path_of c)

-- c's first finest place is one that a covers
pub record StandsWithin (a c : Cube) : Type 0 where
  pub from : first_finest a ≤ first_finest c
  pub below : first_finest c < first_finest a + finest_count a.level

-- a quotient, as bounds on the number
below_next : (n q k : ℕ) → 0 < q → n / q ≡ k → (k * q ≤ n) × (n < k * q + q)
below_next n q k some quotient =
    let P : ℕ → Type 0 = λ v. (v * q ≤ n) × (n < v * q + q) in
    subst P quotient (div-mul-le_self n q, lt-div-mul-add some)

quotient_from : (n q k : ℕ) → k * q ≤ n → n < k * q + q → n / q ≡ k
quotient_from n q k low high = div-eq_of_lt-le q low (omega (arith, add-mul k 1 q))

tree_number-covers : (a c : Cube) → Covers a c → tree_number a ≡ tree_number c
tree_number-covers a c h =
    omega (
      arith,
      tree_of-covers a.level c.level c.x a.x h.level h.x,
      tree_of-covers a.level c.level c.y a.y h.level h.y,
      tree_of-covers a.level c.level c.z a.z h.level h.z,
    )

pub StandsWithin-covers : (a c : Cube) → c.level ≤ 6 → Covers a c → StandsWithin a c
StandsWithin-covers a c deep h =
    let quotient : first_finest c / finest_count a.level ≡ tree_and_path a =
    first_finest-div a.level c h.level deep
    ∙ ap (λ n. n * 8 ^ a.level + path_of c / 8 ^ (c.level - a.level)) (sym (tree_number-covers a c h))
    ∙ ap (λ n. tree_number a * 8 ^ a.level + n) (sym (path_of-covers a c h)) in
    let bounds = below_next (first_finest c) (finest_count a.level) (tree_and_path a) (one-le-pow (6 - a.level) 8 (lit≤ tt)) quotient in
    let start = first_finest-factors a (omega (arith, h.level)) in
    record { from = omega (arith, bounds.0, start); below = omega (arith, bounds.1, start) }

-- the quotient of a place that stands within another
quotient-within : (a c : Cube) → a.level ≤ 6 → StandsWithin a c → first_finest c / finest_count a.level ≡ tree_and_path a
quotient-within a c deep h =
    let start = first_finest-factors a deep in
    quotient_from (first_finest c) (finest_count a.level) (tree_and_path a)
    (omega (arith, h.from, start)) (omega (arith, h.below, start))

pub Covers-from_within : (a c : Cube) → IsPlace a → IsPlace c → a.level ≤ c.level → StandsWithin a c → Covers a c
unfolding path_of
Covers-from_within a c a_limits c_limits above h =
    let l = a.level in
    let d = c.level - a.level in
    let digits = path_of-div l c above in
    let short : path_of c / 8 ^ d < 8 ^ l =
    omega (arith, digits, path_digits_below l (c.x / 2 ^ d) (c.y / 2 ^ d) (c.z / 2 ^ d)) in
    let parts = same_from_place (tree_number c) (path_of c / 8 ^ d) (tree_number a) (path_of a) (8 ^ l)
    short (path_digits_below l a.x a.y a.z)
    (sym (first_finest-div l c above c_limits.level) ∙ quotient-within a c a_limits.level h) in
    let trees = trees_from_number c a c_limits a_limits parts.0 in
    let same = same_from_path l (c.x / 2 ^ d) (c.y / 2 ^ d) (c.z / 2 ^ d) a.x a.y a.z
    (record {
      x = tree_of-covers l c.level c.x (c.x / 2 ^ d) above refl ∙ trees.x;
      y = tree_of-covers l c.level c.y (c.y / 2 ^ d) above refl ∙ trees.y;
      z = tree_of-covers l c.level c.z (c.z / 2 ^ d) above refl ∙ trees.z;
    })
    (sym digits ∙ parts.1) in
    record { level = above; x = same.x; y = same.y; z = same.z }

-- a coarser place stands within another only where both begin at one finest place
same_start : (a b : Cube) → a.level ≤ 6 → b.level ≤ a.level → StandsWithin a b → first_finest b ≡ first_finest a
same_start a b deep coarser h =
    let q = finest_count a.level in
    let e = 8 ^ (a.level - b.level) in
    let full : first_finest b ≡ tree_and_path b * e * q =
    first_finest-factors b (omega arith)
    ∙ ap (λ n. tree_and_path b * n) (finest_count-finer b.level a.level coarser deep ∙ mul_comm q e)
    ∙ sym (mul_assoc (tree_and_path b) e q) in
    let quotient : tree_and_path b * e ≡ tree_and_path a =
    sym (mul-div_cancel (tree_and_path b * e) (one-le-pow (6 - a.level) 8 (lit≤ tt)))
    ∙ ap (λ n. n / q) (sym full) ∙ quotient-within a b deep h in
    full ∙ ap (λ n. n * q) quotient ∙ sym (first_finest-factors a deep)

-- what stands between a place and one that it covers is covered too
pub covers-between : (a b c : Cube) → IsPlace a → IsPlace b → IsPlace c → Covers a c → IsBefore a b → IsBefore b c → Covers a b
unfolding rank
covers-between a b c a_limits b_limits c_limits h after before =
    let end = StandsWithin-covers a c c_limits.level h in
    let within : StandsWithin a b = record {
      from = omega (arith, after, a_limits.level, b_limits.level);
      below = omega (arith, before, end.below, b_limits.level, c_limits.level);
    } in
    elim (cases_lt b.level a.level) [
      | inl coarser ↦
          let coarser_or_equal : b.level ≤ a.level = omega arith in
          absurd (omega (arith, same_start a b a_limits.level coarser_or_equal within, after))
      | inr finer ↦ Covers-from_within a b a_limits b_limits finer within
    ]
