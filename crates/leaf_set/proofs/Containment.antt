-- Which places contain which: `Contains d a c` says that a lies d levels above c and contains it.
use Rattle.std.proofs.Common.{◌≡◌, ℕ, ◌+◌, ◌-◌, ◌*◌, ◌/◌, ◌%◌, ◌^◌, ◌<◌, ◌≤◌, true, ◌&&◌, refl, sym, ap, ◌∙◌, subst, arith, pow_pos, le_refl, nat_le, ◌==◌}
use Rattle.std.proofs.lemmas.Nat.{shr-shr, shl-shr, pow-add, div_below, row_fits}
use Rattle.std.proofs.lemmas.Bool.Decides.{nat_tests}
use Rattle.block_index.specs.Places.{Cube, Grid, IsInside, child_of, parent_of, child_number, covers}

-- a lies d levels above c and contains it
pub record Contains (d : ℕ) (a c : Cube) : Type 0 where
  pub level : c.level ≡ a.level + d
  pub x : c.x / 2 ^ d ≡ a.x
  pub y : c.y / 2 ^ d ≡ a.y
  pub z : c.z / 2 ^ d ≡ a.z

pub same_cube : (a c : Cube) → a.level ≡ c.level → a.x ≡ c.x → a.y ≡ c.y → a.z ≡ c.z → a ≡ c
same_cube a c l x y z = λ i. record { level = l i; x = x i; y = y i; z = z i }

-- ---- chains of places

pub Contains-self : (c : Cube) → Contains 0 c c
Contains-self c = record { level = omega arith; x = omega arith; y = omega arith; z = omega arith }

pub Contains-same : (a c : Cube) → Contains 0 a c → a ≡ c
Contains-same a c h = same_cube a c (omega (arith, h.level)) (omega (arith, h.x)) (omega (arith, h.y)) (omega (arith, h.z))

pub Contains-trans : (d e : ℕ) (a b c : Cube) → Contains d a b → Contains e b c → Contains (e + d) a c
Contains-trans d e a b c h k = record {
  level = omega (arith, h.level, k.level);
  x = sym (shr-shr c.x e d) ∙ ap (λ n. n / 2 ^ d) k.x ∙ h.x;
  y = sym (shr-shr c.y e d) ∙ ap (λ n. n / 2 ^ d) k.y ∙ h.y;
  z = sym (shr-shr c.z e d) ∙ ap (λ n. n / 2 ^ d) k.z ∙ h.z;
}

-- the place d levels above c
pub above : ℕ → Cube → Cube
above d c = record { level = c.level - d; x = c.x / 2 ^ d; y = c.y / 2 ^ d; z = c.z / 2 ^ d }

pub Contains-above : (d : ℕ) (c : Cube) → d ≤ c.level → Contains d (above d c) c
unfolding above
Contains-above d c h = record { level = omega arith; x = refl; y = refl; z = refl }

-- two places at one distance above c are one
pub Contains-one : (d : ℕ) (a b c : Cube) → Contains d a c → Contains d b c → a ≡ b
Contains-one d a b c h k =
    same_cube a b (omega (arith, h.level, k.level)) (sym h.x ∙ k.x) (sym h.y ∙ k.y) (sym h.z ∙ k.z)

-- of two places above c the higher one contains the lower
pub Contains-between : (d e : ℕ) (a b c : Cube) → Contains (e + d) a c → Contains e b c → Contains d a b
Contains-between d e a b c h k = record {
  level = omega (arith, h.level, k.level);
  x = ap (λ n. n / 2 ^ d) (sym k.x) ∙ shr-shr c.x e d ∙ h.x;
  y = ap (λ n. n / 2 ^ d) (sym k.y) ∙ shr-shr c.y e d ∙ h.y;
  z = ap (λ n. n / 2 ^ d) (sym k.z) ∙ shr-shr c.z e d ∙ h.z;
}

-- ---- parents and children

pub Contains-parent_of : (c : Cube) → 1 ≤ c.level → Contains 1 (parent_of c) c
Contains-parent_of c h = record { level = omega arith; x = refl; y = refl; z = refl }

pub Contains-child_of : (c : Cube) (k : ℕ) → k < 8 → Contains 1 c (child_of c k)
Contains-child_of c k h = record { level = refl; x = omega arith; y = omega arith; z = omega arith }

pub parent_of-child_of : (c : Cube) (k : ℕ) → k < 8 → parent_of (child_of c k) ≡ c
parent_of-child_of c k h = same_cube (parent_of (child_of c k)) c (omega arith) (omega arith) (omega arith) (omega arith)

pub child_number-child_of : (c : Cube) (k : ℕ) → k < 8 → child_number (child_of c k) ≡ k
child_number-child_of c k h = bits_back c.x c.y c.z k h
  where
    bits_back : (x y z k : ℕ) → k < 8 → (2 * x + k % 2) % 2 + 2 * ((2 * y + k / 2 % 2) % 2) + 4 * ((2 * z + k / 4) % 2) ≡ k
    bits_back x y z k h = omega arith

pub child_number_below : (c : Cube) → child_number c < 8
child_number_below c = omega arith

bit_x : (x y z : ℕ) → (x % 2 + 2 * (y % 2) + 4 * (z % 2)) % 2 ≡ x % 2
bit_x x y z = omega arith

bit_y : (x y z : ℕ) → (x % 2 + 2 * (y % 2) + 4 * (z % 2)) / 2 % 2 ≡ y % 2
bit_y x y z = omega arith

bit_z : (x y z : ℕ) → (x % 2 + 2 * (y % 2) + 4 * (z % 2)) / 4 ≡ z % 2
bit_z x y z = omega arith

-- the child of a that b is, where a lies right above b
pub child_of-child_number : (a b : Cube) → Contains 1 a b → child_of a (child_number b) ≡ b
child_of-child_number a b h =
    let ex : b.x / 2 ≡ a.x = h.x in
    let ey : b.y / 2 ≡ a.y = h.y in
    let ez : b.z / 2 ≡ a.z = h.z in
    same_cube (child_of a (child_number b)) b (sym h.level) (omega (arith, bit_x b.x b.y b.z))
    (omega (arith, bit_y b.x b.y b.z))
    (omega (arith, bit_z b.x b.y b.z))

-- a place above c, but not c, has a child that contains c
pub Contains-child : (d : ℕ) (a c : Cube) → Contains (d + 1) a c → (k : ℕ) × (k < 8) × Contains d (child_of a k) c
Contains-child d a c h =
    let b = above d c in
    let low : Contains d b c = Contains-above d c (omega (arith, h.level)) in
    let up : Contains 1 a b = Contains-between 1 d a b c h low in
    (child_number b, child_number_below b, subst (λ q. Contains d q c) (sym (child_of-child_number a b up)) low)

-- ---- places inside a domain

axis_up : (t l d n : ℕ) → n < t * 2 ^ (l + d) → n / 2 ^ d < t * 2 ^ l
axis_up t l d n h = div_below n (2 ^ d) (t * 2 ^ l) (pow_pos d) (omega (arith, pow-add 2 l d, ap (λ w. t * w) (pow-add 2 l d)))

axis_down : (t l d n : ℕ) → n < t * 2 ^ l → n * 2 ^ d < t * 2 ^ (l + d)
axis_down t l d n h =
    omega (arith, row_fits n (2 ^ d) (t * 2 ^ l) (2 ^ d) h (le_refl (2 ^ d)), pow_pos d, ap (λ w. t * w) (pow-add 2 l d))

pub IsInside-Contains : (grid : Grid) (d : ℕ) (a c : Cube) → Contains d a c → IsInside grid c → IsInside grid a
IsInside-Contains grid d a c h i = record {
  level = omega (arith, h.level, i.level);
  x = subst (λ n. n < grid.trees_x * 2 ^ a.level) h.x (axis_up grid.trees_x a.level d c.x (subst (λ l. c.x < grid.trees_x * 2 ^ l) h.level i.x));
  y = subst (λ n. n < grid.trees_y * 2 ^ a.level) h.y (axis_up grid.trees_y a.level d c.y (subst (λ l. c.y < grid.trees_y * 2 ^ l) h.level i.y));
  z = subst (λ n. n < grid.trees_z * 2 ^ a.level) h.z (axis_up grid.trees_z a.level d c.z (subst (λ l. c.z < grid.trees_z * 2 ^ l) h.level i.z));
}

axis_child : (t l n b : ℕ) → n < t * 2 ^ l → b < 2 → 2 * n + b < t * 2 ^ (l + 1)
axis_child t l n b h k = omega (arith, pow-add 2 l 1, ap (λ w. t * w) (pow-add 2 l 1))

pub IsInside-child_of : (grid : Grid) (c : Cube) (k : ℕ) → k < 8 → c.level + 1 ≤ grid.finest → IsInside grid c → IsInside grid (child_of c k)
IsInside-child_of grid c k h l i = record {
  level = l;
  x = axis_child grid.trees_x c.level c.x (k % 2) i.x (omega arith);
  y = axis_child grid.trees_y c.level c.y (k / 2 % 2) i.y (omega arith);
  z = axis_child grid.trees_z c.level c.z (k / 4) i.z (omega arith);
}

-- the lowest corner of c, d levels down
unfoldable pub corner : ℕ → Cube → Cube
corner d c = record { level = c.level + d; x = c.x * 2 ^ d; y = c.y * 2 ^ d; z = c.z * 2 ^ d }

pub Contains-corner : (d : ℕ) (c : Cube) → Contains d c (corner d c)
unfolding corner
Contains-corner d c = record { level = refl; x = shl-shr c.x d; y = shl-shr c.y d; z = shl-shr c.z d }

pub IsInside-corner : (grid : Grid) (d : ℕ) (c : Cube) → c.level + d ≤ grid.finest → IsInside grid c → IsInside grid (corner d c)
unfolding corner
IsInside-corner grid d c l i = record {
  level = l;
  x = axis_down grid.trees_x c.level d c.x i.x;
  y = axis_down grid.trees_y c.level d c.y i.y;
  z = axis_down grid.trees_z c.level d c.z i.z;
}

-- a finest place inside c
pub finest_within : (grid : Grid) (c : Cube) → IsInside grid c → (q : Cube) × IsInside grid q × (q.level ≡ grid.finest) × Contains (grid.finest - c.level) c q
unfolding corner
finest_within grid c i =
    let d = grid.finest - c.level in
    let e : c.level + d ≡ grid.finest = omega (arith, i.level) in
    (corner d c, IsInside-corner grid d c (omega arith) i, e, Contains-corner d c)

-- ---- the test

test_parts : (l m u x v y w z : ℕ) → (nat_le l m && (u == x) && (v == y) && (w == z)) ≡ true → (l ≤ m) × (u ≡ x) × (v ≡ y) × (w ≡ z)
test_parts l m u x v y w z e = grind (arith, nat_tests)

test_holds : (l m u x v y w z : ℕ) → l ≤ m → u ≡ x → v ≡ y → w ≡ z → (nat_le l m && (u == x) && (v == y) && (w == z)) ≡ true
test_holds l m u x v y w z a b c d = grind (arith, nat_tests)

pub Contains-covers : (a c : Cube) → covers a c ≡ true → Contains (c.level - a.level) a c
Contains-covers a c e =
    let p = test_parts a.level c.level (c.x / 2 ^ (c.level - a.level)) a.x (c.y / 2 ^ (c.level - a.level)) a.y (c.z / 2 ^ (c.level - a.level)) a.z e in
    record { level = omega (arith, p.0); x = p.1; y = p.2; z = p.3 }

pub covers-Contains : (d : ℕ) (a c : Cube) → Contains d a c → covers a c ≡ true
covers-Contains d a c h =
    let e : c.level - a.level ≡ d = omega (arith, h.level) in
    test_holds a.level c.level (c.x / 2 ^ (c.level - a.level)) a.x (c.y / 2 ^ (c.level - a.level)) a.y (c.z / 2 ^ (c.level - a.level)) a.z
    (omega (arith, h.level))
    (subst (λ n. c.x / 2 ^ n ≡ a.x) (sym e) h.x)
    (subst (λ n. c.y / 2 ^ n ≡ a.y) (sym e) h.y)
    (subst (λ n. c.z / 2 ^ n ≡ a.z) (sym e) h.z)
