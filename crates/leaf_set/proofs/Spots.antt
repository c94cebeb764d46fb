-- The place in the order as a stretch of a line: a place of level l has a number `spot` among the places of its
-- level, and takes the stretch from `start` up to `stop`, in units of the places of level 6.
use Rattle.std.proofs.Common.{◌≡◌, ℕ, zero, suc, ◌+◌, ◌-◌, ◌*◌, ◌/◌, ◌%◌, ◌^◌, ◌<◌, ◌≤◌, ◌⊎◌, refl, sym, ap, ◌∙◌, subst, arith, pow-suc, le_refl, inl, inr, mul-le-mul_right}
use Rattle.std.proofs.Math.Nat.{one-le-pow}
use Rattle.std.proofs.lemmas.Nat.{shr-shr, mul-le}
use Rattle.std.proofs.lemmas.Bool.{cases_lt, cases_order}
use Rattle.block_index.specs.Places.{Cube, Grid, IsInside, IsDomain, child_of}
use Rattle.block_index.specs.Order.{path_digits, path_of, rank, IsBefore}
use Rattle.leaf_set.proofs.Containment.{Contains, same_cube, Contains-same, Contains-child, Contains-above, IsInside-Contains, above}

-- the number of a place among those of its level, in order
spot_at : ℕ → ℕ → ℕ → ℕ → ℕ
spot_at zero x y z = (z * 16 + y) * 16 + x
spot_at (suc l) x y z = 8 * spot_at l (x / 2) (y / 2) (z / 2) + (x % 2 + 2 * (y % 2) + 4 * (z % 2))

pub spot : Cube → ℕ
spot c = spot_at c.level c.x c.y c.z

pub start : Cube → ℕ
start c = spot c * 8 ^ (6 - c.level)

pub stop : Cube → ℕ
stop c = (spot c + 1) * 8 ^ (6 - c.level)

pub start-spot : (c : Cube) → start c ≡ spot c * 8 ^ (6 - c.level)
unfolding start
start-spot c = refl

pub stop-start : (c : Cube) → stop c ≡ start c + 8 ^ (6 - c.level)
unfolding start stop
stop-start c = omega arith

half_up : (l x : ℕ) → x / 2 / 2 ^ l ≡ x / 2 ^ suc l
half_up l x = shr-shr x 1 l ∙ ap (λ n. x / 2 ^ n) (let e : 1 + l ≡ suc l = omega arith in e)

-- a spot is the tree and the path
spot_at-path_digits : (l x y z : ℕ) → spot_at l x y z ≡ ((z / 2 ^ l * 16 + y / 2 ^ l) * 16 + x / 2 ^ l) * 8 ^ l + path_digits l x y z
unfolding spot_at
spot_at-path_digits zero x y z = omega arith
spot_at-path_digits (suc l) x y z =
    let ih = spot_at-path_digits l (x / 2) (y / 2) (z / 2) in
    let ex = half_up l x in
    let ey = half_up l y in
    let ez = half_up l z in
    together (spot_at l (x / 2) (y / 2) (z / 2)) (x / 2 / 2 ^ l) (y / 2 / 2 ^ l) (z / 2 / 2 ^ l) (x / 2 ^ suc l) (y / 2 ^ suc l) (z / 2 ^ suc l) (8 ^ l) (8 ^ suc l)
    (path_digits l (x / 2) (y / 2) (z / 2))
    (x % 2 + 2 * (y % 2) + 4 * (z % 2))
    ih
    ex
    ey
    ez
    (pow-suc 8 l)
  where
    together : (s a b c a' b' c' w v p m : ℕ) → s ≡ ((c * 16 + b) * 16 + a) * w + p → a ≡ a' → b ≡ b' → c ≡ c' → v ≡ w * 8 → 8 * s + m ≡ ((c' * 16 + b') * 16 + a') * v + (8 * p + m)
    together s a b c a' b' c' w v p m e ea eb ec ev = simp (← ea, ← eb, ← ec, ev, e) (omega arith)

eight_add : (i j : ℕ) → 8 ^ (i + j) ≡ 8 ^ i * 8 ^ j
eight_add zero j = ap (λ n. 8 ^ n) (let e : 0 + j ≡ j = omega arith in e) ∙ (let e : 8 ^ j ≡ 8 ^ 0 * 8 ^ j = omega arith in e)
eight_add (suc i) j =
    ap (λ n. 8 ^ n) (let e : suc i + j ≡ suc (i + j) = omega arith in e) ∙ pow-suc 8 (i + j) ∙ omega (arith, eight_add i j, ap (λ w. w * 8 ^ j) (pow-suc 8 i))

-- the width of a place d levels up from level c, at most 6
width_up : (a c d : ℕ) → c ≡ a + d → c ≤ 6 → 8 ^ (6 - a) ≡ 8 ^ d * 8 ^ (6 - c)
width_up a c d e h = ap (λ n. 8 ^ n) (let f : 6 - a ≡ d + (6 - c) = omega arith in f) ∙ eight_add d (6 - c)

eight_pos : (k : ℕ) → 0 < 8 ^ k
eight_pos k = one-le-pow k 8 (omega arith)

pub rank-start : (c : Cube) → c.level ≤ 6 → rank c ≡ start c * 7 + c.level
unfolding rank path_of start spot
rank-start c h =
    rank_is ((c.z / 2 ^ c.level * 16 + c.y / 2 ^ c.level) * 16 + c.x / 2 ^ c.level) (8 ^ c.level) (8 ^ (6 - c.level))
    (path_digits c.level c.x c.y c.z)
    (spot_at c.level c.x c.y c.z)
    c.level
    (width_up 0 c.level c.level (omega arith) h)
    (spot_at-path_digits c.level c.x c.y c.z)
  where
    rank_is : (t w v p s l : ℕ) → 262144 ≡ w * v → s ≡ t * w + p → (t * 262144 + p * v) * 7 + l ≡ s * v * 7 + l
    rank_is t w v p s l e f = omega (arith, ap (λ n. t * n) e, ap (λ n. n * v) f)

pub start-stop : (c : Cube) → start c < stop c
unfolding start stop
start-stop c = omega (arith, eight_pos (6 - c.level))

-- ---- children

spot_at-child : (l x y z k : ℕ) → k < 8 → spot_at (suc l) (2 * x + k % 2) (2 * y + k / 2 % 2) (2 * z + k / 4) ≡ 8 * spot_at l x y z + k
unfolding spot_at
spot_at-child l x y z k h =
    let ex : (2 * x + k % 2) / 2 ≡ x = omega arith in
    let ey : (2 * y + k / 2 % 2) / 2 ≡ y = omega arith in
    let ez : (2 * z + k / 4) / 2 ≡ z = omega arith in
    rw (ex, ey, ez) (omega arith)

pub spot-child_of : (c : Cube) (k : ℕ) → k < 8 → spot (child_of c k) ≡ 8 * spot c + k
unfolding spot
spot-child_of c k h =
    ap (λ l. spot_at l (2 * c.x + k % 2) (2 * c.y + k / 2 % 2) (2 * c.z + k / 4)) (let e : c.level + 1 ≡ suc c.level = omega arith in e)
    ∙ spot_at-child c.level c.x c.y c.z k h

-- the width of a child of a place of level l
pub child_width : ℕ → ℕ
child_width l = 8 ^ (6 - (l + 1))

pub child_width-pos : (l : ℕ) → 0 < child_width l
unfolding child_width
child_width-pos l = eight_pos (6 - (l + 1))

pub start-child_of : (c : Cube) (k : ℕ) → k < 8 → c.level + 1 ≤ 6 → start (child_of c k) ≡ start c + k * child_width c.level
unfolding start child_width
start-child_of c k h l =
    let e = spot-child_of c k h in
    let w = width_up c.level (c.level + 1) 1 refl l in
    omega (arith, ap (λ n. n * 8 ^ (6 - (c.level + 1))) e, ap (λ n. spot c * n) w)

pub stop-child_of : (c : Cube) (k : ℕ) → k < 8 → c.level + 1 ≤ 6 → stop (child_of c k) ≡ start c + (k + 1) * child_width c.level
unfolding start stop child_width
stop-child_of c k h l =
    let e = spot-child_of c k h in
    let w = width_up c.level (c.level + 1) 1 refl l in
    omega (arith, ap (λ n. n * 8 ^ (6 - (c.level + 1))) e, ap (λ n. spot c * n) w)

pub stop-children : (c : Cube) → c.level + 1 ≤ 6 → stop c ≡ start c + 8 * child_width c.level
unfolding start stop child_width
stop-children c l =
    let w = width_up c.level (c.level + 1) 1 refl l in
    omega (arith, w, ap (λ n. spot c * n) w)

child_within : (a : Cube) (k : ℕ) → k < 8 → a.level + 1 ≤ 6 → (start a ≤ start (child_of a k)) × (stop (child_of a k) ≤ stop a)
child_within a k h l =
    let w : (k + 1) * child_width a.level ≤ 8 * child_width a.level = mul-le-mul_right (child_width a.level) (let e : k + 1 ≤ 8 = omega arith in e) in
    (omega (arith, start-child_of a k h l), omega (arith, stop-child_of a k h l, stop-children a l))

-- the stretch of a place that contains another contains its stretch
pub Contains-stretch : (d : ℕ) (a c : Cube) → Contains d a c → c.level ≤ 6 → (start a ≤ start c) × (stop c ≤ stop a)
Contains-stretch zero a c h l = subst (λ q. (start a ≤ start q) × (stop q ≤ stop a)) (Contains-same a c h) (le_refl (start a), le_refl (stop a))
Contains-stretch (suc d) a c h l =
    let m = Contains-child d a c (subst (λ n. Contains n a c) (let e : suc d ≡ d + 1 = omega arith in e) h) in
    let low = Contains-stretch d (child_of a m.0) c m.2 l in
    let e : a.level + 1 ≤ 6 = omega (arith, h.level) in
    let high = child_within a m.0 m.1 e in
    (omega (arith, low.0, high.0), omega (arith, low.1, high.1))

-- ---- one spot, one place

spot_at_same : (l x y z u v w : ℕ) → x < 16 * 2 ^ l → y < 16 * 2 ^ l → u < 16 * 2 ^ l → v < 16 * 2 ^ l → spot_at l x y z ≡ spot_at l u v w → (x ≡ u) × (y ≡ v) × (z ≡ w)
unfolding spot_at
spot_at_same zero x y z u v w a b c d e = (omega arith, omega arith, omega arith)
spot_at_same (suc l) x y z u v w a b c d e =
    let p = pow-suc 2 l in
    let s : spot_at l (x / 2) (y / 2) (z / 2) ≡ spot_at l (u / 2) (v / 2) (w / 2) = omega arith in
    let m : x % 2 + 2 * (y % 2) + 4 * (z % 2) ≡ u % 2 + 2 * (v % 2) + 4 * (w % 2) = omega arith in
    let ih = spot_at_same l (x / 2) (y / 2) (z / 2) (u / 2) (v / 2) (w / 2) (omega arith) (omega arith) (omega arith) (omega arith) s in
    joined x y z u v w ih.0 ih.1 ih.2 m
  where
    joined : (x y z u v w : ℕ) → x / 2 ≡ u / 2 → y / 2 ≡ v / 2 → z / 2 ≡ w / 2 → x % 2 + 2 * (y % 2) + 4 * (z % 2) ≡ u % 2 + 2 * (v % 2) + 4 * (w % 2) → (x ≡ u) × (y ≡ v) × (z ≡ w)
    joined x y z u v w a b c m = (omega arith, omega arith, omega arith)

-- ---- places inside a domain

axis_16 : (t l n : ℕ) → t ≤ 16 → n < t * 2 ^ l → n < 16 * 2 ^ l
axis_16 t l n h k = omega (arith, mul-le t (2 ^ l) 16 (2 ^ l) h (le_refl (2 ^ l)))

pub same_from_spot : (grid : Grid) (a c : Cube) → IsDomain grid → IsInside grid a → IsInside grid c → a.level ≡ c.level → spot a ≡ spot c → a ≡ c
unfolding spot
same_from_spot grid a c g i j l e =
    let f : spot_at a.level a.x a.y a.z ≡ spot_at a.level c.x c.y c.z = e ∙ ap (λ n. spot_at n c.x c.y c.z) (sym l) in
    let same = spot_at_same a.level a.x a.y a.z c.x c.y c.z (axis_16 grid.trees_x a.level a.x g.most_x i.x) (axis_16 grid.trees_y a.level a.y g.most_y i.y)
    (subst (λ n. c.x < 16 * 2 ^ n) (sym l) (axis_16 grid.trees_x c.level c.x g.most_x j.x))
    (subst (λ n. c.y < 16 * 2 ^ n) (sym l) (axis_16 grid.trees_y c.level c.y g.most_y j.y))
    f in
    same_cube a c l same.0 same.1 same.2

-- how two places lie
pub data Sides (a c : Cube) : Type 0 where
  higher : (d : ℕ) → Contains d a c → Sides a c
  lower : (d : ℕ) → Contains d c a → Sides a c
  before : stop a ≤ start c → Sides a c
  after : stop c ≤ start a → Sides a c

pub spot_before : (a b : Cube) → a.level ≡ b.level → spot a < spot b → stop a ≤ start b
unfolding start stop
spot_before a b l h =
    subst (λ n. (spot a + 1) * 8 ^ (6 - a.level) ≤ spot b * 8 ^ (6 - n)) l (mul-le-mul_right (8 ^ (6 - a.level)) (let e : spot a + 1 ≤ spot b = omega arith in e))

pub finest_limit : (grid : Grid) (c : Cube) → IsDomain grid → IsInside grid c → c.level ≤ 6
finest_limit grid c g i = omega (arith, g.finest, i.level)

sides_down : (grid : Grid) (d : ℕ) (a c : Cube) → IsDomain grid → IsInside grid a → IsInside grid c → c.level ≡ a.level + d → Contains d a c ⊎ ((stop a ≤ start c) ⊎ (stop c ≤ start a))
sides_down grid d a c g i j e =
    let k : Contains d (above d c) c = Contains-above d c (omega arith) in
    let inside = IsInside-Contains grid d (above d c) c k j in
    let l : a.level ≡ (above d c).level = omega (arith, k.level) in
    let s = Contains-stretch d (above d c) c k (finest_limit grid c g j) in
    elim (cases_order (spot a) (spot (above d c))) [
      | inl same ↦ inl (subst (λ q. Contains d q c) (sym (same_from_spot grid a (above d c) g i inside l same)) k)
      | inr r ↦
          elim r [
            | inl less ↦ inr (inl (let h = spot_before a (above d c) l less in omega arith))
            | inr more ↦ inr (inr (let h = spot_before (above d c) a (sym l) more in omega arith))
          ]
    ]

-- of two places one contains the other, or one ends where or before the other starts
pub sides : (grid : Grid) (a c : Cube) → IsDomain grid → IsInside grid a → IsInside grid c → Sides a c
sides grid a c g i j =
    elim (cases_lt a.level c.level) [
      | inl less ↦
          elim (sides_down grid (c.level - a.level) a c g i j (omega arith)) [
            | inl h ↦ higher (c.level - a.level) h
            | inr r ↦ elim r [ inl h ↦ before h | inr h ↦ after h ]
          ]
      | inr more ↦
          elim (sides_down grid (a.level - c.level) c a g j i (omega arith)) [
            | inl h ↦ lower (a.level - c.level) h
            | inr r ↦ elim r [ inl h ↦ after h | inr h ↦ before h ]
          ]
    ]

-- what stands before another and has no place in common with it ends where or before it starts
pub stop-IsBefore : (grid : Grid) (a c : Cube) → IsDomain grid → IsInside grid a → IsInside grid c → IsBefore a c → ((d : ℕ) → Contains d a c → ⊥) → ((d : ℕ) → Contains d c a → ⊥) → stop a ≤ start c
stop-IsBefore grid a c g i j h no_a no_c =
    elim (sides grid a c g i j) [
      | higher d k ↦ absurd (no_a d k)
      | lower d k ↦ absurd (no_c d k)
      | before k ↦ k
      | after k ↦ absurd (turned k (rank-start a (finest_limit grid a g i)) (rank-start c (finest_limit grid c g j)))
    ]
  where
    turned : stop c ≤ start a → rank a ≡ start a * 7 + a.level → rank c ≡ start c * 7 + c.level → ⊥
    turned k ra rc = omega (arith, start-stop c, finest_limit grid c g j)

pub IsBefore-start : (a c : Cube) → a.level ≤ 6 → c.level ≤ 6 → start a < start c → IsBefore a c
IsBefore-start a c l m h = omega (arith, rank-start a l, rank-start c m)

pub spot-root : (c : Cube) → c.level ≡ 0 → spot c ≡ (c.z * 16 + c.y) * 16 + c.x
unfolding spot spot_at
spot-root c e = ap (λ l. spot_at l c.x c.y c.z) e

pub spot-path_digits : (c : Cube) → spot c ≡ ((c.z / 2 ^ c.level * 16 + c.y / 2 ^ c.level) * 16 + c.x / 2 ^ c.level) * 8 ^ c.level + path_digits c.level c.x c.y c.z
unfolding spot
spot-path_digits c = spot_at-path_digits c.level c.x c.y c.z

-- of two places of one level the one that starts later has the larger spot
pub spot_from_start : (a c : Cube) → a.level ≡ c.level → start a < start c → spot a < spot c
unfolding start
spot_from_start a c l h =
    elim (cases_lt (spot a) (spot c)) [
      | inl less ↦ less
      | inr more ↦
          absurd
          (let w : spot c * 8 ^ (6 - a.level) ≤ spot a * 8 ^ (6 - a.level) = mul-le-mul_right (8 ^ (6 - a.level)) more in
          let v : spot c * 8 ^ (6 - a.level) ≡ spot c * 8 ^ (6 - c.level) = ap (λ n. spot c * 8 ^ (6 - n)) l in
          omega arith)
    ]

-- what contains a place stands before it, or is it
pub rank-Contains : (d : ℕ) (a c : Cube) → Contains d a c → c.level ≤ 6 → rank a ≤ rank c
rank-Contains d a c k h =
    let w = Contains-stretch d a c k h in
    omega (arith, w.0, k.level, rank-start c h, rank-start a (omega (arith, k.level)))
