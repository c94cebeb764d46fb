-- The children of a place on the side that a step comes in by: which numbers they have, and how many there are.
use Rattle.std.proofs.Common.{◌≡◌, ℕ, zero, suc, ◌+◌, ◌-◌, ◌*◌, ◌/◌, ◌%◌, ◌<◌, ◌≤◌, ◌⊎◌, inl, inr, Bool, true, ◌&&◌, cond, refl, ap, ◌∙◌, subst, arith, ℤ, pos, negsuc}
use Rattle.std.proofs.lemmas.Nat.{mul-le}
use Rattle.block_index.specs.Places.{Cube, child_of}
use Rattle.leaf_set.proofs.Containment.{parent_of-child_of}
use Rattle.block_index.specs.Axes.{IsUnitStep}
use Rattle.block_index.specs.Beyond.{Offset}
use Rattle.cello_neighbours.specs.Directions.{IsDirection}
use Rattle.cello_neighbours.specs.Covers.{LiesAgainst, is_near, is_near_half, near_halves, near_children}
use Rattle.block_index.proofs.Beyond.{at_steps}

-- the child numbered k is one of them
abbrev pub is_near_number : Offset → ℕ → Bool
is_near_number d k = is_near_half d.x (k % 2) && is_near_half d.y (k / 2 % 2) && is_near_half d.z (k / 4)

pub is_near-child_of : (d : Offset) (q : Cube) (k : ℕ) → k < 8 → is_near d (child_of q k) ≡ is_near_number d k
is_near-child_of d q k h =
    let x : (2 * q.x + k % 2) % 2 ≡ k % 2 = omega arith in
    let y : (2 * q.y + k / 2 % 2) % 2 ≡ k / 2 % 2 = omega arith in
    let z : (2 * q.z + k / 4) % 2 ≡ k / 4 = omega arith in
    rw (x, y, z) refl

pub LiesAgainst-child_of : (d : Offset) (q : Cube) (k : ℕ) → k < 8 → is_near d (child_of q k) ≡ true → LiesAgainst d q (child_of q k)
LiesAgainst-child_of d q k h e = record { finer = refl; parent = parent_of-child_of q k h; near = e }

-- ---- how many there are

-- how many of them have a number below k
pub near_below : Offset → ℕ → ℕ
near_below d zero = 0
near_below d (suc k) = near_below d k + cond (is_near_number d k) 1 0

pub near_below-zero : (d : Offset) → near_below d 0 ≡ 0
unfolding near_below
near_below-zero d = refl

near_below-suc : (d : Offset) (k : ℕ) → near_below d (suc k) ≡ near_below d k + cond (is_near_number d k) 1 0
unfolding near_below
near_below-suc d k = refl

pub near_below-next : (d : Offset) (k : ℕ) → near_below d (k + 1) ≡ near_below d k + cond (is_near_number d k) 1 0
near_below-next d k = ap (near_below d) (let e : k + 1 ≡ suc k = omega arith in e) ∙ near_below-suc d k

rises : (d : Offset) (n k : ℕ) → near_below d k ≤ near_below d (k + n)
rises d zero k = subst (λ m. near_below d k ≤ near_below d m) (let e : k ≡ k + 0 = omega arith in e) (omega arith)
rises d (suc n) k =
    omega (arith, rises d n k, near_below-next d (k + n), ap (near_below d) (let e : k + suc n ≡ k + n + 1 = omega arith in e))

AllCounted : ℤ → ℤ → ℤ → Type 0
AllCounted x y z = let d : Offset = record { x = x; y = y; z = z } in near_below d 8 ≡ near_children d

counted_at : (x : ℤ) → IsUnitStep x → (y : ℤ) → IsUnitStep y → (z : ℤ) → IsUnitStep z → AllCounted x y z
unfolding AllCounted near_below
counted_at =
    at_steps (λ x. (y : ℤ) → IsUnitStep y → (z : ℤ) → IsUnitStep z → AllCounted x y z)
    (at_steps (λ y. (z : ℤ) → IsUnitStep z → AllCounted (negsuc 0) y z) (at_steps (AllCounted (negsuc 0) (negsuc 0)) refl refl refl)
    (at_steps (AllCounted (negsuc 0) (pos 0)) refl refl refl)
    (at_steps (AllCounted (negsuc 0) (pos 1)) refl refl refl))
    (at_steps (λ y. (z : ℤ) → IsUnitStep z → AllCounted (pos 0) y z) (at_steps (AllCounted (pos 0) (negsuc 0)) refl refl refl)
    (at_steps (AllCounted (pos 0) (pos 0)) refl refl refl)
    (at_steps (AllCounted (pos 0) (pos 1)) refl refl refl))
    (at_steps (λ y. (z : ℤ) → IsUnitStep z → AllCounted (pos 1) y z) (at_steps (AllCounted (pos 1) (negsuc 0)) refl refl refl)
    (at_steps (AllCounted (pos 1) (pos 0)) refl refl refl)
    (at_steps (AllCounted (pos 1) (pos 1)) refl refl refl))

pub near_below-all : (d : Offset) → IsDirection d → near_below d 8 ≡ near_children d
unfolding AllCounted
near_below-all d w = counted_at d.x w.x d.y w.y d.z w.z

halves_cases : (s : ℤ) → (s ≡ pos 0) ⊎ (near_halves s ≡ 1)
halves_cases (pos zero) = inl refl
halves_cases (pos (suc n)) = inr refl
halves_cases (negsuc n) = inr refl

halves_most : (s : ℤ) → near_halves s ≤ 2
halves_most (pos zero) = omega arith
halves_most (pos (suc n)) = omega arith
halves_most (negsuc n) = omega arith

halves_some : (s : ℤ) → 1 ≤ near_halves s
halves_some (pos zero) = omega arith
halves_some (pos (suc n)) = omega arith
halves_some (negsuc n) = omega arith

pub near_children-most : (d : Offset) → IsDirection d → near_children d ≤ 4
near_children-most d w =
    elim (halves_cases d.x) [
      | inr one ↦
          mul-le (near_halves d.x * near_halves d.y) (near_halves d.z) 2 2
          (mul-le (near_halves d.x) (near_halves d.y) 1 2 (omega (arith, one)) (halves_most d.y))
          (halves_most d.z)
      | inl x ↦
          elim (halves_cases d.y) [
            | inr one ↦
                mul-le (near_halves d.x * near_halves d.y) (near_halves d.z) 2 2
                (mul-le (near_halves d.x) (near_halves d.y) 2 1 (halves_most d.x) (omega (arith, one)))
                (halves_most d.z)
            | inl y ↦
                elim (halves_cases d.z) [
                  | inr one ↦
                      mul-le (near_halves d.x * near_halves d.y) (near_halves d.z) 4 1
                      (mul-le (near_halves d.x) (near_halves d.y) 2 2 (halves_most d.x) (halves_most d.y))
                      (omega (arith, one))
                  | inl z ↦ absurd (w.some x y z)
                ]
          ]
    ]

pub near_children-some : (d : Offset) → 1 ≤ near_children d
near_children-some d =
    mul-le 1 1 (near_halves d.x * near_halves d.y) (near_halves d.z)
    (mul-le 1 1 (near_halves d.x) (near_halves d.y) (halves_some d.x) (halves_some d.y))
    (halves_some d.z)

-- fewer than four are counted before the last
pub near_below-room : (d : Offset) (k : ℕ) → IsDirection d → k < 8 → is_near_number d k ≡ true → near_below d k < 4
near_below-room d k w h e =
    let one : near_below d (k + 1) ≡ near_below d k + 1 = near_below-next d k ∙ ap (λ b. near_below d k + cond b 1 0) e in
    omega
    (arith, one, rises d (8 - (k + 1)) (k + 1), ap (near_below d) (let f : k + 1 + (8 - (k + 1)) ≡ 8 = omega arith in f), near_below-all d w, near_children-most d w)
