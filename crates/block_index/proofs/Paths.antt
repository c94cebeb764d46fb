-- Paths of child numbers as octal digits: how many digits, how one grows from the parent's, and that a path and a
-- tree tell the coordinates.
use Rattle.std.proofs.Common.{◌≡◌, ℕ, zero, suc, ◌+◌, ◌-◌, ◌*◌, ◌/◌, ◌%◌, ◌^◌, ◌<◌, arith, sym, ap, refl, ◌∙◌}
use Rattle.std.proofs.Math.Nat.{pow-succ', div-one, div-div-eq-div-mul}
use Rattle.block_index.specs.Order.{path_digits}
use Rattle.block_index.proofs.Halves.{div-pow_suc}

-- a path has as many octal digits as the level says
pub path_digits_below : (l x y z : ℕ) → path_digits l x y z < 8 ^ l
path_digits_below zero x y z = omega arith
path_digits_below (suc l) x y z =
    omega (arith, path_digits_below l (x / 2) (y / 2) (z / 2), pow-succ' 8 l)

-- a root's path has no digits
pub root_path : (l x y z : ℕ) → l ≡ 0 → path_digits l x y z ≡ 0
root_path zero x y z root = refl
root_path (suc l) x y z root = absurd (omega arith)

-- below a root a path is its parent's and one digit more
pub path_digits-step : (l x y z : ℕ) → 0 < l
    → path_digits l x y z ≡ 8 * path_digits (l - 1) (x / 2) (y / 2) (z / 2) + (x % 2 + 2 * (y % 2) + 4 * (z % 2))
path_digits-step zero x y z some = absurd (omega arith)
path_digits-step (suc l) x y z some =
    let less : suc l - 1 ≡ l = omega arith in
    rw less refl

-- the digits of the place d levels up
pub path_digits-div : (d l x y z : ℕ)
    → path_digits (l + d) x y z / 8 ^ d ≡ path_digits l (x / 2 ^ d) (y / 2 ^ d) (z / 2 ^ d)
path_digits-div zero l x y z =
    let full : l + 0 ≡ l = omega arith in
    cc (full, div-one x, div-one y, div-one z, div-one (path_digits l x y z))
path_digits-div (suc d) l x y z =
    let longer : l + suc d ≡ suc (l + d) = omega arith in
    let last : path_digits (suc (l + d)) x y z / 8 ≡ path_digits (l + d) (x / 2) (y / 2) (z / 2) = omega arith in
    ap (λ n. path_digits n x y z / 8 ^ suc d) longer
    ∙ ap (λ p. path_digits (suc (l + d)) x y z / p) (pow-succ' 8 d)
    ∙ sym (div-div-eq-div-mul (path_digits (suc (l + d)) x y z) 8 (8 ^ d))
    ∙ ap (λ n. n / 8 ^ d) last
    ∙ path_digits-div d l (x / 2) (y / 2) (z / 2)
    ∙ cc (div-pow_suc x d, div-pow_suc y d, div-pow_suc z d)

-- two places with the same three numbers
pub record SameCoordinates (a b c a' b' c' : ℕ) : Type 0 where
  pub x : a ≡ a'
  pub y : b ≡ b'
  pub z : c ≡ c'

-- places of one level, one tree and one path have the same coordinates
pub same_from_path : (l x y z x' y' z' : ℕ)
    → SameCoordinates (x / 2 ^ l) (y / 2 ^ l) (z / 2 ^ l) (x' / 2 ^ l) (y' / 2 ^ l) (z' / 2 ^ l)
    → path_digits l x y z ≡ path_digits l x' y' z'
    → SameCoordinates x y z x' y' z'
same_from_path zero x y z x' y' z' trees paths =
    record { x = omega (arith, trees.x); y = omega (arith, trees.y); z = omega (arith, trees.z) }
same_from_path (suc l) x y z x' y' z' trees paths =
    let halves = same_from_path l (x / 2) (y / 2) (z / 2) (x' / 2) (y' / 2) (z' / 2)
    (record {
      x = sym (div-pow_suc x l) ∙ trees.x ∙ div-pow_suc x' l;
      y = sym (div-pow_suc y l) ∙ trees.y ∙ div-pow_suc y' l;
      z = sym (div-pow_suc z l) ∙ trees.z ∙ div-pow_suc z' l;
    })
    (omega arith) in
    record { x = omega arith; y = omega arith; z = omega arith }
