-- What a block holds at a cell, by where the cell lies.
use Rattle.std.proofs.Common.{◌≡◌, ℕ, ◌+◌, ◌-◌, ◌*◌, ◌<◌, ◌==◌, true, false, nat_lt, ap, ◌∙◌, arith, List, get_or, ℤ, pos}
use Rattle.std.proofs.lemmas.Bool.{cond-true, cond-false}
use Rattle.std.proofs.lemmas.Bool.Decides.{nat_tests}
use Rattle.block_fields.specs.Blocks.{BlockState, amount_at, amounts_of, ghosts_of, number_at, seen_at}
use Rattle.block_fields.specs.Shells.{direction_of, number_around, position_of, side_length, side_of}

module _ (b : BlockState) (f : ℕ) (x y z : ℤ) where
  pub seen-own : direction_of b.edge x y z ≡ 13 → seen_at b f x y z ≡ get_or (amounts_of b f) (number_around b.edge b.depth x y z) 0
  seen-own own =
      let d = direction_of b.edge x y z in
      let t : (d == 13) ≡ true = grind (arith, nat_tests) in
      ap (λ (q : List ℕ). get_or q (number_around b.edge b.depth x y z) 0) (cond-true (d == 13) (amounts_of b f) (ghosts_of b f d) t)

  pub seen-around : (direction_of b.edge x y z ≡ 13 → ⊥) → seen_at b f x y z ≡ get_or (ghosts_of b f (direction_of b.edge x y z)) (number_around b.edge b.depth x y z) 0
  seen-around other =
      let d = direction_of b.edge x y z in
      let t : (d == 13) ≡ false = grind (arith, nat_tests) in
      ap (λ (q : List ℕ). get_or q (number_around b.edge b.depth x y z) 0) (cond-false (d == 13) (amounts_of b f) (ghosts_of b f d) t)

-- its own cells
pub seen-within : (b : BlockState) (f x y z : ℕ) → x < b.edge → y < b.edge → z < b.edge → seen_at b f (pos x) (pos y) (pos z) ≡ amount_at b f x y z
seen-within b f x y z hx hy hz =
    let n = b.edge in
    let tx : nat_lt x n ≡ true = grind (arith, nat_tests) in
    let ty : nat_lt y n ≡ true = grind (arith, nat_tests) in
    let tz : nat_lt z n ≡ true = grind (arith, nat_tests) in
    let sx : side_of n (pos x) ≡ 1 = cond-true (nat_lt x n) 1 2 tx in
    let sy : side_of n (pos y) ≡ 1 = cond-true (nat_lt y n) 1 2 ty in
    let sz : side_of n (pos z) ≡ 1 = cond-true (nat_lt z n) 1 2 tz in
    let px : position_of n b.depth (pos x) ≡ x = cond-true (nat_lt x n) x (x - n) tx in
    let py : position_of n b.depth (pos y) ≡ y = cond-true (nat_lt y n) y (y - n) ty in
    let pz : position_of n b.depth (pos z) ≡ z = cond-true (nat_lt z n) z (z - n) tz in
    let number : number_around n b.depth (pos x) (pos y) (pos z) ≡ number_at n x y z =
    λ i. (pz i * side_length n b.depth (sy i) + py i) * side_length n b.depth (sx i) + px i in
    seen-own b f (pos x) (pos y) (pos z) (λ i. sx i + 3 * sy i + 9 * sz i)
    ∙ ap (λ k. get_or (amounts_of b f) k 0) number
