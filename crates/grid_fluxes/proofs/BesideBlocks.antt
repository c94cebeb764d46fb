-- Cells of a coordinate beside a block, along one axis: their block, and the finer blocks in its half that lies against
-- the first one, meet that one.
use Rattle.std.proofs.Common.{◌≡◌, ℕ, ◌+◌, ◌-◌, ◌*◌, ◌/◌, ◌%◌, ◌^◌, ◌<◌, ◌≤◌, Bool, inl, inr, sym, ap, ◌∙◌, subst, arith, le_refl, ℤ, pos, negsuc}
use Rattle.std.proofs.Math.Nat.{div-one}
use Rattle.std.proofs.lemmas.Int.{ints}
use Rattle.std.proofs.lemmas.Nat.{pow-add}
use Rattle.block_index.specs.Axes.{IsUnitStep, IsNext}
use Rattle.block_index.specs.Touching.{MeetsOnAxis, width}
use Rattle.block_index.proofs.Beyond.{IsNext-back}
use Rattle.block_index.proofs.Reaching.{MeetsOnAxis-over, unit_down, unit_none, unit_up}
use Rattle.block_fields.proofs.CellFacts.{div-swap}
use Rattle.grid_fluxes.specs.Axes.{next_coordinate, previous_coordinate}
use Rattle.grid_fluxes.proofs.Coordinates.{inside_cell, stays, next-block, previous-block, first_half, last_half}

-- v lies in the block of x or in one beside it, on an axis of blocks of n cells of level l
pub record LiesBeside (trees : ℕ) (wraps : Bool) (l n x v : ℕ) : Type 0 where
  pub inside : v / n < trees * 2 ^ l
  pub own : MeetsOnAxis trees wraps (v / n * width l) (width l) (x / n * width l) (width l)
  pub finer : (b : ℕ) → b < 2 → l + 1 ≤ 6 → MeetsOnAxis trees wraps ((2 * v + b) / n * width (l + 1)) (width (l + 1)) (x / n * width l) (width l)

half : (n v b : ℕ) → b < 2 → (2 * v + b) / n / 2 ≡ v / n
half n v b h = div-swap (2 * v + b) n 2 ∙ ap (λ u. u / n) (let e : (2 * v + b) / 2 ≡ v = omega arith in e)

-- blocks of one level that are a step apart meet
one_level : (trees : ℕ) (wraps : Bool) (l : ℕ) (s : ℤ) (x q : ℕ) → IsUnitStep s → q < trees * 2 ^ l → l ≤ 6 → IsNext (trees * 2 ^ l) wraps s q x → MeetsOnAxis trees wraps (q * width l) (width l) (x * width l) (width l)
one_level trees wraps l s x q u k o e =
    let none : 0 ≡ l - l = omega arith in
    MeetsOnAxis-over trees wraps l l q x o (le_refl l) s x u k e (subst (λ d. x / 2 ^ d ≡ x) none (div-one x))

-- a finer block meets a block that holds the finer one a step away
finer_level : (trees : ℕ) (wraps : Bool) (l : ℕ) (s : ℤ) (x r q : ℕ) → IsUnitStep s → r < 2 * (trees * 2 ^ l) → l + 1 ≤ 6 → IsNext (2 * (trees * 2 ^ l)) wraps s r q → q / 2 ≡ x → MeetsOnAxis trees wraps (r * width (l + 1)) (width (l + 1)) (x * width l) (width l)
finer_level trees wraps l s x r q u h o e k =
    let two : 2 * (trees * 2 ^ l) ≡ trees * 2 ^ (l + 1) = omega (arith, ap (λ p. trees * p) (pow-add 2 l 1)) in
    let one : 1 ≡ l + 1 - l = omega arith in
    MeetsOnAxis-over trees wraps (l + 1) l r x o (omega arith) s q u (subst (λ m. r < m) two h) (subst (λ m. IsNext m wraps s r q) two e)
    (subst (λ d. q / 2 ^ d ≡ x) one k)

pub same-LiesBeside : (trees : ℕ) (wraps : Bool) (l n x v : ℕ) → l ≤ 6 → x / n < trees * 2 ^ l → v / n ≡ x / n → LiesBeside trees wraps l n x v
same-LiesBeside trees wraps l n x v o h e = record {
  inside = omega arith;
  own = one_level trees wraps l (pos 0) (x / n) (v / n) unit_none (omega arith) o (subst (λ q. IsNext (trees * 2 ^ l) wraps (pos 0) q (x / n)) (sym e) (stays (trees * 2 ^ l) wraps (x / n) h));
  finer = λ b k o.
      let r = (2 * v + b) / n in
      let d : r / 2 ≡ x / n = half n v b k ∙ e in
      let low : r < 2 * (trees * 2 ^ l) = omega arith in
      finer_level trees wraps l (pos 0) (x / n) r r unit_none low o (stays (2 * (trees * 2 ^ l)) wraps r low) d;
}

-- ---- a step up

-- below the lower half of q lies the upper half of x
finer_down : (m : ℕ) (wraps : Bool) (x q : ℕ) → x < m → IsNext m wraps (pos 1) x q → IsNext (2 * m) wraps (negsuc 0) (2 * q) (2 * x + 1)
finer_down m wraps x q h e =
    let i = e.inside in record {
      inside = omega arith;
      at = elim e.at [
        | inl u ↦ inl (omega (arith, ints))
        | inr w ↦ inr (w.0, elim (w.1) [ inl u ↦ inr (omega (arith, ints)) | inr u ↦ absurd (omega (arith, ints)) ])
      ];
    }

up-LiesBeside : (trees : ℕ) (wraps : Bool) (l n x v : ℕ) → 2 ≤ n → l ≤ 6 → x / n < trees * 2 ^ l → IsNext (trees * 2 ^ l) wraps (pos 1) (x / n) (v / n) → v % n ≡ 0 → LiesBeside trees wraps l n x v
up-LiesBeside trees wraps l n x v two o h e z = record {
  inside = e.inside;
  own = one_level trees wraps l (negsuc 0) (x / n) (v / n) unit_down e.inside o (IsNext-back (trees * 2 ^ l) wraps (pos 1) (x / n) (v / n) h e);
  finer = λ b k o.
      let r = (2 * v + b) / n in
      let d : r / 2 ≡ v / n = half n v b k in
      let low : r % 2 ≡ 0 = first_half n v b two z k in
      let is : 2 * (v / n) ≡ r = omega arith in
      let i = e.inside in
      finer_level trees wraps l (negsuc 0) (x / n) r (2 * (x / n) + 1) unit_down (omega arith) o
      (subst (λ r. IsNext (2 * (trees * 2 ^ l)) wraps (negsuc 0) r (2 * (x / n) + 1)) is (finer_down (trees * 2 ^ l) wraps (x / n) (v / n) h e))
      (omega arith);
}

pub next-LiesBeside : (trees : ℕ) (wraps : Bool) (l n x : ℕ) → 2 ≤ n → l ≤ 6 → x / n < trees * 2 ^ l → next_coordinate wraps (trees * 2 ^ l * n) x < trees * 2 ^ l * n → LiesBeside trees wraps l n x (next_coordinate wraps (trees * 2 ^ l * n) x)
next-LiesBeside trees wraps l n x two o h k =
    let v = next_coordinate wraps (trees * 2 ^ l * n) x in
    elim (next-block wraps (trees * 2 ^ l) n x (omega arith) (inside_cell (trees * 2 ^ l) n x (omega arith) h) k) [
      | inl e ↦ same-LiesBeside trees wraps l n x v o h e
      | inr p ↦ up-LiesBeside trees wraps l n x v two o h p.0 p.1
    ]

-- ---- a step down

-- above the upper half of q lies the lower half of x
finer_up : (m : ℕ) (wraps : Bool) (x q : ℕ) → x < m → IsNext m wraps (negsuc 0) x q → IsNext (2 * m) wraps (pos 1) (2 * q + 1) (2 * x)
finer_up m wraps x q h e =
    let i = e.inside in record {
      inside = omega arith;
      at = elim e.at [
        | inl u ↦ inl (omega (arith, ints))
        | inr w ↦ inr (w.0, elim (w.1) [ inl u ↦ absurd (omega (arith, ints)) | inr u ↦ inl (omega (arith, ints)) ])
      ];
    }

down-LiesBeside : (trees : ℕ) (wraps : Bool) (l n x v : ℕ) → 2 ≤ n → l ≤ 6 → x / n < trees * 2 ^ l → IsNext (trees * 2 ^ l) wraps (negsuc 0) (x / n) (v / n) → v % n ≡ n - 1 → LiesBeside trees wraps l n x v
down-LiesBeside trees wraps l n x v two o h e z = record {
  inside = e.inside;
  own = one_level trees wraps l (pos 1) (x / n) (v / n) unit_up e.inside o (IsNext-back (trees * 2 ^ l) wraps (negsuc 0) (x / n) (v / n) h e);
  finer = λ b k o.
      let r = (2 * v + b) / n in
      let d : r / 2 ≡ v / n = half n v b k in
      let high : r % 2 ≡ 1 = last_half n v b two z k in
      let is : 2 * (v / n) + 1 ≡ r = omega arith in
      let i = e.inside in
      finer_level trees wraps l (pos 1) (x / n) r (2 * (x / n)) unit_up (omega arith) o
      (subst (λ r. IsNext (2 * (trees * 2 ^ l)) wraps (pos 1) r (2 * (x / n))) is (finer_up (trees * 2 ^ l) wraps (x / n) (v / n) h e))
      (omega arith);
}

pub previous-LiesBeside : (trees : ℕ) (wraps : Bool) (l n x : ℕ) → 2 ≤ n → l ≤ 6 → x / n < trees * 2 ^ l → previous_coordinate wraps (trees * 2 ^ l * n) x < trees * 2 ^ l * n → LiesBeside trees wraps l n x (previous_coordinate wraps (trees * 2 ^ l * n) x)
previous-LiesBeside trees wraps l n x two o h k =
    let v = previous_coordinate wraps (trees * 2 ^ l * n) x in
    elim (previous-block wraps (trees * 2 ^ l) n x (omega arith) (inside_cell (trees * 2 ^ l) n x (omega arith) h) k) [
      | inl e ↦ same-LiesBeside trees wraps l n x v o h e
      | inr p ↦ down-LiesBeside trees wraps l n x v two o h p.0 p.1
    ]
