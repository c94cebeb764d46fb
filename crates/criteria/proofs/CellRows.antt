-- The contrasts of a row of cells, from the rows of samples that they look at.
use Rattle.std.proofs.Common.{◌≡◌, ℕ, suc, ◌+◌, ◌-◌, ◌<◌, max, min, ap, ◌∙◌, arith, add-one, List, get_or, ℤ, pos}
use Rattle.block_fields.specs.Blocks.{BlockState, seen_at}
use Rattle.params_check.specs.declared.criterion.Test.TheVariants.{Contrast}
use Rattle.criteria.specs.Cells.{greatest_near, least_near}
use Rattle.criteria.specs.Lemmas.CellWishes.{number_wish, row_wish, wish_below}
use Rattle.criteria.specs.Lemmas.Rows.{HoldsColumn, greatest_three, least_three}
use Rattle.criteria.specs.Samples.{before}
use Rattle.criteria.proofs.GreatestWishes.{wish_below-same}

-- coordinates counted from one before the first cell
pub before-one : (x : ℕ) → before (x + 1) ≡ pos x
before-one x = ap before (add-one x)

pub before-two : (x : ℕ) → before (x + 2) ≡ pos (x + 1)
before-two x = ap before (let e : x + 2 ≡ suc (x + 1) = omega arith in e)

pub greatest_three-same : (q r : ℕ → ℕ) (x : ℕ) → q x ≡ r x → q (x + 1) ≡ r (x + 1) → q (x + 2) ≡ r (x + 2) → greatest_three q x ≡ greatest_three r x
greatest_three-same q r x a b c = λ i. max (a i) (max (b i) (c i))

pub least_three-same : (q r : ℕ → ℕ) (x : ℕ) → q x ≡ r x → q (x + 1) ≡ r (x + 1) → q (x + 2) ≡ r (x + 2) → least_three q x ≡ least_three r x
least_three-same q r x a b c = λ i. min (a i) (min (b i) (c i))

-- three numbers from one on, as those near it
pub greatest_three-near : (s : ℤ → ℕ) (x : ℕ) → greatest_three (λ u. s (before u)) x ≡ greatest_near s x
greatest_three-near s x = λ i. max (s (before x)) (max (s (before-one x i)) (s (before-two x i)))

pub least_three-near : (s : ℤ → ℕ) (x : ℕ) → least_three (λ u. s (before u)) x ≡ least_near s x
least_three-near s x = λ i. min (s (before x)) (min (s (before-one x i)) (s (before-two x i)))

pub column-greatest : (b : BlockState) (f x y z p q r : ℕ) → p ≡ seen_at b f (before x) (before y) (before z) → q ≡ seen_at b f (before x) (before y) (before (z + 1)) → r ≡ seen_at b f (before x) (before y) (before (z + 2)) → max p (max q r) ≡ greatest_near (λ w. seen_at b f (before x) (before y) w) z
column-greatest b f x y z p q r hp hq hr =
    (λ i. max (hp i) (max (hq i) (hr i))) ∙ greatest_three-near (λ w. seen_at b f (before x) (before y) w) z

pub column-least : (b : BlockState) (f x y z p q r : ℕ) → p ≡ seen_at b f (before x) (before y) (before z) → q ≡ seen_at b f (before x) (before y) (before (z + 1)) → r ≡ seen_at b f (before x) (before y) (before (z + 2)) → min p (min q r) ≡ least_near (λ w. seen_at b f (before x) (before y) w) z
column-least b f x y z p q r hp hq hr =
    (λ i. min (hp i) (min (hq i) (hr i))) ∙ least_three-near (λ w. seen_at b f (before x) (before y) w) z

module _ (b : BlockState) (f r k y z : ℕ) (low_most low_least here_most here_least high_most high_least : List ℕ) (low : HoldsColumn b f y z low_most low_least) (here : HoldsColumn b f (y + 1) z here_most here_least) (high : HoldsColumn b f (y + 2) z high_most high_least) where
  abbrev most : ℕ → ℕ
  most u = max (get_or low_most u 0) (max (get_or here_most u 0) (get_or high_most u 0))

  abbrev fewest : ℕ → ℕ
  fewest u = min (get_or low_least u 0) (min (get_or here_least u 0) (get_or high_least u 0))

  most-plane : (u : ℕ) → u < b.edge + 2 → most u ≡ greatest_near (λ v. greatest_near (λ w. seen_at b f (before u) v w) z) y
  most-plane u h =
      let q : ℤ → ℕ = λ v. greatest_near (λ w. seen_at b f (before u) v w) z in
      (λ i. max (low.greatest u h i) (max (here.greatest u h i) (high.greatest u h i))) ∙ greatest_three-near q y

  fewest-plane : (u : ℕ) → u < b.edge + 2 → fewest u ≡ least_near (λ v. least_near (λ w. seen_at b f (before u) v w) z) y
  fewest-plane u h =
      let q : ℤ → ℕ = λ v. least_near (λ w. seen_at b f (before u) v w) z in
      (λ i. min (low.least u h i) (min (here.least u h i) (high.least u h i))) ∙ least_three-near q y

  pub contrast-row : (n : ℕ) → n ≡ b.edge → wish_below n (λ x. number_wish r k (greatest_three most x - least_three fewest x)) ≡ row_wish b.edge (seen_at b) (Contrast f r k) y z
  contrast-row n hn =
      let hi : ℤ → ℕ = λ u. greatest_near (λ v. greatest_near (λ w. seen_at b f u v w) z) y in
      let lo : ℤ → ℕ = λ u. least_near (λ v. least_near (λ w. seen_at b f u v w) z) y in
      ap (λ m. wish_below m (λ x. number_wish r k (greatest_three most x - least_three fewest x))) hn
      ∙ wish_below-same b.edge (λ x. number_wish r k (greatest_three most x - least_three fewest x)) (λ x. number_wish r k (greatest_near hi x - least_near lo x))
      (λ x h.
      let g = greatest_three-same most (λ u. hi (before u)) x (most-plane x (omega arith)) (most-plane (x + 1) (omega arith)) (most-plane (x + 2) (omega arith)) ∙ greatest_three-near hi x in
      let l = least_three-same fewest (λ u. lo (before u)) x (fewest-plane x (omega arith)) (fewest-plane (x + 1) (omega arith)) (fewest-plane (x + 2) (omega arith)) ∙ least_three-near lo x in
      λ i. number_wish r k (g i - l i))
