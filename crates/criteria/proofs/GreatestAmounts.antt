-- The wish by the amounts of cells is that by the greatest amount.
use Rattle.std.proofs.Common.{◌≡◌, ℕ, zero, suc, ◌+◌, ◌*◌, max, true, false, ◌&&◌, ◌||◌, nat_le, nat_lt, sym, ap, ◌∙◌, arith, add-one, get_or, pos}
use Rattle.std.proofs.lemmas.Bool.Decides.{nat_tests}
use Rattle.block_index.specs.declared.wish.Wish.{Wish}
use Rattle.block_index.specs.declared.wish.Wish.TheVariants.{Coarsen}
use Rattle.block_fields.specs.Blocks.{BlockState, amounts_of, seen_at}
use Rattle.block_fields.proofs.Seen.{seen-within}
use Rattle.params_check.specs.declared.criterion.Test.TheVariants.{Mass}
use Rattle.criteria.specs.Lemmas.CellWishes.{greatest_below, number_wish, plane_wish, verdict, wish_below}
use Rattle.criteria.specs.Wishes.{greater}
use Rattle.criteria.proofs.GreatestWishes.{greater-Coarsen, greater-assoc, verdict-or, wish_below-same}

lt-max : (r a b : ℕ) → nat_lt r (max a b) ≡ nat_lt r a || nat_lt r b
lt-max r a b = grind (arith, nat_tests)

max-le : (k a b : ℕ) → nat_le (max a b) k ≡ nat_le a k && nat_le b k
max-le k a b = grind (arith, nat_tests)

number_wish-max : (r k a b : ℕ) → number_wish r k (max a b) ≡ greater (number_wish r k a) (number_wish r k b)
number_wish-max r k a b =
    (λ i. verdict (lt-max r a b i) (max-le k a b i)) ∙ verdict-or (nat_lt r a) (nat_lt r b) (nat_le a k) (nat_le b k)

number_wish-zero : (r k : ℕ) → number_wish r k 0 ≡ Coarsen
number_wish-zero r k =
    let e : nat_lt r 0 ≡ false = grind (arith, nat_tests) in
    let h : nat_le 0 k ≡ true = grind (arith, nat_tests) in
    λ i. verdict (e i) (h i)

pub number_wish-below : (r k n : ℕ) (q : ℕ → ℕ) → number_wish r k (greatest_below n q) ≡ wish_below n (λ x. number_wish r k (q x))
number_wish-below r k zero q = number_wish-zero r k
number_wish-below r k (suc n) q =
    number_wish-max r k (greatest_below n q) (q n) ∙ ap (λ w. greater w (number_wish r k (q n))) (number_wish-below r k n q)

-- one number more
pub greatest_below-next : (n : ℕ) (q : ℕ → ℕ) → greatest_below (n + 1) q ≡ max (greatest_below n q) (q n)
greatest_below-next n q = ap (λ k. greatest_below k q) (add-one n)

-- ---- a list as rows

wish_below-append : (m n : ℕ) (w : ℕ → Wish) → wish_below (m + n) w ≡ greater (wish_below m w) (wish_below n (λ x. w (m + x)))
wish_below-append m zero w = ap (λ k. wish_below k w) (let e : m + 0 ≡ m = omega arith in e) ∙ sym (greater-Coarsen (wish_below m w))
wish_below-append m (suc n) w =
    ap (λ k. wish_below k w) (let e : m + suc n ≡ suc (m + n) = omega arith in e)
    ∙ ap (λ a. greater a (w (m + n))) (wish_below-append m n w)
    ∙ greater-assoc (wish_below m w) (wish_below n (λ x. w (m + x))) (w (m + n))

wish_below-rows : (m n : ℕ) (w : ℕ → Wish) → wish_below (m * n) w ≡ wish_below m (λ y. wish_below n (λ x. w (y * n + x)))
wish_below-rows zero n w = ap (λ k. wish_below k w) (let e : 0 * n ≡ 0 = omega arith in e)
wish_below-rows (suc m) n w =
    ap (λ k. wish_below k w) (let e : suc m * n ≡ m * n + n = omega arith in e)
    ∙ wish_below-append (m * n) n w
    ∙ ap (λ a. greater a (wish_below n (λ x. w (m * n + x)))) (wish_below-rows m n w)

wish_below-block : (n : ℕ) (w : ℕ → Wish) → wish_below (n * n * n) w ≡ wish_below n (λ z. wish_below n (λ y. wish_below n (λ x. w ((z * n + y) * n + x))))
wish_below-block n w = wish_below-rows (n * n) n w ∙ wish_below-rows n n (λ y. wish_below n (λ x. w (y * n + x)))

pub mass-block : (b : BlockState) (f r k : ℕ) → wish_below (b.edge * b.edge * b.edge) (λ i. number_wish r k (get_or (amounts_of b f) i 0)) ≡ wish_below b.edge (plane_wish b.edge (seen_at b) (Mass f r k))
mass-block b f r k =
    let n = b.edge in
    let cell : ℕ → Wish = λ i. number_wish r k (get_or (amounts_of b f) i 0) in
    wish_below-block n cell
    ∙ wish_below-same n (λ z. wish_below n (λ y. wish_below n (λ x. cell ((z * n + y) * n + x)))) (plane_wish n (seen_at b) (Mass f r k))
    (λ z hz. wish_below-same n (λ y. wish_below n (λ x. cell ((z * n + y) * n + x))) (λ y. wish_below n (λ x. number_wish r k (seen_at b f (pos x) (pos y) (pos z))))
    (λ y hy. wish_below-same n (λ x. cell ((z * n + y) * n + x)) (λ x. number_wish r k (seen_at b f (pos x) (pos y) (pos z)))
    (λ x hx. ap (number_wish r k) (sym (seen-within b f x y z hx hy hz)))))
