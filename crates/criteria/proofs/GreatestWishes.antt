-- Greatest wishes of lists, and the wish of a block by a test as one of them.
use Rattle.std.proofs.Common.{◌≡◌, ℕ, zero, suc, ◌+◌, ◌-◌, ◌<◌, ◌≤◌, Bool, true, false, ◌&&◌, ◌||◌, refl, sym, ap, ◌∙◌, subst, arith, add-one}
use Rattle.block_index.specs.declared.wish.Wish.{Wish}
use Rattle.block_index.specs.declared.wish.Wish.TheVariants.{Coarsen, Stay, Refine}
use Rattle.criteria.specs.Cells.{some_below, each_below}
use Rattle.criteria.specs.Lemmas.CellWishes.{verdict, wish_below}
use Rattle.criteria.specs.Wishes.{cells_wish, greater}

pub greater-Coarsen : (w : Wish) → greater w Coarsen ≡ w
greater-Coarsen Coarsen = refl
greater-Coarsen Stay = refl
greater-Coarsen Refine = refl

pub greater-assoc : (a b c : Wish) → greater (greater a b) c ≡ greater a (greater b c)
greater-assoc Coarsen b c = refl
greater-assoc Stay Coarsen c = refl
greater-assoc Stay Stay Coarsen = refl
greater-assoc Stay Stay Stay = refl
greater-assoc Stay Stay Refine = refl
greater-assoc Stay Refine c = refl
greater-assoc Refine b c = refl

pub wish_below-next : (n : ℕ) (w : ℕ → Wish) → wish_below (n + 1) w ≡ greater (wish_below n w) (w n)
wish_below-next n w = ap (λ k. wish_below k w) (add-one n)

-- with one wish more
pub wish_below-more : (n : ℕ) (w : ℕ → Wish) (a b : Wish) → a ≡ wish_below n w → b ≡ w n → greater a b ≡ wish_below (n + 1) w
wish_below-more n w a b ha hb = (λ i. greater (ha i) (hb i)) ∙ sym (wish_below-next n w)

later : (w : ℕ → Wish) (i k : ℕ) → wish_below i w ≡ Refine → wish_below (k + i) w ≡ Refine
later w i zero e = subst (λ m. wish_below m w ≡ Refine) (let z : i ≡ 0 + i = omega arith in z) e
later w i (suc k) e =
    subst (λ m. wish_below m w ≡ Refine) (let z : suc (k + i) ≡ suc k + i = omega arith in z)
    (ap (λ a. greater a (w (k + i))) (later w i k e))

-- Refine is the greatest
pub wish_below-Refine : (w : ℕ → Wish) (i n : ℕ) → i ≤ n → wish_below i w ≡ Refine → wish_below n w ≡ Refine
wish_below-Refine w i n h e = subst (λ m. wish_below m w ≡ Refine) (let z : n - i + i ≡ n = omega arith in z) (later w i (n - i) e)

-- where the wishes up to one come to Refine, they all do
pub wish_below-stops : (n i : ℕ) (w : ℕ → Wish) (a b r : Wish) → i < n → a ≡ wish_below i w → b ≡ w i → r ≡ greater a b → r ≡ Refine → r ≡ wish_below n w
wish_below-stops n i w a b r h ha hb hr e =
    e ∙ sym (wish_below-Refine w (i + 1) n (omega arith) (sym (wish_below-more i w a b ha hb) ∙ (sym hr ∙ e)))

pub wish_below-same : (n : ℕ) (v w : ℕ → Wish) → ((k : ℕ) → k < n → v k ≡ w k) → wish_below n v ≡ wish_below n w
wish_below-same zero v w e = refl
wish_below-same (suc n) v w e =
    let rest : wish_below n v ≡ wish_below n w = wish_below-same n v w (λ k h. e k (omega arith)) in
    let here : v n ≡ w n = e n (omega arith) in
    λ i. greater (rest i) (here i)

-- ---- by tests

pub verdict-or : (a b c d : Bool) → verdict (a || b) (c && d) ≡ greater (verdict a c) (verdict b d)
verdict-or true b c d = refl
verdict-or false true true d = refl
verdict-or false true false d = refl
verdict-or false false true true = refl
verdict-or false false true false = refl
verdict-or false false false true = refl
verdict-or false false false false = refl

pub verdict-below : (n : ℕ) (p q : ℕ → Bool) → verdict (some_below n p) (each_below n q) ≡ wish_below n (λ x. verdict (p x) (q x))
verdict-below zero p q = refl
verdict-below (suc n) p q =
    verdict-or (some_below n p) (p n) (each_below n q) (q n)
    ∙ ap (λ w. greater w (verdict (p n) (q n))) (verdict-below n p q)

pub cells_wish-below : (n : ℕ) (p q : ℕ → ℕ → ℕ → Bool) → cells_wish n p q ≡ wish_below n (λ z. wish_below n (λ y. wish_below n (λ x. verdict (p x y z) (q x y z))))
cells_wish-below n p q =
    verdict-below n (λ z. some_below n (λ y. some_below n (λ x. p x y z))) (λ z. each_below n (λ y. each_below n (λ x. q x y z)))
    ∙ wish_below-same n (λ z. verdict (some_below n (λ y. some_below n (λ x. p x y z))) (each_below n (λ y. each_below n (λ x. q x y z))))
    (λ z. wish_below n (λ y. wish_below n (λ x. verdict (p x y z) (q x y z))))
    (λ z h. verdict-below n (λ y. some_below n (λ x. p x y z)) (λ y. each_below n (λ x. q x y z))
    ∙ wish_below-same n (λ y. verdict (some_below n (λ x. p x y z)) (each_below n (λ x. q x y z)))
    (λ y. wish_below n (λ x. verdict (p x y z) (q x y z)))
    (λ y k. verdict-below n (λ x. p x y z) (λ x. q x y z)))
