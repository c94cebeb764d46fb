-- Steep cells, and the wish of a plane of cells by them.
use Rattle.std.proofs.Common.{◌≡◌, ◌⊎◌, ℕ, zero, suc, ◌+◌, ◌-◌, ◌*◌, ◌<◌, ◌≤◌, min, Bool, true, false, not, ◌&&◌, ◌||◌, nat_le, nat_lt, refl, sym, ap, ◌∙◌, arith, add-one, inl, inr, pos}
use Rattle.std.proofs.lemmas.Nat.{mul-le}
use Rattle.std.proofs.lemmas.Bool.{or_right, or_left, true≢false, false≢true}
use Rattle.std.proofs.lemmas.Bool.Decides.{nat_tests}
use Rattle.block_index.specs.declared.wish.Wish.TheVariants.{Coarsen, Stay, Refine}
use Rattle.block_fields.specs.Blocks.{BlockState, seen_at}
use Rattle.params_check.specs.declared.criterion.Test.TheVariants.{Slope}
use Rattle.criteria.specs.Cells.{across_x, across_y, across_z, each_below, each_flat, gap, is_flat, is_steep, own, some_below, some_steep}
use Rattle.criteria.specs.Lemmas.CellWishes.{plane_wish, steep_plane, steep_row, verdict, wish_below}
use Rattle.criteria.specs.Samples.{FieldSamples, Samples, before}
use Rattle.criteria.specs.Wishes.{greater}
use Rattle.criteria.proofs.CellRows.{before-one, before-two}
use Rattle.criteria.proofs.GreatestWishes.{verdict-below, wish_below-same}

-- ---- some of the first numbers

pub some_below-none : (n : ℕ) (p : ℕ → Bool) → some_below n p ≡ false → p n ≡ false → some_below (n + 1) p ≡ false
some_below-none n p a b = ap (λ k. some_below k p) (add-one n) ∙ (λ i. a i || b i)

-- behind numbers that don't pass, the last one decides
pub some_below-last : (n : ℕ) (p : ℕ → Bool) → some_below n p ≡ false → p n ≡ some_below (n + 1) p
some_below-last n p e = sym (ap (λ k. some_below k p) (add-one n) ∙ ap (λ t. t || p n) e)

some_below-later : (p : ℕ → Bool) (i k : ℕ) → some_below i p ≡ true → some_below (k + i) p ≡ true
some_below-later p i zero e = ap (λ k. some_below k p) (let z : 0 + i ≡ i = omega arith in z) ∙ e
some_below-later p i (suc k) e =
    ap (λ k. some_below k p) (let z : suc k + i ≡ suc (k + i) = omega arith in z)
    ∙ or_left (some_below (k + i) p) (p (k + i)) (some_below-later p i k e)

pub some_below-one : (n i : ℕ) (p : ℕ → Bool) → i < n → p i ≡ true → some_below n p ≡ true
some_below-one n i p h e =
    ap (λ k. some_below k p) (let z : n ≡ n - suc i + suc i = omega arith in z)
    ∙ some_below-later p (suc i) (n - suc i) (or_right (some_below i p) (p i) e)

some_below-same : (n : ℕ) (p q : ℕ → Bool) → ((k : ℕ) → p k ≡ q k) → some_below n p ≡ some_below n q
some_below-same zero p q e = refl
some_below-same (suc n) p q e =
    let rest : some_below n p ≡ some_below n q = some_below-same n p q e in
    let here : p n ≡ q n = e n in
    λ i. rest i || here i

each_below-same : (n : ℕ) (p q : ℕ → Bool) → ((k : ℕ) → p k ≡ q k) → each_below n p ≡ each_below n q
each_below-same zero p q e = refl
each_below-same (suc n) p q e =
    let rest : each_below n p ≡ each_below n q = each_below-same n p q e in
    let here : p n ≡ q n = e n in
    λ i. rest i && here i

or-pairs : (a b c d : Bool) → (a || b) || (c || d) ≡ (a || c) || (b || d)
or-pairs true true c d = refl
or-pairs true false true d = refl
or-pairs true false false true = refl
or-pairs true false false false = refl
or-pairs false true true d = refl
or-pairs false true false d = refl
or-pairs false false true d = refl
or-pairs false false false d = refl

some_below-or : (n : ℕ) (p q : ℕ → Bool) → some_below n (λ x. p x || q x) ≡ some_below n p || some_below n q
some_below-or zero p q = refl
some_below-or (suc n) p q = ap (λ t. t || (p n || q n)) (some_below-or n p q) ∙ or-pairs (some_below n p) (some_below n q) (p n) (q n)

and-not : (a b : Bool) → not a && not b ≡ not (a || b)
and-not true b = refl
and-not false true = refl
and-not false false = refl

each_below-not : (n : ℕ) (p : ℕ → Bool) → each_below n (λ x. not (p x)) ≡ not (some_below n p)
each_below-not zero p = refl
each_below-not (suc n) p = ap (λ t. t && not (p n)) (each_below-not n p) ∙ and-not (some_below n p) (p n)

-- ---- the lesser of two thresholds

one_is_less : (a b : ℕ) → (a ≤ b) ⊎ (b ≤ a)
one_is_less a b = grind arith

lt-or : (a b c : ℕ) → a ≤ b → nat_lt a c ≡ nat_lt a c || nat_lt b c
lt-or a b c h = grind (arith, nat_tests)

or-lt : (a b c : ℕ) → b ≤ a → nat_lt b c ≡ nat_lt a c || nat_lt b c
or-lt a b c h = grind (arith, nat_tests)

is_steep-min : (r k q d : ℕ) → is_steep (min r k) q d ≡ is_steep r q d || is_steep k q d
is_steep-min r k q d =
    elim (one_is_less r k) [
      | inl h ↦
          let e : min r k ≡ r = omega arith in
          let m : r * q ≤ k * q = mul-le r q k q h (omega arith) in
          ap (λ m. is_steep m q d) e ∙ lt-or (r * q) (k * q) (100 * d) m
      | inr h ↦
          let e : min r k ≡ k = omega arith in
          let m : k * q ≤ r * q = mul-le k q r q h (omega arith) in
          ap (λ m. is_steep m q d) e ∙ or-lt (r * q) (k * q) (100 * d) m
    ]

module _ (s : FieldSamples) (r k : ℕ) where
  some_steep-min : (x y z : ℕ) → some_steep s (min r k) x y z ≡ some_steep s r x y z || some_steep s k x y z
  some_steep-min x y z =
      let q = own s x y z in
      let ex = is_steep-min r k q (across_x s x y z) in
      let ey = is_steep-min r k q (across_y s x y z) in
      let ez = is_steep-min r k q (across_z s x y z) in
      (λ i. ex i || ey i || ez i)
      ∙ ap (λ t. t || (is_steep r q (across_z s x y z) || is_steep k q (across_z s x y z)))
      (or-pairs (is_steep r q (across_x s x y z)) (is_steep k q (across_x s x y z)) (is_steep r q (across_y s x y z)) (is_steep k q (across_y s x y z)))
      ∙ or-pairs (is_steep r q (across_x s x y z) || is_steep r q (across_y s x y z)) (is_steep k q (across_x s x y z) || is_steep k q (across_y s x y z))
      (is_steep r q (across_z s x y z)) (is_steep k q (across_z s x y z))

  -- in a plane there is a cell steeper than the lesser one where there is one steeper than one of them
  pub steep_plane-min : (n z : ℕ) → steep_plane n s (min r k) z ≡ steep_plane n s r z || steep_plane n s k z
  steep_plane-min n z =
      some_below-same n (λ y. steep_row n s (min r k) y z) (λ y. steep_row n s r y z || steep_row n s k y z)
      (λ y. some_below-same n (λ x. some_steep s (min r k) x y z) (λ x. some_steep s r x y z || some_steep s k x y z) (λ x. some_steep-min x y z)
      ∙ some_below-or n (λ x. some_steep s r x y z) (λ x. some_steep s k x y z))
      ∙ some_below-or n (λ y. steep_row n s r y z) (λ y. steep_row n s k y z)

-- ---- flat cells

le-not : (a b : ℕ) → nat_le a b ≡ not (nat_lt b a)
le-not a b = grind (arith, nat_tests)

each_flat-not : (s : FieldSamples) (k x y z : ℕ) → each_flat s k x y z ≡ not (some_steep s k x y z)
each_flat-not s k x y z =
    let q = own s x y z in
    let dx = across_x s x y z in
    let dy = across_y s x y z in
    let dz = across_z s x y z in
    let fx : is_flat k q dx ≡ not (is_steep k q dx) = le-not (100 * dx) (k * q) in
    let fy : is_flat k q dy ≡ not (is_steep k q dy) = le-not (100 * dy) (k * q) in
    let fz : is_flat k q dz ≡ not (is_steep k q dz) = le-not (100 * dz) (k * q) in
    (λ i. fx i && fy i && fz i)
    ∙ ap (λ t. t && not (is_steep k q dz)) (and-not (is_steep k q dx) (is_steep k q dy))
    ∙ and-not (is_steep k q dx || is_steep k q dy) (is_steep k q dz)

-- The wish of a plane, by whether some cell of it is steeper than either threshold.
pub plane_wish-Slope : (n : ℕ) (s : Samples) (f r k z : ℕ) → verdict (steep_plane n (s f) r z) (not (steep_plane n (s f) k z)) ≡ plane_wish n s (Slope f r k) z
plane_wish-Slope n s f r k z =
    let t = s f in
    let flat : each_below n (λ y. each_below n (λ x. each_flat t k x y z)) ≡ not (steep_plane n t k z) =
    each_below-same n (λ y. each_below n (λ x. each_flat t k x y z)) (λ y. not (steep_row n t k y z))
    (λ y. each_below-same n (λ x. each_flat t k x y z) (λ x. not (some_steep t k x y z)) (λ x. each_flat-not t k x y z) ∙ each_below-not n (λ x. some_steep t k x y z))
    ∙ each_below-not n (λ y. steep_row n t k y z) in
    ap (verdict (steep_plane n t r z)) (sym flat)
    ∙ verdict-below n (λ y. steep_row n t r y z) (λ y. each_below n (λ x. each_flat t k x y z))
    ∙ wish_below-same n (λ y. verdict (steep_row n t r y z) (each_below n (λ x. each_flat t k x y z)))
    (λ y. wish_below n (λ x. verdict (some_steep t r x y z) (each_flat t k x y z)))
    (λ y h. verdict-below n (λ x. some_steep t r x y z) (λ x. each_flat t k x y z))

-- ---- a plane in one or two looks

-- no cell is steeper than either threshold
pub verdict-none : (p q : Bool) → p || q ≡ false → Coarsen ≡ verdict p (not q)
verdict-none true q e = absurd (true≢false e)
verdict-none false true e = absurd (true≢false e)
verdict-none false false e = refl

-- some cell is steeper than one of them
pub verdict-Stay : (p q : Bool) → p || q ≡ true → greater Stay (verdict p (not q)) ≡ verdict p (not q)
verdict-Stay true q e = refl
verdict-Stay false true e = refl
verdict-Stay false false e = absurd (false≢true e)

-- beside Stay only the first threshold counts
pub verdict-Refine : (p a : Bool) → p ≡ true → Refine ≡ greater Stay (verdict p a)
verdict-Refine true a e = refl
verdict-Refine false a e = absurd (false≢true e)

pub verdict-not_Refine : (p a : Bool) → p ≡ false → Stay ≡ greater Stay (verdict p a)
verdict-not_Refine true a e = absurd (true≢false e)
verdict-not_Refine false true e = refl
verdict-not_Refine false false e = refl

-- ---- a cell, from the samples next to it

pub some_steep-samples : (b : BlockState) (f h x y z left here right low_y high_y low_z high_z : ℕ) → left ≡ seen_at b f (before x) (before (y + 1)) (before (z + 1)) → here ≡ seen_at b f (pos x) (before (y + 1)) (before (z + 1)) → right ≡ seen_at b f (pos (x + 1)) (before (y + 1)) (before (z + 1)) → low_y ≡ seen_at b f (pos x) (before y) (before (z + 1)) → high_y ≡ seen_at b f (pos x) (before (y + 2)) (before (z + 1)) → low_z ≡ seen_at b f (pos x) (before (y + 1)) (before z) → high_z ≡ seen_at b f (pos x) (before (y + 1)) (before (z + 2)) → (is_steep h here (gap right left) || is_steep h here (gap high_y low_y) || is_steep h here (gap high_z low_z)) ≡ some_steep (seen_at b f) h x y z
some_steep-samples b f h x y z left here right low_y high_y low_z high_z l m r ly hy lz hz =
    let s = seen_at b f in
    let q : here ≡ s (pos x) (pos y) (pos z) = m ∙ (λ i. s (pos x) (before-one y i) (before-one z i)) in
    let lx : left ≡ s (before x) (pos y) (pos z) = l ∙ (λ i. s (before x) (before-one y i) (before-one z i)) in
    let hx : right ≡ s (pos (x + 1)) (pos y) (pos z) = r ∙ (λ i. s (pos (x + 1)) (before-one y i) (before-one z i)) in
    let a : low_y ≡ s (pos x) (before y) (pos z) = ly ∙ (λ i. s (pos x) (before y) (before-one z i)) in
    let b : high_y ≡ s (pos x) (pos (y + 1)) (pos z) = hy ∙ (λ i. s (pos x) (before-two y i) (before-one z i)) in
    let c : low_z ≡ s (pos x) (pos y) (before z) = lz ∙ (λ i. s (pos x) (before-one y i) (before z)) in
    let d : high_z ≡ s (pos x) (pos y) (pos (z + 1)) = hz ∙ (λ i. s (pos x) (before-one y i) (before-two z i)) in
    λ i. is_steep h (q i) (gap (hx i) (lx i)) || is_steep h (q i) (gap (b i) (a i)) || is_steep h (q i) (gap (d i) (c i))
