-- Two permutations that begin with the same list: what is left over is a permutation too.
use Rattle.std.proofs.Common.{◌≡◌, ℕ, zero, suc, ◌<◌, ◌⊎◌, List, [], ◌∷◌, ◌++◌, length, set, get_or, sym, refl, ap, ◌∙◌, subst, ⊎_elim, inl, inr, arith, append_assoc}
use Rattle.std.specs.Prelude.{IsPermutation}
use Rattle.std.specs.List.{swap}
use Rattle.std.proofs.lemmas.List.Edits.{swap_is}
use Rattle.std.proofs.lemmas.List.Sorted.{IsPermutation-refl, IsPermutation-sym, IsPermutation-trans, IsPermutation-cons, IsPermutation-middle, IsPermutation-keeps}

module _ {X : Type 0} where
  -- each element of the first list is picked out of the second
  abbrev Picks : List X → List X → Type 0
  Picks [] ys = ys ≡ []
  Picks (x ∷ xs) ys = (a : List X) × (b : List X) × (ys ≡ a ++ x ∷ b) × Picks xs (a ++ b)

  picks_refl : (xs : List X) → Picks xs xs
  picks_refl [] = refl
  picks_refl (x ∷ xs) = ([], xs, refl, picks_refl xs)

  split_two : (c d e f : List X) (x : X) → c ++ d ≡ e ++ x ∷ f → ((c2 : List X) × (c ≡ e ++ x ∷ c2) × (f ≡ c2 ++ d)) ⊎ ((d1 : List X) × (d ≡ d1 ++ x ∷ f) × (e ≡ c ++ d1))
  split_two [] d e f x q = inr (e, q, refl)
  split_two (t ∷ c) d [] f x q = let h : t ≡ x = cc in let r : f ≡ c ++ d = cc in inl (c, ap (λ z. z ∷ c) h, r)
  split_two (t ∷ c) d (u ∷ e) f x q = let h : t ≡ u = cc in let r : c ++ d ≡ e ++ x ∷ f = cc in
      ⊎_elim (λ (s : (c2 : List X) × (c ≡ e ++ x ∷ c2) × (f ≡ c2 ++ d)). inl (s.0, ap (λ z. z ∷ c) h ∙ ap (λ l. u ∷ l) s.1, s.2))
      (λ (s : (d1 : List X) × (d ≡ d1 ++ x ∷ f) × (e ≡ c ++ d1)). inr (s.0, s.1, ap (λ z. z ∷ e) (sym h) ∙ ap (λ l. t ∷ l) s.2)) (split_two c d e f x r)

  picks_from : (a b zs : List X) (x : X) → Picks (a ++ x ∷ b) zs → (c : List X) × (d : List X) × (zs ≡ c ++ x ∷ d) × Picks (a ++ b) (c ++ d)
  picks_from [] b zs x s = s
  picks_from (y ∷ a) b zs x s =
      let r = picks_from a b (s.0 ++ s.1) x s.3 in
      ⊎_elim
      (λ (t : (c2 : List X) × (s.0 ≡ r.0 ++ x ∷ c2) × (r.1 ≡ c2 ++ s.1)). (
        r.0,
        t.0 ++ y ∷ s.1,
        s.2 ∙ (ap (λ l. l ++ y ∷ s.1) t.1 ∙ append_assoc r.0 (x ∷ t.0) (y ∷ s.1)),
        (r.0 ++ t.0, s.1, sym (append_assoc r.0 t.0 (y ∷ s.1)), subst (Picks (a ++ b)) (ap (λ l. r.0 ++ l) t.2 ∙ sym (append_assoc r.0 t.0 s.1)) r.3),
      ))
      (λ (t : (d1 : List X) × (s.1 ≡ d1 ++ x ∷ r.1) × (r.0 ≡ s.0 ++ d1)). (
        s.0 ++ y ∷ t.0,
        r.1,
        s.2 ∙ (ap (λ l. s.0 ++ y ∷ l) t.1 ∙ sym (append_assoc s.0 (y ∷ t.0) (x ∷ r.1))),
        (s.0, t.0 ++ r.1, append_assoc s.0 (y ∷ t.0) r.1, subst (Picks (a ++ b)) (ap (λ l. l ++ r.1) t.2 ∙ append_assoc s.0 t.0 r.1) r.3),
      ))
      (split_two s.0 s.1 r.0 r.1 x r.2)

  picks_trans : (xs ys zs : List X) → Picks xs ys → Picks ys zs → Picks xs zs
  picks_trans [] ys zs s t = subst (λ l. Picks l zs) s t
  picks_trans (x ∷ xs) ys zs s t = let r = picks_from s.0 s.1 zs x (subst (λ l. Picks l zs) s.2 t) in (r.0, r.1, r.2, picks_trans xs (s.0 ++ s.1) (r.0 ++ r.1) s.3 r.3)

  fetch : (x d : X) (xs : List X) (j : ℕ) → j < length xs → Picks (x ∷ xs) (get_or xs j d ∷ set xs j x)
  fetch x d [] j h = absurd (omega arith)
  fetch x d (y ∷ ys) zero h = (y ∷ [], ys, refl, picks_refl (y ∷ ys))
  fetch x d (y ∷ ys) (suc j) h =
      let z : X = get_or ys j d in let w : List X = set ys j x in
      let later : Picks (x ∷ ys) (z ∷ w) = fetch x d ys j (omega arith) in
      let one : Picks (x ∷ y ∷ ys) (y ∷ x ∷ ys) = (y ∷ [], ys, refl, picks_refl (y ∷ ys)) in
      let two : Picks (y ∷ x ∷ ys) (y ∷ z ∷ w) = ([], z ∷ w, refl, later) in
      let three : Picks (y ∷ z ∷ w) (z ∷ y ∷ w) = (z ∷ [], w, refl, picks_refl (z ∷ w)) in
      picks_trans (x ∷ y ∷ ys) (y ∷ x ∷ ys) (z ∷ y ∷ w) one (picks_trans (y ∷ x ∷ ys) (y ∷ z ∷ w) (z ∷ y ∷ w) two three)

  picks_swap : (l : List X) (i j : ℕ) (d : X) → i < length l → j < length l → Picks l (set (set l i (get_or l j d)) j (get_or l i d))
  picks_swap [] i j d p q = absurd (omega arith)
  picks_swap (x ∷ xs) zero zero d p q = picks_refl (x ∷ xs)
  picks_swap (x ∷ xs) zero (suc j) d p q = fetch x d xs j (omega arith)
  picks_swap (x ∷ xs) (suc i) zero d p q = fetch x d xs i (omega arith)
  picks_swap (x ∷ xs) (suc i) (suc j) d p q = ([], set (set xs i (get_or xs j d)) j (get_or xs i d), refl, picks_swap xs i j d (omega arith) (omega arith))

  first_of_some : (l : List X) → 0 < length l → X
  first_of_some [] h = absurd (omega arith)
  first_of_some (x ∷ xs) h = x

  picks_of : (xs ys : List X) → IsPermutation xs ys → Picks xs ys
  picks_of xs = IsPermutation-keeps xs (λ l. Picks xs l) (picks_refl xs)
      (λ l i j p q h. let d : X = first_of_some l (omega arith) in picks_trans xs l (swap l i j) h (subst (Picks l) (swap_is l i j d p q) (picks_swap l i j d p q)))

  permutation_of : (xs ys : List X) → Picks xs ys → IsPermutation xs ys
  permutation_of [] ys s = subst (IsPermutation []) (sym s) (IsPermutation-refl [])
  permutation_of (x ∷ xs) ys s =
      subst (IsPermutation (x ∷ xs)) (sym s.2) (IsPermutation-trans _ _ _ (IsPermutation-cons x xs (s.0 ++ s.1) (permutation_of xs (s.0 ++ s.1) s.3)) (IsPermutation-sym _ _ (IsPermutation-middle s.0 x s.1)))

  one_less : (x : X) (xs ys a b : List X) → x ∷ ys ≡ a ++ x ∷ b → IsPermutation xs (a ++ b) → IsPermutation xs ys
  one_less x xs ys [] b e s = let q : b ≡ ys = cc in subst (IsPermutation xs) q s
  one_less x xs ys (t ∷ a) b e s =
      let h : t ≡ x = cc in let r : a ++ x ∷ b ≡ ys = cc in
      subst (IsPermutation xs) r (IsPermutation-trans _ _ _ (subst (λ z. IsPermutation xs (z ∷ (a ++ b))) h s) (IsPermutation-sym _ _ (IsPermutation-middle a x b)))

  -- what both begin with may go
  pub cancel_cons : (x : X) (xs ys : List X) → IsPermutation (x ∷ xs) (x ∷ ys) → IsPermutation xs ys
  cancel_cons x xs ys p = let s = picks_of (x ∷ xs) (x ∷ ys) p in one_less x xs ys s.0 s.1 s.2 (permutation_of xs (s.0 ++ s.1) s.3)

  pub cancel_left : (c xs ys : List X) → IsPermutation (c ++ xs) (c ++ ys) → IsPermutation xs ys
  cancel_left [] xs ys p = p
  cancel_left (x ∷ c) xs ys p = cancel_left c xs ys (cancel_cons x (c ++ xs) (c ++ ys) p)

  -- what two lists leave over one first part
  pub cancel_both : (all c xs ys : List X) → IsPermutation all (c ++ xs) → IsPermutation all (c ++ ys) → IsPermutation xs ys
  cancel_both all c xs ys p q = cancel_left c xs ys (IsPermutation-trans _ _ _ (IsPermutation-sym _ _ p) q)
