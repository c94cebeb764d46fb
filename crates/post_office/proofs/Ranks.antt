-- The place of a cell among those of its shard, and a shard's cells, as lists that grow at the end.
use Rattle.std.proofs.Common.{get_or, replicate, inl, inr, ◌≡◌, ◌≢◌, ℕ, zero, suc, ◌+◌, ◌<◌, ◌≤◌, List, [], ◌∷◌, ◌++◌, length, Some, nat_eq, cond, eq-eqb, ne_eqb, true, false, Bool, refl, sym, ◌∙◌, ap, subst, arith}
use Rattle.std.specs.Prelude.{slice_get, slice_set}
use Rattle.std.proofs.lemmas.Option.{none-some, same_Some}
use Rattle.std.proofs.lemmas.Bool.{cases_eq}
use Rattle.post_office.proofs.Lists.{get_or_else}
use Rattle.post_office.specs.Shares.{of_shard, rank}

rank_zero : (owners : List ℕ) (s : ℕ) → rank owners s 0 ≡ 0
rank_zero [] s = refl
rank_zero (o ∷ os) s = refl

-- a cell more of this shard, or of another
pub rank_same : (owners : List ℕ) (s i : ℕ) → slice_get owners i ≡ Some s → rank owners s (i + 1) ≡ rank owners s i + 1
rank_same [] s i at = absurd (none-some s at)
rank_same (o ∷ os) s zero at =
    let e : nat_eq o s ≡ true = eq-eqb o s (same_Some o s at) in
    ap (λ b. cond b (suc (rank os s 0)) (rank os s 0)) e ∙ ap suc (rank_zero os s)
rank_same (o ∷ os) s (suc i) at =
    let n : suc i + 1 ≡ suc (i + 1) = omega arith in
    rw n (by (nat_eq o s) (rank_same os s i at))
  where
    by : (b : Bool) → rank os s (i + 1) ≡ rank os s i + 1 → cond b (suc (rank os s (i + 1))) (rank os s (i + 1)) ≡ cond b (suc (rank os s i)) (rank os s i) + 1
    by true r = omega (arith, r)
    by false r = r

pub rank_other : (owners : List ℕ) (s o i : ℕ) → slice_get owners i ≡ Some o → s ≢ o → rank owners s (i + 1) ≡ rank owners s i
rank_other [] s o i at n = absurd (none-some o at)
rank_other (x ∷ os) s o zero at n =
    let e : nat_eq x s ≡ false = ne_eqb x s (λ q. n (sym q ∙ same_Some x o at)) in
    ap (λ b. cond b (suc (rank os s 0)) (rank os s 0)) e ∙ rank_zero os s
rank_other (x ∷ os) s o (suc i) at n =
    let m : suc i + 1 ≡ suc (i + 1) = omega arith in
    rw m (by (nat_eq x s) (rank_other os s o i at n))
  where
    by : (b : Bool) → rank os s (i + 1) ≡ rank os s i → cond b (suc (rank os s (i + 1))) (rank os s (i + 1)) ≡ cond b (suc (rank os s i)) (rank os s i)
    by true r = ap suc r
    by false r = r

pub rank_low : (owners : List ℕ) (s i : ℕ) → rank owners s i ≤ i
rank_low [] s i = omega arith
rank_low (o ∷ os) s zero = omega arith
rank_low (o ∷ os) s (suc i) = by (nat_eq o s) (rank_low os s i)
  where
    by : (b : Bool) → rank os s i ≤ i → cond b (suc (rank os s i)) (rank os s i) ≤ suc i
    by true r = omega (arith, r)
    by false r = omega (arith, r)

pub zero_at : (n s x : ℕ) → get_or (replicate n x) s x ≡ x
zero_at zero zero x = refl
zero_at zero (suc s) x = refl
zero_at (suc n) zero x = refl
zero_at (suc n) (suc s) x = zero_at n s x

pub length_zeros : (n x : ℕ) → length (replicate n x) ≡ n
length_zeros zero x = refl
length_zeros (suc n) x = ap suc (length_zeros n x)

pub any_default : (xs : List ℕ) (i d e : ℕ) → i < length xs → get_or xs i d ≡ get_or xs i e
any_default [] i d e h = absurd (omega arith)
any_default (x ∷ xs) zero d e h = refl
any_default (x ∷ xs) (suc i) d e h = any_default xs i d e (omega arith)

pub rank_begins : (owners : List ℕ) (s : ℕ) → 0 ≡ rank owners s 0
rank_begins owners s = sym (rank_zero owners s)

written : (xs : List ℕ) (i x d : ℕ) → i < length xs → get_or (slice_set xs i x) i d ≡ x
written [] i x d h = absurd (omega arith)
written (y ∷ ys) zero x d h = refl
written (y ∷ ys) (suc i) x d h = written ys i x d (omega arith)

-- what was counted of each shard, with one cell more
pub counted_more : (owners counts : List ℕ) (n i o : ℕ) → length counts ≡ n → slice_get owners i ≡ Some o → o < n → ((s : ℕ) → s < n → get_or counts s 0 ≡ rank owners s i) → (s : ℕ) → s < n → get_or (slice_set counts o (get_or counts o 0 + 1)) s 0 ≡ rank owners s (i + 1)
counted_more owners counts n i o wide at low counted s h = elim (cases_eq s o) [
  | inl same ↦
      let a : get_or (slice_set counts o (get_or counts o 0 + 1)) o 0 ≡ rank owners o (i + 1) = written counts o (get_or counts o 0 + 1) 0 (omega (arith, wide, low)) ∙ (ap (λ z. z + 1) (counted o low) ∙ sym (rank_same owners o i at)) in
      subst (λ z. get_or (slice_set counts o (get_or counts o 0 + 1)) z 0 ≡ rank owners z (i + 1)) (sym same) a
  | inr other ↦ get_or_else counts o s (get_or counts o 0 + 1) 0 other ∙ (counted s h ∙ sym (rank_other owners s o i at other))
]

front : (xs : List ℕ) (x j : ℕ) → j < length xs → slice_get (xs ++ x ∷ []) j ≡ slice_get xs j
front [] x j h = absurd (omega arith)
front (y ∷ ys) x zero h = refl
front (y ∷ ys) x (suc j) h = front ys x j (omega arith)

last : (xs : List ℕ) (x : ℕ) → slice_get (xs ++ x ∷ []) (length xs) ≡ Some x
last [] x = refl
last (y ∷ ys) x = last ys x

pub ranked_more : (owners ranks ranks' : List ℕ) (i o x : ℕ) → ranks' ≡ ranks ++ x ∷ [] → slice_get owners i ≡ Some o → length ranks ≡ i → x ≡ rank owners o i → ((j s : ℕ) → j < i → slice_get owners j ≡ Some s → slice_get ranks j ≡ Some (rank owners s j)) → (j s : ℕ) → j < i + 1 → slice_get owners j ≡ Some s → slice_get ranks' j ≡ Some (rank owners s j)
ranked_more owners ranks ranks' i o x grown at long is ranked j s low own = ap (λ l. slice_get l j) grown ∙ elim (cases_eq j i) [
  | inl same ↦
      let o_is : o ≡ s = same_Some o s (sym at ∙ subst (λ z. slice_get owners z ≡ Some s) same own) in
      let a : slice_get (ranks ++ x ∷ []) i ≡ Some (rank owners s i) = subst (λ z. slice_get (ranks ++ x ∷ []) z ≡ Some x) long (last ranks x) ∙ ap (λ z. Some z) (is ∙ ap (λ z. rank owners z i) o_is) in
      subst (λ z. slice_get (ranks ++ x ∷ []) z ≡ Some (rank owners s z)) (sym same) a
  | inr other ↦ front ranks x j (omega (arith, long, low, other)) ∙ ranked j s (omega (arith, low, other)) own
]

module _ {C : Type 0} where
  -- a cell more of this shard, or of another
  pub of_shard_same : (owners : List ℕ) (s : ℕ) (cells : List C) (c : C) → slice_get owners (length cells) ≡ Some s → of_shard owners s (cells ++ c ∷ []) ≡ of_shard owners s cells ++ c ∷ []
  of_shard_same [] s cells c at = absurd (none-some s at)
  of_shard_same (o ∷ os) s [] c at =
      let e : nat_eq o s ≡ true = eq-eqb o s (same_Some o s at) in
      ap (λ b. cond b (c ∷ of_shard os s []) (of_shard os s [])) e ∙ ap (λ l. c ∷ l) (none_left os)
    where
      none_left : (os : List ℕ) → of_shard {C = C} os s [] ≡ []
      none_left [] = refl
      none_left (p ∷ ps) = refl
  of_shard_same (o ∷ os) s (d ∷ cells) c at = by (nat_eq o s) (of_shard_same os s cells c at)
    where
      by : (b : Bool) → of_shard os s (cells ++ c ∷ []) ≡ of_shard os s cells ++ c ∷ [] → cond b (d ∷ of_shard os s (cells ++ c ∷ [])) (of_shard os s (cells ++ c ∷ [])) ≡ cond b (d ∷ of_shard os s cells) (of_shard os s cells) ++ c ∷ []
      by true r = ap (λ l. d ∷ l) r
      by false r = r

  pub of_shard_other : (owners : List ℕ) (s o : ℕ) (cells : List C) (c : C) → slice_get owners (length cells) ≡ Some o → s ≢ o → of_shard owners s (cells ++ c ∷ []) ≡ of_shard owners s cells
  of_shard_other [] s o cells c at n = absurd (none-some o at)
  of_shard_other (x ∷ os) s o [] c at n =
      let e : nat_eq x s ≡ false = ne_eqb x s (λ q. n (sym q ∙ same_Some x o at)) in
      ap (λ b. cond b (c ∷ of_shard os s []) (of_shard os s [])) e ∙ none_left os
    where
      none_left : (os : List ℕ) → of_shard {C = C} os s [] ≡ []
      none_left [] = refl
      none_left (p ∷ ps) = refl
  of_shard_other (x ∷ os) s o (d ∷ cells) c at n = by (nat_eq x s) (of_shard_other os s o cells c at n)
    where
      by : (b : Bool) → of_shard os s (cells ++ c ∷ []) ≡ of_shard os s cells → cond b (d ∷ of_shard os s (cells ++ c ∷ [])) (of_shard os s (cells ++ c ∷ [])) ≡ cond b (d ∷ of_shard os s cells) (of_shard os s cells)
      by true r = ap (λ l. d ∷ l) r
      by false r = r
