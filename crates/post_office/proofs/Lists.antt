-- Lists of lists of envelopes: how many they hold, with one list in front, and after a write.
use Rattle.std.proofs.Common.{◌≡◌, ◌≢◌, true, false, ℕ, zero, suc, ◌+◌, ◌<◌, List, [], ◌∷◌, ◌++◌, length, Some, take, drop, get_or, refl, sym, ◌∙◌, ap, subst, arith, length-append, append_assoc, append-nil}
use Rattle.std.specs.Prelude.{slice_get, slice_set, IsPermutation}
use Rattle.std.proofs.lemmas.List.Sorted.{length_permutation, IsPermutation-refl, IsPermutation-sym, IsPermutation-trans, IsPermutation-append_left, IsPermutation-append_right, IsPermutation-append_comm}
use Rattle.std.proofs.lemmas.Option.{none-some, same_Some}
use Rattle.quiet_table.specs.Contents.{pool}
use Rattle.post_office.specs.Lemmas.PartLaws.{put_same, get_within}

pub false_true : false ≡ true → ⊥
false_true e = cc

pub get_at : {X : Type 0} (xs : List X) (i : ℕ) (d : X) → i < length xs → slice_get xs i ≡ Some (get_or xs i d)
get_at [] i d h = absurd (omega arith)
get_at (x ∷ xs) zero d h = refl
get_at (x ∷ xs) (suc i) d h = get_at xs i d (omega arith)

-- a list with its first element in front
pub head_tail : {X : Type 0} (xs : List X) (x : X) → 0 < length xs → x ≡ get_or xs 0 x → xs ≡ x ∷ drop 1 xs
head_tail [] x h e = absurd (omega arith)
head_tail (z ∷ zs) x h e = ap (λ w. w ∷ zs) (sym e)

pub nothing : {X : Type 0} (xs : List X) → length xs ≡ 0 → xs ≡ []
nothing [] e = refl
nothing (x ∷ xs) e = absurd (omega (arith, e))

-- another place is not written
pub get_or_else : {X : Type 0} (xs : List X) (i j : ℕ) (x d : X) → j ≢ i → get_or (slice_set xs i x) j d ≡ get_or xs j d
get_or_else [] i j x d n = refl
get_or_else (y ∷ ys) zero zero x d n = absurd (n refl)
get_or_else (y ∷ ys) zero (suc j) x d n = refl
get_or_else (y ∷ ys) (suc i) zero x d n = refl
get_or_else (y ∷ ys) (suc i) (suc j) x d n = get_or_else ys i j x d (λ e. n (ap suc e))

module _ {E : Type 0} where
  -- one list more is counted
  pub pool_more : (ess : List (List E)) (k : ℕ) (es : List E) → slice_get ess k ≡ Some es → length (pool (take (k + 1) ess)) ≡ length (pool (take k ess)) + length es
  pool_more [] k es at = absurd (none-some es at)
  pool_more (x ∷ xs) zero es at =
      let a : length (x ++ []) ≡ length es = ap (λ l. length (l ++ [])) (same_Some x es at) ∙ ap length (append-nil es) in omega (arith, a)
  pool_more (x ∷ xs) (suc k) es at =
      let r = pool_more xs k es at in
      let a = length-append x (pool (take (k + 1) xs)) in
      let b = length-append x (pool (take k xs)) in
      let e : suc k + 1 ≡ suc (k + 1) = omega arith in
      rw e (omega (arith, r, a, b))

  pub pool_take_low : (ess : List (List E)) (k : ℕ) → length (pool (take k ess)) < length (pool ess) + 1
  pool_take_low [] zero = omega arith
  pool_take_low [] (suc k) = omega arith
  pool_take_low (x ∷ xs) zero = omega arith
  pool_take_low (x ∷ xs) (suc k) =
      let r = pool_take_low xs k in
      let a = length-append x (pool (take k xs)) in
      let b = length-append x (pool xs) in omega (arith, r, a, b)

  -- a, b, rest in the order b, a, rest
  pub swap_fronts : (a b rest : List E) → IsPermutation (a ++ (b ++ rest)) (b ++ (a ++ rest))
  swap_fronts a b rest = rw (← append_assoc a b rest, ← append_assoc b a rest) (IsPermutation-append_left rest (a ++ b) (b ++ a) (IsPermutation-append_comm a b))

  -- one list comes first
  pub pool_front : (ess : List (List E)) (k : ℕ) (es : List E) → k < length ess → IsPermutation (pool (slice_set ess k es)) (es ++ pool (slice_set ess k []))
  pool_front [] k es h = absurd (omega arith)
  pool_front (x ∷ xs) zero es h = IsPermutation-refl _
  pool_front (x ∷ xs) (suc k) es h =
      IsPermutation-trans _ _ _ (IsPermutation-append_right x _ _ (pool_front xs k es (omega arith))) (swap_fronts x es (pool (slice_set xs k [])))

  pub pool_at : (ess : List (List E)) (k : ℕ) (es : List E) → slice_get ess k ≡ Some es → IsPermutation (pool ess) (es ++ pool (slice_set ess k []))
  pool_at ess k es at = subst (λ l. IsPermutation (pool l) (es ++ pool (slice_set ess k []))) (put_same ess k es at) (pool_front ess k es (get_within ess k es at))

  -- an envelope more in a list, and one less in another
  pub pool_put : (ess : List (List E)) (k : ℕ) (es rest : List E) (e : E) → slice_get ess k ≡ Some es → IsPermutation (pool ess ++ (rest ++ e ∷ [])) (pool (slice_set ess k (es ++ e ∷ [])) ++ rest)
  pool_put ess k es rest e at =
      let others = pool (slice_set ess k []) in
      let one : IsPermutation (pool ess ++ (rest ++ e ∷ [])) ((es ++ others) ++ (rest ++ e ∷ [])) = IsPermutation-append_left (rest ++ e ∷ []) (pool ess) (es ++ others) (pool_at ess k es at) in
      let two : IsPermutation ((es ++ others) ++ (rest ++ e ∷ [])) ((es ++ others) ++ (e ∷ [] ++ rest)) = IsPermutation-append_right (es ++ others) (rest ++ e ∷ []) (e ∷ [] ++ rest) (IsPermutation-append_comm rest (e ∷ [])) in
      let three : IsPermutation ((es ++ others) ++ (e ∷ [] ++ rest)) (((es ++ e ∷ []) ++ others) ++ rest) =
      subst (λ l. IsPermutation l (((es ++ e ∷ []) ++ others) ++ rest)) (append_assoc (es ++ others) (e ∷ []) rest)
      (IsPermutation-append_left rest ((es ++ others) ++ e ∷ []) ((es ++ e ∷ []) ++ others)
      (rw (append_assoc es others (e ∷ []), append_assoc es (e ∷ []) others) (IsPermutation-append_right es (others ++ e ∷ []) (e ∷ [] ++ others) (IsPermutation-append_comm others (e ∷ []))))) in
      let four : IsPermutation (((es ++ e ∷ []) ++ others) ++ rest) (pool (slice_set ess k (es ++ e ∷ [])) ++ rest) =
      IsPermutation-append_left rest ((es ++ e ∷ []) ++ others) (pool (slice_set ess k (es ++ e ∷ []))) (IsPermutation-sym _ _ (pool_front ess k (es ++ e ∷ []) (get_within ess k es at))) in
      IsPermutation-trans _ _ _ one (IsPermutation-trans _ _ _ two (IsPermutation-trans _ _ _ three four))

  -- the first envelopes of a list come first
  pub pool_part : (ess : List (List E)) (k : ℕ) (es rest : List E) → slice_get ess k ≡ Some (es ++ rest) → IsPermutation (pool ess) (es ++ pool (slice_set ess k rest))
  pool_part ess k es rest at =
      let others = pool (slice_set ess k []) in
      let one : IsPermutation (pool ess) (es ++ (rest ++ others)) = subst (IsPermutation (pool ess)) (append_assoc es rest others) (pool_at ess k (es ++ rest) at) in
      IsPermutation-trans _ _ _ one (IsPermutation-append_right es (rest ++ others) (pool (slice_set ess k rest)) (IsPermutation-sym _ _ (pool_front ess k rest (get_within ess k (es ++ rest) at))))

  -- a list is part of all,
  pub list_within : (ess : List (List E)) (k : ℕ) (es : List E) → slice_get ess k ≡ Some es → length es + length (pool (slice_set ess k [])) ≡ length (pool ess)
  list_within ess k es at =
      let a = length_permutation (pool ess) (es ++ pool (slice_set ess k [])) (pool_at ess k es at) in
      let b = length-append es (pool (slice_set ess k [])) in omega (arith, a, b)

  -- and how many are there after a write
  pub length_written : (ess : List (List E)) (k : ℕ) (es fs : List E) → slice_get ess k ≡ Some es → length (pool (slice_set ess k fs)) + length es ≡ length (pool ess) + length fs
  length_written ess k es fs at =
      let a = list_within ess k es at in
      let b = length_permutation (pool (slice_set ess k fs)) (fs ++ pool (slice_set ess k [])) (pool_front ess k fs (get_within ess k es at)) in
      let d = length-append fs (pool (slice_set ess k [])) in omega (arith, a, b, d)

  -- what lay in a box comes behind a list,
  pub pool_merge : (ess : List (List E)) (k : ℕ) (es b f : List E) → slice_get ess k ≡ Some es → IsPermutation (b ++ (pool ess ++ f)) (pool (slice_set ess k (es ++ b)) ++ f)
  pool_merge ess k es b f at =
      let o = pool (slice_set ess k []) in
      let one : IsPermutation (b ++ pool ess) (b ++ (es ++ o)) = IsPermutation-append_right b (pool ess) (es ++ o) (pool_at ess k es at) in
      let two : IsPermutation (b ++ (es ++ o)) ((es ++ b) ++ o) = rw (append_assoc es b o) (swap_fronts b es o) in
      let three : IsPermutation ((es ++ b) ++ o) (pool (slice_set ess k (es ++ b))) = IsPermutation-sym _ _ (pool_front ess k (es ++ b) (get_within ess k es at)) in
      subst (λ l. IsPermutation l (pool (slice_set ess k (es ++ b)) ++ f)) (append_assoc b (pool ess) f) (IsPermutation-append_left f (b ++ pool ess) (pool (slice_set ess k (es ++ b))) (IsPermutation-trans _ _ _ one (IsPermutation-trans _ _ _ two three)))

  -- and what is in a list comes behind what lies in a box
  pub pool_post : (ess : List (List E)) (k : ℕ) (es b f all : List E) → slice_get ess k ≡ Some es → IsPermutation all (pool ess ++ f) → IsPermutation (b ++ all) ((b ++ es) ++ (pool (slice_set ess k []) ++ f))
  pool_post ess k es b f all at same =
      let o = pool (slice_set ess k []) in
      let one : IsPermutation (pool ess ++ f) ((es ++ o) ++ f) = IsPermutation-append_left f (pool ess) (es ++ o) (pool_at ess k es at) in
      let two : IsPermutation (b ++ all) (b ++ ((es ++ o) ++ f)) = IsPermutation-append_right b all ((es ++ o) ++ f) (IsPermutation-trans _ _ _ same one) in
      let e : b ++ ((es ++ o) ++ f) ≡ (b ++ es) ++ (o ++ f) = ap (λ l. b ++ l) (append_assoc es o f) ∙ sym (append_assoc b es (o ++ f)) in
      subst (IsPermutation (b ++ all)) e two
