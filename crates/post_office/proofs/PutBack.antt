-- Putting the cells of all shards back into their first order.
use Rattle.std.proofs.Common.{◌≡◌, inl, inr, ℕ, zero, suc, ◌+◌, ◌<◌, ◌≤◌, List, [], ◌∷◌, ◌++◌, length, reverse, drop, Some, refl, sym, ◌∙◌, ap, subst, arith, length-append, append_assoc, append-nil}
use Rattle.std.specs.Prelude.{slice_get, slice_set}
use Rattle.std.proofs.lemmas.Bool.{cases_eq}
use Rattle.std.proofs.lemmas.List.{reverse-append}
use Rattle.std.proofs.lemmas.Option.{same_Some}
use Rattle.post_office.specs.Shares.{of_shard}
use Rattle.post_office.specs.Lemmas.Gathered.{Rows, Left}
use Rattle.post_office.specs.Lemmas.PartLaws.{get_set, get_else, get_within}
use Rattle.post_office.proofs.Ranks.{of_shard_same, of_shard_other}

module _ {C : Type 0} where
  pub last_of : (xs : List C) → 0 < length xs → (ys : List C) × (y : C) × (xs ≡ ys ++ y ∷ [])
  last_of [] h = absurd (omega arith)
  last_of (x ∷ []) h = ([], x, refl)
  last_of (x ∷ z ∷ zs) h = let r = last_of (z ∷ zs) (omega arith) in (x ∷ r.0, r.1, ap (λ l. x ∷ l) r.2)

  pub same_last : (xs ys : List C) (x y : C) → xs ++ x ∷ [] ≡ ys ++ y ∷ [] → (xs ≡ ys) × (x ≡ y)
  same_last [] [] x y e = (refl, same_Some x y (ap (λ l. slice_get l 0) e))
  same_last [] (z ∷ zs) x y e = let n = ap length e in let m = length-append zs (y ∷ []) in absurd (omega (arith, n, m))
  same_last (z ∷ zs) [] x y e = let n = ap length e in let m = length-append zs (x ∷ []) in absurd (omega (arith, n, m))
  same_last (z ∷ zs) (w ∷ ws) x y e =
      let r = same_last zs ws x y (ap (λ l. drop 1 l) e) in
      let h : z ≡ w = same_Some z w (ap (λ l. slice_get l 0) e) in
      ((λ i. h i ∷ r.0 i), r.1)

  pub left_begins : (owners : List ℕ) (cells : List C) (rows : List (List C)) (out : List C) → length owners ≡ length cells → Rows owners cells rows → out ≡ [] → Left owners cells rows 0 out
  left_begins owners cells rows out owned there none = record {
    front = cells;
    parts = sym (append-nil cells) ∙ ap (λ l. cells ++ reverse l) (sym none);
    count = omega (arith, owned);
    rows_left = there;
  }

  -- the row of the next cell's shard ends with that cell
  pub next_there : (owners : List ℕ) (cells : List C) (rows : List (List C)) (taken : ℕ) (out : List C) (o i : ℕ) → Left owners cells rows taken out → i + 1 + taken ≡ length owners → slice_get owners i ≡ Some o → o < length rows → (row : List C) × (c : C) × (slice_get rows o ≡ Some (row ++ c ∷ []))
  next_there owners cells rows taken out o i l place own low =
      let n = l.count in
      let t = last_of l.front (omega (arith, n, place)) in
      let m = ap length t.2 in let k = length-append t.0 (t.1 ∷ []) in
      let i_is : i ≡ length t.0 = omega (arith, n, m, k, place) in
      let row = there rows o low in
      (of_shard owners o t.0, t.1, row.1 ∙ ap (λ z. Some z) (l.rows_left o row.0 row.1 ∙ (ap (λ z. of_shard owners o z) t.2 ∙ of_shard_same owners o t.0 t.1 (subst (λ z. slice_get owners z ≡ Some o) i_is own))))
    where
      there : (rows : List (List C)) (k : ℕ) → k < length rows → (row : List C) × (slice_get rows k ≡ Some row)
      there [] k h = absurd (omega arith)
      there (r ∷ rs) zero h = (r, refl)
      there (r ∷ rs) (suc k) h = there rs k (omega arith)

  -- one cell more is taken
  pub left_more : (owners : List ℕ) (cells : List C) (rows rows' : List (List C)) (taken : ℕ) (out out' : List C) (o i : ℕ) (row : List C) (c : C) → Left owners cells rows taken out → i + 1 + taken ≡ length owners → slice_get owners i ≡ Some o
      → slice_get rows o ≡ Some (row ++ c ∷ []) → rows' ≡ slice_set rows o row → out' ≡ out ++ c ∷ [] → Left owners cells rows' (taken + 1) out'
  left_more owners cells rows rows' taken out out' o i row c l place own at written pushed =
      let n = l.count in
      let t = last_of l.front (omega (arith, n, place)) in
      let m = ap length t.2 in let k = length-append t.0 (t.1 ∷ []) in
      let i_is : i ≡ length t.0 = omega (arith, n, m, k, place) in
      let own' = subst (λ z. slice_get owners z ≡ Some o) i_is own in
      let same = same_last row (of_shard owners o t.0) c t.1 (l.rows_left o (row ++ c ∷ []) at ∙ (ap (λ z. of_shard owners o z) t.2 ∙ of_shard_same owners o t.0 t.1 own')) in
      subst (λ r. Left owners cells r (taken + 1) out') (sym written) (record {
        front = t.0;
        parts = l.parts ∙ (ap (λ z. z ++ reverse out) t.2 ∙ (append_assoc t.0 (t.1 ∷ []) (reverse out) ∙ ap (λ z. t.0 ++ z) (sym (ap reverse (pushed ∙ ap (λ z. out ++ z ∷ []) same.1) ∙ reverse-append out (t.1 ∷ [])))));
        count = omega (arith, n, m, k);
        rows_left = λ j r get. elim (cases_eq j o) [
          | inl q ↦
              let r_is : row ≡ r = same_Some row r (sym (get_set rows o row (get_within rows o (row ++ c ∷ []) at)) ∙ subst (λ z. slice_get (slice_set rows o row) z ≡ Some r) q get) in
              sym r_is ∙ (same.0 ∙ ap (λ z. of_shard owners z t.0) (sym q))
          | inr other ↦ l.rows_left j r (sym (get_else rows o j row other) ∙ get) ∙ (ap (λ z. of_shard owners j z) t.2 ∙ of_shard_other owners j o t.0 t.1 own' other)
        ];
      })

  -- all are taken
  pub put_back : (owners : List ℕ) (cells : List C) (rows : List (List C)) (taken : ℕ) (out : List C) → Left owners cells rows taken out → length owners ≤ taken → reverse out ≡ cells
  put_back owners cells rows taken out l all = sym (l.parts ∙ ap (λ z. z ++ reverse out) (nothing l.front (let n = l.count in omega (arith, n, all))))
    where
      nothing : (xs : List C) → length xs ≡ 0 → xs ≡ []
      nothing [] e = refl
      nothing (x ∷ xs) e = absurd (omega (arith, e))
