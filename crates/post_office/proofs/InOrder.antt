-- Envelopes handled in order, as turns of a shard's cells.
use Rattle.std.proofs.Common.{◌≡◌, ℕ, zero, suc, ◌+◌, ◌<◌, ◌≤◌, List, [], ◌∷◌, ◌++◌, length, take, drop, get_or, Some, refl, sym, ◌∙◌, ap, subst, arith, append-nil, append_assoc, length-append}
use Rattle.std.specs.Prelude.{All, slice_get, slice_set, IsPermutation}
use Rattle.std.proofs.Math.Seq.{take-suc}
use Rattle.std.proofs.lemmas.List.{take-append-drop, drop-append-le}
use Rattle.std.proofs.lemmas.List.Elements.{All-head, All-tail}
use Rattle.std.proofs.lemmas.List.Sorted.{IsPermutation-trans, IsPermutation-refl}
use Rattle.phase_core.specs.declared.envelope.Envelope.{Envelope}
use Rattle.phase_core.specs.Machine.{Reaction}
use Rattle.quiet_table.specs.Contents.{pool}
use Rattle.post_office.specs.declared.plain.Stood.{Stood}
use Rattle.post_office.specs.Shares.{IsFor, rank}
use Rattle.post_office.specs.Lemmas.LegalLaws.{Obeys}
use Rattle.post_office.specs.Posts.{Standing, Turns, after}
use Rattle.post_office.specs.Lemmas.Handled.{HandledInOrder, HandledFirst}
use Rattle.post_office.proofs.Lists.{pool_part}
use Rattle.post_office.proofs.Handling.{turns_perm, turns_end, stands_after}

-- an element of a list, after those before it and before those behind it
pub take_more : {X : Type 0} (xs : List X) (i : ℕ) (x : X) → i < length xs → x ≡ get_or xs i x → take (i + 1) xs ≡ take i xs ++ x ∷ []
take_more xs i x low is =
    let one : i + 1 ≡ suc i = omega arith in
    ap (λ n. take n xs) one ∙ (take-suc xs i x low ∙ ap (λ z. take i xs ++ z ∷ []) (sym is))

pub split_at : {X : Type 0} (xs : List X) (i : ℕ) (x : X) → i < length xs → x ≡ get_or xs i x → xs ≡ take i xs ++ x ∷ drop (i + 1) xs
split_at [] i x low is = absurd (omega arith)
split_at (y ∷ ys) zero x low is = ap (λ z. z ∷ ys) (sym is)
split_at (y ∷ ys) (suc i) x low is =
    let one : suc i + 1 ≡ suc (i + 1) = omega arith in
    ap (λ l. y ∷ l) (split_at ys i x (omega arith) is) ∙ ap (λ n. y ∷ (take i ys ++ x ∷ drop n (y ∷ ys))) (sym one)

pub its_own : {M : Type 0} (owners : List ℕ) (shard : ℕ) (es : List (Envelope M)) (i : ℕ) (e : Envelope M) → i < length es → e ≡ get_or es i e → All (λ x. IsFor owners shard x) es → IsFor owners shard e
its_own owners shard [] i e low is all = absurd (omega arith)
its_own owners shard (x ∷ es) zero e low is all = subst (λ z. IsFor owners shard z) (sym is) (All-head (λ x. IsFor owners shard x) x es all)
its_own owners shard (x ∷ es) (suc i) e low is all = its_own owners shard es i e (omega arith) is (All-tail (λ x. IsFor owners shard x) x es all)

-- a list whose first elements are a page, and so many of the page's first ones
pub length_front : {X : Type 0} (page rest : List X) (n : ℕ) → n ≤ length page → n ≤ length (page ++ rest)
length_front page rest n low = let a = length-append page rest in omega (arith, a, low)

pub parted : {X : Type 0} (page rest all : List X) (n : ℕ) → all ≡ page ++ rest → n ≤ length page → (all ≡ take n page ++ drop n all) × (n ≡ length (take n page))
parted page rest all n is low =
    let behind : drop n all ≡ drop n page ++ rest = ap (λ l. drop n l) is ∙ drop-append-le n page rest low in
    let parts : page ++ rest ≡ take n page ++ (drop n page ++ rest) = ap (λ l. l ++ rest) (sym (take-append-drop n page)) ∙ append_assoc (take n page) (drop n page) rest in
    (is ∙ (parts ∙ ap (λ l. take n page ++ l) (sym behind)), length_taken page n low)
  where
    length_taken : {X : Type 0} (xs : List X) (n : ℕ) → n ≤ length xs → n ≡ length (take n xs)
    length_taken xs zero low = refl
    length_taken [] (suc n) low = absurd (omega arith)
    length_taken (x ∷ xs) (suc n) low = ap suc (length_taken xs n (omega arith))

module _ {C M : Type 0} (react : ℕ → C → M → Reaction C M) (owners : List ℕ) (shard : ℕ) where
  -- one envelope more
  pub in_order_push : (es : List (Envelope M)) (cells0 cells1 : List C) (sent1 : List (Envelope M)) → HandledInOrder react owners shard es cells0 cells1 sent1
      → (e : Envelope M) (c : C) → IsFor owners shard e → slice_get cells1 (rank owners shard e.to) ≡ Some c
      → (cells2 : List C) → cells2 ≡ slice_set cells1 (rank owners shard e.to) (react e.to c e.msg).cell → (sent2 : List (Envelope M)) → sent2 ≡ sent1 ++ (react e.to c e.msg).sent
      → HandledInOrder react owners shard (es ++ e ∷ []) cells0 cells2 sent2
  in_order_push [] cells0 cells1 sent1 h e c for own cells2 cells_is sent2 sent_is =
      let out = (react e.to c e.msg).sent in
      let at = rank owners shard e.to in
      (c, [], for, subst (λ l. slice_get l at ≡ Some c) h.0 own, sent_is ∙ (ap (λ l. l ++ out) h.1 ∙ sym (append-nil out)), (cells_is ∙ ap (λ l. slice_set l at (react e.to c e.msg).cell) h.0, refl))
  in_order_push (x ∷ es) cells0 cells1 sent1 h e c for own cells2 cells_is sent2 sent_is =
      let out = (react e.to c e.msg).sent in
      let first = (react x.to h.0 x.msg).sent in (
        h.0,
        h.1 ++ out,
        h.2,
        h.3,
        sent_is ∙ (ap (λ l. l ++ out) h.4 ∙ append_assoc first h.1 out),
        in_order_push es (slice_set cells0 (rank owners shard x.to) (react x.to h.0 x.msg).cell) cells1 h.1 h.5 e c for own cells2 cells_is (h.1 ++ out) refl,
      )

module _ {P Q C M : Type 0} (react : Q → ℕ → C → M → Reaction C M) (owners : List ℕ) (shard : ℕ) where
  -- they are as many turns, whatever waits behind them
  pub in_order_turns : (st : Stood P Q C) (es : List (Envelope M)) (cells : List C) (sent : List (Envelope M)) → HandledInOrder (react st.problem) owners shard es st.cells cells sent
      → (rest : List (Envelope M)) → Turns react owners shard st (es ++ rest) (length sent) (length es) (record st { cells = cells }) (rest ++ sent)
  in_order_turns st [] cells sent h rest =
      (ap length h.1, ap (λ l. record st { cells = l }) h.0, subst (λ l. IsPermutation rest (rest ++ l)) (sym h.1) (subst (IsPermutation rest) (sym (append-nil rest)) (IsPermutation-refl rest)))
  in_order_turns st (e ∷ es) cells sent h rest =
      let c = h.0 in
      let more = h.1 in
      let out = (react st.problem e.to c e.msg).sent in
      let st1 = after react owners shard st e c in
      let r : Turns react owners shard st1 (es ++ (rest ++ out)) (length more) (length es) (record st { cells = cells }) ((rest ++ out) ++ more) = in_order_turns st1 es cells more h.5 (rest ++ out) in
      let front : es ++ (rest ++ out) ≡ (es ++ rest) ++ out = sym (append_assoc es rest out) in
      let back : (rest ++ out) ++ more ≡ rest ++ sent = append_assoc rest out more ∙ ap (λ l. rest ++ l) (sym h.4) in
      let n = length-append out more in
      let count : length sent ≡ length out + length more = ap length h.4 ∙ n in (
        e,
        es ++ rest,
        c,
        length more,
        IsPermutation-refl (e ∷ (es ++ rest)),
        h.2,
        h.3,
        count,
        subst (λ l. Turns react owners shard st1 ((es ++ rest) ++ out) (length more) (length es) (record st { cells = cells }) l) back
            (subst (λ l. Turns react owners shard st1 l (length more) (length es) (record st { cells = cells }) ((rest ++ out) ++ more)) front r),
      )

  -- turns after turns
  pub turns_join : (st0 : Stood P Q C) (es0 : List (Envelope M)) (sent0 h0 : ℕ) (st1 : Stood P Q C) (es1 : List (Envelope M)) → Turns react owners shard st0 es0 sent0 h0 st1 es1
      → (es : List (Envelope M)) → IsPermutation es1 es → (sent h : ℕ) (st2 : Stood P Q C) (es2 : List (Envelope M)) → Turns react owners shard st1 es sent h st2 es2
      → Turns react owners shard st0 es0 (sent0 + sent) (h0 + h) st2 es2
  turns_join st0 es0 sent0 zero st1 es1 t es perm sent h st2 es2 u =
      let v : Turns react owners shard st0 es0 sent h st2 es2 = turns_perm react owners shard st0 es0 es sent h st2 es2 (IsPermutation-trans _ _ _ t.2 perm) (subst (λ z. Turns react owners shard z es sent h st2 es2) t.1 u) in
      let none : sent0 ≡ 0 = t.0 in
      let a : sent ≡ sent0 + sent = omega (arith, none) in
      let b : h ≡ zero + h = omega arith in
      subst (λ n. Turns react owners shard st0 es0 (sent0 + sent) n st2 es2) b (subst (λ n. Turns react owners shard st0 es0 n h st2 es2) a v)
  turns_join st0 es0 sent0 (suc h0) st1 es1 t es perm sent h st2 es2 u =
      let out = (react st0.problem t.0.to t.2 t.0.msg).sent in
      let sums = t.7 in
      let all : sent0 + sent ≡ length out + (t.3 + sent) = omega (arith, sums) in
      let b : suc (h0 + h) ≡ suc h0 + h = omega arith in
      subst (λ n. Turns react owners shard st0 es0 (sent0 + sent) n st2 es2) b
      (t.0, t.1, t.2, t.3 + sent, t.4, t.5, t.6, all, turns_join (after react owners shard st0 t.0 t.2) (t.1 ++ out) t.3 h0 st1 es1 t.8 es perm sent h st2 es2 u)

  -- those that waited first were handled, and what they sent is fresh
  pub serves_more : (st0 : Stood P Q C) (es0 : List (Envelope M)) (sent h : ℕ) (st1 : Stood P Q C) (es1 : List (Envelope M)) → Turns react owners shard st0 es0 sent h st1 es1
      → (mail1 : List (List (Envelope M))) (fresh1 : List (Envelope M)) → IsPermutation es1 (pool mail1 ++ fresh1) → fresh1 ≡ []
      → (count : ℕ) (mail2 : List (List (Envelope M))) (cells2 : List C) (out : List (Envelope M)) → HandledFirst (react st1.problem) owners shard count mail1 mail2 st1.cells cells2 out
      → (st2 : Stood P Q C) → st2 ≡ record st1 { cells = cells2 } → (fresh2 : List (Envelope M)) → fresh2 ≡ out
      → Turns react owners shard st0 es0 (sent + length fresh2) (h + count) st2 (pool mail2 ++ fresh2)
  serves_more st0 es0 sent h st1 es1 t mail1 fresh1 perm none count mail2 cells2 out f st2 is fresh2 fresh_is =
      let es = f.es in
      let left = pool (slice_set mail1 shard f.rest) in
      let start : IsPermutation es1 (es ++ left) = IsPermutation-trans _ _ _ (subst (IsPermutation es1) (ap (λ l. pool mail1 ++ l) none ∙ append-nil (pool mail1)) perm) (pool_part mail1 shard es f.rest f.first) in
      let one : Turns react owners shard st1 (es ++ left) (length out) (length es) (record st1 { cells = cells2 }) (left ++ out) = in_order_turns st1 es cells2 out f.handled left in
      let all : Turns react owners shard st0 es0 (sent + length out) (h + length es) (record st1 { cells = cells2 }) (left ++ out) = turns_join st0 es0 sent h st1 es1 t (es ++ left) start (length out) (length es) (record st1 { cells = cells2 }) (left ++ out) one in
      let same : left ++ out ≡ pool mail2 ++ fresh2 = λ i. pool ((sym f.left) i) ++ (sym fresh_is) i in
      let now : Turns react owners shard st0 es0 (sent + length out) (h + length es) (record st1 { cells = cells2 }) (pool mail2 ++ fresh2) = turns_end react owners shard st0 es0 (sent + length out) (h + length es) (record st1 { cells = cells2 }) (left ++ out) (pool mail2 ++ fresh2) (subst (IsPermutation (left ++ out)) same (IsPermutation-refl (left ++ out))) all in
      let counted : length out ≡ length fresh2 = sym (ap length fresh_is) in
      subst (λ z. Turns react owners shard st0 es0 (sent + length fresh2) (h + count) z (pool mail2 ++ fresh2)) (sym is)
      (subst (λ n. Turns react owners shard st0 es0 (sent + length fresh2) (h + n) (record st1 { cells = cells2 }) (pool mail2 ++ fresh2)) (sym f.counts)
      (subst (λ n. Turns react owners shard st0 es0 (sent + n) (h + length es) (record st1 { cells = cells2 }) (pool mail2 ++ fresh2)) counted now))

module _ {P Q C M : Type 0} (problem : P → List C → Q) (holds : Q → List C → List (Envelope M) → Type 0) (weight : Q → List C → List (Envelope M) → ℕ) (bound : Q → ℕ) (react : Q → ℕ → C → M → Reaction C M) (laws : Obeys problem holds weight bound react) (owners : List ℕ) (shard : ℕ) where
  -- once some were handled, the next one is part of legal contents
  pub next_stands : (st : Stood P Q C) (page rest : List (Envelope M)) (i : ℕ) (e : Envelope M) → i < length page → e ≡ get_or page i e → (cells : List C) (sent : List (Envelope M)) → HandledInOrder (react st.problem) owners shard (take i page) st.cells cells sent
      → Standing problem holds weight bound owners shard st (page ++ rest)
      → (behind : List (Envelope M)) × Standing problem holds weight bound owners shard (record st { cells = cells }) (e ∷ behind)
  next_stands st page rest i e low is cells sent h s =
      let all : page ++ rest ≡ take i page ++ (e ∷ (drop (i + 1) page ++ rest)) = ap (λ l. l ++ rest) (split_at page i e low is) ∙ append_assoc (take i page) (e ∷ drop (i + 1) page) rest in
      let t = in_order_turns react owners shard st (take i page) cells sent h (e ∷ (drop (i + 1) page ++ rest)) in
      ((drop (i + 1) page ++ rest) ++ sent, stands_after problem holds weight bound react laws owners shard st (take i page ++ (e ∷ (drop (i + 1) page ++ rest))) (length sent) (length (take i page)) (record st { cells = cells }) ((e ∷ (drop (i + 1) page ++ rest)) ++ sent) (subst (Standing problem holds weight bound owners shard st) all s) t)
