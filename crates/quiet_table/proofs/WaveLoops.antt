-- One more number of a wave.
use Rattle.std.proofs.Common.{◌≡◌, ℕ, zero, suc, ◌+◌, ◌<◌, List, [], ◌∷◌, ◌++◌, length, take, sym, refl, ap, ◌∙◌, subst, arith, length-append}
use Rattle.atomic_table.specs.Table.{Me}
use Rattle.quiet_table.specs.declared.view.View.{View}
use Rattle.quiet_table.specs.Words.{adds}

adds_more : (xs : List ℕ) (n : ℕ) → adds (xs ++ n ∷ []) ≡ adds xs + n
adds_more [] n = omega arith
adds_more (x ∷ xs) n = let r = adds_more xs n in omega (arith, r)

take_all : (xs : List ℕ) (k : ℕ) → length xs ≡ k → take k xs ≡ xs
take_all [] zero e = refl
take_all [] (suc k) e = refl
take_all (x ∷ xs) zero e = absurd (omega arith)
take_all (x ∷ xs) (suc k) e = ap (λ l. x ∷ l) (take_all xs k (omega arith))

pub first_fits : (xs : List ℕ) (k n handled : ℕ) → length xs ≡ k → handled ≡ adds xs → adds (take k xs ++ n ∷ []) < 4611686018427387904 → handled + n < 18446744073709551616
first_fits xs k n handled long sum small = let a = adds_more xs n in let b : adds (xs ++ n ∷ []) < 4611686018427387904 = subst (λ l. adds (l ++ n ∷ []) < 4611686018427387904) (take_all xs k long) small in omega arith

pub second_fits : (xs : List ℕ) (n sent : ℕ) → sent ≡ adds xs → adds (xs ++ n ∷ []) < 4611686018427387904 → sent + n < 18446744073709551616
second_fits xs n sent sum small = let a = adds_more xs n in omega arith

module _ {S R E : Type 0} where
  pub first_more : (v : View R E) (out : List (ℕ × S)) (m m' : Me S (View R E)) (k n handled : ℕ) → m ≡ (record v { first = m.0.first; second = [] }, out) → length m.0.first ≡ k → handled ≡ adds m.0.first → m' ≡ (record m.0 { first = take k m.0.first ++ n ∷ []; second = [] }, m.1)
      → (m' ≡ (record v { first = m'.0.first; second = [] }, out)) × (length m'.0.first ≡ k + 1) × (handled + n ≡ adds m'.0.first)
  first_more v out m m' k n handled told long sum now =
      let F : List ℕ = m.0.first ++ n ∷ [] in
      let all : take k m.0.first ++ n ∷ [] ≡ F = ap (λ l. l ++ n ∷ []) (take_all m.0.first k long) in
      let q : m'.0.first ≡ F = ap (λ (z : Me S (View R E)). z.0.first) now ∙ all in
      let full : m' ≡ (record v { first = F; second = [] }, out) = now ∙ (ap (λ (l : List ℕ). (record m.0 { first = l; second = [] }, m.1)) all ∙ ap (λ (z : Me S (View R E)). (record z.0 { first = F; second = [] }, z.1)) told) in
      (full ∙ ap (λ (l : List ℕ). (record v { first = l; second = [] }, out)) (sym q), ap (λ (l : List ℕ). length l) q ∙ (length-append m.0.first (n ∷ []) ∙ (let e : length m.0.first + 1 ≡ k + 1 = omega arith in e)), (let a = adds_more m.0.first n in let b = ap adds q in omega arith))

  pub second_more : (v : View R E) (out : List (ℕ × S)) (m m' : Me S (View R E)) (k n sent : ℕ) → m ≡ (record v { second = m.0.second }, out) → length m.0.second ≡ k → sent ≡ adds m.0.second → m' ≡ (record m.0 { second = m.0.second ++ n ∷ [] }, m.1)
      → (m' ≡ (record v { second = m'.0.second }, out)) × (length m'.0.second ≡ k + 1) × (sent + n ≡ adds m'.0.second)
  second_more v out m m' k n sent told long sum now =
      let F : List ℕ = m.0.second ++ n ∷ [] in
      let q : m'.0.second ≡ F = ap (λ (z : Me S (View R E)). z.0.second) now in
      let full : m' ≡ (record v { second = F }, out) = now ∙ ap (λ (z : Me S (View R E)). (record z.0 { second = F }, z.1)) told in
      (full ∙ ap (λ (l : List ℕ). (record v { second = l }, out)) (sym q), ap (λ (l : List ℕ). length l) q ∙ (length-append m.0.second (n ∷ []) ∙ (let e : length m.0.second + 1 ≡ k + 1 = omega arith in e)), (let a = adds_more m.0.second n in let b = ap adds q in omega arith))
