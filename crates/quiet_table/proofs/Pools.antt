-- All envelopes, with those of one slot or of two in front.
use Rattle.std.proofs.Common.{◌≡◌, ◌≢◌, ℕ, zero, suc, ◌<◌, List, [], ◌∷◌, ◌++◌, length, set, take, refl, ap, ◌∙◌, subst, arith, append_assoc, length-set}
use Rattle.std.specs.Prelude.{IsPermutation}
use Rattle.std.proofs.lemmas.List.{drop-set-lt}
use Rattle.std.proofs.lemmas.List.Sorted.{IsPermutation-refl, IsPermutation-sym, IsPermutation-trans, IsPermutation-append_left, IsPermutation-append_right, IsPermutation-append_comm}
use mathlib.Core.Option.{some}
use lib.ListN.{get_elem?}
use Rattle.atomic_table.proofs.Lists.{set_again}
use Rattle.quiet_table.specs.Contents.{pool}
use Rattle.quiet_table.specs.Words.{adds, span}

module _ {E : Type 0} where
  -- a, b, rest in the order b, a, rest
  pub swap_fronts : (a b rest : List E) → IsPermutation (a ++ (b ++ rest)) (b ++ (a ++ rest))
  swap_fronts a b rest = rw (← append_assoc a b rest, ← append_assoc b a rest) (IsPermutation-append_left rest (a ++ b) (b ++ a) (IsPermutation-append_comm a b))

  -- what one slot holds comes first
  pub pool_front : (ess : List (List E)) (k : ℕ) (es : List E) → k < length ess → IsPermutation (pool (set ess k es)) (es ++ pool (set ess k []))
  pool_front [] k es h = absurd (omega arith)
  pool_front (x ∷ xs) zero es h = IsPermutation-refl _
  pool_front (x ∷ xs) (suc k) es h =
      IsPermutation-trans _ _ _ (IsPermutation-append_right x _ _ (pool_front xs k es (omega arith))) (swap_fronts x es (pool (set xs k [])))

  set_twice : (ess : List (List E)) (k : ℕ) (a b : List E) → set (set ess k a) k b ≡ set ess k b
  set_twice [] k a b = refl
  set_twice (x ∷ xs) zero a b = refl
  set_twice (x ∷ xs) (suc k) a b = ap (λ l. x ∷ l) (set_twice xs k a b)

  set_apart : (ess : List (List E)) (j k : ℕ) (a b : List E) → j ≢ k → set (set ess j a) k b ≡ set (set ess k b) j a
  set_apart [] j k a b n = refl
  set_apart (x ∷ xs) zero zero a b n = absurd (n refl)
  set_apart (x ∷ xs) zero (suc k) a b n = refl
  set_apart (x ∷ xs) (suc j) zero a b n = refl
  set_apart (x ∷ xs) (suc j) (suc k) a b n = ap (λ l. x ∷ l) (set_apart xs j k a b (λ e. n (ap suc e)))

  -- one slot's envelopes in another order
  pub pool_one : (ess : List (List E)) (k : ℕ) (old new : List E) → get_elem? ess k ≡ some old → k < length ess → IsPermutation old new → IsPermutation (pool ess) (pool (set ess k new))
  pool_one ess k old new at within same =
      let front = pool_front ess k new within in
      let back = pool_front ess k old within in
      let back' : IsPermutation (pool ess) (old ++ pool (set ess k [])) = subst (λ l. IsPermutation (pool l) (old ++ pool (set ess k []))) (set_again ess k old at) back in
      IsPermutation-trans _ _ _ back' (IsPermutation-trans _ _ _ (IsPermutation-append_left (pool (set ess k [])) old new same) (IsPermutation-sym _ _ front))

  -- two slots' envelopes come first
  pub pool_fronts : (ess : List (List E)) (j k : ℕ) (a b : List E) → j ≢ k → j < length ess → k < length ess → IsPermutation (pool (set (set ess j a) k b)) ((a ++ b) ++ pool (set (set ess j []) k []))
  pool_fronts ess j k a b n jl kl =
      let kl' : k < length (set ess j a) = rw (length-set ess j a) kl in
      let jl' : j < length (set ess k []) = rw (length-set ess k []) jl in
      let one : IsPermutation (pool (set (set ess j a) k b)) (b ++ pool (set (set ess j a) k [])) = pool_front (set ess j a) k b kl' in
      let two : IsPermutation (pool (set (set ess j a) k [])) (a ++ pool (set (set ess j []) k [])) =
      rw (set_apart ess j k a [] n, set_apart ess j k [] [] n) (pool_front (set ess k []) j a jl') in
      let both : IsPermutation (b ++ pool (set (set ess j a) k [])) (b ++ (a ++ pool (set (set ess j []) k []))) = IsPermutation-append_right b _ _ two in
      rw (append_assoc a b (pool (set (set ess j []) k []))) (IsPermutation-trans _ _ _ one (IsPermutation-trans _ _ _ both (swap_fronts b a _)))

  pub pool_two : (ess : List (List E)) (j k : ℕ) (a b c d : List E) → j ≢ k → j < length ess → k < length ess → get_elem? ess j ≡ some a → get_elem? ess k ≡ some b → IsPermutation (a ++ b) (c ++ d)
      → IsPermutation (pool ess) (pool (set (set ess j c) k d))
  pool_two ess j k a b c d n jl kl at_j at_k same =
      let back : IsPermutation (pool ess) ((a ++ b) ++ pool (set (set ess j []) k [])) =
      subst (λ l. IsPermutation (pool l) ((a ++ b) ++ pool (set (set ess j []) k []))) (ap (λ l. set l k b) (set_again ess j a at_j) ∙ set_again ess k b at_k) (pool_fronts ess j k a b n jl kl) in
      let front = pool_fronts ess j k c d n jl kl in
      IsPermutation-trans _ _ _ back (IsPermutation-trans _ _ _ (IsPermutation-append_left (pool (set (set ess j []) k [])) (a ++ b) (c ++ d) same) (IsPermutation-sym _ _ front))

pub span_set : (words : List ℕ) (from count k x : ℕ) → k < from → span (set words k x) from count ≡ span words from count
span_set words from count k x h = ap (λ l. adds (take count l)) (drop-set-lt from words k x h)
