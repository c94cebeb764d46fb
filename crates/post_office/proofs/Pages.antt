-- Envelopes in pages: how many pages they have, one more behind them, and one page less.
use Rattle.std.proofs.Common.{◌≡◌, ℕ, zero, suc, ◌+◌, ◌<◌, ◌≤◌, List, [], ◌∷◌, ◌++◌, length, drop, get_or, Option, Some, None, refl, sym, ◌∙◌, ap, arith, length-append, append_assoc, append-nil}
use Rattle.std.specs.Prelude.{All, IfNone, slice_set}
use Rattle.std.proofs.lemmas.List.Elements.{All-head, All-tail}
use Rattle.std.proofs.lemmas.List.{drop-append-le}
use Rattle.quiet_table.specs.Contents.{pool}

pub if_none_map : {X : Type 0} {A B : Type 0} (r : Option X) → IfNone r A → (A → B) → IfNone r B
if_none_map None h f = f h
if_none_map (Some x) h f = h

-- a list with its last element, and with another in its place
pub last_at : {X : Type 0} (xs : List X) (k : ℕ) (x y : X) → k + 1 ≡ length xs → x ≡ get_or xs k x → (before : List X) × (xs ≡ before ++ x ∷ []) × (slice_set xs k y ≡ before ++ y ∷ [])
last_at [] k x y n is = absurd (omega (arith, n))
last_at (z ∷ []) zero x y n is = ([], ap (λ w. w ∷ []) (sym is), refl)
last_at (z ∷ w ∷ ws) zero x y n is = absurd (omega (arith, n))
last_at (z ∷ zs) (suc k) x y n is = let r = last_at zs k x y (omega (arith, n)) is in (z ∷ r.0, ap (λ l. z ∷ l) r.1, ap (λ l. z ∷ l) r.2)

module _ {E : Type 0} where
  pub pool_join : (a b : List (List E)) → pool (a ++ b) ≡ pool a ++ pool b
  pool_join [] b = refl
  pool_join (x ∷ a) b = ap (λ l. x ++ l) (pool_join a b) ∙ sym (append_assoc x (pool a) (pool b))

  -- one page more
  pub pool_push : (a : List (List E)) (es : List E) → pool (a ++ es ∷ []) ≡ pool a ++ es
  pool_push a es = pool_join a (es ∷ []) ∙ ap (λ l. pool a ++ l) (append-nil es)

  -- more on the last page
  pub pool_last : (a : List (List E)) (p es : List E) → pool (a ++ (p ++ es) ∷ []) ≡ pool (a ++ p ∷ []) ++ es
  pool_last a p es = pool_push a (p ++ es) ∙ (sym (append_assoc (pool a) p es) ∙ ap (λ l. l ++ es) (sym (pool_push a p)))

  -- there are no more pages than envelopes
  pub pages_few : (pages : List (List E)) → All (λ p. 0 < length p) pages → length pages ≤ length (pool pages)
  pages_few [] some = omega arith
  pages_few (p ∷ pages) some =
      let r = pages_few pages (All-tail (λ x. 0 < length x) p pages some) in
      let h = All-head (λ x. 0 < length x) p pages some in
      let n = length-append p (pool pages) in omega (arith, r, h, n)

  -- the first ones of the first page, and all of it
  pub pool_drop : (p : List E) (pages : List (List E)) (n : ℕ) → n ≤ length p → pool (drop n p ∷ pages) ≡ drop n (pool (p ∷ pages))
  pool_drop p pages n low = sym (drop-append-le n p (pool pages) low)
