-- A list of one word.
use Rattle.std.proofs.Common.{◌≡◌, ◌<◌, ◌≤◌, List, [], ◌∷◌, length, get_or, map, ap, sym, ◌∙◌, arith}

pub map-one : {A B : Type 0} (f : A → B) (xs : List A) (x : A) (y : B) → 1 ≤ length xs → length xs < 2 → x ≡ get_or xs 0 x → f x ≡ y → map f xs ≡ y ∷ []
map-one f [] x y some one is e = absurd (omega arith)
map-one f (a ∷ []) x y some one is e = ap (λ z. z ∷ []) (ap f (sym is) ∙ e)
map-one f (a ∷ b ∷ xs) x y some one is e = absurd (omega arith)
