-- Lists of three numbers.
use Rattle.std.proofs.Common.{◌≡◌, ℤ, pos, List, [], ◌∷◌, length, get_or, map, refl, arith}

-- a list of three, made anew from its elements
pub map-three : {X : Type 0} (f : ℤ → X) (t : List ℤ) → length t ≡ 3 → f (get_or t 0 (pos 0)) ∷ f (get_or t 1 (pos 0)) ∷ f (get_or t 2 (pos 0)) ∷ [] ≡ map f t
map-three f [] e = absurd (omega arith)
map-three f (x ∷ []) e = absurd (omega arith)
map-three f (x ∷ y ∷ []) e = absurd (omega arith)
map-three f (x ∷ y ∷ z ∷ []) e = refl
map-three f (x ∷ y ∷ z ∷ w ∷ t) e = absurd (omega arith)
