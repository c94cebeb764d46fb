-- A walk over a list from its start: what the next element says of the full walk.
use Rattle.std.proofs.Common.{◌≡◌, ℕ, ◌+◌, ◌<◌, List, [], ◌∷◌, ◌++◌, length, get_or, take, drop, Option, Some, sym, ap, ◌∙◌}
use Rattle.std.proofs.lemmas.List.{drop_more}
use Rattle.params_check.specs.declared.fault.ParamFault.{ParamFault}
use Rattle.params_check.specs.Lemmas.Firsts.{first_fault}
use Rattle.params_check.specs.Walks.{in_turn}
use Rattle.params_check.proofs.FirstFaults.{first_fault-found}

-- the next element has a fault
pub in_turn-found : {X : Type 0} (f : List X → X → List ParamFault) (xs : List X) (i : ℕ) (x : X) (e : ParamFault) (r : Option ParamFault)
    → first_fault (in_turn f (take i xs) (drop i xs)) ≡ r → i < length xs → x ≡ get_or xs i x → first_fault (f (take i xs) x) ≡ Some e → r ≡ Some e
in_turn-found {X} f xs i x e r left within is some =
    sym left ∙ ap (λ (rest : List X). first_fault (in_turn f (take i xs) rest)) (drop_more xs i x within)
    ∙ ap (λ (y : X). first_fault (f (take i xs) y ++ in_turn f (take i xs ++ y ∷ []) (drop (i + 1) xs))) (sym is)
    ∙ first_fault-found (f (take i xs) x) (in_turn f (take i xs ++ x ∷ []) (drop (i + 1) xs)) e some
