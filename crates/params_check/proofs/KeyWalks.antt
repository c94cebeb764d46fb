-- A walk over a list from its start, one element after another: what was made of those so far, and the faults of what
-- is left.
use Rattle.std.proofs.Common.{◌≡◌, ℕ, ◌+◌, ◌<◌, ◌≤◌, List, [], ◌∷◌, ◌++◌, length, get_or, take, drop, map, flat_map, Some, None, refl, sym, ap, ◌∙◌}
use Rattle.std.proofs.lemmas.List.{drop_more, take_more, drop_all, take_all, map-append}
use Rattle.params_check.specs.declared.fault.ParamFault.{ParamFault}
use Rattle.params_check.specs.Lemmas.Firsts.{first_fault}
use Rattle.params_check.proofs.FirstFaults.{first_fault-passed, first_fault-found}

module _ {X K Y Z : Type 0} (key : X → K) (view : Y → Z) (make : K → Z) (faults : K → List ParamFault) (xs : List X) where
  -- What was made of the first elements, and what is left of the full walk.
  pub record HasPassed (i : ℕ) (ys : List Y) : Type 0 where
    pub made : map view ys ≡ map make (map key (take i xs))
    pub left : first_fault (flat_map faults (map key (drop i xs))) ≡ first_fault (flat_map faults (map key xs))

  -- nothing has been made
  pub passed-none : HasPassed 0 []
  passed-none = record { made = refl; left = refl }

  module _ (i : ℕ) (ys : List Y) (d : X) (p : HasPassed i ys) (within : i < length xs) where
    rest : first_fault (flat_map faults (map key xs)) ≡ first_fault (faults (key (get_or xs i d)) ++ flat_map faults (map key (drop (i + 1) xs)))
    rest = sym p.left ∙ ap (λ (l : List X). first_fault (flat_map faults (map key l))) (drop_more xs i d within)

    -- the next element has no fault
    pub passed-more : (y : Y) → first_fault (faults (key (get_or xs i d))) ≡ None → view y ≡ make (key (get_or xs i d)) → HasPassed (i + 1) (ys ++ y ∷ [])
    passed-more y none made_of = record {
      made =
          map-append view ys (y ∷ [])
          ∙ (λ j. p.made j ++ made_of j ∷ [])
          ∙ sym (map-append make (map key (take i xs)) (key (get_or xs i d) ∷ []))
          ∙ ap (map make) (sym (map-append key (take i xs) (get_or xs i d ∷ [])))
          ∙ ap (λ (l : List X). map make (map key l)) (sym (take_more xs i d within));
      left = sym (rest ∙ first_fault-passed (faults (key (get_or xs i d))) (flat_map faults (map key (drop (i + 1) xs))) none);
    }

    -- the next element has one
    pub passed-found : (f : ParamFault) → first_fault (faults (key (get_or xs i d))) ≡ Some f → first_fault (flat_map faults (map key xs)) ≡ Some f
    passed-found f some = rest ∙ first_fault-found (faults (key (get_or xs i d))) (flat_map faults (map key (drop (i + 1) xs))) f some

  -- all elements have been passed
  pub passed-made : (i : ℕ) (ys : List Y) → HasPassed i ys → length xs ≤ i → map view ys ≡ map make (map key xs)
  passed-made i ys p ended = p.made ∙ ap (λ (l : List X). map make (map key l)) (take_all i xs ended)

  pub passed-left : (i : ℕ) (ys : List Y) → HasPassed i ys → length xs ≤ i → first_fault (flat_map faults (map key xs)) ≡ None
  passed-left i ys p ended = sym p.left ∙ ap (λ (l : List X). first_fault (flat_map faults (map key l))) (drop_all i xs ended)
