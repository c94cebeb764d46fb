-- The derived `==` of places, as a caller's keys see it, is equality.
use Rattle.std.proofs.Common.{◌≡◌, ℕ, Bool, true, List, get_or, slice_get, Option, Some, None, IfSome, position, sym, ap, ◌∙◌, tests, rules}
use Rattle.std.proofs.lemmas.List.Quantifiers.{position-Some}
use Rattle.std.proofs.lemmas.Option.{slice_get-get_or}
use Rattle.block_index.specs.Places.{Cube}
use Rattle.block_index.specs.contracts.place.PlacePartialEq.TheImpl.{eq-value}

abbrev pub place_eq : Cube → Cube → Bool
place_eq = eq-value.it

pub same_from_place_eq : (a c : Cube) → place_eq a c ≡ true → a ≡ c
same_from_place_eq a c h =
    let fields : (a.level ≡ c.level) × (a.x ≡ c.x) × (a.y ≡ c.y) × (a.z ≡ c.z) = search (tests, rules) in
    λ i. record { level = fields.0 i; x = fields.1 i; y = fields.2 i; z = fields.3 i }

pub place_eq-itself : (a : Cube) → place_eq a a ≡ true
place_eq-itself a = search (tests, rules)

-- where a list of places is searched by `==`, the place found is the one that was looked for
pub position-place_eq : (r : Option ℕ) (places : List Cube) (at : Cube)
    → r ≡ position (place_eq at) places → IfSome r (λ i. slice_get places i ≡ Some at)
position-place_eq None places at found = search rules
position-place_eq (Some i) places at found =
    let first = position-Some (place_eq at) places i at (sym found) in
    let same : at ≡ get_or places i at = same_from_place_eq at (get_or places i at) first.1 in
    slice_get-get_or places i at first.0 ∙ ap (λ c. Some c) (sym same)
