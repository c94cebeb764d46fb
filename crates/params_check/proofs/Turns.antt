-- Walks over a list that met no fault: what holds of each element and those before it.
use Rattle.std.proofs.Common.{◌≡◌, ℕ, ◌+◌, ◌<◌, ◌≤◌, Bool, true, false, List, [], ◌∷◌, ◌++◌, length, flat_map, arith, refl, All}
use Rattle.std.proofs.lemmas.List.{length-append}
use Rattle.std.proofs.lemmas.List.Elements.{All-nil, All-cons}
use Rattle.params_check.specs.declared.fault.ParamFault.{ParamFault}
use Rattle.params_check.specs.Walks.{fault_if, in_turn}

-- two lists of which nothing stands in a row
pub none-first : {A : Type 0} (xs ys : List A) → xs ++ ys ≡ [] → xs ≡ []
none-first [] ys e = refl
none-first (x ∷ xs) ys e = absurd cc

pub none-second : {A : Type 0} (xs ys : List A) → xs ++ ys ≡ [] → ys ≡ []
none-second [] ys e = e
none-second (x ∷ xs) ys e = absurd cc

pub fault_if-none : (b : Bool) (f : ParamFault) → fault_if b f ≡ [] → b ≡ false
fault_if-none true f e = absurd cc
fault_if-none false f e = refl

pub flat_map-none : {X A : Type 0} (f : X → List A) (xs : List X) → flat_map f xs ≡ [] → All (λ x. f x ≡ []) xs
flat_map-none f [] e = All-nil (λ x. f x ≡ [])
flat_map-none f (x ∷ xs) e =
    All-cons (λ x. f x ≡ []) x xs (none-first (f x) (flat_map f xs) e) (flat_map-none f xs (none-second (f x) (flat_map f xs) e))

-- each element has a property together with those before it
abbrev pub InTurn : {X : Type 0} → (List X → X → Type 0) → List X → List X → Type 0
InTurn P before [] = Unit {0}
InTurn P before (x ∷ xs) = P before x × InTurn P (before ++ x ∷ []) xs

pub InTurn-none : {X : Type 0} (f : List X → X → List ParamFault) (P : List X → X → Type 0) → ((before : List X) (x : X) → f before x ≡ [] → P before x)
    → (before xs : List X) → in_turn f before xs ≡ [] → InTurn P before xs
InTurn-none f P gives before [] e = tt
InTurn-none f P gives before (x ∷ xs) e =
    let rest = in_turn f (before ++ x ∷ []) xs in
    (gives before x (none-first (f before x) rest e), InTurn-none f P gives (before ++ x ∷ []) xs (none-second (f before x) rest e))

pub InTurn-length : {X : Type 0} (P : List X → X → Type 0) (most : ℕ) → ((before : List X) (x : X) → P before x → length before < most)
    → (before xs : List X) → length before ≤ most → InTurn P before xs → length before + length xs ≤ most
InTurn-length P most few before [] h t = omega arith
InTurn-length P most few before (x ∷ xs) h t =
    let less : length before < most = few before x t.0 in
    let grown : length (before ++ x ∷ []) ≡ length before + 1 = length-append before (x ∷ []) in
    let more : length (before ++ x ∷ []) + length xs ≤ most = InTurn-length P most few (before ++ x ∷ []) xs (omega arith) t.1 in
    omega arith
