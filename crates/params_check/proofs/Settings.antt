-- Settings whose keys each stand once: the value of each is found under its key, and was looked at with its key.
use Rattle.std.proofs.Common.{◌≡◌, ℕ, true, false, List, [], ◌∷◌, ◌++◌, Some, refl, sym, ◌∙◌, All, inl, inr, append_assoc}
use Rattle.std.proofs.lemmas.Bool.{cases_Bool, cond-true, cond-false, or_parts}
use Rattle.std.proofs.lemmas.List.Elements.{All-nil, All-cons, All-head, All-tail}
use Rattle.params_syntax.specs.declared.tree.Setting.{Setting}
use Rattle.params_syntax.specs.Trees.{Each}
use Rattle.params_check.specs.Values.{same, value_of}
use Rattle.params_check.specs.Keys.{Key}
use Rattle.params_check.specs.Walks.{has_key}
use Rattle.params_check.proofs.Turns.{InTurn}
use Rattle.params_check.proofs.Once.{StandsOnce, has_name, same-true, same-itself, or_other}

-- the key is known and stands once
abbrev pub KeyOnce : List Key → List Setting → Setting → Type 0
KeyOnce keys = StandsOnce (λ (s : Setting). s.name) (λ (k : Key). k.name) keys

pub value_of-here : (s : Setting) (sets : List Setting) → value_of s.name (s ∷ sets) ≡ Some s.value
value_of-here s sets = cond-true (same s.name s.name) (Some s.value) (value_of s.name sets) (same-itself s.name)

-- settings of other keys are passed over
pub value_of-later : (key : List ℕ) (before sets : List Setting) → has_name (λ (s : Setting). s.name) (λ (k : Key). k.name) before key ≡ false
    → value_of key (before ++ sets) ≡ value_of key sets
value_of-later key [] sets none = refl
value_of-later key (s ∷ before) sets none =
    let parts = or_parts (same s.name key) _ none in
    cond-false (same s.name key) (Some s.value) (value_of key (before ++ sets)) parts.0 ∙ value_of-later key before sets parts.1

-- the value of a setting is the first of its key
abbrev pub IsFound : List Setting → Setting → Type 0
IsFound sets s = value_of s.name sets ≡ Some s.value

settings-found_from : (keys : List Key) (all before sets : List Setting) → all ≡ before ++ sets → InTurn (KeyOnce keys) before sets → All (IsFound all) sets
settings-found_from keys all before [] e once = All-nil (IsFound all)
settings-found_from keys all before (s ∷ sets) e once =
    All-cons (IsFound all) s sets
    (rw e (value_of-later s.name before (s ∷ sets) once.0.first ∙ value_of-here s sets))
    (settings-found_from keys all (before ++ s ∷ []) sets (e ∙ sym (append_assoc before (s ∷ []) sets)) once.1)

pub settings-found : (keys : List Key) (sets : List Setting) → InTurn (KeyOnce keys) [] sets → All (IsFound sets) sets
settings-found keys sets once = settings-found_from keys sets [] sets refl once

pub keys-known : (keys : List Key) (before sets : List Setting) → InTurn (KeyOnce keys) before sets → All (λ s. has_key keys s.name ≡ true) sets
keys-known keys before [] once = All-nil (λ s. has_key keys s.name ≡ true)
keys-known keys before (s ∷ sets) once =
    All-cons (λ s. has_key keys s.name ≡ true) s sets once.0.known (keys-known keys (before ++ s ∷ []) sets once.1)

-- what holds of each key holds of the one that a setting has
pub at_key : (P : Key → Type 0) (keys : List Key) (name : List ℕ) → has_key keys name ≡ true → All P keys → (k : Key) × (k.name ≡ name) × P k
at_key P [] name known all = absurd cc
at_key P (k ∷ keys) name known all =
    elim (cases_Bool (same k.name name)) [
      | inl t ↦ (k, same-true k.name name t, All-head P k keys all)
      | inr f ↦ at_key P keys name (or_other (same k.name name) _ f known) (All-tail P k keys all)
    ]

pub All-from_Each : {X : Type 0} (P : X → Type 0) (xs : List X) → Each P xs → All P xs
All-from_Each P [] h = All-nil P
All-from_Each P (x ∷ xs) h = All-cons P x xs h.0 (All-from_Each P xs h.1)
