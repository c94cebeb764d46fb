-- How a value that a key takes is bounded.
use Rattle.std.proofs.Common.{◌≡◌, ℕ, ◌≤◌, ◌%◌, ℤ, pos, negsuc, Bool, true, false, ◌&&◌, ◌==◌, nat_le, nat_abs, List, [], ◌∷◌, Option, Some, None, length, map, ◌∙◌, All, IsTrue, arith}
use Rattle.std.specs.Prelude.{is_none}
use Rattle.std.specs.Option.{option_or}
use Rattle.std.proofs.lemmas.Bool.{and_parts, leb-true, eqb-true}
use Rattle.std.proofs.lemmas.List.{length-map}
use Rattle.std.proofs.lemmas.List.Elements.{All-nil, All-cons, All-map, All-weaker, All-head, All-tail}
use Rattle.params_syntax.specs.declared.tree.Atom.{Atom}
use Rattle.params_syntax.specs.declared.tree.Atom.TheVariants.{Number, Word}
use Rattle.params_syntax.specs.declared.tree.Value.{Value}
use Rattle.params_syntax.specs.declared.tree.Value.TheVariants as values
use Rattle.params_syntax.specs.declared.tree.Setting.{Setting}
use Rattle.params_syntax.specs.Trees.{Each}
use Rattle.params_check.specs.Bounds.{most_fields}
use Rattle.params_check.specs.Forms.{each, all_differ, is_had, is_wanted, has_form, is_between, is_up_to, is_even, is_field_name, most_threshold, is_in_reach, is_in_range}
use Rattle.params_check.specs.Keys.{Key, Wanted, NumberFrom, EvenFrom, TripleFrom, TripleUpTo, OneOf, ThreeOf, NewNames, FieldName, Threshold, is_among}
use Rattle.params_check.specs.TreeValues.{value_at}
use Rattle.params_check.specs.Values.{size_of, number_of, word_of, size_in, word_in, numbers_in, sizes_in, words_in, value_of}

-- The value of a key is there where it is required; and where it is there, the key is had, and the value is of the form
-- and in range.
abbrev pub Kept : List (List ℕ) → List ℕ → Key → Option Value → Type 0
Kept names kind k None = (is_none k.default && is_had k kind) ≡ false
Kept names kind k (Some v) = (is_had k kind ≡ true) × (has_form k.wanted v ≡ true) × (is_in_range names kind k.wanted v ≡ true)

-- three numbers, each from a least one to a greatest
pub record AreThree (low high : ℕ) (xs : List ℕ) : Type 0 where
  pub three : length xs ≡ 3
  pub limits : All (λ x. (low ≤ x) × (x ≤ high)) xs

-- three numbers of at most this size
pub record AreThreeSigned (most : ℕ) (zs : List ℤ) : Type 0 where
  pub three : length zs ≡ 3
  pub limits : All (λ z. nat_abs z ≤ most) zs

pub record AreNames (names : List (List ℕ)) : Type 0 where
  pub few : length names ≤ most_fields
  pub forms : All (λ name. IsTrue (is_field_name name)) names
  pub different : IsTrue (all_differ names)

-- what a value that is taken gives
abbrev pub Fits : List (List ℕ) → List ℕ → Wanted → Option Value → Type 0
Fits names kind (NumberFrom low high) o = (low ≤ size_in o) × (size_in o ≤ high)
Fits names kind (EvenFrom low high) o = (low ≤ size_in o) × (size_in o ≤ high) × (size_in o % 2 ≡ 0)
Fits names kind (TripleFrom low high) o = AreThree low high (sizes_in o)
Fits names kind (TripleUpTo most) o = AreThreeSigned most (numbers_in o)
Fits names kind (OneOf words) o = is_among words (word_in o) ≡ true
Fits names kind (ThreeOf words) o = length (words_in o) ≡ 3
Fits names kind NewNames o = AreNames (words_in o)
Fits names kind FieldName o = is_among names (word_in o) ≡ true
Fits names kind Threshold o = size_in o ≤ most_threshold kind

-- ---- one value

pub each-true : {X : Type 0} (p : X → Bool) (xs : List X) → each p xs ≡ true → All (λ x. p x ≡ true) xs
each-true p [] h = All-nil (λ x. p x ≡ true)
each-true p (x ∷ xs) h =
    let parts = and_parts (p x) (each p xs) h in
    All-cons (λ x. p x ≡ true) x xs parts.0 (each-true p xs parts.1)

size-within : (low high : ℕ) (a : Atom) → is_between low high a ≡ true → (low ≤ size_of a) × (size_of a ≤ high)
size-within low high (Number (pos n)) h =
    let parts = and_parts (nat_le low n) (nat_le n high) h in
    (leb-true low n parts.0, leb-true n high parts.1)
size-within low high (Number (negsuc n)) h = absurd cc
size-within low high (Word word) h = absurd cc

even-number : (a : Atom) → is_even a ≡ true → size_of a % 2 ≡ 0
even-number (Number z) h = eqb-true (nat_abs z % 2) 0 h
even-number (Word word) h = absurd cc

size-up_to : (most : ℕ) (a : Atom) → is_up_to most a ≡ true → nat_abs (number_of a) ≤ most
size-up_to most (Number z) h = leb-true (nat_abs z) most h
size-up_to most (Word word) h = absurd cc

-- of a list in which each element passes
list-passes : (b : Bool) (p q : Atom → Bool) (atoms : List Atom) → ((length atoms == 3) && b) ≡ true → (each p atoms && true) ≡ true → (length atoms ≡ 3) × All (λ a. p a ≡ true) atoms
list-passes b p q atoms form range =
    (eqb-true (length atoms) 3 (and_parts (length atoms == 3) b form).0, each-true p atoms (and_parts (each p atoms) true range).0)

pub fits : (names : List (List ℕ)) (kind : List ℕ) (w : Wanted) (v : Value) → has_form w v ≡ true → is_in_range names kind w v ≡ true → Fits names kind w (Some v)
fits names kind (NumberFrom low high) (values.Atom a) form range = size-within low high a range
fits names kind (NumberFrom low high) (values.List atoms) form range = absurd (cc (form))
fits names kind (EvenFrom low high) (values.Atom a) form range =
    let parts = and_parts (is_between low high a) (is_even a) range in
    let within = size-within low high a parts.0 in
    (within.0, within.1, even-number a parts.1)
fits names kind (EvenFrom low high) (values.List atoms) form range = absurd (cc (form))
fits names kind (TripleFrom low high) (values.Atom a) form range = absurd (cc (form))
fits names kind (TripleFrom low high) (values.List atoms) form range =
    let t = list-passes (each (is_wanted (TripleFrom low high)) atoms) (is_between low high) (is_between low high) atoms form range in
    let P = λ (x : ℕ). (low ≤ x) × (x ≤ high) in
    record {
      three = length-map atoms size_of ∙ t.0;
      limits = All-map P size_of atoms (All-weaker (λ a. is_between low high a ≡ true) (λ a. P (size_of a)) (size-within low high) atoms t.1);
    }
fits names kind (TripleUpTo most) (values.Atom a) form range = absurd (cc (form))
fits names kind (TripleUpTo most) (values.List atoms) form range =
    let t = list-passes (each (is_wanted (TripleUpTo most)) atoms) (is_up_to most) (is_up_to most) atoms form range in
    let P = λ (z : ℤ). nat_abs z ≤ most in
    record {
      three = length-map atoms number_of ∙ t.0;
      limits = All-map P number_of atoms (All-weaker (λ a. is_up_to most a ≡ true) (λ a. P (number_of a)) (size-up_to most) atoms t.1);
    }
fits names kind (OneOf words) (values.Atom a) form range = range
fits names kind (OneOf words) (values.List atoms) form range = absurd (cc (form))
fits names kind (ThreeOf words) (values.Atom a) form range = absurd (cc (form))
fits names kind (ThreeOf words) (values.List atoms) form range =
    length-map atoms word_of ∙ eqb-true (length atoms) 3 (and_parts (length atoms == 3) (each (is_wanted (ThreeOf words)) atoms) form).0
fits names kind NewNames (values.Atom a) form range = absurd (cc (form))
fits names kind NewNames (values.List atoms) form range =
    let parts = and_parts (each (is_in_reach names kind NewNames) atoms) (nat_le (length atoms) most_fields && all_differ (map word_of atoms)) range in
    let distinct = and_parts (nat_le (length atoms) most_fields) (all_differ (map word_of atoms)) parts.1 in
    record {
      few = omega (arith, leb-true (length atoms) most_fields distinct.0, length-map atoms word_of);
      forms = All-map (λ name. IsTrue (is_field_name name)) word_of atoms (each-true (is_in_reach names kind NewNames) atoms parts.0);
      different = distinct.1;
    }
fits names kind FieldName (values.Atom a) form range = range
fits names kind FieldName (values.List atoms) form range = absurd (cc (form))
fits names kind Threshold (values.Atom a) form range = (size-within 0 (most_threshold kind) a range).1
fits names kind Threshold (values.List atoms) form range = absurd (cc (form))

-- ---- the keys of a table

-- what is left out is taken
abbrev pub takes_default : List (List ℕ) → List ℕ → Wanted → Option Value → Bool
takes_default names kind w None = true
takes_default names kind w (Some v) = has_form w v && is_in_range names kind w v

-- a fact of what is had
abbrev pub IfHad : Bool → Type 0 → Type 0
IfHad true P = P
IfHad false P = Unit {0}

if-had : (b : Bool) (P : Type 0) → P → IfHad b P
if-had true P p = p
if-had false P p = tt

from_default : (names : List (List ℕ)) (kind : List ℕ) (w : Wanted) (d : Option Value) (had : Bool) → takes_default names kind w d ≡ true
    → (is_none d && had) ≡ false → IfHad had (Fits names kind w d)
from_default names kind w None true takes none = absurd cc
from_default names kind w None false takes none = tt
from_default names kind w (Some v) had takes none =
    let parts = and_parts (has_form w v) (is_in_range names kind w v) takes in
    if-had had (Fits names kind w (Some v)) (fits names kind w v parts.0 parts.1)

key-fits : (names : List (List ℕ)) (kind : List ℕ) (k : Key) (o : Option Value) → takes_default names kind k.wanted k.default ≡ true → Kept names kind k o
    → IfHad (is_had k kind) (Fits names kind k.wanted (option_or o k.default))
key-fits names kind k None takes kept = from_default names kind k.wanted k.default (is_had k kind) takes kept
key-fits names kind k (Some v) takes kept = if-had (is_had k kind) (Fits names kind k.wanted (Some v)) (fits names kind k.wanted v kept.1 kept.2)

-- the value of a key, or its default, fits the key where the kind has it
abbrev pub KeyFits : List (List ℕ) → List ℕ → List Setting → Key → Type 0
KeyFits names kind sets k = IfHad (is_had k kind) (Fits names kind k.wanted (value_at k sets))

pub keys-fit : (names : List (List ℕ)) (kind : List ℕ) (sets : List Setting) (keys : List Key)
    → each (λ k. takes_default names kind k.wanted k.default) keys ≡ true → All (λ k. Kept names kind k (value_of k.name sets)) keys
    → Each (KeyFits names kind sets) keys
keys-fit names kind sets [] takes kept = tt
keys-fit names kind sets (k ∷ keys) takes kept =
    let P = λ (j : Key). Kept names kind j (value_of j.name sets) in
    let parts = and_parts (takes_default names kind k.wanted k.default) (each (λ j. takes_default names kind j.wanted j.default) keys) takes in
    (key-fits names kind k (value_of k.name sets) parts.0 (All-head P k keys kept), keys-fit names kind sets keys parts.1 (All-tail P k keys kept))
