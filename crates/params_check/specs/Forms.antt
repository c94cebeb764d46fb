-- What it means that a value is one that a key takes: its form, and its range.
use Rattle.std.specs.Prelude.{ℕ, ◌%◌, pos, List, [], ◌∷◌, Bool, true, false, not, ◌&&◌, ◌||◌, ◌==◌, nat_le, nat_abs, int_le, cond, length, map, codes}
use Rattle.params_syntax.specs.declared.tree.Atom.{Atom}
use Rattle.params_syntax.specs.declared.tree.Atom.TheVariants.{Number, Word}
use Rattle.params_syntax.specs.declared.tree.Value.{Value}
use Rattle.params_syntax.specs.declared.tree.Value.TheVariants as values
use Rattle.params_syntax.specs.Tokens.{is_digit}
use Rattle.params_check.specs.Bounds.{most_fields, longest_field, greatest_amount, greatest_slope}
use Rattle.params_check.specs.Values.{same, word_of}
use Rattle.params_check.specs.Keys.{Key, Wanted, NumberFrom, EvenFrom, TripleFrom, TripleUpTo, OneOf, ThreeOf, NewNames, FieldName, Threshold, is_among}

-- the property of each of some elements
abbrev pub each : {X : Type 0} → (X → Bool) → List X → Bool
each p [] = true
each p (x ∷ xs) = p x && each p xs

-- no element stands twice
abbrev pub all_differ : List (List ℕ) → Bool
all_differ [] = true
all_differ (w ∷ ws) = not (is_among ws w) && all_differ ws

-- subs of the kind have the key
abbrev pub is_had : Key → List ℕ → Bool
is_had k kind = (length k.kinds == 0) || is_among k.kinds kind

-- ---- forms

-- a number is wanted, or several, and not words
abbrev pub wants_numbers : Wanted → Bool
wants_numbers (NumberFrom low high) = true
wants_numbers (EvenFrom low high) = true
wants_numbers (TripleFrom low high) = true
wants_numbers (TripleUpTo most) = true
wants_numbers (OneOf words) = false
wants_numbers (ThreeOf words) = false
wants_numbers NewNames = false
wants_numbers FieldName = false
wants_numbers Threshold = true

-- a list of so many elements is wanted
abbrev pub wants_list_of : Wanted → ℕ → Bool
wants_list_of (NumberFrom low high) n = false
wants_list_of (EvenFrom low high) n = false
wants_list_of (TripleFrom low high) n = n == 3
wants_list_of (TripleUpTo most) n = n == 3
wants_list_of (OneOf words) n = false
wants_list_of (ThreeOf words) n = n == 3
wants_list_of NewNames n = true
wants_list_of FieldName n = false
wants_list_of Threshold n = false

-- a single number or word is wanted, and no list
abbrev pub wants_single : Wanted → Bool
wants_single (NumberFrom low high) = true
wants_single (EvenFrom low high) = true
wants_single (TripleFrom low high) = false
wants_single (TripleUpTo most) = false
wants_single (OneOf words) = true
wants_single (ThreeOf words) = false
wants_single NewNames = false
wants_single FieldName = true
wants_single Threshold = true

-- the element is a number where numbers are wanted, and else a word
abbrev pub is_wanted : Wanted → Atom → Bool
is_wanted wanted (Number z) = wants_numbers wanted
is_wanted wanted (Word word) = not (wants_numbers wanted)

-- The value has the form that is wanted.
abbrev pub has_form : Wanted → Value → Bool
has_form wanted (values.Atom atom) = wants_single wanted && is_wanted wanted atom
has_form wanted (values.List atoms) = wants_list_of wanted (length atoms) && each (is_wanted wanted) atoms

-- ---- ranges

-- a number from a least one to a greatest
abbrev pub is_between : ℕ → ℕ → Atom → Bool
is_between low high (Number z) = int_le (pos low) z && int_le z (pos high)
is_between low high (Word word) = false

-- a number of at most this size
abbrev pub is_up_to : ℕ → Atom → Bool
is_up_to most (Number z) = nat_le (nat_abs z) most
is_up_to most (Word word) = false

abbrev pub is_even : Atom → Bool
is_even (Number z) = nat_abs z % 2 == 0
is_even (Word word) = false

-- from a to z
abbrev pub is_small_letter : ℕ → Bool
is_small_letter b = nat_le 97 b && nat_le b 122

-- a small letter, a digit or `_`
abbrev pub is_field_byte : ℕ → Bool
is_field_byte b = is_small_letter b || is_digit b || (b == 95)

-- the name of a field: a small letter, then small letters, digits and `_`, and not too long
abbrev pub is_field_name : List ℕ → Bool
is_field_name [] = false
is_field_name (b ∷ bs) = is_small_letter b && each is_field_byte bs && nat_le (length (b ∷ bs)) longest_field

-- the greatest threshold of a kind of criterion
abbrev pub most_threshold : List ℕ → ℕ
most_threshold kind = cond (same kind (codes "slope")) greatest_slope greatest_amount

-- an element in the range of a key of a kind of sub, where `names` are those of the fields
abbrev pub is_in_reach : List (List ℕ) → List ℕ → Wanted → Atom → Bool
is_in_reach names kind (NumberFrom low high) a = is_between low high a
is_in_reach names kind (EvenFrom low high) a = is_between low high a && is_even a
is_in_reach names kind (TripleFrom low high) a = is_between low high a
is_in_reach names kind (TripleUpTo most) a = is_up_to most a
is_in_reach names kind (OneOf words) a = is_among words (word_of a)
is_in_reach names kind (ThreeOf words) a = is_among words (word_of a)
is_in_reach names kind NewNames a = is_field_name (word_of a)
is_in_reach names kind FieldName a = is_among names (word_of a)
is_in_reach names kind Threshold a = is_between 0 (most_threshold kind) a

-- new names are few, and differ
abbrev pub are_distinct : Wanted → List Atom → Bool
are_distinct (NumberFrom low high) atoms = true
are_distinct (EvenFrom low high) atoms = true
are_distinct (TripleFrom low high) atoms = true
are_distinct (TripleUpTo most) atoms = true
are_distinct (OneOf words) atoms = true
are_distinct (ThreeOf words) atoms = true
are_distinct NewNames atoms = nat_le (length atoms) most_fields && all_differ (map word_of atoms)
are_distinct FieldName atoms = true
are_distinct Threshold atoms = true

-- The value is in its range for a sub of a kind.
abbrev pub is_in_range : List (List ℕ) → List ℕ → Wanted → Value → Bool
is_in_range names kind wanted (values.Atom atom) = is_in_reach names kind wanted atom
is_in_range names kind wanted (values.List atoms) = each (is_in_reach names kind wanted) atoms && are_distinct wanted atoms
