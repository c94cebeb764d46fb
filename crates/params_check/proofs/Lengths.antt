-- How long the canonical texts of values, settings and subs are.
use Rattle.std.proofs.Common.{◌≡◌, ℕ, ◌*◌, ◌≤◌, ℤ, pos, negsuc, Bool, true, ◌&&◌, ◌==◌, nat_le, List, [], ◌∷◌, ◌++◌, length, map, codes, arith}
use Rattle.std.specs.Fmt.{signed_decimal}
use Rattle.std.proofs.lemmas.Bool.{and_parts, leb-true, eqb-true}
use Rattle.std.proofs.lemmas.List.{length-append}
use Rattle.std.proofs.lemmas.Fmt.{length_signed_le}
use Rattle.params_syntax.specs.declared.tree.Atom.{Atom}
use Rattle.params_syntax.specs.declared.tree.Atom.TheVariants.{Number, Word}
use Rattle.params_syntax.specs.declared.tree.Value.{Value}
use Rattle.params_syntax.specs.declared.tree.Value.TheVariants as values
use Rattle.params_syntax.specs.declared.tree.Setting.{Setting}
use Rattle.params_syntax.specs.Trees.{Each, IsNumber, IsAtom, IsValue, IsSetting, IsName}
use Rattle.params_syntax.specs.Canonical.{atom_text, elements_text, value_text, setting_text}
use Rattle.params_check.specs.Values.{word_of}
use Rattle.params_check.specs.Forms.{each, all_differ, is_wanted, is_in_reach, has_form, is_in_range}
use Rattle.params_check.specs.Keys.{Wanted, NumberFrom, EvenFrom, TripleFrom, TripleUpTo, OneOf, ThreeOf, NewNames, FieldName, Threshold}

number-short : (z : ℤ) → IsNumber z → length (signed_decimal z) ≤ 20
number-short (pos n) h = length_signed_le 19 (pos n) (omega arith) (omega arith)
number-short (negsuc n) h = length_signed_le 19 (negsuc n) (omega arith) (omega arith)

atom-short : (a : Atom) → IsAtom a → length (atom_text a) ≤ 34
atom-short (Number z) h = omega (arith, number-short z h)
atom-short (Word word) h = omega (arith, length-append word (codes "\""), h.1)

elements-short : (atoms : List Atom) → Each IsAtom atoms → length (elements_text atoms) ≤ length atoms * 36
elements-short [] h = omega arith
elements-short (a ∷ []) h = omega (arith, atom-short a h.0)
elements-short (a ∷ b ∷ atoms) h =
    omega (
      arith,
      length-append (atom_text a ++ codes ", ") (elements_text (b ∷ atoms)),
      length-append (atom_text a) (codes ", "),
      atom-short a h.0,
      elements-short (b ∷ atoms) h.1,
    )

three : (b : Bool) (atoms : List Atom) → ((length atoms == 3) && b) ≡ true → length atoms ≤ 4
three b atoms h = omega (arith, eqb-true (length atoms) 3 (and_parts (length atoms == 3) b h).0)

-- a list of a form that some key takes is short
list-few : (names : List (List ℕ)) (kind : List ℕ) (w : Wanted) (atoms : List Atom) → has_form w (values.List atoms) ≡ true
    → is_in_range names kind w (values.List atoms) ≡ true → length atoms ≤ 4
list-few names kind (NumberFrom low high) atoms form range = absurd cc
list-few names kind (EvenFrom low high) atoms form range = absurd cc
list-few names kind (TripleFrom low high) atoms form range = three (each (is_wanted (TripleFrom low high)) atoms) atoms form
list-few names kind (TripleUpTo most) atoms form range = three (each (is_wanted (TripleUpTo most)) atoms) atoms form
list-few names kind (OneOf words) atoms form range = absurd cc
list-few names kind (ThreeOf words) atoms form range = three (each (is_wanted (ThreeOf words)) atoms) atoms form
list-few names kind NewNames atoms form range =
    let parts = and_parts (each (is_in_reach names kind NewNames) atoms) (nat_le (length atoms) 4 && all_differ (map word_of atoms)) range in
    leb-true (length atoms) 4 (and_parts (nat_le (length atoms) 4) (all_differ (map word_of atoms)) parts.1).0
list-few names kind FieldName atoms form range = absurd cc
list-few names kind Threshold atoms form range = absurd cc

pub value-short : (names : List (List ℕ)) (kind : List ℕ) (w : Wanted) (v : Value) → has_form w v ≡ true → is_in_range names kind w v ≡ true → IsValue v
    → length (value_text v) ≤ 146
value-short names kind w (values.Atom a) form range h = omega (arith, atom-short a h)
value-short names kind w (values.List atoms) form range h =
    omega (
      arith,
      length-append (elements_text atoms) (codes "]"),
      elements-short atoms h.0,
      list-few names kind w atoms form range,
    )

pub name-short : (name : List ℕ) → IsName name → length name ≤ 32
name-short [] h = absurd h
name-short (b ∷ bs) h = h.2

pub setting-short : (s : Setting) → IsSetting s → length (value_text s.value) ≤ 146 → length (setting_text s) ≤ 183
setting-short s h short =
    omega (
      arith,
      length-append (s.name ++ codes " = " ++ value_text s.value) (codes ";\n"),
      length-append (s.name ++ codes " = ") (value_text s.value),
      length-append s.name (codes " = "),
      name-short s.name h.0,
    )
