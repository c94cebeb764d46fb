-- The text of a list's elements, one element more at a time.
use Rattle.std.proofs.Common.{◌≡◌, ℕ, ◌+◌, ◌<◌, zero, suc, List, [], ◌∷◌, ◌++◌, length, take, get_or, sym, ap, ◌∙◌, append_assoc, arith}
use Rattle.std.specs.Prelude.{codes}
use Rattle.std.proofs.lemmas.List.{take_more}
use Rattle.params_syntax.specs.declared.tree.Atom.{Atom}
use Rattle.params_syntax.specs.Canonical.{atom_text, elements_text}

-- an element behind at least one other, after a comma and a blank
elements_text-push : (x : Atom) (xs : List Atom) (a : Atom)
    → elements_text ((x ∷ xs) ++ a ∷ []) ≡ elements_text (x ∷ xs) ++ (codes ", " ++ atom_text a)
elements_text-push x [] a = append_assoc (atom_text x) (codes ", ") (atom_text a)
elements_text-push x (y ∷ ys) a =
    ap (λ (t : List ℕ). atom_text x ++ codes ", " ++ t) (elements_text-push y ys a)
    ∙ sym (append_assoc (atom_text x ++ codes ", ") (elements_text (y ∷ ys)) (codes ", " ++ atom_text a))

pub elements_text-first : (atoms : List Atom) (i : ℕ) (a : Atom) → i < 1 → i < length atoms → a ≡ get_or atoms i a
    → elements_text (take (i + 1) atoms) ≡ elements_text (take i atoms) ++ atom_text a
elements_text-first [] i a none below is = absurd (omega arith)
elements_text-first (x ∷ xs) zero a none below is = ap atom_text (sym is)
elements_text-first (x ∷ xs) (suc i) a none below is = absurd (omega arith)

pub elements_text-more : (atoms : List Atom) (i : ℕ) (a : Atom) → 0 < i → i < length atoms → a ≡ get_or atoms i a
    → elements_text (take (i + 1) atoms) ≡ elements_text (take i atoms) ++ (codes ", " ++ atom_text a)
elements_text-more [] i a some below is = absurd (omega arith)
elements_text-more (x ∷ xs) zero a some below is = absurd (omega arith)
elements_text-more (x ∷ xs) (suc i) a some below is =
    ap elements_text (take_more (x ∷ xs) (suc i) a below ∙ ap (λ b. x ∷ take i xs ++ b ∷ []) (sym is))
    ∙ elements_text-push x (take i xs) a
