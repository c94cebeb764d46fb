-- The parameters of a text are one.
use Rattle.std.proofs.Common.{◌≡◌, ℕ, List, Ok, refl, ap, ◌∙◌}
use Rattle.std.specs.declared.result.Result.{Result}
use Rattle.params_syntax.specs.declared.fault.SyntaxFault.{SyntaxFault}
use Rattle.params_syntax.specs.declared.tree.Group.{Group}
use Rattle.params_syntax.specs.Reading.{ReadsAs, Spells}
use Rattle.params_check.specs.Parameters.{Parameters}
use Rattle.params_check.specs.Walks.{parameters_of}

-- a text reads as one tree, or as one fault
abbrev pub OneReading : Type 0
OneReading = (text : List ℕ) (a b : Result (List Group) SyntaxFault) → ReadsAs text a → ReadsAs text b → a ≡ b

same_Ok : {A B : Type 0} (r : Result A B) (x y : A) → r ≡ Ok x → r ≡ Ok y → x ≡ y
same_Ok r x y e h = cc

pub parameters-one : OneReading → (text : List ℕ) (groups others : List Group) (p q : Parameters) → Spells text groups → Spells text others
    → parameters_of groups ≡ Ok p → parameters_of others ≡ Ok q → p ≡ q
parameters-one one text groups others p q a b e h =
    let read : Ok groups ≡ Ok others = one text (Ok groups) (Ok others) a b in
    let same : groups ≡ others = same_Ok (Ok groups) groups others refl read in
    same_Ok (parameters_of groups) p q e (ap parameters_of same ∙ h)
