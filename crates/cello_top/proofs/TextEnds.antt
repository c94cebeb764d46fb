-- How reading parameters ends, from how looking at the text ends.
use Rattle.std.proofs.Common.{◌≡◌, ℕ, List, Bool, Option, refl, sym, subst, ◌⊎◌, inl, inr}
use Rattle.cello_top.specs.declared.fault.Fault.{Fault}
use Rattle.cello_top.specs.declared.fault.Fault.TheVariants.{Syntax, Memory}
use Rattle.params_syntax.specs.declared.fault.ReadError.{ReadError}
use Rattle.params_syntax.specs.declared.fault.ReadError.TheVariants as errors
use Rattle.params_syntax.specs.declared.fault.SyntaxFault.{SyntaxFault}
use Rattle.params_syntax.specs.Reading.{HasFault, IsUnread}
use Rattle.cello_top.specs.Texts.{HasTextFault, of_syntax}
use Rattle.cello_top.specs.Solo.{ReadOut}
use Rattle.cello_top.specs.Lemmas.CommandSteps.{ReadingEnds, reading_text, reading_memory}

pub text-ended : (old new : Option (List ℕ)) (ended : Bool) (bytes shown : List ℕ) → shown ≡ bytes → ReadOut old new ended bytes → (fault : Fault)
    → (fault ≡ Memory) ⊎ HasTextFault shown fault → ReadingEnds old new ended fault
text-ended old new ended bytes shown same read fault (inl memory) = reading_memory memory
text-ended old new ended bytes shown same read fault (inr faulty) = reading_text bytes read (subst (λ text. HasTextFault text fault) same faulty)

pub syntax-fault : (text : List ℕ) (e : ReadError) (f g : SyntaxFault) → IsUnread text e → e ≡ errors.Syntax f → g ≡ f → HasTextFault text (Syntax g)
syntax-fault text e f g unread is same = of_syntax g (subst (HasFault text) (sym same) (subst (IsUnread text) is unread)) refl
