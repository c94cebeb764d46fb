-- What reading a text answers: the tree that it spells, or its first fault.
use Rattle.std.specs.Prelude.{◌≡◌, ℕ, ◌-◌, ◌<◌, ◌≤◌, List, [], ◌∷◌, ◌++◌, length, Ok, Err}
use Rattle.std.specs.declared.result.Result.{Result}
pub use Rattle.params_syntax.specs.Limits.{longest}
use Rattle.params_syntax.specs.Limits.{most_elements}
use Rattle.params_syntax.specs.declared.fault.SyntaxKind.{SyntaxKind}
use Rattle.params_syntax.specs.declared.fault.SyntaxKind.TheVariants.{Long, Length, Unexpected, End}
use Rattle.params_syntax.specs.declared.fault.SyntaxFault.{SyntaxFault}
use Rattle.params_syntax.specs.declared.fault.ReadError.{ReadError}
use Rattle.params_syntax.specs.declared.fault.ReadError.TheVariants.{Syntax, Memory}
use Rattle.params_syntax.specs.declared.tree.Group.{Group}
use Rattle.params_syntax.specs.declared.token.Token.{Token}
use Rattle.params_syntax.specs.Tokens.{after_gap, token_at, NextToken, FrontTokens}
use Rattle.params_syntax.specs.Trees.{IsTree}
use Rattle.params_syntax.specs.Grammar.{tree_tokens, BeginTree, last_elements}

-- The text spells the tree: its tokens are the tree's, with blanks and comments between them.
pub record Spells (text : List ℕ) (groups : List Group) : Type 0 where
  pub short : length text ≤ longest
  pub limits : IsTree groups
  pub rest : List ℕ
  pub tokens : FrontTokens text (tree_tokens groups) rest
  pub ended : after_gap rest ≡ []

-- The tokens at the front of a text are formed and allowed, and no list among them is too long. `rest` is what
-- stands after them.
pub record FrontAllowed (text : List ℕ) (ts : List Token) (rest : List ℕ) : Type 0 where
  pub short : length text ≤ longest
  pub tokens : FrontTokens text ts rest
  pub allowed : BeginTree ts
  pub few : (front back : List Token) → front ++ back ≡ ts → last_elements front ≤ most_elements

-- a fault of a kind at the byte where so much of the text is left
abbrev pub fault_at : List ℕ → List ℕ → SyntaxKind → SyntaxFault
fault_at text left kind = record { offset = length text - length left; kind = kind }

-- The first fault of a text: that of the first token that can't be formed or isn't allowed after those before it. A
-- fault of forming a token comes before one of its place.
pub data HasFault (text : List ℕ) (fault : SyntaxFault) : Type 0 where
  too_long : longest < length text → fault ≡ record { offset = longest; kind = Long } → HasFault text fault
  unformed : (ts : List Token) (rest : List ℕ) (b : ℕ) (bs : List ℕ) (kind : SyntaxKind) → FrontAllowed text ts rest →
      after_gap rest ≡ b ∷ bs → token_at b bs ≡ Err kind → fault ≡ fault_at text (b ∷ bs) kind → HasFault text fault
  unexpected : (ts : List Token) (rest : List ℕ) (t : Token) (after : List ℕ) → FrontAllowed text ts rest → NextToken rest t after →
      (BeginTree (ts ++ t ∷ []) → ⊥) → fault ≡ fault_at text (after_gap rest) Unexpected → HasFault text fault
  too_many : (ts : List Token) (rest : List ℕ) (t : Token) (after : List ℕ) → FrontAllowed text ts rest → NextToken rest t after →
      BeginTree (ts ++ t ∷ []) → most_elements < last_elements (ts ++ t ∷ []) → fault ≡ fault_at text (after_gap rest) Length → HasFault text fault
  unended : (ts : List Token) (rest : List ℕ) → FrontAllowed text ts rest → after_gap rest ≡ [] →
      ((groups : List Group) → ts ≡ tree_tokens groups → ⊥) → fault ≡ record { offset = length text; kind = End } → HasFault text fault

-- what a text reads as
abbrev pub ReadsAs : List ℕ → Result (List Group) SyntaxFault → Type 0
ReadsAs text (Ok groups) = Spells text groups
ReadsAs text (Err fault) = HasFault text fault

-- why a text isn't read: its first fault, unless memory was refused
abbrev pub IsUnread : List ℕ → ReadError → Type 0
IsUnread text (Syntax fault) = HasFault text fault
IsUnread text Memory = Unit {0}
