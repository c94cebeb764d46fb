-- What forming a token answers in the code.
use Rattle.std.specs.Prelude.{◌≡◌, ℕ, ℤ, pos, Bool, true, false, Ok, Err}
use Rattle.std.specs.declared.result.Result.{Result}
use Rattle.params_syntax.specs.declared.fault.SyntaxKind.{SyntaxKind}
use Rattle.params_syntax.specs.Tokens.{Found, negative}

-- what a number's digits stand for, after a `-` or not
abbrev pub signed : Bool → ℕ → ℤ
signed true n = negative n
signed false n = pos n

-- What a function returned, seen by `view`, is what forming a token gives.
abbrev pub Gives : {X : Type 0} → (X → Found) → Result X SyntaxKind → Result Found SyntaxKind → Type 0
Gives view (Ok x) read = read ≡ Ok (view x)
Gives view (Err kind) read = read ≡ Err kind
