-- What a step of the reader answers: the next state, or why the token isn't taken.
use Rattle.std.specs.Prelude.{◌≡◌, ℕ, ◌<◌, ◌≤◌, List, Option, Some, None, Ok, Err}
use Rattle.std.specs.declared.result.Result.{Result}
use Rattle.params_syntax.specs.declared.fault.SyntaxKind.{SyntaxKind}
use Rattle.params_syntax.specs.declared.fault.SyntaxKind.TheVariants as kinds
use Rattle.params_syntax.specs.declared.fault.ReadError.{ReadError}
use Rattle.params_syntax.specs.declared.fault.ReadError.TheVariants as errors
use Rattle.params_syntax.specs.declared.fault.ReadError.TheVariants.{Syntax}
use Rattle.params_syntax.specs.declared.tree.Group.{Group}
use Rattle.params_syntax.specs.declared.state.State.{State}
use Rattle.params_syntax.specs.declared.state.State.TheVariants.{Top}
use Rattle.params_syntax.specs.declared.refusal.Refusal.{Refusal}
use Rattle.params_syntax.specs.declared.refusal.Refusal.TheVariants.{Unexpected, Length, Memory}
use Rattle.params_syntax.specs.Limits.{most_elements}
use Rattle.params_syntax.specs.Trees.{IsTree}
use Rattle.params_syntax.specs.Machine.States.{open_elements, at_top}

-- a list of too many elements would be open
abbrev pub IsFull : Option State → Type 0
IsFull None = ⊥
IsFull (Some next) = most_elements < open_elements next

-- A step gives this state, or refuses the token where there is none, or where a list would be too long.
abbrev pub StepsTo : Result State Refusal → Option State → Type 0
StepsTo (Ok next) o = (o ≡ Some next) × (open_elements next ≤ most_elements)
StepsTo (Err Unexpected) o = o ≡ None
StepsTo (Err Length) o = IsFull o
StepsTo (Err Memory) o = Unit {0}

-- a fault at an offset
abbrev pub fault_of : ℕ → SyntaxKind → ReadError
fault_of offset kind = Syntax (record { offset = offset; kind = kind })

-- why reading ends where a token isn't taken
abbrev pub refusal_of : ℕ → Refusal → ReadError
refusal_of offset Unexpected = fault_of offset kinds.Unexpected
refusal_of offset Length = fault_of offset kinds.Length
refusal_of offset Memory = errors.Memory

-- the limits of the groups between which reading stands
abbrev pub KeepsTop : State → Type 0
KeepsTop (Top groups) = IsTree groups
KeepsTop _ = Unit {0}

-- what reading gives at the end of a text of this length
abbrev pub end_of : ℕ → State → Result (List Group) ReadError
end_of long s = at_top Ok (Err (fault_of long kinds.End)) s
