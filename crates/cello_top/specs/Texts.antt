-- The parameters of a text, or its first fault.
use Rattle.std.specs.Prelude.{◌≡◌, ℕ, List, Ok, Err}
use Rattle.params_syntax.specs.declared.tree.Group.{Group}
use Rattle.params_syntax.specs.declared.fault.SyntaxFault.{SyntaxFault}
use Rattle.params_check.specs.declared.fault.ParamFault.{ParamFault}
use Rattle.params_syntax.specs.Reading.{Spells, HasFault}
use Rattle.params_check.specs.Parameters.{Parameters}
use Rattle.params_check.specs.Walks.{parameters_of}
use Rattle.cello_top.specs.declared.fault.Fault.{Fault}
use Rattle.cello_top.specs.declared.fault.Fault.TheVariants.{Syntax, Param}

-- the text spells a tree that has these parameters
pub record HasParameters (text : List ℕ) (p : Parameters) : Type 0 where
  pub groups : List Group
  pub spelled : Spells text groups
  pub accepted : parameters_of groups ≡ Ok p

-- The first fault of a text: of its syntax, or of the parameters of the tree that it spells.
pub data HasTextFault (text : List ℕ) (fault : Fault) : Type 0 where
  of_syntax : (f : SyntaxFault) → HasFault text f → fault ≡ Syntax f → HasTextFault text fault
  of_parameters : (groups : List Group) (f : ParamFault) → Spells text groups → parameters_of groups ≡ Err f → fault ≡ Param f → HasTextFault text fault
