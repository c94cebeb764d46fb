-- What a step of a walk answers: the first of its faults, where it has one.
use Rattle.std.specs.Prelude.{◌≡◌, List, [], ◌∷◌, Option, Some, None, Ok, Err}
use Rattle.std.specs.declared.result.Result.{Result}
use Rattle.params_check.specs.declared.fault.ParamFault.{ParamFault}
use Rattle.params_check.specs.declared.fault.CheckError.{CheckError}
use Rattle.params_check.specs.declared.fault.CheckError.TheVariants.{Param, Memory}

abbrev pub first_fault : List ParamFault → Option ParamFault
first_fault [] = None
first_fault (f ∷ fs) = Some f

-- A step finds these faults: it answers a value where there is none, and else the first, unless memory was refused.
abbrev pub Finds : {A : Type 0} → List ParamFault → Result A CheckError → Type 0
Finds faults (Ok x) = first_fault faults ≡ None
Finds faults (Err (Param f)) = first_fault faults ≡ Some f
Finds faults (Err Memory) = Unit {0}
