-- The first fault of faults joined end to end.
use Rattle.std.proofs.Common.{◌≡◌, List, [], ◌∷◌, ◌++◌, Some, None, refl, sym, ap, ◌∙◌, subst, Ok, Err}
use Rattle.std.specs.declared.result.Result.{Result}
use Rattle.std.specs.Option.{option_or}
use Rattle.std.specs.Result.{IsErrAnd}
use Rattle.params_check.specs.declared.fault.ParamFault.{ParamFault}
use Rattle.params_check.specs.declared.fault.CheckError.{CheckError}
use Rattle.params_check.specs.declared.fault.CheckError.TheVariants.{Param, Memory}
use Rattle.params_check.specs.Lemmas.Firsts.{first_fault, Finds}

pub first_fault-append : (a b : List ParamFault) → first_fault (a ++ b) ≡ option_or (first_fault a) (first_fault b)
first_fault-append [] b = refl
first_fault-append (f ∷ fs) b = refl

-- where the first part has no fault
pub first_fault-passed : (a b : List ParamFault) → first_fault a ≡ None → first_fault (a ++ b) ≡ first_fault b
first_fault-passed a b e = first_fault-append a b ∙ ap (λ o. option_or o (first_fault b)) e

-- where the first part has one
pub first_fault-found : (a b : List ParamFault) (f : ParamFault) → first_fault a ≡ Some f → first_fault (a ++ b) ≡ Some f
first_fault-found a b f e = first_fault-append a b ∙ ap (λ o. option_or o (first_fault b)) e

-- no first fault, no fault
pub no_first_fault : (a : List ParamFault) → first_fault a ≡ None → a ≡ []
no_first_fault [] e = refl
no_first_fault (f ∷ fs) e = (cc)

-- ---- what a step answers

-- the first of these faults, unless memory was refused
abbrev pub IsFirst : List ParamFault → CheckError → Type 0
IsFirst faults (Param f) = first_fault faults ≡ Some f
IsFirst faults Memory = Unit {0}

-- it is handed on
pub finds-err : {A : Type 0} (faults : List ParamFault) (r : Result A CheckError) (e : CheckError) → IsErrAnd r (λ error. error ≡ e) → IsFirst faults e
    → Finds faults r
finds-err faults (Ok x) e given found = absurd given
finds-err faults (Err (Param f)) e given found = subst (IsFirst faults) (sym given) found
finds-err faults (Err Memory) e given found = tt

-- what a step finds is the first of these faults
pub first-of : (A : Type 0) (xs ys : List ParamFault) (e : CheckError) → xs ≡ ys → Finds {A = A} xs (Err e) → IsFirst ys e
first-of A xs ys (Param f) same found = sym (ap first_fault same) ∙ found
first-of A xs ys Memory same found = tt

pub first-left : (a b : List ParamFault) (e : CheckError) → IsFirst a e → IsFirst (a ++ b) e
first-left a b (Param f) found = first_fault-found a b f found
first-left a b Memory found = tt

pub first-right : (a b : List ParamFault) (e : CheckError) → first_fault a ≡ None → IsFirst b e → IsFirst (a ++ b) e
first-right a b (Param f) none found = first_fault-passed a b none ∙ found
first-right a b Memory none found = tt

pub none-both : (a b : List ParamFault) → first_fault a ≡ None → first_fault b ≡ None → first_fault (a ++ b) ≡ None
none-both a b none none_next = first_fault-passed a b none ∙ none_next
