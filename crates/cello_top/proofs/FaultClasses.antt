-- What the faults of texts and of runs come from.
use Rattle.std.proofs.Common.{◌≡◌, ℕ, suc, ◌+◌, List, Some, sym, ap, subst, ◌∙◌}
use Rattle.std.proofs.lemmas.Option.{same_Some, none-some}
use Rattle.std.specs.Prelude.{T}
use Rattle.block_index.specs.Places.{Cube}
use Rattle.block_index.specs.declared.wish.Wish.{Wish}
use Rattle.run_core.specs.declared.fault.RunFault.{RunFault}
use Rattle.run_core.specs.Courses.{Course, RunState}
use Rattle.run_core.specs.Runs.{PassesLimit, phase_wishes, of_level, of_blocks, RunEnds, after_all, at_limit}
use Rattle.cello_top.specs.declared.fault.Fault.{Fault}
use Rattle.cello_top.specs.declared.fault_class.FaultClass.{FaultClass}
use Rattle.cello_top.specs.declared.fault_class.FaultClass.TheVariants.{Text, Limit}
use Rattle.cello_top.specs.Faults.{class_of, class_ending, fault_of, IsAnswered, SawText}
use Rattle.cello_top.specs.Texts.{HasTextFault, of_syntax, of_parameters}

pub text-class : (text : List ℕ) (f : Fault) → HasTextFault text f → class_of f ≡ Text
text-class text f (of_syntax x a e) = ap class_of e
text-class text f (of_parameters groups x a r e) = ap class_of e

-- the limit that ends a run
pub limit-class : (c : Course) (s : RunState) (limit : RunFault) → RunEnds c s (Some limit) → class_of (fault_of limit) ≡ Limit
limit-class c s limit (after_all runs none) = absurd (none-some limit (sym none))
limit-class c s limit (at_limit phases f below runs passes is) =
    passed (c.ended + suc phases) s.state.leaves (phase_wishes c.parameters (c.ended + suc phases) s.state) f passes (same_Some limit f is)
  where
    passed : (phase : ℕ) (mesh : List Cube) (wishes : List Wish) (f : RunFault) → PassesLimit c.parameters phase mesh wishes f → limit ≡ f → class_of (fault_of limit) ≡ Limit
    passed phase mesh wishes f (of_level i place strict too none e) same = ap (λ (l : RunFault). class_of (fault_of l)) (same ∙ e)
    passed phase mesh wishes f (of_blocks levels keeps least many e) same = ap (λ (l : RunFault). class_of (fault_of l)) (same ∙ e)

-- a fault of one class is none of another
pub other-class : (f g : Fault) (k : FaultClass) → class_of f ≡ k → (k ≡ class_of g → ⊥) → f ≡ g → ⊥
other-class f g k is other same = other (sym is ∙ ap class_of same)

pub text-answered : (f : Fault) → class_of f ≡ Text → IsAnswered (Some f)
text-answered f is = subst (λ (k : FaultClass). T (class_ending k).answered) (sym is) tt

pub text-saw : (f : Fault) → class_of f ≡ Text → SawText (Some f)
text-saw f is = subst (λ (k : FaultClass). T (class_ending k).saw_text) (sym is) tt

pub limit-answered : (f : Fault) → class_of f ≡ Limit → IsAnswered (Some f)
limit-answered f is = subst (λ (k : FaultClass). T (class_ending k).answered) (sym is) tt

pub limit-saw : (f : Fault) → class_of f ≡ Limit → SawText (Some f)
limit-saw f is = subst (λ (k : FaultClass). T (class_ending k).saw_text) (sym is) tt
