-- A fault of syntax, and one of parameters.
use Rattle.std.proofs.Common.{refl, subst, inr}
use Rattle.params_check.specs.Walks.{IsRefused}
use Rattle.cello_top.specs.Texts.{of_parameters}
use Rattle.cello_top.proofs.TextEnds.{syntax-fault}
use Rattle.cello_top.proofs.parameters.parameters_of.Goals as goal

pub returns-in-Err-Syntax-clause-faulty : goal.returns-in-Err-Syntax-clause-faulty
returns-in-Err-Syntax-clause-faulty c =
    inr (syntax-fault c.args.text.now c.in-Err-Syntax.field-0 c.in-Err-Syntax.fault _ c.in-Err-Syntax.ensures.fault c.in-Err-Syntax.field-0-is c.in-Err-Syntax.fault-is)

pub returns-in-Err-Param-clause-faulty : goal.returns-in-Err-Param-clause-faulty
returns-in-Err-Param-clause-faulty c =
    inr (of_parameters c.in-Ok.tree c.in-Err-Param.fault c.in-Ok.ensures.tree (subst (IsRefused c.in-Ok.tree) c.in-Err-Param.field-0-is c.in-Err-Param.ensures.fault) refl)
