-- The text has no fault.
use Rattle.std.proofs.Common.{◌∙◌}
use Rattle.std.proofs.lemmas.Result.{IfErr-weaker}
use Rattle.cello_top.proofs.Demonstrated.{no-fault}
use Rattle.cello_top.proofs.demonstration.demo_parameters.Goals as goal

pub returns-in-Ok-clause-ended : goal.returns-in-Ok-clause-ended
returns-in-Ok-clause-ended c =
    let demo = c.demo_runs_meet_no_limit.ensures.ends c.args.seed c.args.size c.requires.seed c.requires.some c.requires.few in
    IfErr-weaker c.parameters_of.result _ _
    (λ fault h. no-fault c.args.seed c.args.size demo.0 demo.1 demo.2 demo.3 c.deref.result.now (c.deref.ensures.value ∙ c.in-Ok.ensures.text) fault h)
    c.parameters_of.ensures.faulty
