-- Field by field what leaves the domain.
use Rattle.run_core.proofs.Advancing.{outflow-listed}
use Rattle.run_core.proofs.flux.flux_out.Goals as goal

pub returns : goal.returns
returns c =
    outflow-listed c.args.params.now c.args.quiet.now.problem c.outer-out.result c.requires.setting
    (λ f h. c.outer-out.ensures.out _ f c.requires.made h) c.outer-out.ensures.none
