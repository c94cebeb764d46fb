-- The first line, and then all works.
use Rattle.std.proofs.Common.{refl}
use Rattle.std.proofs.lemmas.Result.{IfErr-weaker, IfOk-weaker}
use Rattle.cello_top.specs.Lemmas.CommandSteps.{running_failed}
use Rattle.cello_top.proofs.EngineSteps.{begin-told, behind-ends, behind-whole, front-in_part}
use Rattle.cello_top.proofs.engine.report_whole.Goals as goal

pub returns-in-Ok-clause-whole : goal.returns-in-Ok-clause-whole
returns-in-Ok-clause-whole g c =
    IfOk-weaker c.do_works.result _ _ (λ n h. behind-whole _ _ _ _ _ (c.in-Ok.ensures.acted _) _ n h)
    (c.do_works.ensures.whole _ (begin-told _ c.args.run _ c.requires.told c.requires.none))

pub returns-in-Ok-clause-ended : goal.returns-in-Ok-clause-ended
returns-in-Ok-clause-ended g c =
    IfErr-weaker c.do_works.result _ _ (λ fault h. behind-ends _ _ _ _ _ (c.in-Ok.ensures.acted _) fault h)
    (c.do_works.ensures.ended _ (begin-told _ c.args.run _ c.requires.told c.requires.none))

pub returns-clause-ended : goal.returns-clause-ended
returns-clause-ended g c = running_failed refl (front-in_part _ c.args.run.course c.requires.limits _ _ (c.in-Err.ensures.acted _))
