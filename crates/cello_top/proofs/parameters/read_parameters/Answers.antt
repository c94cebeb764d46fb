-- Reading ends as looking at the text does.
use Rattle.std.proofs.lemmas.Result.{IfErr-weaker}
use Rattle.cello_top.proofs.TextEnds.{text-ended}
use Rattle.cello_top.proofs.parameters.read_parameters.Goals as goal

pub returns-in-Ok-clause-ended : goal.returns-in-Ok-clause-ended
returns-in-Ok-clause-ended g c =
    IfErr-weaker c.parameters_of.result _ _
    (text-ended _ _ _ c.in-Ok.text.items c.deref.result.now c.deref.ensures.value
    (record { read = c.in-Ok.ensures.read; within = c.in-Ok.ensures.within; stopped = c.in-Ok.ensures.stopped; told = c.in-Ok.ensures.told }))
    c.parameters_of.ensures.faulty

pub returns-in-Err-Failed-clause-read_most : goal.returns-in-Err-Failed-clause-read_most
returns-in-Err-Failed-clause-read_most g c = c.in-Err-Failed.ensures.lost
