-- Words of `resume`, or of `demo`.
use Rattle.std.proofs.Common.{Some, refl, sym}
use Rattle.std.proofs.lemmas.Bool.{false≢true}
use Rattle.cello_top.proofs.CommandWords.{first-other, second-other}
use Rattle.cello_top.proofs.words.other_command_of.Goals as goal

pub returns-in-Some-clause-none : goal.returns-in-Some-clause-none
returns-in-Some-clause-none c = first-other (Some c.in-Some.command) _ (λ e. false≢true (sym e)) c.in-Some.ensures.none

pub returns-in-None-clause-none : goal.returns-in-None-clause-none
returns-in-None-clause-none c = second-other c.demo_of.result _ (c.in-None.ensures.none.0 refl) c.demo_of.ensures.none
