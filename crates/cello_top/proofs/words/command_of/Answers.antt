-- A command that reads the source, or `resume`.
use Rattle.std.proofs.Common.{refl}
use Rattle.cello_top.specs.declared.words.Command.TheVariants.{Text}
use Rattle.cello_top.proofs.CommandWords.{some-word, no-word}
use Rattle.cello_top.proofs.words.command_of.Goals as goal

pub returns-in-Some-clause-none : goal.returns-in-Some-clause-none
returns-in-Some-clause-none c = some-word (Text c.in-Some.command) _ c.in-Some.ensures.found

pub returns-in-None-clause-none : goal.returns-in-None-clause-none
returns-in-None-clause-none c = no-word c.other_command_of.result _ (c.in-None.ensures.none.0 refl) c.other_command_of.ensures.none
