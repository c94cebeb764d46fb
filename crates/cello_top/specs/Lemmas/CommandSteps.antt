-- What the steps of a command leave behind: reading the parameters, and carrying the command out.
use Rattle.std.specs.Prelude.{◌≡◌, ℕ, ◌≤◌, ◌⊎◌, ◌++◌, Bool, IsFalse, List, Option, Some, None}
use Rattle.cello_io.specs.Counts.{Rose}
use Rattle.cello_io.specs.Files.{PastFiles, SamePast, ShelfTells}
use Rattle.adapt_core.specs.Cells.{AdaptProblem}
use Rattle.params_check.specs.Parameters.{Parameters}
use Rattle.run_core.specs.declared.fault.RunFault.{RunFault}
use Rattle.run_core.specs.Courses.{Course, RunState, whole}
use Rattle.run_core.specs.Runs.{RunEnds}
use Rattle.run_report.specs.Actions.{Action, later_actions}
use Rattle.run_report.specs.Outputs.{Output, StandsWithin, with_actions}
use Rattle.cello_top.specs.declared.fault.Fault.{Fault}
use Rattle.cello_top.specs.declared.fault.Fault.TheVariants.{ReadFault, WriteFault, Memory}
use Rattle.cello_top.specs.declared.words.Command.{Command}
use Rattle.cello_top.specs.declared.words.Command.TheVariants.{Text, Resume, Demo}
use Rattle.cello_top.specs.declared.words.TextCommand.{TextCommand}
use Rattle.cello_top.specs.declared.words.TextCommand.TheVariants.{Solo, Check}
use Rattle.cello_top.specs.Words.{IsSolo, IsCheck, IsDemo, IsResume}
use Rattle.cello_top.specs.Faults.{IsAnswered, SawText, fault_of}
use Rattle.cello_top.specs.Texts.{HasParameters, HasTextFault}
use Rattle.cello_top.specs.Answers.{Answer, IsAnswer}
use Rattle.cello_top.specs.Solo.{KeepsPast, ReadOut}
use Rattle.cello_top.specs.Counts.{HandlesBy}

-- the words of a command
abbrev pub IsOf : TextCommand → List (List ℕ) → Type 0
IsOf Solo words = IsSolo words
IsOf Check words = IsCheck words

-- the words of any command
abbrev pub IsOfCommand : Command → List (List ℕ) → Type 0
IsOfCommand (Text command) words = IsOf command words
IsOfCommand (Resume name until) words = IsResume words name until
IsOfCommand (Demo seed size) words = IsDemo words seed size

-- What a call saw: the bytes left in the source before and after it, whether the source has ended, and what the sink
-- and the shelf told of what was written before and after it.
pub record Seen : Type 0 where
  pub left_before : Option (List ℕ)
  pub left_after : Option (List ℕ)
  pub has_ended : Bool
  pub written_before : Output
  pub written_after : Output

abbrev pub call_saw : Option (List ℕ) → Option (List ℕ) → Bool → Output → Output → Seen
call_saw left_before left_after has_ended written_before written_after = record {
  left_before = left_before;
  left_after = left_after;
  has_ended = has_ended;
  written_before = written_before;
  written_after = written_after;
}

-- the bytes that were read have these parameters
pub record ReadParameters (old new : Option (List ℕ)) (has_ended : Bool) (p : Parameters) : Type 0 where
  pub bytes : List ℕ
  pub read : ReadOut old new has_ended bytes
  pub parameters : HasParameters bytes p

-- why reading parameters ends otherwise than well
pub data ReadingEnds (old new : Option (List ℕ)) (has_ended : Bool) (fault : Fault) : Type 0 where
  reading_text : (bytes : List ℕ) → ReadOut old new has_ended bytes → HasTextFault bytes fault → ReadingEnds old new has_ended fault
  reading_source : fault ≡ ReadFault → ReadingEnds old new has_ended fault
  reading_memory : fault ≡ Memory → ReadingEnds old new has_ended fault

-- the command ended as the answer to its words and to the bytes that were read says, on any past files
pub record AnswersRead (words : List (List ℕ)) (fault : Option Fault) (saw : Seen) : Type 0 where
  pub bytes : List ℕ
  pub read : ReadOut saw.left_before saw.left_after saw.has_ended bytes
  pub answer : Answer
  pub is : (past : PastFiles) → IsAnswer words bytes past answer
  pub same_fault : fault ≡ answer.fault
  pub acted : saw.written_after ≡ with_actions saw.written_before answer.actions

-- the command wrote a part of what the answer says
pub record AnswersReadInPart (words : List (List ℕ)) (saw : Seen) : Type 0 where
  pub bytes : List ℕ
  pub read : ReadOut saw.left_before saw.left_after saw.has_ended bytes
  pub answer : Answer
  pub is : (past : PastFiles) → IsAnswer words bytes past answer
  pub part : StandsWithin answer.actions saw.written_before saw.written_after

-- the command wrote nothing
abbrev pub WroteNothing : Seen → Type 0
WroteNothing saw = saw.written_after ≡ saw.written_before

-- why a command of these words ends otherwise than well
pub data CommandEnds (words : List (List ℕ)) (fault : Fault) (saw : Seen) : Type 0 where
  command_answered : IsAnswered (Some fault) → SawText (Some fault) → AnswersRead words (Some fault) saw → CommandEnds words fault saw
  command_source : fault ≡ ReadFault → CommandEnds words fault saw
  command_sink : fault ≡ WriteFault → AnswersReadInPart words saw → CommandEnds words fault saw
  command_memory : fault ≡ Memory → WroteNothing saw ⊎ AnswersReadInPart words saw → CommandEnds words fault saw

-- how many messages a command handled that ended well
abbrev pub CommandHandles : (AdaptProblem → ℕ → Type 0) → TextCommand → Option (List ℕ) → Option (List ℕ) → Bool → ℕ → Type 0
CommandHandles counts Solo old new has_ended handled = (p : Parameters) × ReadParameters old new has_ended p × HandlesBy counts (whole p) handled
CommandHandles counts Check old new has_ended handled = handled ≡ 0

-- all was written that a run writes, up to a limit where one ends it, behind these first lines
pub record RanTo (front : List Action) (c : Course) (limit : Option RunFault) (before after : Output) : Type 0 where
  pub state : RunState
  pub ends : RunEnds c state limit
  pub acted : after ≡ with_actions before (front ++ later_actions c.parameters state.told state.state.leaves limit)

-- a beginning of it was written
pub record RanInPart (front : List Action) (c : Course) (before after : Output) : Type 0 where
  pub state : RunState
  pub limit : Option RunFault
  pub ends : RunEnds c state limit
  pub part : StandsWithin (front ++ later_actions c.parameters state.told state.state.leaves limit) before after

-- all was written, and so many messages were handled
pub record RanWhole (counts : AdaptProblem → ℕ → Type 0) (front : List Action) (c : Course) (handled : ℕ) (before after : Output) : Type 0 where
  pub ran : RanTo front c None before after
  pub counted : HandlesBy counts c handled

-- why a run ends otherwise than well
pub data RunningEnds (front : List Action) (c : Course) (before after : Output) (fault : Fault) : Type 0 where
  running_limit : (limit : RunFault) → fault ≡ fault_of limit → RanTo front c (Some limit) before after → RunningEnds front c before after fault
  running_failed : fault ≡ WriteFault → RanInPart front c before after → RunningEnds front c before after fault
  running_memory : fault ≡ Memory → RanInPart front c before after → RunningEnds front c before after fault

-- What a step does to the count of a sink and to a shelf beside what it writes. No count of writing faults falls, and
-- one rose where the step failed by a device; what was there before stays; and but for such a failure no file is being
-- written.
pub record TreatsDevices (before after : ℕ) (old new : ShelfTells) (failed : Type 0) : Type 0 where
  pub sink_faults : before ≤ after
  pub shelf_faults : old.write_faults ≤ new.write_faults
  pub past : SamePast old new
  pub cause : failed → Rose before after ⊎ Rose old.write_faults new.write_faults
  pub idle : (failed → ⊥) → IsFalse new.is_writing

-- The same of a command that may fetch a file before it writes: the counts of fetching may rise.
pub record KeepsDevices (before after : ℕ) (old new : ShelfTells) (failed : Type 0) : Type 0 where
  pub sink_faults : before ≤ after
  pub shelf_faults : old.write_faults ≤ new.write_faults
  pub past : KeepsPast old new
  pub cause : failed → Rose before after ⊎ Rose old.write_faults new.write_faults
  pub idle : (failed → ⊥) → IsFalse new.is_writing
