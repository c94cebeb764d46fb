-- What the words, the bytes of the source and the past files are answered. It doesn't say how the answer is found.
use Rattle.std.specs.Prelude.{◌≡◌, ℕ, List, [], ◌∷◌, Option, Some, None, Ok, Err, length}
use Rattle.std.specs.Option.{option_map}
use Rattle.cello_io.specs.Files.{PastFiles}
use Rattle.checkpoint.specs.declared.fault.CheckFault.{CheckFault}
use Rattle.checkpoint.specs.SavedStates.{SavedState}
use Rattle.params_check.specs.Parameters.{Parameters}
use Rattle.restart_laws.specs.Resumes.{StandsFor, resumed}
use Rattle.run_core.specs.declared.fault.RunFault.{RunFault}
use Rattle.run_core.specs.Courses.{RunState, whole}
use Rattle.run_core.specs.Runs.{RunEnds}
use Rattle.run_report.specs.Actions.{Action, piece, resumed_actions, run_actions}
use Rattle.cello_top.specs.declared.fault.Fault.{Fault}
use Rattle.cello_top.specs.declared.fault.Fault.TheVariants.{Absent, Checkpoint, Usage}
use Rattle.roomy_runs.specs.Summaries.{IsSummary}
use Rattle.cello_top.specs.Words.{IsSolo, IsCheck, IsCommand, IsDemo, IsResume, ReadsSource}
use Rattle.cello_top.specs.Faults.{fault_of}
use Rattle.cello_top.specs.Texts.{HasParameters, HasTextFault}

-- Why the call ends otherwise than well, if it does, and what it writes, in order: pieces and files.
pub record Answer : Type 0 where
  pub fault : Option Fault
  pub actions : List Action

-- an answer that refuses, and writes nothing
abbrev pub refusal : Fault → Answer
refusal fault = record { fault = Some fault; actions = [] }

-- The answer of a run that ends in this state, after its last phase or by a limit. It writes what is told of the run,
-- and where no limit ended it, the closing list of its mesh.
abbrev pub run_answer : Parameters → RunState → Option RunFault → Answer
run_answer p s limit = record { fault = option_map fault_of limit; actions = run_actions p s.told s.state.leaves limit }

-- the answer that writes the canonical text of parameters
abbrev pub text_answer : Parameters → Answer
text_answer p = record { fault = None; actions = piece p.text ∷ [] }

-- the answer that writes a summary
abbrev pub summary_answer : List ℕ → Answer
summary_answer bytes = record { fault = None; actions = piece bytes ∷ [] }

-- The answer of a run that goes on from a saved state, and ends in this one. It writes where it goes on from, and then
-- as any run what is told of it.
abbrev pub resumed_answer : SavedState → RunState → Option RunFault → Answer
resumed_answer s t limit = record {
  fault = option_map fault_of limit;
  actions = resumed_actions s.params s.cycle (length s.places) t.told t.state.leaves limit;
}

-- The answer to words, bytes and past files: words outside the set are refused, then bytes that aren't the text of
-- parameters. `check` answers the canonical text, and `solo` as the whole defined run of the parameters says. `resume`
-- refuses a name that has no file, then a file that is no checkpoint, and answers as the run says that goes on from its
-- state. `demo` answers the summary of its seed and its size.
pub data IsAnswer (words : List (List ℕ)) (bytes : List ℕ) (past : PastFiles) (answer : Answer) : Type 0 where
  other_words : (IsCommand words → ⊥) → answer ≡ refusal Usage → IsAnswer words bytes past answer
  other_text : (fault : Fault) → ReadsSource words → HasTextFault bytes fault → answer ≡ refusal fault → IsAnswer words bytes past answer
  checked : (p : Parameters) → IsCheck words → HasParameters bytes p → answer ≡ text_answer p → IsAnswer words bytes past answer
  run : (p : Parameters) (s : RunState) (limit : Option RunFault) → IsSolo words → HasParameters bytes p → RunEnds (whole p) s limit →
      answer ≡ run_answer p s limit → IsAnswer words bytes past answer
  no_file : (name : List ℕ) (until : ℕ) → IsResume words name until → past name ≡ None → answer ≡ refusal (Absent name) →
      IsAnswer words bytes past answer
  other_file : (name : List ℕ) (until : ℕ) (file : List ℕ) (fault : CheckFault) → IsResume words name until → past name ≡ Some file →
      StandsFor file (Err fault) → answer ≡ refusal (Checkpoint fault) → IsAnswer words bytes past answer
  gone_on : (name : List ℕ) (until : ℕ) (file : List ℕ) (s : SavedState) (t : RunState) (limit : Option RunFault) → IsResume words name until →
      past name ≡ Some file → StandsFor file (Ok s) → RunEnds (resumed s until) t limit → answer ≡ resumed_answer s t limit →
      IsAnswer words bytes past answer
  demonstrated : (seed size : ℕ) (summary : List ℕ) → IsDemo words seed size → IsSummary seed size summary → answer ≡ summary_answer summary →
      IsAnswer words bytes past answer
