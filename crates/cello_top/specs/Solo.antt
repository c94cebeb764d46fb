-- What a call of `solo` reads, and what it leaves behind.
use Rattle.std.specs.Prelude.{◌≡◌, ℕ, ◌+◌, ◌<◌, ◌≤◌, All, Bool, List, length, take, Option, None, Some, IfSome}
use Rattle.std.specs.Io.KnownBytes.{prepend_known}
use Rattle.cello_io.specs.Files.{PastFiles, ShelfTells}
use Rattle.cello_io.specs.Reads.{StoppedAt}
use Rattle.checkpoint.specs.declared.fault.CheckFault.{CheckFault}
use Rattle.checkpoint.specs.declared.fault.CheckFault.TheVariants as check
use Rattle.checkpoint.specs.Reading.{HasFault}
use Rattle.leaf_set.specs.declared.leaf_fault.LeafFault.TheVariants as leaf_faults
use Rattle.params_syntax.specs.Reading.{longest}
use Rattle.restart_laws.specs.Resumes.{fetch_limit}
use Rattle.run_report.specs.Outputs.{Output, StandsWithin, with_actions}
use Rattle.cello_top.specs.declared.outcome.Outcome.{Outcome}
use Rattle.cello_top.specs.Answers.{Answer, IsAnswer}
use Rattle.cello_io.specs.Fetching.{HasFetched}
use Rattle.cello_top.specs.Words.{IsResume, IsSomeResume, ReadsSource}

-- one byte more than a parameter text may have
abbrev pub read_limit : ℕ
read_limit = longest + 1

-- The source was read to its end, or as many bytes as the limit were; these are the bytes.
pub record ReadOut (old new : Option (List ℕ)) (has_ended : Bool) (bytes : List ℕ) : Type 0 where
  pub read : old ≡ prepend_known bytes new
  pub within : length bytes ≤ read_limit
  pub stopped : StoppedAt read_limit has_ended new bytes
  pub told : IfSome old (λ all. bytes ≡ take read_limit all)

-- The input of a call, where it is told: for commands that read the source the bytes that are left in it, and for
-- `resume` the past files of the shelf. What the words don't ask for may be anything.
pub record IsInput (words : List (List ℕ)) (left : Option (List ℕ)) (told : Option PastFiles) (bytes : List ℕ) (past : PastFiles) : Type 0 where
  pub source : ReadsSource words → left ≡ Some bytes
  pub shelf : IsSomeResume words → told ≡ Some past

-- each past file is a list of bytes
abbrev pub HoldBytes : PastFiles → Type 0
HoldBytes past = (name file : List ℕ) → past name ≡ Some file → All (λ b. b < 256) file

-- the past files stay, and no count of fetching falls
pub record KeepsPast (old new : ShelfTells) : Type 0 where
  pub past : new.past ≡ old.past
  pub fetch_faults : old.fetch_faults ≤ new.fetch_faults
  pub absences : old.absences ≤ new.absences

-- `resume` was asked for the file of this name, and where the past files are told, there is none.
pub record IsWithoutFile (words : List (List ℕ)) (tells : ShelfTells) (name : List ℕ) : Type 0 where
  pub until : ℕ
  pub is : IsResume words name until
  pub none : IfSome tells.past (λ past. past name ≡ None)

-- `resume` was asked for a file, and this is the first fault of what was fetched of it. It is never that memory was
-- refused.
pub record IsFileAtFault (words : List (List ℕ)) (tells : ShelfTells) (fault : CheckFault) : Type 0 where
  pub name : List ℕ
  pub until : ℕ
  pub is : IsResume words name until
  pub bytes : List ℕ
  pub fetched : HasFetched name fetch_limit bytes tells
  pub faulty : HasFault bytes fault
  pub other : fault ≡ check.Memory → ⊥
  pub leaves : fault ≡ check.Leaves leaf_faults.Memory → ⊥

-- The outcome is an answer's. Exactly the bytes of the answer's pieces are new in the sink, and exactly its files are
-- new on the shelf, each of them sealed.
pub record KeepsAnswer (answer : Answer) (outcome : Outcome) (old new : Output) : Type 0 where
  pub fault : outcome.fault ≡ answer.fault
  pub acted : new ≡ with_actions old answer.actions

-- the outcome and what is new are those of the answer to these words, bytes and past files
pub record Answers (words : List (List ℕ)) (bytes : List ℕ) (past : PastFiles) (outcome : Outcome) (old new : Output) : Type 0 where
  pub answer : Answer
  pub is : IsAnswer words bytes past answer
  pub keeps : KeepsAnswer answer outcome old new

-- What is new is a beginning of what the answer writes: some first actions are there whole, the next one in part or
-- not at all, and nothing of those behind it.
pub record AnswersInPart (words : List (List ℕ)) (bytes : List ℕ) (past : PastFiles) (old new : Output) : Type 0 where
  pub answer : Answer
  pub is : IsAnswer words bytes past answer
  pub part : StandsWithin answer.actions old new
