-- What each fault comes from, and how a call ends by it.
use Rattle.std.specs.Prelude.{ℕ, Bool, true, false, T, Option, Some, None}
use Rattle.run_core.specs.declared.fault.RunFault.{RunFault}
use Rattle.run_core.specs.declared.fault.RunFault.TheVariants as run
use Rattle.cello_top.specs.declared.fault.Fault.{Fault}
use Rattle.cello_top.specs.declared.fault.Fault.TheVariants.{Usage, Syntax, Param, LevelLimit, BlockLimit, ReadFault, WriteFault, Absent, Checkpoint, Memory}
use Rattle.cello_top.specs.declared.fault_class.FaultClass.{FaultClass}
use Rattle.cello_top.specs.declared.fault_class.FaultClass.TheVariants.{Words, Text, Limit, Source, Sink, File, Allocator}

-- what a fault comes from
abbrev pub class_of : Fault → FaultClass
class_of Usage = Words
class_of (Syntax fault) = Text
class_of (Param fault) = Text
class_of (LevelLimit phase place) = Limit
class_of (BlockLimit phase count limit) = Limit
class_of ReadFault = Source
class_of WriteFault = Sink
class_of (Absent name) = File
class_of (Checkpoint fault) = File
class_of Memory = Allocator

-- How a call ends: its exit status; whether the answer to the words, the bytes and the past files says so, and no device
-- or want of memory; whether the call came as far as to look at the full text, and whether it can have come as far as to write.
pub record Ending : Type 0 where
  pub status : ℕ
  pub answered : Bool
  pub saw_text : Bool
  pub wrote : Bool

abbrev pub ending_row : ℕ → Bool → Bool → Bool → Ending
ending_row status answered saw_text wrote = record { status = status; answered = answered; saw_text = saw_text; wrote = wrote }

-- by a fault of each class: status, answered, saw the text, wrote
abbrev pub class_ending : FaultClass → Ending
class_ending Words = ending_row 1 true false false
class_ending Text = ending_row 2 true true false
class_ending Limit = ending_row 3 true true true
class_ending Source = ending_row 4 false false false
class_ending Sink = ending_row 4 false true true
class_ending File = ending_row 6 true false false
class_ending Allocator = ending_row 5 false false true

-- without a fault, or by one
abbrev pub ending_of : Option Fault → Ending
ending_of None = ending_row 0 true true true
ending_of (Some fault) = class_ending (class_of fault)

-- the exit status of an outcome
abbrev pub status_of : Option Fault → ℕ
status_of fault = (ending_of fault).status

-- neither a device nor memory ended the call
abbrev pub IsAnswered : Option Fault → Type 0
IsAnswered fault = T (ending_of fault).answered

-- the call came as far as to look at the full text
abbrev pub SawText : Option Fault → Type 0
SawText fault = T (ending_of fault).saw_text

-- the call can have come as far as to write
abbrev pub CameToWrite : Option Fault → Type 0
CameToWrite fault = T (ending_of fault).wrote

-- a run's fault as the call's
abbrev pub fault_of : RunFault → Fault
fault_of (run.LevelLimit phase place) = LevelLimit phase place
fault_of (run.BlockLimit phase count limit) = BlockLimit phase count limit
fault_of run.Memory = Memory
