-- The line of each fault.
use Rattle.std.specs.Prelude.{ℕ, List, ◌++◌, codes, decimal}
use Rattle.block_index.specs.Places.{Cube}
use Rattle.text_line.specs.Shown.{shown_name, shown_place}
use Rattle.leaf_set.specs.declared.leaf_fault.LeafFault.{LeafFault}
use Rattle.leaf_set.specs.declared.leaf_fault.LeafFault.TheVariants as leaves
use Rattle.params_syntax.specs.declared.fault.SyntaxFault.{SyntaxFault}
use Rattle.params_syntax.specs.declared.fault.SyntaxKind.{SyntaxKind}
use Rattle.params_syntax.specs.declared.fault.SyntaxKind.TheVariants as syntax
use Rattle.params_check.specs.declared.fault.ParamFault.{ParamFault}
use Rattle.params_check.specs.declared.fault.ParamKind.{ParamKind}
use Rattle.params_check.specs.declared.fault.ParamKind.TheVariants.{Missing, Unknown, Repeated, WrongForm, OutOfRange, Size, Courant, TotalTooLarge}
use Rattle.checkpoint.specs.declared.fault.CheckFault.{CheckFault}
use Rattle.checkpoint.specs.declared.fault.CheckFault.TheVariants as check
use Rattle.cello_top.specs.declared.fault.Fault.{Fault}
use Rattle.cello_top.specs.declared.fault.Fault.TheVariants.{Usage, Syntax, Param, LevelLimit, BlockLimit, ReadFault, WriteFault, Absent, Checkpoint, Memory}

abbrev pub syntax_name : SyntaxKind → List ℕ
syntax_name syntax.Long = codes "Long"
syntax_name syntax.Byte = codes "Byte"
syntax_name syntax.Name = codes "Name"
syntax_name syntax.Number = codes "Number"
syntax_name syntax.Word = codes "Word"
syntax_name syntax.Length = codes "Length"
syntax_name syntax.Unexpected = codes "Unexpected"
syntax_name syntax.End = codes "End"

abbrev pub kind_name : ParamKind → List ℕ
kind_name Missing = codes "Missing"
kind_name Unknown = codes "Unknown"
kind_name Repeated = codes "Repeated"
kind_name WrongForm = codes "WrongForm"
kind_name OutOfRange = codes "OutOfRange"
kind_name Size = codes "Size"
kind_name Courant = codes "Courant"
kind_name TotalTooLarge = codes "TotalTooLarge"

unfoldable pub usage_line : List ℕ
usage_line = codes "cello: usage: check, solo, resume NAME --until C, demo SEED SIZE, run --workers N, restart NAME --workers N --until C\n"

unfoldable pub param_line : ParamFault → List ℕ
param_line fault =
    codes "cello: parameter: " ++ kind_name fault.kind ++ codes " at " ++ shown_name fault.group ++ codes " "
    ++ shown_name fault.sub ++ codes " " ++ shown_name fault.key ++ codes "\n"

unfoldable pub syntax_line : SyntaxFault → List ℕ
syntax_line fault = codes "cello: syntax: " ++ syntax_name fault.kind ++ codes " at " ++ decimal fault.offset ++ codes "\n"

unfoldable pub level_limit_line : ℕ → Cube → List ℕ
level_limit_line phase place = codes "cello: level limit in phase " ++ decimal phase ++ codes " at " ++ shown_place place ++ codes "\n"

unfoldable pub block_limit_line : ℕ → ℕ → ℕ → List ℕ
block_limit_line phase count limit =
    codes "cello: block limit in phase " ++ decimal phase ++ codes ": " ++ decimal count ++ codes " over " ++ decimal limit ++ codes "\n"

unfoldable pub read_line : List ℕ
read_line = codes "cello: read fault\n"

unfoldable pub write_line : List ℕ
write_line = codes "cello: write fault\n"

unfoldable pub absent_line : List ℕ → List ℕ
absent_line name = codes "cello: no file " ++ shown_name name ++ codes "\n"

-- a fault of a list of leaves: its kind and its numbers
abbrev pub leaf_words : LeafFault → List ℕ
leaf_words (leaves.Order at) = codes "Leaves Order " ++ decimal at
leaf_words (leaves.Outside at) = codes "Leaves Outside " ++ decimal at
leaf_words (leaves.Overlap a b) = codes "Leaves Overlap " ++ decimal a ++ codes " " ++ decimal b
leaf_words (leaves.Hole at) = codes "Leaves Hole " ++ shown_place at
leaf_words (leaves.Jump a b) = codes "Leaves Jump " ++ decimal a ++ codes " " ++ decimal b
leaf_words leaves.Memory = codes "Leaves Memory"

-- a fault of a file: its kind and its numbers; where the leaves are at fault, theirs
abbrev pub file_words : CheckFault → List ℕ
file_words (check.Truncated at) = codes "Truncated " ++ decimal at
file_words check.Magic = codes "Magic"
file_words (check.Version found) = codes "Version " ++ decimal found
file_words check.Params = codes "Params"
file_words (check.Cycle found) = codes "Cycle " ++ decimal found
file_words (check.Count found limit) = codes "Count " ++ decimal found ++ codes " " ++ decimal limit
file_words (check.Word at) = codes "Word " ++ decimal at
file_words (check.Leaves fault) = leaf_words fault
file_words (check.Total field stated summed) = codes "Total " ++ decimal field ++ codes " " ++ decimal stated ++ codes " " ++ decimal summed
file_words (check.Balance field held initial) = codes "Balance " ++ decimal field ++ codes " " ++ decimal held ++ codes " " ++ decimal initial
file_words (check.Trailing at) = codes "Trailing " ++ decimal at
file_words check.Memory = codes "Memory"

unfoldable pub checkpoint_line : CheckFault → List ℕ
checkpoint_line fault = codes "cello: checkpoint: " ++ file_words fault ++ codes "\n"

unfoldable pub memory_line : List ℕ
memory_line = codes "cello: out of memory\n"

abbrev pub fault_line : Fault → List ℕ
fault_line Usage = usage_line
fault_line (Syntax fault) = syntax_line fault
fault_line (Param fault) = param_line fault
fault_line (LevelLimit phase place) = level_limit_line phase place
fault_line (BlockLimit phase count limit) = block_limit_line phase count limit
fault_line ReadFault = read_line
fault_line WriteFault = write_line
fault_line (Absent name) = absent_line name
fault_line (Checkpoint fault) = checkpoint_line fault
fault_line Memory = memory_line
