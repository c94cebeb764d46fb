-- What holds at each turn of the loop.
use Rattle.std.proofs.Common.{◌≡◌, drop}
use Rattle.params_check.specs.Forms.{each}
use Rattle.cello_top.specs.Words.{is_file_byte}
use Rattle.cello_top.proofs.word_forms.are_file_bytes.Given as goal

abbrev pub invariant-loop-byte : goal.invariant-loop-byte
invariant-loop-byte l = each is_file_byte (drop l.byte-index l.bytes) ≡ each is_file_byte l.bytes
