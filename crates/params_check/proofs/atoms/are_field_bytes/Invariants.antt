-- What holds at each turn of the loop.
use Rattle.std.proofs.Common.{◌≡◌, drop}
use Rattle.params_check.specs.Forms.{each, is_field_byte}
use Rattle.params_check.proofs.atoms.are_field_bytes.Given as goal

abbrev pub invariant-loop-byte : goal.invariant-loop-byte
invariant-loop-byte l = each is_field_byte (drop l.byte-index l.bytes) ≡ each is_field_byte l.bytes
