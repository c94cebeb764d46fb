-- The words that the type names.
use Rattle.std.proofs.Common.{map}
use Rattle.std.specs.String.{string_bytes}
use Rattle.cello_top.proofs.one_thread.solo.Given as goal

abbrev pub ghosts-obey : goal.ghosts-obey
ghosts-obey g a = record { words = map string_bytes a._words.now }
