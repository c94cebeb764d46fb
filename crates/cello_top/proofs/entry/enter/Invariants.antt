-- The words that the types name.
use Rattle.std.proofs.Common.{map}
use Rattle.std.specs.String.{string_bytes}
use Rattle.cello_top.specs.WorkerWords.{plain_words}
use Rattle.cello_top.proofs.entry.enter.Given as goal

abbrev pub ghosts-obey : goal.ghosts-obey
ghosts-obey g a = record { words = plain_words (map string_bytes a._words.now) }

abbrev pub ghosts-obey_by_workers : goal.ghosts-obey_by_workers
ghosts-obey_by_workers g a = record { words = plain_words (map string_bytes a.words.now) }
