-- The search for the file of a name.
use Rattle.std.proofs.Common.{◌≡◌, drop}
use Rattle.cello_io.specs.StoredFiles.{file_named}
use Rattle.cello_io.proofs.files.copy_of_file.Given as goal

-- no file so far has the name
abbrev pub invariant-loop-file : goal.invariant-loop-file
invariant-loop-file l = (file_named (drop l.file-index l.files) l.name ≡ file_named l.files l.name) × (l.to ≡ l.fn.to)
