-- The file was found, or isn't this one.
use Rattle.std.proofs.Common.{sym, ◌∙◌}
use Rattle.cello_io.proofs.FilesByName.{file_named-next}
use Rattle.cello_io.proofs.files.copy_of_file.Goals as goal

pub loop-file-preserved : goal.loop-file-preserved
loop-file-preserved c = (
  sym (file_named-next c.args.files.now c.loop-file.file-index c.file-item.result c.args.name.now c.loop-file-test.true c.file-item.is
      (rw (sym c.bytes.ensures.bytes, sym c.bytes-in-loop-file.ensures.bytes) (sym c.eq.ensures ∙ c.if-eq.false))) ∙ c.loop-file.invariant.0,
  c.loop-file.invariant.1,
)
