-- The last file is complete.
use Rattle.std.proofs.Common.{length, ap, ◌∙◌, arith}
use Rattle.cello_io.specs.StoredFiles.{file_named, made_files, complete}
use Rattle.cello_io.proofs.MadeFiles.{lie-complete, length-with_last}
use Rattle.cello_io.proofs.MemoryTells.{tells-sealed, Seals-made}
use Rattle.cello_io.proofs.memory_shelf.MemoryShelfShelf.seal.Goals as goal

pub invariant_of-self-2-clause-lie : goal.invariant_of-self-2-clause-lie
invariant_of-self-2-clause-lie c =
    let s = c.args.self.now in
    rw c.seal_last.ensures.last (lie-complete 0 s.made.items (length s.bytes.items) s.lie)

pub invariant_of-self-2-clause-few : goal.invariant_of-self-2-clause-few
invariant_of-self-2-clause-few c =
    let s = c.args.self.now in
    omega (arith, s.few, ap length c.seal_last.ensures.last ∙ length-with_last complete s.made.items)

pub returns-clause-seals : goal.returns-clause-seals
returns-clause-seals c =
    let s = c.args.self.now in
    Seals-made (file_named s.past) (made_files s.bytes.items s.made.items) _ s.write_faults s.fetch_faults s.absences _
    (tells-sealed (file_named s.past) s.bytes.items s.made.items c.seal_last.new.made.items s.write_faults s.fetch_faults s.absences c.seal_last.ensures.last)

pub returns-clause-told : goal.returns-clause-told
returns-clause-told c =
    let s = c.args.self.now in
    tells-sealed (file_named s.past) s.bytes.items s.made.items c.seal_last.new.made.items s.write_faults s.fetch_faults s.absences c.seal_last.ensures.last
