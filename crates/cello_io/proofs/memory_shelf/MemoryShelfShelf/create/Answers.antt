-- One file more.
use Rattle.std.proofs.Common.{false, ◌≡◌, ◌++◌, [], ◌∷◌, length, if◌then◌else◌, refl, ap, subst, sym, ◌∙◌, arith, IsTrue}
use Rattle.cello_io.specs.declared.files.WrittenFile.{WrittenFile}
use Rattle.cello_io.specs.StoredFiles.{file_named, made_files, lie_from}
use Rattle.cello_io.proofs.MadeFiles.{lie-added}
use Rattle.cello_io.proofs.MemoryTells.{tells-added, Creates-made}
use Rattle.cello_io.proofs.memory_shelf.MemoryShelfShelf.create.Goals as goal

pub invariant_of-self-2-clause-lie : goal.invariant_of-self-2-clause-lie
invariant_of-self-2-clause-lie c =
    let s = c.args.self.now in
    let old = s.made.items in
    let file : WrittenFile = record { name = c.args.name; start = c.len-2.result; length = 0; sealed = false } in
    let pushed = c.push.ensures.succeeds (omega (arith, c.if-len-ge-MOST_FILES.false, c.len.ensures, s.entries_reserved)) in
    let items : c.push.new.self.items ≡ old ++ file ∷ [] = c.push.ensures.items ∙ ap (λ b. if b then old ++ file ∷ [] else old) pushed in
    subst (λ l. IsTrue (lie_from 0 l (length s.bytes.items))) (sym items) (lie-added 0 old (length s.bytes.items) file s.lie (omega (arith, c.len-2.ensures)) refl)

pub returns-clause-creates : goal.returns-clause-creates
returns-clause-creates c =
    let s = c.args.self.now in
    let old = s.made.items in
    let file : WrittenFile = record { name = c.args.name; start = c.len-2.result; length = 0; sealed = false } in
    let pushed = c.push.ensures.succeeds (omega (arith, c.if-len-ge-MOST_FILES.false, c.len.ensures, s.entries_reserved)) in
    let items : c.push.new.self.items ≡ old ++ file ∷ [] = c.push.ensures.items ∙ ap (λ b. if b then old ++ file ∷ [] else old) pushed in
    Creates-made (file_named s.past) (made_files s.bytes.items old) c.args.name _ s.write_faults s.fetch_faults s.absences _
    (tells-added (file_named s.past) s.bytes.items c.args.name old c.push.new.self.items c.len-2.result s.write_faults s.fetch_faults s.absences items)

pub returns-clause-told : goal.returns-clause-told
returns-clause-told c =
    let s = c.args.self.now in
    let old = s.made.items in
    let file : WrittenFile = record { name = c.args.name; start = c.len-2.result; length = 0; sealed = false } in
    let pushed = c.push.ensures.succeeds (omega (arith, c.if-len-ge-MOST_FILES.false, c.len.ensures, s.entries_reserved)) in
    let items : c.push.new.self.items ≡ old ++ file ∷ [] = c.push.ensures.items ∙ ap (λ b. if b then old ++ file ∷ [] else old) pushed in
    tells-added (file_named s.past) s.bytes.items c.args.name old c.push.new.self.items c.len-2.result s.write_faults s.fetch_faults s.absences items
