-- The last file is longer.
use Rattle.std.proofs.Common.{◌≡◌, ◌++◌, if◌then◌else◌, length, length-append, ap, ◌∙◌, arith}
use Rattle.cello_io.specs.StoredFiles.{file_named, made_files, longer}
use Rattle.cello_io.proofs.MadeFiles.{some-files, short_files, lie-longer, length-with_last}
use Rattle.cello_io.proofs.MemoryTells.{tells-longer, Appends-made}
use Rattle.cello_io.proofs.memory_shelf.MemoryShelfShelf.append.Goals as goal

pub lengthen_last-requires-clause-fits : goal.lengthen_last-requires-clause-fits
lengthen_last-requires-clause-fits c = λ k d below.
    let s = c.args.self.now in
    omega (arith, short_files 0 s.made.items (length s.bytes.items) s.lie k d below, c.extend_from_slice.auto.self, c.extend_from_slice.ensures.len)

pub invariant_of-self-2-clause-lie : goal.invariant_of-self-2-clause-lie
invariant_of-self-2-clause-lie c =
    let s = c.args.self.now in
    let written : c.extend_from_slice.new.self.items ≡ s.bytes.items ++ c.args.piece.now = c.extend_from_slice.ensures.items ∙ ap (λ b. if b then s.bytes.items ++ c.args.piece.now else s.bytes.items) (c.extend_from_slice.ensures.succeeds (omega (arith, c.if-piece-self.false, s.within_room, s.reserved))) in
    rw (c.lengthen_last.ensures.last, written, length-append s.bytes.items c.args.piece.now)
    (lie-longer 0 s.made.items (length s.bytes.items) (length c.args.piece.now) (some-files s.bytes.items s.made.items c.requires.one_open) s.lie)

pub invariant_of-self-2-clause-few : goal.invariant_of-self-2-clause-few
invariant_of-self-2-clause-few c =
    let s = c.args.self.now in
    omega (arith, s.few, ap length c.lengthen_last.ensures.last ∙ length-with_last (longer (length c.args.piece.now)) s.made.items)

pub returns-clause-appends : goal.returns-clause-appends
returns-clause-appends c =
    let s = c.args.self.now in
    let written : c.extend_from_slice.new.self.items ≡ s.bytes.items ++ c.args.piece.now = c.extend_from_slice.ensures.items ∙ ap (λ b. if b then s.bytes.items ++ c.args.piece.now else s.bytes.items) (c.extend_from_slice.ensures.succeeds (omega (arith, c.if-piece-self.false, s.within_room, s.reserved))) in
    Appends-made (file_named s.past) (made_files s.bytes.items s.made.items) c.args.piece.now _ s.write_faults s.fetch_faults s.absences _ c.requires.has_bytes
    (tells-longer (file_named s.past) s.bytes.items c.args.piece.now c.extend_from_slice.new.self.items s.made.items c.lengthen_last.new.made.items s.write_faults s.fetch_faults s.absences
    written c.lengthen_last.ensures.last (some-files s.bytes.items s.made.items c.requires.one_open) s.lie)

pub returns-clause-told : goal.returns-clause-told
returns-clause-told c =
    let s = c.args.self.now in
    let written : c.extend_from_slice.new.self.items ≡ s.bytes.items ++ c.args.piece.now = c.extend_from_slice.ensures.items ∙ ap (λ b. if b then s.bytes.items ++ c.args.piece.now else s.bytes.items) (c.extend_from_slice.ensures.succeeds (omega (arith, c.if-piece-self.false, s.within_room, s.reserved))) in
    tells-longer (file_named s.past) s.bytes.items c.args.piece.now c.extend_from_slice.new.self.items s.made.items c.lengthen_last.new.made.items s.write_faults s.fetch_faults s.absences
    written c.lengthen_last.ensures.last (some-files s.bytes.items s.made.items c.requires.one_open) s.lie
