use Rattle.std.proofs.Common.{◌<◌, length, arith, ap, ◌∙◌, map}
use Rattle.quiet_table.specs.Contents.{contents_of, opening_contents, rest_of}
use Rattle.quiet_table.proofs.Openings.{opens, rests_laid}
use Rattle.quiet_table.proofs.board.Board.new.Goals as goal

pub new-made-requires : goal.new-made-requires
new-made-requires g c =
    let low : 0 < length c.args.cells.items = (let a = c.requires.counts in omega arith) in
    let same = c.as_slice.ensures.value in
    rw (c.of-about.ensures, same)
    (opens (contents_of g.C.Load.rest g.C.Load.parcels g.B.Load.rest g.B.Load.parcels) g.C.LegalLoad.legal g.C.LegalLoad.origin c.args.cells.items c.args.boxes.items c.in_ok-slots.slots.items c.in_ok-words.words.items c.in_ok-slots.ensures c.requires.counts.0 c.in_ok-words.ensures low c.requires.legal)

pub returns-in-Ok-clause-origin : goal.returns-in-Ok-clause-origin
returns-in-Ok-clause-origin g c =
    let contents = contents_of g.C.Load.rest g.C.Load.parcels g.B.Load.rest g.B.Load.parcels in
    let told = c.in-Ok.ensures.ok in
    ap (λ k. g.C.LegalLoad.origin (map rest_of (opening_contents contents k.value.items))) told.5
    ∙ (ap (λ v. g.C.LegalLoad.origin (map rest_of (opening_contents contents v.items))) c.of-about.ensures
    ∙ (ap (λ l. g.C.LegalLoad.origin (map rest_of (opening_contents contents l))) c.in_ok-slots.ensures ∙ ap g.C.LegalLoad.origin (rests_laid contents c.args.cells.items c.args.boxes.items)))

pub first_words-requires-clause-small : goal.first_words-requires-clause-small
first_words-requires-clause-small g c = let b = g.met.C.LegalLoad.bounded _ _ _ c.requires.legal in omega arith
