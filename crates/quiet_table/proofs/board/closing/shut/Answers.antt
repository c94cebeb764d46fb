use Rattle.std.proofs.Common.{◌∙◌, ◌/◌, length, map, subst}
use Rattle.std.specs.Mem.Slots.{slots_items}
use Rattle.quiet_table.specs.Contents.{contents_of, opening_contents, rest_of}
use Rattle.quiet_table.specs.Shut.{Shut}
use Rattle.quiet_table.proofs.Closing.{closes}
use Rattle.quiet_table.proofs.board.closing.shut.Goals as goal

pub returns-clause-shut : goal.returns-clause-shut
returns-clause-shut g c =
    let contents = contents_of g.C.Load.rest g.C.Load.parcels g.B.Load.rest g.B.Load.parcels in
    let key = c.args.table.shared.key.value.items in
    let first = c.args.first in
    let v = first.place.me.0 in
    let from = g.C.LegalLoad.origin (map rest_of (opening_contents contents key)) in
    let words = slots_items c.close_with.result.words in
    let items = slots_items c.close_with.result.slots in
    subst (λ n. Shut contents g.C.LegalLoad.legal g.C.LegalLoad.origin n from words items v.seen v.stops v.handled) c.requires.sized
    (closes contents g.C.LegalLoad.legal g.C.LegalLoad.origin (length key / 2) from words items first.place.id v first.live (first.numbered.0 ∙ c.requires.last.0) c.requires.last.1 c.requires.last.2 c.close_with.ensures.values.2)
