use Rattle.std.proofs.Common.{arith, sym, ◌∙◌}
use Rattle.std.specs.Mem.Slots.{slots_items}
use Rattle.quiet_table.specs.Contents.{contents_of}
use Rattle.quiet_table.proofs.Remaining.{left_legal, left_origin}
use Rattle.quiet_table.proofs.board.Board.close.Goals as goal

pub empty-requires-clause-words : goal.empty-requires-clause-words
empty-requires-clause-words g c =
    let shut = c.shut-closed.ensures.shut in
    (shut.wide, (let s = g.met.C.LegalLoad.bounded _ _ _ shut.legal_now in omega arith), shut.verdict)

pub empty-requires-clause-each : goal.empty-requires-clause-each
empty-requires-clause-each g c = c.shut-closed.ensures.shut.each

pub returns-clause-legal : goal.returns-clause-legal
returns-clause-legal g c =
    let contents = contents_of g.C.Load.rest g.C.Load.parcels g.B.Load.rest g.B.Load.parcels in
    let closed = c.shut-closed.result in
    left_legal contents g.C.LegalLoad.legal g.C.LegalLoad.origin c.args.self.shards _ (slots_items closed.words) (slots_items closed.slots) _ _ _ c.shut-closed.ensures.shut c.empty.result.cells.items c.empty.result.boxes.items c.empty.ensures.rows _ _ c.empty.ensures.handled c.empty.ensures.verdict

pub returns-clause-origin : goal.returns-clause-origin
returns-clause-origin g c =
    let contents = contents_of g.C.Load.rest g.C.Load.parcels g.B.Load.rest g.B.Load.parcels in
    let closed = c.shut-closed.result in
    left_origin contents g.C.LegalLoad.legal g.C.LegalLoad.origin c.args.self.shards _ (slots_items closed.words) (slots_items closed.slots) _ _ _ c.shut-closed.ensures.shut c.empty.result.cells.items c.empty.result.boxes.items c.empty.ensures.rows

pub returns-clause-seen : goal.returns-clause-seen
returns-clause-seen g c = λ i s e h. let n = c.gather-first.ensures.seen i s e h in λ z. n (c.shut-closed.ensures.shut.saw n ∙ (sym c.empty.ensures.verdict ∙ z))

pub returns-clause-stopped : goal.returns-clause-stopped
returns-clause-stopped g c = λ q. let a = c.shut-closed.ensures.shut.stops_counted (sym c.empty.ensures.verdict ∙ q) in let d = c.gather-first.ensures.stops in omega arith

pub returns-clause-handled : goal.returns-clause-handled
returns-clause-handled g c = c.empty.ensures.handled ∙ (c.shut-closed.ensures.shut.handled ∙ c.gather-first.ensures.handled)

pub returns-clause-first : goal.returns-clause-first
returns-clause-first g c = λ s e h.
    let q = c.gather-first.ensures.first s e h in
    c.empty.ensures.verdict ∙ (sym (c.shut-closed.ensures.shut.saw (λ z. h (sym q ∙ z))) ∙ q)
