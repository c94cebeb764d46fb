use Rattle.std.proofs.Common.{◌+◌, ◌*◌, drop, get_or, arith, ap, ◌∙◌}
use Rattle.std.specs.Mem.Slots.{slots_items, slots_counts}
use lib.ListN.{get_elem?}
use Rattle.quiet_table.specs.Words.{span}
use Rattle.quiet_table.proofs.Remaining.{cell_there, box_there, row_is}
use Rattle.quiet_table.proofs.board.closing.empty.Goals as goal

pub take_cells-cells-requires-clause-cells : goal.take_cells-cells-requires-clause-cells
take_cells-cells-requires-clause-cells g c = λ k l. let e = c.requires.each k (omega arith) in cell_there (slots_items c.args.closed.slots) k c.args.shards l e.0 e.1 e.2

pub take_boxes-boxes-requires-clause-half : goal.take_boxes-boxes-requires-clause-half
take_boxes-boxes-requires-clause-half g c = let e = c.take_cells-cells.ensures.emptied in ((λ k l m. e.0 k l (let d = c.take_cells-cells.ensures.rest.1 in let a = c.requires.row.0 in omega arith)), e.1)

pub take_boxes-boxes-requires-clause-boxes : goal.take_boxes-boxes-requires-clause-boxes
take_boxes-boxes-requires-clause-boxes g c =
    λ k l. let e = c.requires.each (c.args.shards + k) (omega arith) in let r = box_there (slots_items c.args.closed.slots) k c.args.shards e.0 e.1 e.2 in (r.0, ap (λ z. get_elem? z (c.args.shards + k)) c.take_cells-cells.ensures.rest.0 ∙ r.1)

pub add_words-handled-requires-clause-row : goal.add_words-handled-requires-clause-row
add_words-handled-requires-clause-row g c = rw (c.take_boxes-boxes.ensures.rest, c.take_cells-cells.ensures.rest.2) (c.requires.words.0, c.requires.row.1, c.requires.row.2)

pub add_words-handled-requires-clause-small : goal.add_words-handled-requires-clause-small
add_words-handled-requires-clause-small g c = rw (c.take_boxes-boxes.ensures.rest, c.take_cells-cells.ensures.rest.2) c.requires.words.1

pub read_verdict-verdict-requires : goal.read_verdict-verdict-requires
read_verdict-verdict-requires g c =
    let e = (slots_counts c.args.closed.words).0 in
    rw (c.take_boxes-boxes.ensures.rest, c.take_cells-cells.ensures.rest.2) ((let w = c.requires.words.0 in omega arith), c.requires.row.2, c.requires.words.2)

pub returns-clause-rows : goal.returns-clause-rows
returns-clause-rows g c = row_is c.take_cells-cells.result.items c.take_boxes-boxes.result.items (slots_items c.args.closed.slots) c.args.shards c.take_cells-cells.ensures.cells (c.take_boxes-boxes.ensures.boxes ∙ ap (drop c.args.shards) c.take_cells-cells.ensures.rest.0)

pub returns-clause-handled : goal.returns-clause-handled
returns-clause-handled g c = c.add_words-handled.ensures ∙ ap (λ w. span (slots_items w) (3 * c.args.shards) c.args.shards) (c.take_boxes-boxes.ensures.rest ∙ c.take_cells-cells.ensures.rest.2)

pub returns-clause-verdict : goal.returns-clause-verdict
returns-clause-verdict g c = c.read_verdict-verdict.ensures ∙ ap (λ w. get_or (slots_items w) (4 * c.args.shards) 0) (c.take_boxes-boxes.ensures.rest ∙ c.take_cells-cells.ensures.rest.2)
