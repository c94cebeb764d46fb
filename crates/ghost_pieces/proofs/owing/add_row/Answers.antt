use Rattle.std.proofs.Common.{ℕ, ◌*◌, ◌++◌, sym, ap, ◌∙◌, append-nil}
use Rattle.ghost_pieces.specs.Lemmas.Counts.{count_at, piece_of_size, row_pieces}
use Rattle.ghost_pieces.specs.Lemmas.OwedLists.{step_at}
use Rattle.ghost_pieces.proofs.SizedPieces.{flat-next, row-none}
use Rattle.ghost_pieces.proofs.owing.add_row.Goals as goal

pub returns-then-area-eq0 : goal.returns-then-area-eq0
returns-then-area-eq0 c =
    let p = c.args.pair.now in
    let w = c.args.wide in
    let x = count_at w.before w.own w.after in
    let old = c.args.found.now.items in
    record {
      added = sym (append-nil old) ∙ ap (λ u. old ++ u) (sym (row-none p.fields p.to p.receiver p.from p.sender x c.args.y c.args.z))
          ∙ ap (λ a. old ++ row_pieces p.fields p.to p.receiver p.from p.sender x a c.args.y c.args.z) (sym c.if-area-eq0.true);
    }

pub loop-x-preserved : goal.loop-x-preserved
loop-x-preserved c =
    let p = c.args.pair.now in
    let w = c.args.wide in
    let h = λ (k : ℕ). piece_of_size p.fields p.to p.receiver p.from p.sender (c.args.area * count_at w.before w.own w.after k) (record { x = step_at k; y = step_at c.args.y; z = step_at c.args.z }) in
    let k = c.loop-x.x in
    c.in_ok-add_piece.ensures.added
    ∙ ap (λ u. c.loop-x.found.items ++ piece_of_size p.fields p.to p.receiver p.from p.sender (c.args.area * u) (record { x = step_at k; y = step_at c.args.y; z = step_at c.args.z })) c.at.ensures.count
    ∙ ap (λ u. u ++ h k) c.loop-x.invariant
    ∙ flat-next c.args.found.now.items h k
