use Rattle.std.proofs.Common.{ℕ, ◌*◌, ◌++◌, sym, ap, ◌∙◌, append-nil}
use Rattle.ghost_pieces.specs.Lemmas.Counts.{count_at, plane_pieces, row_pieces}
use Rattle.ghost_pieces.proofs.SizedPieces.{flat-next, plane-none}
use Rattle.ghost_pieces.proofs.owing.add_plane.Goals as goal

pub returns-then-deep-eq0 : goal.returns-then-deep-eq0
returns-then-deep-eq0 c =
    let p = c.args.pair.now in
    let w = c.args.wide in
    let h = c.args.high in
    let x = count_at w.before w.own w.after in
    let y = count_at h.before h.own h.after in
    let old = c.args.found.now.items in
    record {
      added = sym (append-nil old) ∙ ap (λ u. old ++ u) (sym (plane-none p.fields p.to p.receiver p.from p.sender x y c.args.z))
          ∙ ap (λ a. old ++ plane_pieces p.fields p.to p.receiver p.from p.sender x y a c.args.z) (sym c.if-deep-eq0.true);
    }

pub loop-y-preserved : goal.loop-y-preserved
loop-y-preserved c =
    let p = c.args.pair.now in
    let w = c.args.wide in
    let h = c.args.high in
    let x = count_at w.before w.own w.after in
    let row = λ (k : ℕ). row_pieces p.fields p.to p.receiver p.from p.sender x (c.args.deep * count_at h.before h.own h.after k) k c.args.z in
    let k = c.loop-y.y in
    c.in_ok-add_row.ensures.added
    ∙ ap (λ u. c.loop-y.found.items ++ row_pieces p.fields p.to p.receiver p.from p.sender x (c.args.deep * u) k c.args.z) c.at.ensures.count
    ∙ ap (λ u. u ++ row k) c.loop-y.invariant
    ∙ flat-next c.args.found.now.items row k
