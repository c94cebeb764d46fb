use Rattle.std.proofs.Common.{◌≡◌, ◌<◌, ◌==◌, ◌&&◌, ◌||◌, true, sym, ◌∙◌, subst, arith}
use Rattle.std.proofs.lemmas.Bool.{and_parts, eqb-true}
use Rattle.ghost_pieces.specs.Lemmas.Fills.{box_sample}
use Rattle.ghost_pieces.specs.Lemmas.Parts.{further}
use Rattle.ghost_pieces.proofs.CopiedBoxes.{deep_cells, deep_line, follows, high_cells, high_line, rows_cells, whole_rows}
use Rattle.ghost_pieces.proofs.FillSteps.{box_filled}
use Rattle.ghost_pieces.proofs.SentBounds.{span-same}
use Rattle.ghost_pieces.proofs.copied_boxes.copy_box.Goals as goal

pub copy_line-requires-clause-cells : goal.copy_line-requires-clause-cells
copy_line-requires-clause-cells c i h =
    let a = c.args in
    let n = a.n in
    let p = a.parts.now in
    let r = c.requires in
    let s = span-same n a.level a.from r.even r.same in
    let hx = subst (λ w. further p.x.start p.x.runs 0 < w) s (r.x.within 0 r.some_x) in
    let hy = subst (λ w. further p.y.start p.y.runs 0 < w) s (r.y.within 0 r.some_y) in
    let e = c.step_along.ensures.step in
    let d = deep_cells n a.level a.from a.q.now r.same p.x.start p.x.runs p.y.start p.y.runs p.z.start p.z.runs p.z.count c.step_along.result e hx hy (λ k l. subst (λ w. further p.z.start p.z.runs k < w) s (r.z.within k l)) i h in
    omega (arith, r.all)

pub copy_line-requires-then-is_high_line-clause-cells : goal.copy_line-requires-then-is_high_line-clause-cells
copy_line-requires-then-is_high_line-clause-cells c i h =
    let a = c.args in
    let n = a.n in
    let p = a.parts.now in
    let r = c.requires in
    let s = span-same n a.level a.from r.even r.same in
    let on = (p.z.count == 1) || ((p.y.count == n) && p.z.runs) in
    let t : ((p.x.count == 1) && p.y.runs && ((p.z.count == 1) || ((p.y.count == n) && p.z.runs))) ≡ true = sym c.is_high_line.ensures.line ∙ c.if-is_high_line.true in
    let o = and_parts ((p.x.count == 1) && p.y.runs) on t in
    let u = and_parts (p.x.count == 1) p.y.runs o.0 in
    let hx = subst (λ w. further p.x.start p.x.runs 0 < w) s (r.x.within 0 r.some_x) in
    let d = high_cells n a.level a.from a.q.now r.same p.x.start p.x.runs p.y.start p.y.runs p.z.start p.z.runs p.y.count p.z.count u.1 (follows n p.y.count p.z.count p.z.runs o.1) hx
    (λ k l. subst (λ w. further p.y.start p.y.runs k < w) s (r.y.within k l)) (λ k l. subst (λ w. further p.z.start p.z.runs k < w) s (r.z.within k l)) r.some_y i h in
    omega (arith, r.all)

pub copy_lines-requires-clause-cells : goal.copy_lines-requires-clause-cells
copy_lines-requires-clause-cells c i j hi hj =
    let a = c.args in
    let n = a.n in
    let p = a.parts.now in
    let r = c.requires in
    let s = span-same n a.level a.from r.even r.same in
    let t : ((p.x.count == n) && p.x.runs && p.y.runs) ≡ true = sym c.has_whole_rows.ensures.rows ∙ c.if-has_whole_rows.true in
    let o = and_parts ((p.x.count == n) && p.x.runs) p.y.runs t in
    let u = and_parts (p.x.count == n) p.x.runs o.0 in
    let e = c.step_along-then-has_whole_rows.ensures.step in
    let d = rows_cells n a.level a.from a.q.now r.same p.x.start p.x.runs p.y.start p.y.runs p.z.start p.z.runs p.x.count p.y.count p.z.count c.step_along-then-has_whole_rows.result (eqb-true p.x.count n u.0) u.1 o.1 e
    (λ k l. subst (λ w. further p.x.start p.x.runs k < w) s (r.x.within k l)) (λ k l. subst (λ w. further p.y.start p.y.runs k < w) s (r.y.within k l)) (λ k l. subst (λ w. further p.z.start p.z.runs k < w) s (r.z.within k l)) (omega (arith, r.least)) i j hi hj in
    omega (arith, r.all)

pub returns-then-is_deep_line : goal.returns-then-is_deep_line
returns-then-is_deep_line c =
    let a = c.args in
    let n = a.n in
    let p = a.parts.now in
    let t : ((p.x.count == 1) && (p.y.count == 1)) ≡ true = sym c.is_deep_line.ensures.line ∙ c.if-is_deep_line.true in
    let o = and_parts (p.x.count == 1) (p.y.count == 1) t in
    let e = c.copy_line.ensures in
    record {
      box_amounts = box_filled (box_sample n a.level a.from a.q.now p.x.start p.x.runs p.y.start p.y.runs p.z.start p.z.runs) p.x.count p.y.count p.z.count a.out.now c.copy_line.new.out c.requires.size
          (deep_line n a.level a.from a.q.now c.requires.same p.x.start p.x.runs p.y.start p.y.runs p.z.start p.z.runs p.z.count c.step_along.result c.step_along.ensures.step p.x.count p.y.count a.out.now c.copy_line.new.out (eqb-true p.x.count 1 o.0) (eqb-true p.y.count 1 o.1) e.long e.line);
    }

pub returns-then-is_high_line : goal.returns-then-is_high_line
returns-then-is_high_line c =
    let a = c.args in
    let n = a.n in
    let p = a.parts.now in
    let on = (p.z.count == 1) || ((p.y.count == n) && p.z.runs) in
    let t : ((p.x.count == 1) && p.y.runs && ((p.z.count == 1) || ((p.y.count == n) && p.z.runs))) ≡ true = sym c.is_high_line.ensures.line ∙ c.if-is_high_line.true in
    let o = and_parts ((p.x.count == 1) && p.y.runs) on t in
    let u = and_parts (p.x.count == 1) p.y.runs o.0 in
    let e = c.copy_line-then-is_high_line.ensures in
    let w = c.copy_line-then-is_high_line.new.out in
    record {
      box_amounts = box_filled (box_sample n a.level a.from a.q.now p.x.start p.x.runs p.y.start p.y.runs p.z.start p.z.runs) p.x.count p.y.count p.z.count a.out.now w c.requires.size
          (high_line n a.level a.from a.q.now c.requires.same p.x.start p.x.runs p.y.start p.y.runs p.z.start p.z.runs p.y.count p.z.count u.1 (follows n p.y.count p.z.count p.z.runs o.1) p.x.count a.out.now w (eqb-true p.x.count 1 u.0) e.long e.line);
    }

pub returns-then-has_whole_rows : goal.returns-then-has_whole_rows
returns-then-has_whole_rows c =
    let a = c.args in
    let n = a.n in
    let p = a.parts.now in
    let t : ((p.x.count == n) && p.x.runs && p.y.runs) ≡ true = sym c.has_whole_rows.ensures.rows ∙ c.if-has_whole_rows.true in
    let o = and_parts ((p.x.count == n) && p.x.runs) p.y.runs t in
    let u = and_parts (p.x.count == n) p.x.runs o.0 in
    let s = c.step_along-then-has_whole_rows in
    record {
      box_amounts = box_filled (box_sample n a.level a.from a.q.now p.x.start p.x.runs p.y.start p.y.runs p.z.start p.z.runs) p.x.count p.y.count p.z.count a.out.now c.copy_lines.new.out c.requires.size
          (whole_rows n a.level a.from a.q.now c.requires.same p.x.start p.x.runs p.y.start p.y.runs p.z.start p.z.runs p.x.count p.y.count p.z.count s.result (eqb-true p.x.count n u.0) u.1 o.1 s.ensures.step a.out.now c.copy_lines.new.out c.copy_lines.ensures.lines);
    }
