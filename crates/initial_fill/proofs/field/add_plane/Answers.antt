-- The rows before the bounds of the form, a row more, and the rows past the bounds.
use Rattle.std.proofs.Common.{◌≡◌, ◌+◌, ◌*◌, ◌∙◌, subst, arith}
use Rattle.initial_fill.specs.Lemmas.Adding.{Adds, holds_in_rows}
use Rattle.initial_fill.specs.Lemmas.Bounds.{high_along, low_along}
use Rattle.initial_fill.proofs.Adding.{HasRoom-past, rows_joined}
use Rattle.initial_fill.proofs.Outside.{before_low, part_along, past_high, plane_without}
use Rattle.initial_fill.proofs.field.add_plane.Goals as goal

pub loop-y-init : goal.loop-y-init
loop-y-init c =
    let n = c.args.n in
    let z = c.args.z in
    let form = c.args.shape.form in
    let rows = c.part_in-rows.result in
    record {
      within = c.part_in-rows.ensures.low;
      added =
          plane_without form n c.args.place c.args.shape.amount (let s = c.requires.some in omega arith) rows.low rows.high z (z * n) (z * n + rows.low) c.args.amounts.now
          (omega arith) (let l = c.part_in-rows.ensures.low in omega arith)
          (part_along rows.low rows.high c.bounds.result.low c.bounds.result.high c.from.result (low_along form 1) (high_along form 1) c.args.place.y n
          c.part_in-rows.ensures.part c.bounds.ensures.low c.bounds.ensures.high (c.from.ensures ∙ c.y.ensures.y))
          (λ u a b. before_low rows.low rows.high u (omega arith));
    }

pub add_row-requires-clause-room : goal.add_row-requires-clause-room
add_row-requires-clause-room c =
    let base = c.args.z * c.args.n in
    HasRoom-past c.args.shape.form c.args.n c.args.place c.args.shape.amount base (base + c.loop-y.y) c.args.amounts.now c.loop-y.amounts (omega arith)
    c.requires.room c.loop-y.invariant.added

pub loop-y-preserved : goal.loop-y-preserved
loop-y-preserved c =
    let n = c.args.n in
    let y = c.loop-y.y in
    let form = c.args.shape.form in
    let base = c.args.z * n in
    record {
      within = (let h = c.part_in-rows.ensures.high in let l = c.loop-y-test.true in omega arith);
      added =
          subst (λ b. Adds (holds_in_rows form n c.args.place base b) c.args.shape.amount c.args.amounts.now c.add_row.new.amounts)
          (let e : base + y + 1 ≡ base + (y + 1) = omega arith in e)
          (rows_joined form n c.args.place c.args.shape.amount base (base + y) (base + y + 1) c.args.amounts.now c.loop-y.amounts c.add_row.new.amounts (omega arith)
          (omega arith) c.loop-y.invariant.added c.add_row.ensures);
    }

pub returns : goal.returns
returns c =
    let n = c.args.n in
    let z = c.args.z in
    let base = z * n in
    let form = c.args.shape.form in
    let rows = c.part_in-rows.result in
    let y = c.loop-y.y in
    rows_joined form n c.args.place c.args.shape.amount base (base + y) (base + n) c.args.amounts.now c.loop-y.amounts c.loop-y.amounts (omega arith)
    (let w = c.loop-y.invariant.within in omega arith) c.loop-y.invariant.added
    (plane_without form n c.args.place c.args.shape.amount (let s = c.requires.some in omega arith) rows.low rows.high z (base + y) (base + n) c.loop-y.amounts (omega arith) (omega arith)
    (part_along rows.low rows.high c.bounds.result.low c.bounds.result.high c.from.result (low_along form 1) (high_along form 1) c.args.place.y n c.part_in-rows.ensures.part
    c.bounds.ensures.low c.bounds.ensures.high (c.from.ensures ∙ c.y.ensures.y))
    (λ u a b. past_high rows.low rows.high u (let t = c.loop-y-test.false in omega arith)))
