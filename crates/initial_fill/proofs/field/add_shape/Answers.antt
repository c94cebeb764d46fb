-- The planes before the bounds of the form, a plane more, and the planes past the bounds.
use Rattle.std.proofs.Common.{◌≡◌, ◌+◌, ◌*◌, ◌≤◌, ◌∙◌, refl, subst, arith, mul-le-mul_right}
use Rattle.initial_fill.specs.Lemmas.Adding.{Adds, holds_in_rows}
use Rattle.initial_fill.specs.Lemmas.Bounds.{high_along, low_along}
use Rattle.initial_fill.proofs.Adding.{HasRoom-past, rows_all, rows_joined}
use Rattle.initial_fill.proofs.Outside.{before_low, part_along, past_high, planes_without}
use Rattle.initial_fill.proofs.field.add_shape.Goals as goal

pub loop-z-init : goal.loop-z-init
loop-z-init c =
    let n = c.args.n in
    let form = c.args.shape.form in
    let planes = c.part_in-planes.result in
    record {
      within = c.part_in-planes.ensures.low;
      added =
          planes_without form n c.args.place c.args.shape.amount (let s = c.requires.some in omega arith) planes.low planes.high 0 planes.low 0 (planes.low * n) c.args.amounts.now
          (let e : 0 ≡ 0 * n = omega arith in e) refl c.part_in-planes.ensures.low
          (part_along planes.low planes.high c.bounds.result.low c.bounds.result.high c.from.result (low_along form 2) (high_along form 2) c.args.place.z n
          c.part_in-planes.ensures.part c.bounds.ensures.low c.bounds.ensures.high (c.from.ensures ∙ c.z.ensures.z))
          (λ u a b. before_low planes.low planes.high u b);
    }

pub add_plane-requires-clause-room : goal.add_plane-requires-clause-room
add_plane-requires-clause-room c =
    HasRoom-past c.args.shape.form c.args.n c.args.place c.args.shape.amount 0 (c.loop-z.z * c.args.n) c.args.amounts.now c.loop-z.amounts (omega arith)
    c.requires.room c.loop-z.invariant.added

pub loop-z-preserved : goal.loop-z-preserved
loop-z-preserved c =
    let n = c.args.n in
    let z = c.loop-z.z in
    let form = c.args.shape.form in
    record {
      within = (let h = c.part_in-planes.ensures.high in let l = c.loop-z-test.true in omega arith);
      added =
          subst (λ b. Adds (holds_in_rows form n c.args.place 0 b) c.args.shape.amount c.args.amounts.now c.add_plane.new.amounts)
          (let e : z * n + n ≡ (z + 1) * n = omega arith in e)
          (rows_joined form n c.args.place c.args.shape.amount 0 (z * n) (z * n + n) c.args.amounts.now c.loop-z.amounts c.add_plane.new.amounts (omega arith)
          (omega arith) c.loop-z.invariant.added c.add_plane.ensures);
    }

pub returns : goal.returns
returns c =
    let n = c.args.n in
    let form = c.args.shape.form in
    let planes = c.part_in-planes.result in
    let z = c.loop-z.z in
    let some : 1 ≤ n = (let s = c.requires.some in omega arith) in
    rows_all form n c.args.place c.args.shape.amount c.args.amounts.now c.loop-z.amounts some c.requires.cells
    (rows_joined form n c.args.place c.args.shape.amount 0 (z * n) (n * n) c.args.amounts.now c.loop-z.amounts c.loop-z.amounts (omega arith)
    (mul-le-mul_right n c.loop-z.invariant.within) c.loop-z.invariant.added
    (planes_without form n c.args.place c.args.shape.amount some planes.low planes.high z n (z * n) (n * n) c.loop-z.amounts refl refl (omega arith)
    (part_along planes.low planes.high c.bounds.result.low c.bounds.result.high c.from.result (low_along form 2) (high_along form 2) c.args.place.z n
    c.part_in-planes.ensures.part c.bounds.ensures.low c.bounds.ensures.high (c.from.ensures ∙ c.z.ensures.z))
    (λ u a b. past_high planes.low planes.high u (let t = c.loop-z-test.false in omega arith))))
