-- What is left of the proof of this function.
use Rattle.std.proofs.Common.{◌+◌, ◌*◌, ◌<◌, sym, ap, ◌∙◌, subst, arith, w16}
use Rattle.std.proofs.lemmas.Int.{to_z-of_z}
use Rattle.block_fields.specs.Shells.{ghost_count, ghost_size, ghost_start, side_of}
use Rattle.block_fields.proofs.ShellSizes.{count-cube, cube-most, sides-same, number-small, number-own, number-ghost, number-in_count}
use Rattle.block_fields.proofs.shell.spot_at.Goals as goal

pub overflow_mul-result-3 : goal.overflow_mul-result-3
overflow_mul-result-3 c =
    let a = c.place_along-a in
    let b = c.place_along-b in
    let d = c.place_along-c in
    let k = number-small c.args.n c.args.depth a.result.side b.result.side d.result.side a.result.position b.result.position d.result.position c.side_length-2.result c.side_length.result a.ensures.sides b.ensures.sides d.ensures.sides a.ensures.within b.ensures.within d.ensures.within c.side_length-2.ensures.length c.side_length.ensures.length c.requires.most c.requires.deepest in
    omega arith

pub overflow_add-result-3 : goal.overflow_add-result-3
overflow_add-result-3 c =
    let a = c.place_along-a in
    let b = c.place_along-b in
    let d = c.place_along-c in
    let k = number-small c.args.n c.args.depth a.result.side b.result.side d.result.side a.result.position b.result.position d.result.position c.side_length-2.result c.side_length.result a.ensures.sides b.ensures.sides d.ensures.sides a.ensures.within b.ensures.within d.ensures.within c.side_length-2.ensures.length c.side_length.ensures.length c.requires.most c.requires.deepest in
    omega arith

pub returns-clause-start : goal.returns-clause-start
returns-clause-start c =
    let a = c.place_along-a in
    let b = c.place_along-b in
    let d = c.place_along-c in
    c.ghost_start.ensures.start ∙ ap (ghost_start c.args.n c.args.depth) (sides-same (a.ensures.side ∙ ap (side_of c.args.n) (to_z-of_z w16 c.args.x c.ranges.x)) (b.ensures.side ∙ ap (side_of c.args.n) (to_z-of_z w16 c.args.y c.ranges.y)) (d.ensures.side ∙ ap (side_of c.args.n) (to_z-of_z w16 c.args.z c.ranges.z)))

pub returns-clause-own : goal.returns-clause-own
returns-clause-own c own =
    let a = c.place_along-a in
    let b = c.place_along-b in
    let d = c.place_along-c in
    number-own c.args.n c.args.depth a.result.side b.result.side d.result.side a.result.position b.result.position d.result.position c.side_length-2.result c.side_length.result a.ensures.sides b.ensures.sides d.ensures.sides a.ensures.within b.ensures.within d.ensures.within c.side_length-2.ensures.length c.side_length.ensures.length own

pub returns-clause-ghost_there : goal.returns-clause-ghost_there
returns-clause-ghost_there c other =
    let a = c.place_along-a in
    let b = c.place_along-b in
    let d = c.place_along-c in
    subst (λ k. (d.result.position * c.side_length.result + b.result.position) * c.side_length-2.result + a.result.position < ghost_size c.args.n c.args.depth k) (sides-same (a.ensures.side ∙ ap (side_of c.args.n) (to_z-of_z w16 c.args.x c.ranges.x)) (b.ensures.side ∙ ap (side_of c.args.n) (to_z-of_z w16 c.args.y c.ranges.y)) (d.ensures.side ∙ ap (side_of c.args.n) (to_z-of_z w16 c.args.z c.ranges.z)))
    (number-ghost c.args.n c.args.depth a.result.side b.result.side d.result.side a.result.position b.result.position d.result.position c.side_length-2.result c.side_length.result a.ensures.sides b.ensures.sides d.ensures.sides a.ensures.within b.ensures.within d.ensures.within c.side_length-2.ensures.length c.side_length.ensures.length other)

pub returns-clause-within : goal.returns-clause-within
returns-clause-within c other =
    let a = c.place_along-a in
    let b = c.place_along-b in
    let d = c.place_along-c in
    subst (λ k. k + ((d.result.position * c.side_length.result + b.result.position) * c.side_length-2.result + a.result.position) < ghost_count c.args.n c.args.depth) (sym c.ghost_start.ensures.start)
    (number-in_count c.args.n c.args.depth a.result.side b.result.side d.result.side a.result.position b.result.position d.result.position c.side_length-2.result c.side_length.result a.ensures.sides b.ensures.sides d.ensures.sides a.ensures.within b.ensures.within d.ensures.within c.side_length-2.ensures.length c.side_length.ensures.length other)

pub returns-clause-most : goal.returns-clause-most
returns-clause-most c = omega (arith, count-cube c.args.n c.args.depth, cube-most c.args.n c.args.depth c.requires.most c.requires.deepest)
