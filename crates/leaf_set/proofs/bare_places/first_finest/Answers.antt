-- What is left of the proof of this function.
use Rattle.std.proofs.Common.{◌≡◌, ◌+◌, ◌-◌, arith, sym, ap, subst, ◌∙◌}
use Rattle.block_index.specs.Places.{IsInside, IsPlace}
use Rattle.leaf_set.specs.Lemmas.Stretches.{beginning}
use Rattle.leaf_set.proofs.Containment.{corner}
use Rattle.leaf_set.proofs.Stretches.{corner-shifted, corner-begins, IsPlace-IsInside}
use Rattle.leaf_set.proofs.Values.{value-IfSome}
use Rattle.leaf_set.proofs.bare_places.first_finest.Goals as goal

pub unwrap-requires : goal.unwrap-requires
unwrap-requires c =
    let grid = c.args.domain.now in
    let limits = c.max_level.ensures.limits in
    let d = c.max_level.result - c.level.result in
    let level = c.requires.inside.level in
    let down : c.args.place.level + d ≡ c.max_level-2.result = omega arith in
    let low = corner-begins grid c.args.place d limits c.requires.inside (omega arith) in
    let same = corner-shifted grid c.args.place d c.max_level-2.result c.x.result c.y.result c.z.result limits c.requires.inside c.max_level-2.ensures.level down c.x.ensures.x c.y.ensures.y c.z.ensures.z in
    c.new.ensures.limits.1 (subst IsPlace (sym same) (IsPlace-IsInside grid (corner d c.args.place) limits low.0))

lowest : (c : goal.After-unwrap) → c.unwrap.result ≡ corner (c.max_level.result - c.level.result) c.args.place
lowest c =
    let grid = c.args.domain.now in
    let limits = c.max_level.ensures.limits in
    let d = c.max_level.result - c.level.result in
    let level = c.requires.inside.level in
    let down : c.args.place.level + d ≡ c.max_level-2.result = omega arith in
    value-IfSome _ _ _ c.unwrap.ensures c.new.ensures.value
    ∙ corner-shifted grid c.args.place d c.max_level-2.result c.x.result c.y.result c.z.result limits c.requires.inside c.max_level-2.ensures.level down c.x.ensures.x c.y.ensures.y c.z.ensures.z

pub returns-clause-inside : goal.returns-clause-inside
returns-clause-inside c =
    let level = c.requires.inside.level in
    let d = c.max_level.result - c.level.result in
    let low = corner-begins c.args.domain.now c.args.place d c.max_level.ensures.limits c.requires.inside (omega arith) in
    subst (IsInside c.args.domain.now) (sym (lowest c)) low.0

pub returns-clause-beginning : goal.returns-clause-beginning
returns-clause-beginning c =
    let level = c.requires.inside.level in
    let d = c.max_level.result - c.level.result in
    let low = corner-begins c.args.domain.now c.args.place d c.max_level.ensures.limits c.requires.inside (omega arith) in
    ap beginning (lowest c) ∙ low.1
