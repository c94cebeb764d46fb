use Rattle.std.proofs.Common.{◌≡◌, ◌%◌, ◌≤◌, ◌++◌, Some, slice_get, get_or, take, take_all, length, sym, ap, ◌∙◌, subst, arith}
use Rattle.std.proofs.lemmas.Option.{same_Some, slice_get_within}
use Rattle.block_index.specs.Places.{IsInside}
use Rattle.block_index.specs.Touching.{Touches}
use Rattle.leaf_set.specs.TouchingLeaves.{AreTouching}
use Rattle.leaf_set.proofs.Boxes.{Touches-sym}
use Rattle.ghost_pieces.specs.Pieces.{AreOwedPieces}
use Rattle.ghost_pieces.specs.Lemmas.OwedLists.{owed_pieces, pieces_between}
use Rattle.ghost_pieces.proofs.OwedPieces.{pieces-few, pieces-first, pieces-more, pieces-owed}
use Rattle.ghost_pieces.proofs.OwedSteps.{touched}
use Rattle.ghost_pieces.proofs.owing.empty_pieces.Goals as goal

pub loop-j-init : goal.loop-j-init
loop-j-init c =
    let s = c.place-sender.result in
    let n = c.edge-n.result in
    let d = c.depth-depth.result in
    let f = c.fields-fields.result in
    c.in_ok-add_between.ensures.added
    ∙ ap (λ u. u ++ pieces_between c.domain.result.now n d f c.args.at s c.args.at s) c.in_ok-found.ensures.items
    ∙ ap (λ g. pieces_between g n d f c.args.at s c.args.at s) c.domain.ensures.grid
    ∙ pieces-first c.args.set.now.grid n d f c.args.set.now.places c.args.at s (c.requires.leaf ∙ ap Some (sym c.place-sender.ensures.place))

pub place-requires : goal.place-requires
place-requires c =
    let js = c.items-j-items.result.now in
    let t = subst (AreTouching c.args.set.now.grid c.args.set.now.places c.args.at) (sym c.items-j-items.ensures.items) c.touching-beside.ensures.touching in
    let o = touched c.args.set.now.grid c.args.set.now.places c.args.at js c.place-sender.result c.loop-j.j-index t (c.requires.leaf ∙ ap Some (sym c.place-sender.ensures.place)) c.loop-j-test.true in
    record { inside = slice_get_within c.args.set.now.places (get_or js c.loop-j.j-index 0) o.0 o.1 }

pub add_between-requires-in-loop-j-clause-inside : goal.add_between-requires-in-loop-j-clause-inside
add_between-requires-in-loop-j-clause-inside c =
    subst (λ g. IsInside g c.place.result) (sym c.domain-in-loop-j.ensures.grid)
    (c.domain.ensures.tiles.mesh.inside (get_or c.items-j-items.result.now c.loop-j.j-index 0) c.place.result c.place.ensures.leaf)

pub add_between-requires-in-loop-j-clause-near : goal.add_between-requires-in-loop-j-clause-near
add_between-requires-in-loop-j-clause-near c =
    let js = c.items-j-items.result.now in
    let g = c.args.set.now.grid in
    let mesh = c.args.set.now.places in
    let s = c.place-sender.result in
    let j = get_or js c.loop-j.j-index 0 in
    let leaf = c.requires.leaf ∙ ap Some (sym c.place-sender.ensures.place) in
    let t = subst (AreTouching g mesh c.args.at) (sym c.items-j-items.ensures.items) c.touching-beside.ensures.touching in
    let o = touched g mesh c.args.at js s c.loop-j.j-index t leaf c.loop-j-test.true in
    let e : o.0 ≡ c.place.result = same_Some o.0 c.place.result (sym o.1 ∙ c.place.ensures.leaf) in
    c.domain.ensures.tiles.balanced j c.args.at c.place.result s c.place.ensures.leaf leaf (Touches-sym g s c.place.result (subst (Touches g s) e o.2))

pub add_between-requires-in-loop-j-clause-far : goal.add_between-requires-in-loop-j-clause-far
add_between-requires-in-loop-j-clause-far c =
    let js = c.items-j-items.result.now in
    let g = c.args.set.now.grid in
    let mesh = c.args.set.now.places in
    let s = c.place-sender.result in
    let j = get_or js c.loop-j.j-index 0 in
    let leaf = c.requires.leaf ∙ ap Some (sym c.place-sender.ensures.place) in
    let t = subst (AreTouching g mesh c.args.at) (sym c.items-j-items.ensures.items) c.touching-beside.ensures.touching in
    let o = touched g mesh c.args.at js s c.loop-j.j-index t leaf c.loop-j-test.true in
    let e : o.0 ≡ c.place.result = same_Some o.0 c.place.result (sym o.1 ∙ c.place.ensures.leaf) in
    c.domain.ensures.tiles.balanced c.args.at j s c.place.result leaf c.place.ensures.leaf (subst (Touches g s) e o.2)

pub loop-j-preserved : goal.loop-j-preserved
loop-j-preserved c =
    let js = c.items-j-items.result.now in
    let g = c.args.set.now.grid in
    let mesh = c.args.set.now.places in
    let s = c.place-sender.result in
    let n = c.edge-n.result in
    let d = c.depth-depth.result in
    let f = c.fields-fields.result in
    let j = get_or js c.loop-j.j-index 0 in
    c.in_ok-add_between-2.ensures.added
    ∙ ap (λ u. u ++ pieces_between c.domain-in-loop-j.result.now n d f j c.place.result c.args.at s) c.loop-j.invariant
    ∙ ap (λ u. owed_pieces g n d f mesh c.args.at s (take c.loop-j.j-index js) ++ pieces_between u n d f j c.place.result c.args.at s) c.domain-in-loop-j.ensures.grid
    ∙ pieces-more g n d f mesh c.args.at s js c.loop-j.j-index c.place.result c.loop-j-test.true c.place.ensures.leaf

pub returns-clause-owed : goal.returns-clause-owed
returns-clause-owed c =
    let js = c.items-j-items.result.now in
    let g = c.args.set.now.grid in
    let mesh = c.args.set.now.places in
    let s = c.place-sender.result in
    let n = c.edge-n.result in
    let d = c.depth-depth.result in
    let f = c.fields-fields.result in
    let i = c.args.at in
    let limits = c.edge-n.ensures.limits in
    let even : n % 2 ≡ 0 = ap (λ n. n % 2) c.edge-n.ensures.edge ∙ limits.even in
    let leaf : slice_get mesh i ≡ Some s = c.requires.leaf ∙ ap Some (sym c.place-sender.ensures.place) in
    let t = subst (AreTouching g mesh i) (sym c.items-j-items.ensures.items) c.touching-beside.ensures.touching in
    let all : take c.loop-j.j-index js ≡ js = take_all c.loop-j.j-index js c.loop-j-test.false in
    let is = c.loop-j.invariant ∙ ap (owed_pieces g n d f mesh i s) all in
    let owed = pieces-owed c.args.set.now n d f i s js c.domain.ensures.tiles even (omega (arith, c.edge-n.ensures.edge, c.depth-depth.ensures.depth, limits.least, limits.deepest)) (omega (arith, c.edge-n.ensures.edge, limits.least)) leaf t in
    subst (λ u. AreOwedPieces g u c.args.block.now.depth (length c.args.block.now.amounts) mesh i c.loop-j.found.items) c.edge-n.ensures.edge
    (subst (λ u. AreOwedPieces g n u (length c.args.block.now.amounts) mesh i c.loop-j.found.items) c.depth-depth.ensures.depth
    (subst (λ u. AreOwedPieces g n d u mesh i c.loop-j.found.items) c.fields-fields.ensures.fields
    (subst (AreOwedPieces g n d f mesh i) (sym is) owed)))

pub returns-clause-few : goal.returns-clause-few
returns-clause-few c =
    let js = c.items-j-items.result.now in
    let g = c.args.set.now.grid in
    let mesh = c.args.set.now.places in
    let s = c.place-sender.result in
    let n = c.edge-n.result in
    let d = c.depth-depth.result in
    let f = c.fields-fields.result in
    let t = subst (AreTouching g mesh c.args.at) (sym c.items-j-items.ensures.items) c.touching-beside.ensures.touching in
    let all : take c.loop-j.j-index js ≡ js = take_all c.loop-j.j-index js c.loop-j-test.false in
    let is = c.loop-j.invariant ∙ ap (owed_pieces g n d f mesh c.args.at s) all in
    subst (λ xs. length xs ≤ 1482) (sym is) (pieces-few g n d f mesh c.args.at s js t.few)
