-- What is left of the proof of this function.
use Rattle.std.proofs.Common.{◌+◌, sym, subst}
use Rattle.std.proofs.lemmas.Option.{none-some, same_Some}
use Rattle.leaf_set.proofs.FarLeaves.{leaf_read, IsFirstOver, IsFirstOver-own, IsFirstOver-skip, IsFirstOver-take, IsFarAbove-IsFarOver, IsSomeAnd-IsFirstOver}
use Rattle.leaf_set.proofs.MeshLaws.{IsMesh-HasLeavesApart}
use Rattle.leaf_set.proofs.jump.first_far_above.Goals as goal
use Rattle.leaf_set.proofs.jump.first_far_above.Goals.{in-Some, in_default}

pub far_above_around-requires-clause-apart : goal.far_above_around-requires-clause-apart
far_above_around-requires-clause-apart c = IsMesh-HasLeavesApart _ _ c.requires.domain c.requires.mesh

pub loop-s-init : goal.loop-s-init
loop-s-init c =
    IsFirstOver-own c.args.domain.now c.args.places.now.keys c.args.i c.index-as_slice-i.result (c.requires.mesh.inside c.args.i c.index-as_slice-i.result (leaf_read c.as_slice.result.now c.args.places.now.keys c.args.i c.index-as_slice-i.result c.as_slice.ensures.keys c.requires.leaf c.index-as_slice-i.is)) (IsMesh-HasLeavesApart _ _ c.requires.domain c.requires.mesh) (leaf_read c.as_slice.result.now c.args.places.now.keys c.args.i c.index-as_slice-i.result c.as_slice.ensures.keys c.requires.leaf c.index-as_slice-i.is)

pub loop-s-preserved : goal.loop-s-preserved
loop-s-preserved c =
    let grid = c.args.domain.now in
    let mesh = c.args.places.now.keys in
    let leaf = c.index-as_slice-i.result in
    let at = leaf_read c.as_slice.result.now c.args.places.now.keys c.args.i c.index-as_slice-i.result c.as_slice.ensures.keys c.requires.leaf c.index-as_slice-i.is in
    let n = c.loop-s.s in
    elim c.match-far_above_around.branch [
      | in-Some w ↦
          let j = w.in-Some.j in
          let f = w.in-Some.ensures.found in
          let e = w.lesser.ensures in
          let far = IsFarAbove-IsFarOver grid mesh c.requires.domain c.requires.mesh c.args.i leaf at n j f.0 f.1 f.2 f.3 in
          subst (IsFirstOver grid mesh c.args.i leaf (n + 1)) (sym w.first-is)
          (IsFirstOver-take grid mesh c.args.i leaf n c.loop-s.first j w.lesser.result c.loop-s.invariant far (λ u a o b v. same_Some j o (w.in-Some.ensures.every u a o b v)) e.either e.up_to_a e.up_to_b)
      | in_default w ↦
          subst (IsFirstOver grid mesh c.args.i leaf (n + 1)) (sym w.first-is)
          (IsFirstOver-skip grid mesh c.args.i leaf n c.loop-s.first c.loop-s.invariant (λ u a j b v. none-some j (w.in_default.ensures.every u a j b v)))
    ]

pub returns-clause-first : goal.returns-clause-first
returns-clause-first c =
    IsSomeAnd-IsFirstOver c.args.domain.now c.args.places.now.keys c.requires.domain c.requires.mesh c.args.i c.index-as_slice-i.result
    (leaf_read c.as_slice.result.now c.args.places.now.keys c.args.i c.index-as_slice-i.result c.as_slice.ensures.keys c.requires.leaf c.index-as_slice-i.is)
    c.loop-s.s c.loop-s.first c.loop-s-test.false c.loop-s.invariant
