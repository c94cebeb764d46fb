-- What is left of the proof of this function.
use Rattle.std.proofs.Common.{◌+◌, sym, subst, arith}
use Rattle.std.proofs.lemmas.Option.{slice_get_within}
use Rattle.leaf_set.proofs.LeafCounts.{length-IsMesh_limit}
use Rattle.leaf_set.proofs.FirstJumps.{IsFirstJump, IsFirstJump-skip, IsFirstJump-take, IsFirstPair-IsFirstJump, IsBalanced-IsFirstJump}
use Rattle.leaf_set.proofs.jump.first_jump.Goals as goal
use Rattle.leaf_set.proofs.jump.first_jump.Goals.{in-Some, in_default}

pub pair-requires-clause-i : goal.pair-requires-clause-i
pair-requires-clause-i c =
    omega (arith, length-IsMesh_limit c.args.domain.now c.args.places.now.keys c.requires.domain c.requires.mesh, c.len-i-end.ensures.len)

pub pair-requires-clause-j : goal.pair-requires-clause-j
pair-requires-clause-j c =
    let f = c.in-Some.ensures.found in
    omega
    (arith, slice_get_within c.args.places.now.keys c.in-Some.j f.coarser f.is_coarser, length-IsMesh_limit c.args.domain.now c.args.places.now.keys c.requires.domain c.requires.mesh)

pub loop-i-preserved : goal.loop-i-preserved
loop-i-preserved c =
    let grid = c.args.domain.now in
    let mesh = c.args.places.now.keys in
    let n = c.loop-i.i in
    elim c.match-first_far_above.branch [
      | in-Some w ↦
          let e = w.earlier.ensures in
          let p = w.pair.ensures in
          subst (IsFirstJump grid mesh (n + 1)) (sym w.first-is)
          (IsFirstJump-take grid mesh n c.loop-i.first w.in-Some.j w.pair.result w.earlier.result c.loop-i.invariant w.in-Some.ensures.found w.in-Some.ensures.first p.lesser p.greater e.either e.up_to_a e.up_to_b)
      | in_default w ↦
          subst (IsFirstJump grid mesh (n + 1)) (sym w.first-is) (IsFirstJump-skip grid mesh n c.loop-i.first c.loop-i.invariant w.in_default.ensures.first)
    ]

pub returns-clause-found : goal.returns-clause-found
returns-clause-found c =
    IsFirstPair-IsFirstJump c.args.domain.now c.args.places.now.keys c.loop-i.i (omega (arith, c.len-i-end.ensures.len)) c.loop-i.first c.loop-i.invariant

pub returns-clause-none : goal.returns-clause-none
returns-clause-none c =
    IsBalanced-IsFirstJump c.args.domain.now c.args.places.now.keys c.loop-i.i (omega (arith, c.len-i-end.ensures.len)) c.loop-i.first c.loop-i.invariant
