-- What is left of the proof of this function.
use Rattle.std.proofs.Common.{◌≡◌, ◌+◌, refl, sym, subst, arith}
use Rattle.std.proofs.lemmas.Bool.{false≢true}
use Rattle.leaf_set.specs.TouchingLeaves.{AreTouching}
use Rattle.cello_neighbours.specs.Covers.{IsCover}
use Rattle.cello_neighbours.proofs.Gatherings.{Gathers, Gathers-none, Gathers-skip, Gathers-add, AreTouching-Gathers, room}
use Rattle.cello_neighbours.proofs.neighbours.looked_up.Goals as goal
use Rattle.cello_neighbours.proofs.neighbours.looked_up.Goals.{in-Some, in_default}

pub loop-n-init : goal.loop-n-init
loop-n-init c =
    subst (Gathers c.args.set.now.grid c.args.set.now.places c.args.b 0) (sym c.new-found.ensures)
    (Gathers-none c.args.set.now.grid c.args.set.now.places c.args.b)

pub add-requires : goal.add-requires
add-requires c =
    let grid = c.args.set.now.grid in
    let mesh = c.args.set.now.places in
    let e = c.in-Some.ensures.value in
    record {
      room = room grid mesh c.args.b c.loop-n.n c.loop-n.found c.loop-n.invariant (c.in-Some.ensures.direction refl) c.in_direction.result
          (subst (λ d. IsCover grid mesh c.args.b d c.in_direction.result) e c.in_direction.ensures.cover) c.loop-n-test.true;
    }

pub loop-n-preserved : goal.loop-n-preserved
loop-n-preserved c =
    let grid = c.args.set.now.grid in
    let mesh = c.args.set.now.places in
    let t = c.len-leaves.ensures.tiles in
    elim c.match-numbered.branch [
      | in-Some w ↦
          let e = w.in-Some.ensures.value in
          subst (Gathers grid mesh c.args.b (c.loop-n.n + 1)) (sym w.found-is)
          (Gathers-add grid mesh c.args.b c.loop-n.n c.loop-n.found c.loop-n.invariant (w.in-Some.ensures.direction refl) w.in_direction.result
          (subst (λ d. IsCover grid mesh c.args.b d w.in_direction.result) e w.in_direction.ensures.cover) w.add.new.self t.domain t.mesh w.add.ensures.added)
      | in_default w ↦
          subst (Gathers grid mesh c.args.b (c.loop-n.n + 1)) (sym w.found-is)
          (Gathers-skip grid mesh c.args.b c.loop-n.n c.loop-n.found c.loop-n.invariant (λ d. false≢true (w.in_default.ensures.each d)))
    ]

gathered : (c : goal.After-loop-n) → AreTouching c.args.set.now.grid c.args.set.now.places c.args.b c.loop-n.found
gathered c =
    let e : c.loop-n.n ≡ 27 = omega arith in
    AreTouching-Gathers c.args.set.now c.args.b c.loop-n.found c.len-leaves.ensures.tiles
    (subst (λ n. Gathers c.args.set.now.grid c.args.set.now.places c.args.b n c.loop-n.found) e c.loop-n.invariant)

pub returns : goal.returns
returns c = record { touching = gathered c }
