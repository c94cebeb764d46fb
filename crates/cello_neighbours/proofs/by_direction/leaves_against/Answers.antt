-- What is left of the proof of this function.
use Rattle.std.proofs.Common.{◌≡◌, ℕ, ◌+◌, ◌↔◌, true, List, Option, None, Some, IsSome, IfSome, slice_get, refl, sym, ap, ◌∙◌, subst, arith}
use Rattle.std.specs.Option.{IsNone}
use Rattle.std.proofs.lemmas.Option.{slice_get_within}
use Rattle.block_index.specs.Places.{Cube, child_of}
use Rattle.leaf_set.specs.Meshes.{IsLeaf}
use Rattle.leaf_set.proofs.LeafCounts.{length-IsMesh_limit}
use Rattle.cello_neighbours.specs.Covers.{is_near}
use Rattle.cello_neighbours.proofs.Collections.{Collects, Collects-none, Collects-skip, Collects-room, Collects-later, Collects-push, AreAgainst-Collects}
use Rattle.cello_neighbours.proofs.by_direction.leaves_against.Goals as goal
use Rattle.cello_neighbours.proofs.by_direction.leaves_against.Goals.{then-is_near, else-is_near}

some_found : (r : Option ℕ) (P : Type 0) → (IsNone r ↔ (P → ⊥)) → P → IsSome r
some_found None P n p = absurd (n.0 refl p)
some_found (Some i) P n p = refl

at_some : (P : ℕ → Type 0) (r : Option ℕ) (x : ℕ) → IfSome r P → r ≡ Some x → P x
at_some P r x h e = subst (λ q. IfSome q P) e h

pub loop-k-init : goal.loop-k-init
loop-k-init c =
    subst (Collects c.args.set.now.places c.args.d c.args.place 0) (sym c.new-found.ensures)
    (Collects-none c.args.set.now.places c.args.d c.args.place)

pub unwrap-requires : goal.unwrap-requires
unwrap-requires c =
    let near : is_near c.args.d (child_of c.args.place c.loop-k.k) ≡ true = sym (c.is_near.ensures c.args.place) ∙ c.if-is_near.true in
    some_found c.position.result (IsLeaf c.args.set.now.places c.child.result) c.position.ensures.none
    (subst (IsLeaf c.args.set.now.places) (sym c.child.ensures.value) (c.requires.leaves c.loop-k.k (omega arith) near))

pub overflow_cast-unwrap : goal.overflow_cast-unwrap
overflow_cast-unwrap c =
    let t = c.requires.tiles in
    let s = at_some _ c.position.result c.unwrap.result c.position.ensures.found c.unwrap.ensures in
    omega
    (arith, slice_get_within c.args.set.now.places c.unwrap.result _ s, length-IsMesh_limit c.args.set.now.grid c.args.set.now.places t.domain t.mesh)

-- the leaf that is put behind the others is the child numbered k
child_at : (mesh : List Cube) (r : Option ℕ) (j : ℕ) (p q : Cube) → IfSome r (λ i. slice_get mesh i ≡ Some p) → r ≡ Some j → p ≡ q → slice_get mesh j ≡ Some q
child_at mesh r j p q h e f = at_some (λ i. slice_get mesh i ≡ Some p) r j h e ∙ ap Some f

pub push-requires-clause-room : goal.push-requires-clause-room
push-requires-clause-room c =
    Collects-room c.args.set.now.places c.args.d c.args.place c.loop-k.k c.loop-k.found c.loop-k.invariant (omega arith) c.requires.direction
    (sym (c.is_near.ensures c.args.place) ∙ c.if-is_near.true)

pub push-requires-clause-later : goal.push-requires-clause-later
push-requires-clause-later c =
    let t = c.requires.tiles in
    let mesh = c.args.set.now.places in
    let s = child_at mesh c.position.result c.unwrap.result c.child.result (child_of c.args.place c.loop-k.k) c.position.ensures.found c.unwrap.ensures c.child.ensures.value in
    Collects-later mesh c.args.d c.args.place c.loop-k.k c.loop-k.found c.loop-k.invariant (omega arith) c.args.set.now.grid t.domain t.mesh (omega arith) c.unwrap.result s

pub loop-k-preserved : goal.loop-k-preserved
loop-k-preserved c =
    let t = c.requires.tiles in
    let mesh = c.args.set.now.places in
    let q = c.args.place in
    let k = c.loop-k.k in
    elim c.if-is_near.branch [
      | then-is_near w ↦
          let s = child_at mesh w.position.result w.unwrap.result w.child.result (child_of q k) w.position.ensures.found w.unwrap.ensures w.child.ensures.value in
          subst (Collects mesh c.args.d q (k + 1)) (sym (w.found-is ∙ w.push.ensures.items))
          (Collects-push mesh c.args.d q k c.loop-k.found c.loop-k.invariant (omega arith) c.args.set.now.grid t.domain t.mesh (omega arith) w.unwrap.result s (sym (c.is_near.ensures q) ∙ w.if-is_near.true))
      | else-is_near w ↦
          subst (Collects mesh c.args.d q (k + 1)) (sym w.found-is)
          (Collects-skip mesh c.args.d q k c.loop-k.found c.loop-k.invariant (omega arith) (sym (c.is_near.ensures q) ∙ w.if-is_near.false))
    ]

pub returns : goal.returns
returns c =
    let t = c.requires.tiles in
    let e : c.loop-k.k ≡ 8 = omega arith in
    record {
      against = AreAgainst-Collects c.args.set.now.grid c.args.set.now.places c.args.d c.args.place c.loop-k.found t.domain t.mesh c.requires.direction
          (subst (λ k. Collects c.args.set.now.places c.args.d c.args.place k c.loop-k.found) e c.loop-k.invariant);
    }
