-- Side by side.
use Rattle.std.proofs.Common.{ℕ, ◌+◌, List, sym, ap, ◌∙◌, subst, arith}
use Rattle.std.proofs.lemmas.Option.{same_Some, none-some}
use Rattle.flux_register.specs.Faces.{FluxFace}
use Rattle.flux_register.proofs.FoundFaces.{FoundFaces, found_none, found_no_more, found_one, found_all, no_faces}
use Rattle.flux_register.proofs.coarse_faces.coarse_faces.Goals.{in-Some+in_ok-push, in_default}
use Rattle.flux_register.proofs.coarse_faces.coarse_faces.Goals as goal

pub returns-then-has_none_coarser : goal.returns-then-has_none_coarser
returns-then-has_none_coarser c = record {
  faces = no_faces c.args.set.now.grid c.args.set.now.places c.args.at c.new.result.items c.new.ensures.items (c.has_none_coarser.ensures.none c.if-has_none_coarser.true);
}

pub loop-number-init : goal.loop-number-init
loop-number-init c = found_none c.args.set.now.grid c.args.set.now.places c.args.at c.in_ok-faces.faces.items c.in_ok-faces.ensures.items

pub loop-number-preserved : goal.loop-number-preserved
loop-number-preserved c =
    let set = c.args.set.now in
    let at = c.loop-number in
    elim c.match-coarse_face.branch [
      | in-Some+in_ok-push w ↦ found_one set.grid set.places c.args.at at.number at.faces.items c.match-coarse_face.faces.items w.in-Some.face at.invariant (ap (λ v. v.items) w.faces-is ∙ w.in_ok-push.ensures.items) w.in-Some.ensures.found w.in-Some.ensures.own w.in-Some.ensures.side (λ face is from number. same_Some w.in-Some.face face (w.in-Some.ensures.every face is from number))
      | in_default w ↦ subst (λ (l : List FluxFace). FoundFaces set.grid set.places c.args.at (at.number + 1) l) (sym (ap (λ v. v.items) w.faces-is)) (found_no_more set.grid set.places c.args.at at.number at.faces.items at.invariant (λ face is from number. none-some face (w.in_default.ensures.every face is from number)))
    ]

pub returns : goal.returns
returns c = record {
  faces = found_all c.args.set.now.grid c.args.set.now.places c.args.at c.loop-number.faces.items
      (subst (λ (n : ℕ). FoundFaces c.args.set.now.grid c.args.set.now.places c.args.at n c.loop-number.faces.items) (let low = c.loop-number.auto.number-end in let high = c.loop-number-test.false in omega (arith, low, high)) c.loop-number.invariant);
}
