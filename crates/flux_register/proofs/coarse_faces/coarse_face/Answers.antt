-- A coarser leaf across a side is the receiver of the face on it.
use Rattle.std.proofs.Common.{Some, ap, sym, ◌∙◌, subst}
use Rattle.block_index.specs.Beyond.{Offset}
use Rattle.cello_neighbours.specs.Covers.{IsCover}
use Rattle.cello_neighbours.specs.declared.covers.Cover.{Cover}
use Rattle.flux_register.specs.Faces.{opposite}
use Rattle.flux_register.proofs.CoarserAcross.{face-cover, one_face, no_face}
use Rattle.flux_register.proofs.coarse_faces.coarse_face.Goals as goal

pub returns-in_default : goal.returns-in_default
returns-in_default c = record {
  found = tt;
  own = tt;
  side = tt;
  every = λ face is from number.
      let set = c.args.set.now in
      let side : Offset = c.side_numbered-side.result in
      let cover = subst (λ (o : Offset). IsCover set.grid set.places c.args.at o c.in_direction.result) c.opposite.ensures.value c.in_direction.ensures.cover in
      absurd (c.in_default.not-Coarser face.to (no_face set c.requires.tiles c.args.at side c.in_direction.result face c.side_numbered-side.ensures.side cover is from (number ∙ sym c.side_numbered-side.ensures.number)));
}

pub returns-clause-found : goal.returns-clause-found
returns-clause-found c =
    let set = c.args.set.now in
    let side : Offset = c.side_numbered-side.result in
    let cover = subst (λ (o : Offset). IsCover set.grid set.places c.args.at o c.in_direction.result) c.opposite.ensures.value c.in_direction.ensures.cover in
    face-cover set c.requires.tiles c.args.at c.in-Coarser.to c.place.result side c.side_numbered-side.ensures.side c.place.ensures.leaf (subst (λ (x : Cover). IsCover set.grid set.places c.args.at (opposite side) x) c.in-Coarser.is cover)

pub returns-clause-every : goal.returns-clause-every
returns-clause-every c = λ face is from number.
    let set = c.args.set.now in
    let side : Offset = c.side_numbered-side.result in
    let cover = subst (λ (o : Offset). IsCover set.grid set.places c.args.at o c.in_direction.result) c.opposite.ensures.value c.in_direction.ensures.cover in
    ap Some (one_face set c.requires.tiles c.args.at c.in-Coarser.to c.place.result side face c.side_numbered-side.ensures.side c.place.ensures.leaf (subst (λ (x : Cover). IsCover set.grid set.places c.args.at (opposite side) x) c.in-Coarser.is cover) is from (number ∙ sym c.side_numbered-side.ensures.number))
