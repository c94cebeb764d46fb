-- What is left of the proof of this function.
use Rattle.std.proofs.Common.{arith, ◌<◌, length, refl, sym, ap, subst, ◌∙◌}
use Rattle.std.proofs.lemmas.Option.{slice_get_read}
use Rattle.indexmap.specs.IndexSet.{insert_key}
use Rattle.leaf_set.specs.MeshLaws.{HasDistinctLeaves}
use Rattle.block_index.proofs.Equality.{place_eq}
use Rattle.leaf_set.proofs.Positions.{insert_key-next}
use Rattle.leaf_set.proofs.set.indexed.Goals as goal

pub loop-place-preserved : goal.loop-place-preserved
loop-place-preserved c =
    let items = c.deref-place-items.result.now in
    let i = c.loop-place.place-index in
    let within : i < length items = omega arith in
    c.in_ok-insert.ensures.keys
    ∙ ap (λ keys. insert_key place_eq keys c.place-item.result) c.loop-place.invariant
    ∙ insert_key-next items i c.place-item.result (subst HasDistinctLeaves (sym c.deref-place-items.ensures.value) c.requires)
    (slice_get_read items (length items) i c.place-item.result refl within c.place-item.is)
