use Rattle.std.proofs.Common.{◌+◌, ◌*◌, ◌/◌, ◌<◌, ◌≤◌, length, slice_set, get_or, ap, ◌∙◌, sym, arith, inl, inr}
use Rattle.std.proofs.lemmas.Bool.{cases_eq}
use Rattle.std.proofs.lemmas.Nat.{mul-le}
use Rattle.std.proofs.lemmas.List.{get_or-set_same, get_or-set_other}
use Rattle.advect.specs.FluxPieces.{sum_of_four}
use Rattle.advect.proofs.reducing.reduce_row.Goals as goal

pub loop-i-preserved : goal.loop-i-preserved
loop-i-preserved c =
    let h = c.args.n / 2 in
    let j = c.args.j in
    let t = c.loop-i.i in
    let now = c.loop-i.sums in
    let room : (j + 1) * h ≤ h * h = mul-le (j + 1) h h h (omega arith) (omega arith) in
    let at : j * h + t < length now = omega (arith, room, c.loop-i.auto.sums, c.requires.sums) in
    record {
      row = λ i k.
          elim (cases_eq i t) [
            | inl same ↦ ap (λ i. get_or (slice_set now (j * h + t) c.four_faces.result) (j * h + i) 0) same ∙ get_or-set_same now (j * h + t) c.four_faces.result 0 at ∙ c.four_faces.ensures.sum ∙ ap (λ i. sum_of_four c.args.n c.args.fluxes.now (j * h + i)) (sym same)
            | inr other ↦ get_or-set_other now (j * h + t) (j * h + i) c.four_faces.result 0 (λ e. other (omega (arith, e))) ∙ c.loop-i.invariant.row i (omega (arith, other))
          ];
      earlier = λ k l. get_or-set_other now (j * h + t) k c.four_faces.result 0 (λ e. absurd (omega (arith, e))) ∙ c.loop-i.invariant.earlier k l;
    }
