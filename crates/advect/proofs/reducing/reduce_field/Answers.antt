use Rattle.std.proofs.Common.{◌≡◌, ◌*◌, ◌/◌, ◌≤◌, slice_index, ◌∙◌, arith, mul-le-mul_right}
use Rattle.std.proofs.lemmas.List.FromFn.{fill_by_all}
use Rattle.advect.specs.FluxPieces.{sum_of_four}
use Rattle.advect.proofs.RowNumbers.{row_or_before}
use Rattle.advect.proofs.reducing.reduce_field.Goals as goal

pub loop-j-preserved : goal.loop-j-preserved
loop-j-preserved c = λ k h.
    row_or_before (c.args.n / 2) c.loop-j.j k (λ k. slice_index c.reduce_row.new.sums k ≡ sum_of_four c.args.n c.args.fluxes.now k)
    c.reduce_row.ensures.row (λ l. c.reduce_row.ensures.earlier k l ∙ c.loop-j.invariant k l) h

pub returns : goal.returns
returns c =
    let h = c.args.n / 2 in
    let all : h ≤ c.loop-j.j = c.loop-j-test.false in
    record {
      sums = fill_by_all (sum_of_four c.args.n c.args.fluxes.now) c.loop-j.sums (h * h) 0 (c.loop-j.auto.sums ∙ c.requires.sums)
          (λ k l. c.loop-j.invariant k (let m : h * h ≤ c.loop-j.j * h = mul-le-mul_right h all in omega arith));
    }
