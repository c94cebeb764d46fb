use Rattle.std.proofs.Common.{◌≡◌, ◌+◌, ◌*◌, ◌≤◌, slice_index, ◌∙◌, subst, arith, inl, inr}
use Rattle.std.proofs.lemmas.Bool.{cases_lt}
use Rattle.std.proofs.lemmas.Nat.{mul-le}
use Rattle.advect.specs.Lemmas.Shares.{carried}
use Rattle.advect.proofs.Cells.{share-unless}
use Rattle.advect.proofs.entering.enter.Goals as goal

pub loop-r-preserved : goal.loop-r-preserved
loop-r-preserved c = λ r i h k.
    let s = c.loop-r.r in
    let m = c.args.wide in
    elim (cases_lt r s) [
      | inl less ↦ c.enter_row.ensures.earlier (r * m + i) (let b : (r + 1) * m ≤ s * m = mul-le (r + 1) m s m (omega arith) (omega arith) in omega arith) ∙ c.loop-r.invariant r i less k
      | inr more ↦
          let e : s ≡ r = omega arith in
          subst (λ t. slice_index c.enter_row.new.faces (t * m + i) ≡ carried c.unless-share.result (slice_index c.args.ghosts.now ((t * c.args.depth + c.args.position) * m + i))) e (c.enter_row.ensures.row i k)
    ]

pub returns : goal.returns
returns c = record {
  entry = λ r i h k.
      c.loop-r.invariant r i (omega (arith, h, c.loop-r-test.false)) k
      ∙ share-unless c.args.barred (slice_index c.args.ghosts.now ((r * c.args.depth + c.args.position) * c.args.wide + i)) c.args.share.parts c.args.share.den c.unless-share.result.parts c.unless-share.result.den c.unless-share.ensures.parts c.unless-share.ensures.den;
}
