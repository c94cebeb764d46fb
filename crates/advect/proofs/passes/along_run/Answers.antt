use Rattle.std.proofs.Common.{◌≡◌, ℕ, ◌+◌, ◌-◌, ◌*◌, ◌^◌, ◌<◌, ◌≤◌, ◌&&◌, ◌==◌, cond, List, slice_index, sym, ◌∙◌, subst, arith}
use Rattle.advect.specs.declared.share.Share.{Share}
use Rattle.advect.specs.declared.pass.Pass.{Pass}
use Rattle.advect.specs.Lemmas.Shares.{carried}
use Rattle.advect.specs.Lemmas.Passes.{base, cell, gives, layer}
use Rattle.advect.proofs.Cells.{layer-after, layer-room, one-cell, share-unless, unless_le}
use Rattle.advect.proofs.PassSteps.{ahead-less, base-same, carry-more, comes-later, moved-more}
use Rattle.advect.proofs.passes.along_run.Goals as goal

-- what a cell holds when the pass comes to it
module _ (pass : Pass) (share : Share) (n r v u : ℕ) (a n0 next : List ℕ) (is : u ≡ layer pass.up n v) (within : v < n)
    (parts : share.parts ≡ cond (pass.closed && (v + 1 == n)) 0 pass.share.parts) (den : share.den ≡ pass.share.den)
    (ahead : (w i : ℕ) → v ≤ w → w < n → i < 1 → slice_index next (cell n 1 r (layer pass.up n w) i) ≡ slice_index n0 (cell n 1 r (layer pass.up n w) i)) where
  number : cell n 1 r (layer pass.up n v) 0 ≡ r * n + u
  number = omega (arith, is)

  now : base pass.first a next (r * n + u) ≡ base pass.first a n0 (r * n + u)
  now = base-same pass.first a n0 next (r * n + u) (subst (λ k. slice_index next k ≡ slice_index n0 k) number (ahead v 0 (omega arith) within (omega arith)))

  pub held-now : carried pass.share (slice_index a (cell n 1 r u 0)) ≤ base pass.first a n0 (cell n 1 r u 0) → carried share (slice_index a (r * n + u)) ≤ base pass.first a next (r * n + u)
  held-now h =
      let e : cell n 1 r u 0 ≡ r * n + u = omega arith in
      let q = slice_index a (r * n + u) in
      let k = subst (λ t. carried pass.share (slice_index a t) ≤ base pass.first a n0 t) e h in
      subst (λ t. t ≤ base pass.first a next (r * n + u)) (sym (share-unless (pass.closed && (v + 1 == n)) q pass.share.parts pass.share.den share.parts share.den parts den))
      (subst (λ t. gives pass n v q ≤ t) (sym now) (unless_le (pass.closed && (v + 1 == n)) (carried pass.share q) (base pass.first a n0 (r * n + u)) k))

  pub fits-now : base pass.first a n0 (cell n 1 r u 0) ≤ 2 ^ 44 → base pass.first a next (r * n + u) ≤ 2 ^ 44
  fits-now h =
      let e : cell n 1 r u 0 ≡ r * n + u = omega arith in
      subst (λ t. t ≤ 2 ^ 44) (sym now) (subst (λ t. base pass.first a n0 t ≤ 2 ^ 44) e h)

pub along_cell-carry-requires-clause-held : goal.along_cell-carry-requires-clause-held
along_cell-carry-requires-clause-held c =
    held-now c.args.pass c.share_after-share.result c.args.layers c.args.run c.loop-v.v c.layer.result c.args.amounts.now c.args.next.now c.loop-v.next c.layer.ensures.layer c.loop-v-test.true
    c.share_after-share.ensures.parts c.share_after-share.ensures.den c.loop-v.invariant.ahead (c.requires.held c.layer.result c.layer.ensures.within)

pub along_cell-carry-requires-clause-fits : goal.along_cell-carry-requires-clause-fits
along_cell-carry-requires-clause-fits c =
    fits-now c.args.pass c.share_after-share.result c.args.layers c.args.run c.loop-v.v c.layer.result c.args.amounts.now c.args.next.now c.loop-v.next c.layer.ensures.layer c.loop-v-test.true
    c.share_after-share.ensures.parts c.share_after-share.ensures.den c.loop-v.invariant.ahead (c.requires.fits c.layer.result c.layer.ensures.within)

pub loop-v-preserved : goal.loop-v-preserved
loop-v-preserved c =
    let n = c.args.layers in
    let r = c.args.run in
    let v = c.loop-v.v in
    let u = c.layer.result in
    let a = c.args.amounts.now in
    let p = c.args.pass in
    let s = c.share_after-share.result in
    let next = c.loop-v.next in
    let now = c.along_cell-carry.new.next in
    let from = layer-after n 1 r u in
    let room = layer-room n 1 r u c.layer.ensures.within in
    let row = one-cell (λ k. slice_index now k ≡ base p.first a next k - carried s (slice_index a k) + c.loop-v.carry) (r * n + u) c.along_cell-carry.ensures.moved in
    let leaves = one-cell (λ k. c.along_cell-carry.result ≡ carried s (slice_index a k)) (r * n + u) c.along_cell-carry.ensures.leaves in
    let before : (k : ℕ) → k < (r * n + u) * 1 → slice_index now k ≡ slice_index next k = λ k h. c.along_cell-carry.ensures.cells_before k (omega arith) in
    let after : (k : ℕ) → (r * n + u) * 1 + 1 ≤ k → slice_index now k ≡ slice_index next k = λ k h. c.along_cell-carry.ensures.cells_after k (omega arith) in
    record {
      moved = moved-more p s n 1 r v u a c.args.next.now c.args.faces.now next now (λ i. c.loop-v.carry) (λ i. c.along_cell-carry.result) c.layer.ensures.layer c.loop-v-test.true c.share_after-share.ensures.parts c.share_after-share.ensures.den
          row leaves before after c.loop-v.invariant.moved c.loop-v.invariant.ahead c.loop-v.invariant.carry;
      ahead = ahead-less p s n 1 r v u a c.args.next.now c.args.faces.now next now (λ i. c.loop-v.carry) (λ i. c.along_cell-carry.result) c.layer.ensures.layer c.loop-v-test.true c.share_after-share.ensures.parts c.share_after-share.ensures.den
          row leaves before after c.loop-v.invariant.moved c.loop-v.invariant.ahead c.loop-v.invariant.carry;
      carry = λ i k.
          carry-more p s n 1 r v u a c.args.next.now c.args.faces.now next now (λ i. c.loop-v.carry) (λ i. c.along_cell-carry.result) c.layer.ensures.layer c.loop-v-test.true c.share_after-share.ensures.parts c.share_after-share.ensures.den
          row leaves before after c.loop-v.invariant.moved c.loop-v.invariant.ahead c.loop-v.invariant.carry i k
          ∙ sym (comes-later p n 1 r a c.args.faces.now v i);
      small = c.along_cell-carry.ensures.small;
      cells_before = λ k h. before k (omega arith) ∙ c.loop-v.invariant.cells_before k h;
      cells_after = λ k h. after k (omega arith) ∙ c.loop-v.invariant.cells_after k h;
    }
