use Rattle.std.proofs.Common.{◌≡◌, ℕ, ◌+◌, ◌*◌, ◌^◌, ◌≤◌, slice_index, sym, ◌∙◌, subst, arith}
use Rattle.std.proofs.Common.{le_trans}
use Rattle.advect.proofs.Shares.{carried_le}
use Rattle.advect.proofs.Cells.{layer-after, layer-room}
use Rattle.advect.proofs.PassSteps.{ahead-less, carry-more, comes-later, moved-more}
use Rattle.advect.proofs.passes.across_run.Goals as goal

pub loop-v-preserved : goal.loop-v-preserved
loop-v-preserved c =
    let n = c.args.layers in
    let m = c.args.wide in
    let r = c.args.run in
    let v = c.loop-v.v in
    let u = c.layer.result in
    let a = c.args.amounts.now in
    let p = c.args.pass in
    let s = c.share_after-share.result in
    let now = c.across_row.new.next in
    let from = layer-after n m r u in
    let room = layer-room n m r u c.layer.ensures.within in
    let after : (k : ℕ) → (r * n + u) * m + m ≤ k → slice_index now k ≡ slice_index c.loop-v.next k = c.across_row.ensures.cells_after in
    record {
      moved = moved-more p s n m r v u a c.args.next.now c.args.faces.now c.loop-v.next now (λ i. slice_index c.loop-v.faces (r * m + i)) (λ i. slice_index c.across_row.new.faces (r * m + i)) c.layer.ensures.layer c.loop-v-test.true c.share_after-share.ensures.parts c.share_after-share.ensures.den
          c.across_row.ensures.moved c.across_row.ensures.leaves c.across_row.ensures.cells_before after c.loop-v.invariant.moved c.loop-v.invariant.ahead c.loop-v.invariant.carry;
      ahead = ahead-less p s n m r v u a c.args.next.now c.args.faces.now c.loop-v.next now (λ i. slice_index c.loop-v.faces (r * m + i)) (λ i. slice_index c.across_row.new.faces (r * m + i)) c.layer.ensures.layer c.loop-v-test.true c.share_after-share.ensures.parts c.share_after-share.ensures.den
          c.across_row.ensures.moved c.across_row.ensures.leaves c.across_row.ensures.cells_before after c.loop-v.invariant.moved c.loop-v.invariant.ahead c.loop-v.invariant.carry;
      carry = λ i k.
          carry-more p s n m r v u a c.args.next.now c.args.faces.now c.loop-v.next now (λ i. slice_index c.loop-v.faces (r * m + i)) (λ i. slice_index c.across_row.new.faces (r * m + i)) c.layer.ensures.layer c.loop-v-test.true c.share_after-share.ensures.parts c.share_after-share.ensures.den
          c.across_row.ensures.moved c.across_row.ensures.leaves c.across_row.ensures.cells_before after c.loop-v.invariant.moved c.loop-v.invariant.ahead c.loop-v.invariant.carry i k
          ∙ sym (comes-later p n m r a c.args.faces.now v i);
      small = λ i k. let q = slice_index a ((r * n + u) * m + i) in subst (λ t. t ≤ 2 ^ 42) (sym (c.across_row.ensures.leaves i k)) (le_trans (carried_le s q) (c.requires.small ((r * n + u) * m + i)));
      cells_before = λ k h. c.across_row.ensures.cells_before k (omega arith) ∙ c.loop-v.invariant.cells_before k h;
      cells_after = λ k h. c.across_row.ensures.cells_after k (omega arith) ∙ c.loop-v.invariant.cells_after k h;
      faces_before = λ k h. c.across_row.ensures.faces_before k h ∙ c.loop-v.invariant.faces_before k h;
      faces_after = λ k h. c.across_row.ensures.faces_after k (omega arith) ∙ c.loop-v.invariant.faces_after k h;
    }
