use Rattle.std.proofs.Common.{◌≡◌, ◌+◌, ◌-◌, ◌*◌, ◌^◌, ◌≤◌, ◌&&◌, ◌==◌, slice_index, sym, ◌∙◌, subst, arith, inl, inr, le_trans}
use Rattle.std.proofs.lemmas.Bool.{cases_lt}
use Rattle.std.proofs.lemmas.Nat.{mul-le}
use Rattle.advect.specs.Lemmas.Shares.{carried}
use Rattle.advect.specs.Lemmas.Passes.{cell, gives, layer, passed}
use Rattle.advect.proofs.Cells.{earlier-run, layer-after, layer-within, unless_le}
use Rattle.advect.proofs.PassSteps.{passed-same}
use Rattle.advect.proofs.Shares.{carried_le}
use Rattle.advect.proofs.passes.pass_over.Goals as goal

pub loop-r-preserved : goal.loop-r-preserved
loop-r-preserved c =
    let n = c.args.layers in
    let m = c.args.wide in
    let s = c.loop-r.r in
    let a = c.args.amounts.now in
    let p = c.args.pass in
    let now = c.pass_run.new.next in
    let out = c.pass_run.new.faces in
    record {
      moved = λ r v i h k l.
          elim (cases_lt r s) [
            | inl less ↦ c.pass_run.ensures.cells_before (cell n m r (layer p.up n v) i) (earlier-run n m r s (layer p.up n v) i less (layer-within p.up n v k) l) ∙ c.loop-r.invariant.moved r v i less k l
            | inr more ↦
                let e : s ≡ r = omega arith in
                let at = cell n m s (layer p.up n v) i in
                let from : cell n m s 0 0 ≤ at = omega (arith, layer-after n m s (layer p.up n v)) in
                subst (λ t. slice_index now (cell n m t (layer p.up n v) i) ≡ passed p n m t a c.args.next.now c.args.faces.now v i) e
                (c.pass_run.ensures.moved v i k l ∙ passed-same p n m s a c.args.next.now c.args.faces.now c.loop-r.next c.loop-r.faces v i (c.loop-r.invariant.ahead at from) (c.loop-r.invariant.faces_ahead (s * m + i) (omega arith)))
          ];
      leaves = λ r i h l.
          elim (cases_lt r s) [
            | inl less ↦ c.pass_run.ensures.faces_before (r * m + i) (let b : (r + 1) * m ≤ s * m = mul-le (r + 1) m s m (omega arith) (omega arith) in omega arith) ∙ c.loop-r.invariant.leaves r i less l
            | inr more ↦
                let e : s ≡ r = omega arith in
                subst (λ t. slice_index out (t * m + i) ≡ gives p n (n - 1) (slice_index a (cell n m t (layer p.up n (n - 1)) i))) e (c.pass_run.ensures.leaves i l)
          ];
      ahead = λ k h. c.pass_run.ensures.cells_after k h ∙ c.loop-r.invariant.ahead k (omega arith);
      faces_ahead = λ k h. c.pass_run.ensures.faces_after k h ∙ c.loop-r.invariant.faces_ahead k (omega arith);
      small = λ k.
          elim (cases_lt k (s * m)) [
            | inl less ↦ subst (λ t. t ≤ 2 ^ 42) (sym (c.pass_run.ensures.faces_before k less)) (c.loop-r.invariant.small k)
            | inr more ↦
                elim (cases_lt k ((s + 1) * m)) [
                  | inl within ↦
                      let i = k - s * m in
                      let e : s * m + i ≡ k = omega arith in
                      let q = slice_index a (cell n m s (layer p.up n (n - 1)) i) in
                      let small = unless_le (p.closed && (n - 1 + 1 == n)) (carried p.share q) (2 ^ 42) (le_trans (carried_le p.share q) (c.requires.small (cell n m s (layer p.up n (n - 1)) i))) in
                      subst (λ t. slice_index out t ≤ 2 ^ 42) e (subst (λ t. t ≤ 2 ^ 42) (sym (c.pass_run.ensures.leaves i (omega arith))) small)
                  | inr past ↦ subst (λ t. t ≤ 2 ^ 42) (sym (c.pass_run.ensures.faces_after k past)) (c.loop-r.invariant.small k)
                ]
          ];
    }
