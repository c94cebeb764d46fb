use Rattle.std.proofs.Common.{◌<◌, ◌+◌, ◌++◌, ◌∷◌, [], Some, length, get_or, sym, ap, ◌∙◌, arith, length-append, append_assoc}
use Rattle.std.specs.Prelude.{slice_get}
use Rattle.std.proofs.lemmas.List.Sorted.{length_permutation}
use Rattle.phase_core.specs.Lemmas.Starts.{length-start_flight}
use Rattle.post_office.proofs.Lists.{get_at}
use Rattle.post_office.proofs.DealtOut.{deal_step, more_length}
use Rattle.post_office.proofs.dealing.deal_out.Goals as goal

pub add_at-requires-clause-ours : goal.add_at-requires-clause-ours
add_at-requires-clause-ours g c =
    let inv = c.loop-cell.invariant in
    let owners = c.args.owners.now in
    let a = ap length (inv.items ∙ ap (λ l. c.loop-cell.yielded ++ l) c.in-Some.ensures.steps.0) in
    let n = length-append c.loop-cell.yielded (c.in-Some.cell ∷ c.next.new.self.rest.items) in
    let low : c.loop-cell.at < length owners = omega (arith, a, n, inv.at, c.requires.owned.0) in
    λ r at. (let x = inv.dealt.each (get_or owners c.loop-cell.at 0) r at in ap (λ l. slice_get l c.loop-cell.at) x.its_owners ∙ (get_at owners c.loop-cell.at 0 low ∙ ap (λ z. Some z) (sym x.its_shard)))

pub add_at-requires-clause-few : goal.add_at-requires-clause-few
add_at-requires-clause-few g c =
    let inv = c.loop-cell.invariant in
    let a = ap length (inv.items ∙ ap (λ l. c.loop-cell.yielded ++ l) c.in-Some.ensures.steps.0) in
    let n = length-append c.loop-cell.yielded (c.in-Some.cell ∷ c.next.new.self.rest.items) in
    let m = length_permutation _ _ inv.dealt.flight in
    let k = length-start_flight g.P.Phase.start (length c.loop-cell.yielded) in
    omega (arith, a, n, m, k, c.requires.few)

pub loop-cell-preserved : goal.loop-cell-preserved
loop-cell-preserved g c =
    let inv = c.loop-cell.invariant in
    let owners = c.args.owners.now in
    let ys = c.loop-cell.yielded in
    let x = c.in-Some.cell in
    let all = inv.items ∙ ap (λ l. ys ++ l) c.in-Some.ensures.steps.0 in
    let a = ap length all in
    let n = length-append ys (x ∷ c.next.new.self.rest.items) in
    let low : c.loop-cell.at < length owners = omega (arith, a, n, inv.at, c.requires.owned.0) in
    record {
      items = all ∙ sym (append_assoc ys (x ∷ []) c.next.new.self.rest.items);
      at = ap (λ n. n + 1) inv.at ∙ sym (more_length ys x);
      dealt = deal_step c.args.phase.now (g.P.Phase.problem c.args.phase.now c.args.cells.items) owners g.P.Phase.start (length c.args.posts.now.items) ys _ _ _ _ (get_or owners c.loop-cell.at 0) x c.loop-cell.at c.start.result inv.dealt (get_at owners c.loop-cell.at 0 low) inv.at c.start.ensures.message c.in_ok-add_at.ensures;
    }
