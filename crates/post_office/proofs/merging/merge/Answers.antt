use Rattle.std.proofs.Common.{◌∙◌, ◌++◌, length, sym, subst, ap, arith, length-append}
use Rattle.std.specs.Prelude.{All}
use Rattle.std.proofs.lemmas.List.Elements.{All-append}
use Rattle.quiet_table.specs.Contents.{pool}
use Rattle.post_office.specs.Shares.{IsFor, Sorted}
use Rattle.post_office.specs.Lemmas.PartLaws.{length_put, get_within}
use Rattle.post_office.proofs.Lists.{length_written}
use Rattle.post_office.proofs.Sorting.{sorted_set}
use Rattle.post_office.proofs.merging.merge.Goals as goal

pub invariant_of-served : goal.invariant_of-served
invariant_of-served g c =
    let sh = c.args.served in
    let owners = sh.owners.value.items in
    let moved = c.pour_in.ensures.moved in
    let es = moved.0 in
    let box = c.args.inbox.envelopes in
    let n = length_written sh.mail.items sh.shard es (es ++ box) moved.1 in
    let m = length-append es box in
    let wide = ap length moved.2 ∙ length_put sh.mail.items sh.shard (es ++ box) in
    let same = ap (λ l. length (pool l)) moved.2 in
    let ours : All (λ e. IsFor owners sh.shard e) box = subst (λ n. All (λ e. IsFor owners n e) box) c.requires.same.1 (subst (λ l. All (λ e. IsFor l c.args.inbox.shard e) box) c.requires.same.0 c.args.inbox.ours) in
    record {
      few = omega (arith, n, m, same, c.requires.few);
      within = (rw wide sh.within.0, rw wide sh.within.1);
      sorted = subst (Sorted owners) (sym moved.2) (sorted_set owners sh.mail.items sh.shard (es ++ box) sh.sorted (get_within sh.mail.items sh.shard es moved.1) (All-append (λ e. IsFor owners sh.shard e) es box (sh.sorted sh.shard es moved.1) ours));
      addressed = sh.addressed;
    }
