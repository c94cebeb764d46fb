use Rattle.std.proofs.Common.{◌∙◌, [], length, length-append, sym, subst, ap, arith}
use Rattle.std.specs.Prelude.{All}
use Rattle.std.proofs.lemmas.List.Elements.{All-append, All-nil}
use Rattle.quiet_table.specs.Contents.{pool}
use Rattle.post_office.specs.Shares.{IsFor, Sorted}
use Rattle.post_office.specs.Lemmas.PartLaws.{length_put, get_within}
use Rattle.post_office.proofs.Lists.{length_written, list_within}
use Rattle.post_office.proofs.Sorting.{sorted_set}
use Rattle.post_office.proofs.merging.post.Goals as goal

pub invariant_of-served : goal.invariant_of-served
invariant_of-served g c =
    let sh = c.args.served in
    let t = c.args.inbox.shard in
    let owners = sh.owners.value.items in
    let moved = c.pour_out.ensures.moved in
    let emptied = c.pour_out.ensures.emptied in
    let es = moved.0 in
    let n = length_written sh.mail.items t es [] moved.1 in
    let wide = ap length emptied ∙ length_put sh.mail.items t [] in
    let same = ap (λ l. length (pool l)) emptied in
    record {
      few = omega (arith, n, same, sh.few);
      within = (rw wide sh.within.0, rw wide sh.within.1);
      sorted = subst (Sorted owners) (sym emptied) (sorted_set owners sh.mail.items t [] sh.sorted (get_within sh.mail.items t es moved.1) (All-nil (λ e. IsFor owners t e)));
      addressed = sh.addressed;
    }

pub invariant_of-inbox : goal.invariant_of-inbox
invariant_of-inbox g c =
    let sh = c.args.served in
    let box = c.args.inbox in
    let owners = box.owners.value.items in
    let moved = c.pour_out.ensures.moved in
    let es = moved.0 in
    let ours : All (λ e. IsFor owners box.shard e) es = subst (λ l. All (λ e. IsFor l box.shard e) es) (sym c.requires.same) (sh.sorted box.shard es moved.1) in
    let few = list_within sh.mail.items box.shard es moved.1 in
    let n = length-append box.envelopes es in
    record {
      small = omega (arith, ap length moved.2, n, few, c.requires.few);
      ours = subst (All (λ e. IsFor owners box.shard e)) (sym moved.2) (All-append (λ e. IsFor owners box.shard e) box.envelopes es box.ours ours);
      roomy = box.roomy;
    }
