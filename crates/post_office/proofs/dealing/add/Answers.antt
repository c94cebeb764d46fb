use Rattle.std.proofs.Common.{◌∙◌, ◌++◌, ◌∷◌, [], Some, length, sym, subst, ap, arith, refl, length-append}
use Rattle.std.specs.Prelude.{IsPermutation}
use Rattle.quiet_table.specs.Contents.{pool}
use Rattle.post_office.specs.Shares.{Sorted}
use Rattle.post_office.specs.Posts.{stood}
use Rattle.post_office.specs.Lemmas.PartLaws.{length_put}
use Rattle.post_office.proofs.Lists.{length_written}
use Rattle.post_office.proofs.Sorting.{sorted_put}
use Rattle.post_office.proofs.DealtOut.{added_one}
use Rattle.post_office.proofs.dealing.add.Goals as goal

pub invariant_of-post-2 : goal.invariant_of-post-2
invariant_of-post-2 g c =
    let sh = c.args.post.now in
    let owners = sh.owners.value.items in
    let e = c.args.envelope in
    let done = c.in_default.ensures.done in
    let n = length_written sh.mail.items sh.shard done.0 (done.0 ++ e ∷ []) done.1 in
    let m = length-append done.0 (e ∷ []) in
    let same = ap (λ l. length (pool l)) done.2 in
    let all = length-append (pool sh.mail.items) sh.fresh.items in
    let wide = ap length done.2 ∙ length_put sh.mail.items sh.shard (done.0 ++ e ∷ []) in
    record {
      few = omega (arith, n, m, same, all, c.requires.few);
      within = (rw wide sh.within.0, rw wide sh.within.1);
      sorted = subst (Sorted owners) (sym done.2) (sorted_put owners sh.mail.items sh.shard done.0 e sh.sorted done.1 c.requires.ours);
      addressed = sh.addressed;
    }

pub returns : goal.returns
returns g c =
    let sh = c.args.post.now in
    let e = c.args.envelope in
    let done = c.in_default.ensures.done in
    record {
      stood = stood g.P.Phase.problem sh.phase.value sh.first.value.items sh.cells.items;
      was = refl;
      is = ap (λ l. Some (stood g.P.Phase.problem sh.phase.value sh.first.value.items l)) c.in_ok-push.ensures.items;
      same_owners = refl;
      same_shard = refl;
      more = subst (λ l. IsPermutation (e ∷ (pool sh.mail.items ++ sh.fresh.items)) (pool l ++ sh.fresh.items)) (sym done.2) (added_one sh.mail.items sh.fresh.items sh.shard done.0 e done.1);
    }
