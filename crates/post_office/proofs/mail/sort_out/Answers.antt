use Rattle.std.proofs.Common.{◌<◌, ◌∙◌, ◌++◌, ◌∷◌, [], length, Some, sym, subst, ap, get_or}
use Rattle.std.specs.Prelude.{IsPermutation}
use Rattle.std.proofs.lemmas.List.Elements.{All-pop}
use Rattle.std.proofs.lemmas.List.Sorted.{IsPermutation-trans}
use Rattle.quiet_table.specs.Contents.{pool}
use Rattle.post_office.specs.Shares.{Sorted}
use Rattle.post_office.specs.Lemmas.PartLaws.{length_put}
use Rattle.post_office.proofs.Lists.{pool_put, get_at}
use Rattle.post_office.proofs.Sorting.{sorted_put}
use Rattle.post_office.proofs.mail.sort_out.Goals as goal

pub loop-envelope-preserved : goal.loop-envelope-preserved
loop-envelope-preserved g c =
    let before = c.loop-envelope in
    let owners = c.args.owners.now in
    let e = c.in-Some.envelope in
    let rest = c.pop.new.self.items in
    let done = c.in_default-put.ensures.done in
    let mail' = c.put.new.mail.items in
    let popped = All-pop (λ x. x.to < length owners) before.fresh.items rest (Some e) c.in-Some.ensures.items before.invariant.addressed in
    let to : e.to < length owners = popped.1 in
    let for = get_at owners e.to 0 to in
    let moved : IsPermutation (pool before.mail.items ++ before.fresh.items) (pool mail' ++ rest) =
    subst (λ l. IsPermutation (pool before.mail.items ++ l) (pool mail' ++ rest)) (sym c.in-Some.ensures.items)
    (subst (λ l. IsPermutation (pool before.mail.items ++ (rest ++ e ∷ [])) (pool l ++ rest)) (sym done.2) (pool_put before.mail.items (get_or owners e.to 0) done.0 rest e done.1)) in
    record {
      same = IsPermutation-trans _ _ _ before.invariant.same moved;
      sorted = subst (Sorted owners) (sym done.2) (sorted_put owners before.mail.items (get_or owners e.to 0) done.0 e before.invariant.sorted done.1 for);
      count = ap length done.2 ∙ (length_put before.mail.items (get_or owners e.to 0) (done.0 ++ e ∷ []) ∙ before.invariant.count);
      addressed = popped.0;
    }
