use Rattle.std.proofs.Common.{◌≡◌, ◌<◌, Some, length, sym, subst, ap, ◌∙◌, arith}
use Rattle.std.specs.Prelude.{All}
use Rattle.post_office.specs.Shares.{Ranked}
use Rattle.post_office.proofs.DealtOut.{dealt_count, opens_legal, opens_about}
use Rattle.post_office.proofs.post.Post.open.Goals as goal

pub new-requires-clause-legal : goal.new-requires-clause-legal
new-requires-clause-legal g c =
    let ph = g.P.Phase in
    let law = g.met.P.Phase in
    let cells = c.args.cells.items in
    let q = ph.problem c.args.phase cells in
    let count = dealt_count _ c.in_ok-posts.posts.items c.args.shards c.in_ok-posts.ensures.dealt.count in
    opens_legal ph.problem ph.holds ph.weight ph.start_weight c.args.phase cells c.args.owners.now c.in_ok-owned.owned.items ph.start (length c.in_ok-posts.posts.items) c.args.shards _ _ _ _
    c.in_ok-deal_out.ensures.dealt c.in_ok-boxes.ensures.bare c.in_ok-owned.ensures.items count c.requires.owned.0
    (law.start_holds q cells c.requires.begins) (law.start_weighs q cells c.requires.begins) (law.holds_in_any_order q) (law.weighs_in_any_order q)

pub invariant_of-post : goal.invariant_of-post
invariant_of-post g c =
    let same = c.in_ok-owned.ensures.items in
    let count = dealt_count _ c.in_ok-posts.posts.items c.args.shards c.in_ok-posts.ensures.dealt.count in
    let ph = g.P.Phase in
    let cells = c.args.cells.items in
    let low : 0 < length c.in_ok-posts.posts.items = (let a = c.requires.counts.0 in omega (arith, a, count)) in
    let first_is : cells ≡ c.of-first.result.value.items = sym (ap (λ v. v.items) c.of-first.ensures) in
    let own : c.args.owners.now ≡ c.in_ok-owned.owned.items = sym c.in_ok-owned.ensures.items in
    let shards_is : c.in_ok-board.board.shards ≡ c.args.shards = c.in_ok-board.ensures.count.1 ∙ (dealt_count _ c.deal_out.new.posts.items (length c.in_ok-posts.posts.items) c.in_ok-deal_out.ensures.dealt.count ∙ count) in
    record {
      ranked = subst (λ o. Ranked o c.in_ok-ranks.ranks.items) (sym same) c.in_ok-ranks.ensures.ranked;
      owned = subst (λ n. All (λ o. o < n) c.in_ok-owned.owned.items) (sym shards_is) (subst (All (λ o. o < c.args.shards)) (sym same) c.requires.owned.1);
      of_this = c.in_ok-board.ensures.origin
          ∙ (opens_about c.args.phase (ph.problem c.args.phase cells) c.args.owners.now ph.start (length c.in_ok-posts.posts.items) cells _ _ _ c.in_ok-deal_out.ensures.dealt low
          ∙ (λ i. Some (record { phase = c.args.phase; problem = ph.problem c.args.phase (first_is i); owners = own i })));
    }
