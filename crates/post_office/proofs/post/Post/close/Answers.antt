use Rattle.std.proofs.Common.{◌<◌, ◌++◌, ◌∙◌, [], Some, None, length, map, subst, ap, sym, arith}
use Rattle.std.specs.Prelude.{slice_index_or}
use Rattle.quiet_table.specs.Waved.{verdict_word}
use Rattle.post_office.specs.Posts.{stood}
use Rattle.post_office.specs.Lemmas.Ended.{AtRest}
use Rattle.post_office.proofs.DealtOut.{some_mapped}
use Rattle.post_office.proofs.Ending.{at_rest}
use Rattle.post_office.proofs.post.Post.close.Goals as goal

-- a seat that has seen a verdict has not seen Running
pub unreachable-requires : goal.unreachable-requires
unreachable-requires g c =
    let saw = c.requires.seen in
    c.close-posts.ensures.seen saw.0 saw.1 saw.2 saw.3 (ap verdict_word c.in-Running.is)

pub put_back-cells-requires-clause-rest : goal.put_back-cells-requires-clause-rest
put_back-cells-requires-clause-rest g c =
    let ph = g.P.Phase in
    let told = c.close-posts.ensures in
    let posts = c.close-posts.result.cells in
    let post = c.args.self in
    let some_post : 0 < length posts.items = (let n = told.counts.0 in let m = post.board.sized.4 in omega (arith, n, m, posts.ok.0)) in
    subst (λ o. AtRest ph.problem ph.holds ph.weight ph.start_weight post.phase post.first.value.items o (map (λ c'. record { owners = c'.owners.value.items; shard = c'.shard; waits = length (slice_index_or c'.mail.items c'.shard []); stood = Some (stood ph.problem c'.phase.value c'.first.value.items c'.cells.items) }) posts.items ++ map (λ b. record { owners = b.owners.value.items; shard = b.shard; waits = 0; stood = None }) c.close-posts.result.boxes.items) c.close-posts.result.handled) (sym c.as_slice.ensures.value)
    (at_rest ph.problem ph.holds ph.weight ph.start_weight post.phase post.first.value.items post.owners.items _ _ c.close-posts.result.handled told.legal.0 told.legal.1 (told.legal.2 (ap verdict_word c.in-Quiet.is)) (some_mapped _ posts.items _ some_post) (told.origin ∙ post.of_this))
