use Rattle.std.proofs.Common.{◌≡◌, ◌++◌, ◌∷◌, [], Some, length, map, sym, ap, ◌∙◌, arith, length-append}
use Rattle.std.specs.Prelude.{slice_get}
use Rattle.std.proofs.lemmas.Option.{same_Some}
use Rattle.post_office.specs.Lemmas.PartLaws.{get_within}
use Rattle.post_office.proofs.Lists.{get_at}
use Rattle.post_office.proofs.DealtOut.{map_get, map_set, map_length}
use Rattle.post_office.proofs.gathering.take_last.Goals as goal

pub index_mut-post-requires : goal.index_mut-post-requires
index_mut-post-requires g c =
    let some = c.requires.some_cell in
    let items = c.args.posts.now.items in
    let low = get_within (map (λ p. p.cells.items) items) c.args.shard (some.0 ++ some.1 ∷ []) some.2 in
    let n = map_length (λ p. p.cells.items) items in
    omega (arith, low, n, c.args.posts.now.ok.0)

pub pop_cell-requires : goal.pop_cell-requires
pop_cell-requires g c =
    let some = c.requires.some_cell in
    let items = c.args.posts.now.items in
    let post = c.index_mut-post.result.now in
    let low = get_within (map (λ p. p.cells.items) items) c.args.shard (some.0 ++ some.1 ∷ []) some.2 in
    let n = map_length (λ p. p.cells.items) items in
    let at : slice_get items c.args.shard ≡ Some post = get_at items c.args.shard post (omega (arith, low, n)) ∙ ap (λ z. Some z) (sym c.index_mut-post.ensures.value) in
    let same = same_Some post.cells.items (some.0 ++ some.1 ∷ []) (sym (map_get (λ p. p.cells.items) items c.args.shard post at) ∙ some.2) in
    let m = ap length same in
    let k = length-append some.0 (some.1 ∷ []) in
    record { some_cell = omega (arith, m, k) }

pub returns : goal.returns
returns g c =
    let some = c.requires.some_cell in
    let items = c.args.posts.now.items in
    let post = c.index_mut-post.result.now in
    let low = get_within (map (λ p. p.cells.items) items) c.args.shard (some.0 ++ some.1 ∷ []) some.2 in
    let n = map_length (λ p. p.cells.items) items in
    let at : slice_get items c.args.shard ≡ Some post = get_at items c.args.shard post (omega (arith, low, n)) ∙ ap (λ z. Some z) (sym c.index_mut-post.ensures.value) in
    (c.pop_cell.new.post.cells.items, map_get (λ p. p.cells.items) items c.args.shard post at ∙ ap (λ z. Some z) c.pop_cell.ensures, map_set (λ p. p.cells.items) items c.args.shard c.pop_cell.new.post)
