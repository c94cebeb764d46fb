-- The wishes of all blocks.
use Rattle.std.proofs.Common.{◌≡◌, Some, length, sym, ap, ◌∙◌, arith}
use Rattle.std.proofs.lemmas.Option.{slice_get_within}
use Rattle.block_index.specs.declared.wish.Wish.{Wish}
use Rattle.phase_core.specs.Lemmas.ListsByPlaces.{same_map, written_back}
use Rattle.thread_runs.specs.Lemmas.Calls.{an_element}
use Rattle.block_fields.specs.Blocks.{BlockState, seen_at}
use Rattle.criteria.specs.Wishes.{criteria_wish}
use Rattle.parallel_maps.proofs.wishing.wishes.Goals as goal

pub returns : goal.returns
returns g c =
    let blocks = c.args.blocks.now in
    let old = c.in_ok-wishes.wishes in
    let made = c.wish_each.new.wishes in
    let wish_at : BlockState → Wish = λ b. criteria_wish b.edge c.args.phase c.args.criteria.now (seen_at b) b.place in
    let many : length made ≡ length old.items = c.wish_each.ensures.one_each ∙ ap length c.as_mut_slice.ensures.value in
    let long : length blocks ≡ length made = (let counted = c.in_ok-wishes.ensures.len in let own = old.ok.0 in omega (arith, many, counted, own)) in
    record {
      wishes = written_back old.len old.items made old.ok.0 many ∙ sym (same_map wish_at blocks made long (λ i b here.
          let w = an_element made i (let l = slice_get_within blocks i b here in omega (arith, l, long)) in
          w.1 ∙ ap (λ z. Some z) (c.in_ok-wish_each.ensures.each i w.0 w.1 b here)));
    }
