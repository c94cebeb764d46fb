-- Each block in turn stands at the next leaf.
use Rattle.std.proofs.Common.{◌≡◌, ℕ, List, length, sym, ap, ◌∙◌, subst, arith}
use Rattle.std.specs.Prelude.{Some, slice_get}
use Rattle.std.specs.Vec.Iter.{into_iter_items}
use Rattle.std.proofs.lemmas.Option.{slice_get_within}
use Rattle.block_fields.specs.Blocks.{BlockState}
use Rattle.refresh_phase.specs.Lemmas.FirstCells.{IsFirstCell}
use Rattle.refresh_phase.proofs.Beginning.{block_place, places-long}
use Rattle.refresh_phase.proofs.FirstBlocks.{walk_begins, next_block, walk_goes_on, walk_ends, nothing_left}
use Rattle.refresh_phase.proofs.first_cells.first_cells.Goals as goal

pub loop-block-init : goal.loop-block-init
loop-block-init c =
    let set = c.args.set.now in
    let gives = c.into_iter-block-iterator.ensures.into_iter_gives in
    record {
      walks = walk_begins set.grid set.places c.args.blocks.items (into_iter_items c.into_iter-block-iterator.result) c.in_ok-cells.cells.items c.in_ok-cells.ensures.items gives.0;
      long = (let v = c.args.blocks.ok in let l = ap length gives.0 in omega (arith, gives.1, v.0));
    }

pub overflow_cast-at : goal.overflow_cast-at
overflow_cast-at c =
    let set = c.args.set.now in
    let at = c.loop-block in
    let steps = c.in-Some.ensures.steps in
    let blocks : List BlockState = c.args.blocks.items in
    let here = next_block set.grid set.places blocks at.cells.items (into_iter_items at.block-iterator) (into_iter_items c.next.new.self) c.in-Some.block at.invariant.walks steps.0 in
    let sized = c.requires in
    let long = places-long set.grid set.places c.len.ensures.tiles blocks sized.0 sized.1 sized.2 sized.3 in
    omega (arith, slice_get_within blocks (length at.cells.items) c.in-Some.block here, long, c.len.ensures.limit, c.len-at.ensures, at.cells.ok.0)

pub first_cell-requires-clause-leaf : goal.first_cell-requires-clause-leaf
first_cell-requires-clause-leaf c =
    let set = c.args.set.now in
    let at = c.loop-block in
    let steps = c.in-Some.ensures.steps in
    let blocks : List BlockState = c.args.blocks.items in
    let here = next_block set.grid set.places blocks at.cells.items (into_iter_items at.block-iterator) (into_iter_items c.next.new.self) c.in-Some.block at.invariant.walks steps.0 in
    let sized = c.requires in
    let count : length at.cells.items ≡ c.len-at.result = omega (arith, c.len-at.ensures, at.cells.ok.0) in
    block_place set.grid set.places c.len.ensures.tiles blocks sized.0 sized.1 sized.2 sized.3 c.len-at.result c.in-Some.block (subst (λ (n : ℕ). slice_get blocks n ≡ Some c.in-Some.block) count here)

pub first_cell-requires-clause-limits : goal.first_cell-requires-clause-limits
first_cell-requires-clause-limits c =
    let set = c.args.set.now in
    let at = c.loop-block in
    let steps = c.in-Some.ensures.steps in
    let blocks : List BlockState = c.args.blocks.items in
    let here = next_block set.grid set.places blocks at.cells.items (into_iter_items at.block-iterator) (into_iter_items c.next.new.self) c.in-Some.block at.invariant.walks steps.0 in
    (c.requires.3.each (length at.cells.items) c.in-Some.block here).limits

pub loop-block-preserved : goal.loop-block-preserved
loop-block-preserved c =
    let set = c.args.set.now in
    let at = c.loop-block in
    let steps = c.in-Some.ensures.steps in
    let cell = c.in_ok-first_cell.field-0 in
    let count : c.len-at.result ≡ length at.cells.items = omega (arith, c.len-at.ensures, at.cells.ok.0) in
    let first = subst (λ (n : ℕ). IsFirstCell set.grid set.places n cell) count c.in_ok-first_cell.ensures.first in
    record {
      walks = walk_goes_on set.grid set.places c.args.blocks.items (into_iter_items at.block-iterator) (into_iter_items c.next.new.self) at.cells.items c.push.new.self.items c.in-Some.block cell at.invariant.walks steps.0 c.in_ok-push.ensures.items c.in_ok-first_cell.ensures.block first;
      long = (let was = at.invariant.long in let gone = steps.1 in let short = ap length steps.0 in omega arith);
    }

pub returns : goal.returns
returns c =
    let set = c.args.set.now in
    let at = c.loop-block in
    let none = c.in-None.ensures.steps in
    walk_ends set.grid set.places c.args.blocks.items at.cells.items (into_iter_items at.block-iterator) at.invariant.walks (nothing_left (into_iter_items at.block-iterator) (sym at.invariant.long ∙ none.0))
