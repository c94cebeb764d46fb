-- Each block in turn stands at the next leaf.
use Rattle.std.proofs.Common.{◌≡◌, ℕ, List, length, sym, ap, ◌∙◌, subst, arith}
use Rattle.std.specs.Vec.Iter.{into_iter_items, into_iter_steps}
use Rattle.std.proofs.lemmas.Option.{slice_get_within}
use Rattle.block_fields.specs.Blocks.{BlockState}
use Rattle.flux_register.specs.Lemmas.FirstCells.{IsFirstCell}
use Rattle.flux_register.proofs.Beginning.{places-long}
use Rattle.flux_register.proofs.FirstBlocks.{walk_begins, next_block, as-many, walk_goes_on, walk_ends, nothing_left}
use Rattle.flux_register.proofs.first_cells.first_cells.Goals as goal

pub loop-block-init : goal.loop-block-init
loop-block-init c =
    let set = c.args.set.now in
    let gives = c.into_iter-block-iterator.ensures.into_iter_gives in
    let own = c.into_iter-faces.ensures in
    record {
      walks = walk_begins set.grid set.places c.args.blocks.items (into_iter_items c.into_iter-block-iterator.result) c.args.faces.items (into_iter_items c.into_iter-faces.result) c.in_ok-cells.cells.items c.in_ok-cells.ensures.items gives.0 own.rest;
      long = (let v = c.args.blocks.ok in let l = ap length gives.0 in omega (arith, gives.1, v.0, l));
      left = (let v = c.args.faces.ok in let l = ap length own.rest in omega (arith, own.len, v.0, l));
    }

pub unwrap-own-requires : goal.unwrap-own-requires
unwrap-own-requires c =
    let set = c.args.set.now in
    let at = c.loop-block in
    let many = as-many set.grid set.places c.args.blocks.items c.args.faces.items at.cells.items (into_iter_items at.block-iterator) (into_iter_items at.faces) at.invariant.walks c.requires.one_each in
    let one = ap length c.in-Some.ensures.steps.0 in
    let left = at.invariant.left in
    c.next-in-loop-block.ensures.variant.1 (omega (arith, many, one, left))

pub overflow_cast-at : goal.overflow_cast-at
overflow_cast-at c =
    let set = c.args.set.now in
    let at = c.loop-block in
    let blocks : List BlockState = c.args.blocks.items in
    let here = next_block set.grid set.places blocks c.args.faces.items at.cells.items (into_iter_items at.block-iterator) (into_iter_items c.next.new.self) (into_iter_items at.faces) c.in-Some.block at.invariant.walks c.in-Some.ensures.steps.0 in
    let sized = c.requires.blocks in
    let long = places-long set.grid set.places c.len.ensures.tiles blocks sized.0 sized.1 sized.2 sized.3 in
    omega (arith, slice_get_within blocks (length at.cells.items) c.in-Some.block here, long, c.len.ensures.limit, c.len-at.ensures, at.cells.ok.0)

pub first_cell-requires : goal.first_cell-requires
first_cell-requires c =
    let set = c.args.set.now in
    let at = c.loop-block in
    let blocks : List BlockState = c.args.blocks.items in
    let here = next_block set.grid set.places blocks c.args.faces.items at.cells.items (into_iter_items at.block-iterator) (into_iter_items c.next.new.self) (into_iter_items at.faces) c.in-Some.block at.invariant.walks c.in-Some.ensures.steps.0 in
    let sized = c.requires.blocks in
    let long = places-long set.grid set.places c.len.ensures.tiles blocks sized.0 sized.1 sized.2 sized.3 in
    record { leaf = omega (arith, slice_get_within blocks (length at.cells.items) c.in-Some.block here, long, c.len-at.ensures, at.cells.ok.0) }

pub loop-block-preserved : goal.loop-block-preserved
loop-block-preserved c =
    let set = c.args.set.now in
    let at = c.loop-block in
    let steps = c.in-Some.ensures.steps in
    let cell = c.in_ok-first_cell.field-0 in
    let count : c.len-at.result ≡ length at.cells.items = omega (arith, c.len-at.ensures, at.cells.ok.0) in
    let first = subst (λ (n : ℕ). IsFirstCell set.grid set.places n cell) count c.in_ok-first_cell.ensures.first in
    let own = subst (λ r. into_iter_steps at.faces r c.next-in-loop-block.new.self) c.unwrap-own.ensures c.next-in-loop-block.ensures.cases in
    record {
      walks = walk_goes_on set.grid set.places c.args.blocks.items (into_iter_items at.block-iterator) (into_iter_items c.next.new.self) c.args.faces.items (into_iter_items at.faces) (into_iter_items c.next-in-loop-block.new.self) at.cells.items c.push.new.self.items c.in-Some.block c.unwrap-own.result cell at.invariant.walks steps.0 own.0
          c.in_ok-push.ensures.items c.in_ok-first_cell.ensures.block c.in_ok-first_cell.ensures.faces first;
      long = (let was = at.invariant.long in let gone = steps.1 in let short = ap length steps.0 in omega (arith, was, gone, short));
      left = (let was = at.invariant.left in let gone = own.1 in let short = ap length own.0 in omega (arith, was, gone, short));
    }

pub returns : goal.returns
returns c =
    let set = c.args.set.now in
    let at = c.loop-block in
    let none = c.in-None.ensures.steps in
    walk_ends set.grid set.places c.args.blocks.items c.args.faces.items at.cells.items (into_iter_items at.block-iterator) (into_iter_items at.faces) at.invariant.walks (nothing_left (into_iter_items at.block-iterator) (sym at.invariant.long ∙ none.0)) c.requires.one_each
