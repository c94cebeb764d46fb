-- A shape more, of the field or not, and all shapes.
use Rattle.std.proofs.Common.{◌≡◌, ℕ, ◌+◌, ◌*◌, ◌^◌, ◌<◌, ◌≤◌, List, [], length, get_or, slice_index, map, replicate, take, All, sym, ap, ◌∙◌, subst, arith}
use Rattle.std.specs.List.{range_with_len}
use Rattle.std.proofs.lemmas.List.{get_or-replicate, length-replicate, take_all}
use Rattle.std.proofs.lemmas.List.Elements.{All-get_or}
use Rattle.std.proofs.lemmas.List.FromFn.{fill_by_all}
use Rattle.std.proofs.lemmas.Simd.{map-map}
use Rattle.block_fields.specs.Cells.{cell_at, cells_of}
use Rattle.params_check.specs.Limits.{KeepsShape}
use Rattle.params_check.specs.declared.shape.Form.TheVariants.{Cuboid}
use Rattle.params_check.specs.declared.shape.Shape.{Shape}
use Rattle.initial_fill.specs.Lemmas.Adding.{HasRoom, holds_number}
use Rattle.initial_fill.specs.RootBlocks.{given_by}
use Rattle.initial_fill.proofs.Amounts.{added-most, added_more, added_stays, amount_of_number}
use Rattle.initial_fill.proofs.field.fill_field.Goals as goal
use Rattle.initial_fill.proofs.field.fill_field.Goals.{then-shape-field, else-shape-field}

-- what stands past the last shape
past_last : Shape
past_last = record { field = 0; amount = 0; form = Cuboid [] [] }

-- no shape has more than its limit
limit : (fields i : ℕ) (d : Shape) (items shapes : List Shape) → items ≡ shapes → i < length items → All (KeepsShape fields) shapes → (get_or items i d).amount ≤ 2 ^ 40
limit fields i d items shapes same within keep =
    (All-get_or (KeepsShape fields) items i d within (subst (All (KeepsShape fields)) (sym same) keep)).amount

room : (n i amount : ℕ) (q : List ℕ) → i < 16 → amount ≤ 2 ^ 40 → ((j : ℕ) → j < length q → slice_index q j ≤ i * 2 ^ 40) → HasRoom n 0 amount q
room n i amount q below small few = record { each = λ j h past. let k = few j h in omega arith }

zeros_at : (q : List ℕ) (m j : ℕ) → q ≡ replicate m 0 → j < length q → slice_index q j ≡ 0
zeros_at q m j e h =
    let l = ap length e ∙ length-replicate {A = ℕ} m 0 in
    ap (λ q. slice_index q j) e ∙ get_or-replicate m j 0 0 (omega arith)

pub loop-shape-init : goal.loop-shape-init
loop-shape-init c =
    let n : ℕ = c.args.params.now.block in
    let zero : (j : ℕ) → j < length c.args.amounts.now → slice_index c.args.amounts.now j ≡ 0 = λ j. zeros_at c.args.amounts.now (n * n * n) j c.requires.zeros in
    record {
      long =
          ap length c.requires.zeros
          ∙ length-replicate (n * n * n) 0
          ∙ ap (λ n. n * n * n) (sym (c.from-n.ensures ∙ c.block.ensures.block));
      added = λ j h. zero j h;
      few = λ j h. omega (arith, zero j h);
    }

pub add_shape-requires-clause-room : goal.add_shape-requires-clause-room
unfolding past_last
add_shape-requires-clause-room c =
    let items = c.items-shape-items.result.now in
    let p = c.args.params.now in
    let i = c.loop-shape.shape-index in
    let few : length items ≤ 16 = (let k = c.items-shape-items.ensures.few in let e = ap length c.items-shape-items.ensures.items in omega arith) in
    room c.from-n.result i (get_or items i past_last).amount c.loop-shape.amounts (let l = c.loop-shape-test.true in omega arith)
    (limit (length p.fields) i past_last items p.shapes (c.items-shape-items.ensures.items ∙ c.shapes.ensures.shapes) c.loop-shape-test.true c.shapes.ensures.limits.shapes)
    c.loop-shape.invariant.few

pub loop-shape-preserved : goal.loop-shape-preserved
unfolding past_last
loop-shape-preserved c =
    let items = c.items-shape-items.result.now in
    let p = c.args.params.now in
    let n = c.from-n.result in
    let f = c.args.field in
    let i = c.loop-shape.shape-index in
    let old = c.loop-shape.amounts in
    let same : items ≡ p.shapes = c.items-shape-items.ensures.items ∙ c.shapes.ensures.shapes in
    let within = c.loop-shape-test.true in
    let before : (j : ℕ) → j < length old → slice_index old j ≡ amount_of_number (take i items) f n c.args.place j =
    λ j h. c.loop-shape.invariant.added j h ∙ ap (λ l. amount_of_number (take i l) f n c.args.place j) (sym same) in
    let now = c.if-shape-field.amounts in
    let long : length now ≡ length old = c.if-shape-field.auto.amounts in
    elim c.if-shape-field.branch [
      | then-shape-field w ↦ record {
        long = long ∙ c.loop-shape.invariant.long;
        added = λ j h.
            ap (λ q. slice_index q j) w.amounts-is
            ∙ added_more items i past_last f n c.args.place within old w.add_shape.new.amounts w.if-shape-field.true before w.add_shape.ensures j (omega arith)
            ∙ ap (λ l. amount_of_number (take (i + 1) l) f n c.args.place j) same;
        few = λ j h.
            let most =
            added-most (holds_number (get_or items i past_last).form n c.args.place) (get_or items i past_last).amount (i * 2 ^ 40) old w.add_shape.new.amounts w.add_shape.ensures
            c.loop-shape.invariant.few j (omega arith) in
            let small = limit (length p.fields) i past_last items p.shapes same within c.shapes.ensures.limits.shapes in
            let e = ap (λ q. slice_index q j) w.amounts-is in
            omega arith;
      }
      | else-shape-field w ↦ record {
        long = long ∙ c.loop-shape.invariant.long;
        added = λ j h.
            ap (λ q. slice_index q j) w.amounts-is
            ∙ added_stays items i past_last f n c.args.place within old w.if-shape-field.false before j (omega arith)
            ∙ ap (λ l. amount_of_number (take (i + 1) l) f n c.args.place j) same;
        few = λ j h.
            let k = c.loop-shape.invariant.few j (omega arith) in
            let e = ap (λ q. slice_index q j) w.amounts-is in
            omega arith;
      }
    ]

pub returns : goal.returns
returns c =
    let p = c.args.params.now in
    let n = c.from-n.result in
    let place = c.args.place in
    let given = given_by p c.args.field in
    let i = c.loop-shape.shape-index in
    let past : length p.shapes ≤ i =
    (let t = c.loop-shape-test.false in let e = ap length (c.items-shape-items.ensures.items ∙ c.shapes.ensures.shapes) in omega arith) in
    fill_by_all (λ k. given (cell_at n place k)) c.loop-shape.amounts (n * n * n) 0 c.loop-shape.invariant.long
    (λ k h.
    c.loop-shape.invariant.added k (let l = c.loop-shape.invariant.long in omega arith)
    ∙ ap (λ l. amount_of_number l c.args.field n place k) (take_all i p.shapes past))
    ∙ sym (map-map given (cell_at n place) (range_with_len 0 (n * n * n)))
    ∙ ap (λ n. map given (cells_of n place)) (c.from-n.ensures ∙ c.block.ensures.block)
