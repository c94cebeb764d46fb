use Rattle.std.proofs.Common.{◌≡◌, ◌+◌, ◌-◌, ◌*◌, ◌/◌, ◌<◌, [], slice_index, slice_index_or, sym, ap, ◌∙◌, arith, inl, inr}
use Rattle.std.proofs.lemmas.Bool.{cases_lt}
use Rattle.prolong_restrict.specs.Lemmas.JoinNumbers.{eight_from, fields_of, joined_sum, octant_of_row}
use Rattle.prolong_restrict.proofs.Rows.{row_room}
use Rattle.prolong_restrict.proofs.JoinNumbers.{first_half, second_half}
use Rattle.prolong_restrict.proofs.join.join_row.Goals as goal

pub join_half-requires-clause-small : goal.join_half-requires-clause-small
join_half-requires-clause-small c = λ i. c.child_field-left.ensures.small c.args.n i c.requires.children

pub join_half-requires-2-clause-small : goal.join_half-requires-2-clause-small
join_half-requires-2-clause-small c = λ i. c.child_field-right.ensures.small c.args.n i c.requires.children

pub join_half-requires-clause-parent : goal.join_half-requires-clause-parent
join_half-requires-clause-parent c =
    let w = row_room c.args.n c.args.r c.requires.r in
    omega (arith, c.requires.parent, w)

pub join_half-requires-2-clause-parent : goal.join_half-requires-2-clause-parent
join_half-requires-2-clause-parent c =
    let w = row_room c.args.n c.args.r c.requires.r in
    omega (arith, c.requires.parent, c.requires.even, c.join_half.ensures.length, w)

pub returns-clause-row : goal.returns-clause-row
returns-clause-row c = λ x l.
    let n = c.args.n in
    let r = c.args.r in
    let f = c.args.field in
    let blocks = c.args.children.now in
    let o = c.octant_of_row-first.ensures.number in
    let b = c.row_below-from.ensures.number in
    let even = c.requires.even in
    elim (cases_lt x (n / 2)) [
      | inl h ↦
          c.join_half-2.ensures.earlier (r * n + x) (omega arith)
          ∙ c.join_half.ensures.row x h
          ∙ ap (λ q. eight_from n q (c.row_below-from.result + 2 * x)) c.child_field-left.ensures.field
          ∙ ap (λ u. eight_from n (slice_index_or (fields_of f blocks) u []) (c.row_below-from.result + 2 * x)) o
          ∙ ap (λ u. eight_from n (slice_index_or (fields_of f blocks) (octant_of_row n r) []) (u + 2 * x)) b
          ∙ sym (first_half n f r x blocks even h)
      | inr g ↦
          let y = x - n / 2 in
          let e : n / 2 + y ≡ x = omega arith in
          let k : y < n / 2 = omega arith in
          let s : r * n + x ≡ r * n + n / 2 + y = omega arith in
          ap (slice_index c.join_half-2.new.parent) s
          ∙ c.join_half-2.ensures.row y k
          ∙ ap (λ q. eight_from n q (c.row_below-from.result + 2 * y)) c.child_field-right.ensures.field
          ∙ ap (λ u. eight_from n (slice_index_or (fields_of f blocks) (u + 1) []) (c.row_below-from.result + 2 * y)) o
          ∙ ap (λ u. eight_from n (slice_index_or (fields_of f blocks) (octant_of_row n r + 1) []) (u + 2 * y)) b
          ∙ sym (second_half n f r y blocks even k)
          ∙ ap (λ u. joined_sum n f blocks (r * n + u)) e
    ]
