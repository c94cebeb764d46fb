use Rattle.std.proofs.Common.{◌≡◌, ◌+◌, ◌*◌, ◌/◌, ◌%◌, ◌≤◌, slice_index, ap, ◌∙◌, arith, mul-le-mul_right}
use Rattle.std.proofs.lemmas.List.FromFn.{fill_by_all}
use Rattle.cello_num.specs.Parts.{part}
use Rattle.prolong_restrict.specs.Lemmas.SplitNumbers.{split_part, row_above}
use Rattle.prolong_restrict.proofs.Rows.{row_room, row_or_before}
use Rattle.prolong_restrict.proofs.SplitNumbers.{row_cell}
use Rattle.prolong_restrict.proofs.split.split_field.Goals as goal

pub split_row-requires-clause-child : goal.split_row-requires-clause-child
split_row-requires-clause-child c =
    let w = row_room c.args.n c.loop-r.r c.loop-r-test.true in
    omega (arith, c.loop-r.invariant.long, w)

pub loop-r-preserved : goal.loop-r-preserved
loop-r-preserved c = record {
  filled = λ j h.
      row_or_before c.args.n c.loop-r.r j (λ j. slice_index c.split_row.new.child j ≡ split_part c.args.n c.args.k c.args.parent.now j)
      (λ x l.
      c.split_row.ensures.row x (omega (arith, c.requires.even))
      ∙ ap (λ u. part (slice_index c.args.parent.now (u + x / 2)) (c.row_part-first.result + x % 2)) c.row_above-above.ensures.number
      ∙ ap (λ u. part (slice_index c.args.parent.now (row_above c.args.n c.args.k c.loop-r.r + x / 2)) (u + x % 2)) c.row_part-first.ensures.number
      ∙ row_cell c.args.n c.args.k c.loop-r.r x c.args.parent.now c.requires.even c.requires.least l)
      (λ l. c.split_row.ensures.earlier j l ∙ c.loop-r.invariant.filled j l)
      h;
  long = c.split_row.ensures.length ∙ c.loop-r.invariant.long;
}

pub returns : goal.returns
returns c =
    let n = c.args.n in
    let all : n * n ≤ c.loop-r.r = c.loop-r-test.false in
    fill_by_all (split_part n c.args.k c.args.parent.now) c.loop-r.child (n * n * n) 0 c.loop-r.invariant.long
    (λ j l. c.loop-r.invariant.filled j (let m : n * n * n ≤ c.loop-r.r * n = mul-le-mul_right n all in omega arith))
