use Rattle.std.proofs.Common.{◌≡◌, ◌*◌, ◌≤◌, slice_index, ◌∙◌, arith, mul-le-mul_right}
use Rattle.std.proofs.lemmas.List.FromFn.{fill_by_all}
use Rattle.prolong_restrict.specs.Lemmas.JoinNumbers.{joined_sum}
use Rattle.prolong_restrict.proofs.Rows.{row_or_before}
use Rattle.prolong_restrict.proofs.join.join_field.Goals as goal

pub loop-r-preserved : goal.loop-r-preserved
loop-r-preserved c = record {
  filled = λ j h.
      row_or_before c.args.n c.loop-r.r j (λ j. slice_index c.join_row.new.parent j ≡ joined_sum c.args.n c.args.field c.args.children.now j)
      (λ x l. c.join_row.ensures.row x l)
      (λ l. c.join_row.ensures.earlier j l ∙ c.loop-r.invariant.filled j l)
      h;
  long = c.join_row.ensures.length ∙ c.loop-r.invariant.long;
}

pub returns : goal.returns
returns c =
    let n = c.args.n in
    let all : n * n ≤ c.loop-r.r = c.loop-r-test.false in
    fill_by_all (joined_sum n c.args.field c.args.children.now) c.loop-r.parent (n * n * n) 0 c.loop-r.invariant.long
    (λ j l. c.loop-r.invariant.filled j (let m : n * n * n ≤ c.loop-r.r * n = mul-le-mul_right n all in omega arith))
