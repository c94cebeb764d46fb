-- All cells.
use Rattle.std.proofs.Common.{◌≡◌, ℕ, ◌≤◌, inl, inr, ap, ◌∙◌, arith}
use Rattle.std.proofs.lemmas.Bool.{cases_lt}
use Rattle.std.proofs.lemmas.Bool.Decides.{nat_tests}
use Rattle.params_check.specs.Amounts.{lies_between}
use Rattle.initial_fill.proofs.Adding.{Adds-same}
use Rattle.initial_fill.proofs.field.add_between.Goals as goal

empty : (low high k : ℕ) → high ≤ low → lies_between low low k ≡ lies_between low high k
empty low high k h = grind (arith, nat_tests)

same_end : (low high j k : ℕ) → low ≤ j → high ≤ j → (low ≤ high → j ≤ high) → (high ≤ low → j ≤ low) → lies_between low j k ≡ lies_between low high k
same_end low high j k past all most none =
    elim (cases_lt low high) [
      | inl l ↦ ap (λ j. lies_between low j k) (let m = most (omega arith) in let e : j ≡ high = omega arith in e)
      | inr g ↦ ap (λ j. lies_between low j k) (let m = none g in let e : j ≡ low = omega arith in e) ∙ empty low high k g
    ]

pub returns : goal.returns
returns c =
    let low = c.args.low in
    let high = c.args.high in
    let j = c.loop-j.j in
    Adds-same (lies_between low j) (lies_between low high) c.args.amount c.args.amounts.now c.loop-j.amounts
    (λ k h. same_end low high j k c.loop-j.auto.j c.loop-j-test.false c.loop-j.auto.j-end c.loop-j.invariant.none)
    c.loop-j.invariant.added
