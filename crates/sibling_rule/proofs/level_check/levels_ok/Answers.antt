-- Levels that break no rule are a solution, and a solution breaks none.
use Rattle.std.proofs.Common.{true≢false, refl, subst, arith, inl, inr}
use Rattle.std.proofs.lemmas.Bool.{cases_eq}
use Rattle.sibling_rule.specs.BrokenRules.{Breaks}
use Rattle.sibling_rule.proofs.BrokenRules.{broken-within, solution-unbroken, unbroken-solution}
use Rattle.sibling_rule.proofs.level_check.levels_ok.Goals as goal

pub returns-in-Some-clause-none : goal.returns-in-Some-clause-none
returns-in-Some-clause-none c =
    let set = c.args.set.now in (
      (λ e. absurd (true≢false e)),
      λ s. absurd (solution-unbroken set.grid set.places c.args.wishes.now c.args.levels.now s c.in-Some.broken.rule c.loop-i.i c.in-Some.broken.b c.in-Some.ensures.broken.here),
    )

pub loop-i-preserved : goal.loop-i-preserved
loop-i-preserved c r i j h b =
    let set = c.args.set.now in
    elim (cases_eq i c.loop-i.i) [
      | inl e ↦ c.in_default.ensures.none refl r j (subst (λ k. Breaks set.grid set.places c.args.wishes.now c.args.levels.now r k j) e b)
      | inr other ↦ c.loop-i.invariant r i j (omega arith) b
    ]

pub returns-clause-none : goal.returns-clause-none
returns-clause-none c =
    let set = c.args.set.now in (
      (λ e. unbroken-solution set.grid set.places c.args.wishes.now c.args.levels.now c.requires.level_each
          (λ r i j b. c.loop-i.invariant r i j
          (let within = broken-within set.grid set.places c.args.wishes.now c.args.levels.now r i j b in omega (arith, c.len-i-end.ensures.len)) b)),
      λ s. refl,
    )
