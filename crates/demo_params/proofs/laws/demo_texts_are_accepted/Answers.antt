-- The tree of each text, with its parameters.
use Rattle.std.proofs.Common.{ℕ, List, ◌∙◌, subst}
use Rattle.params_syntax.specs.declared.tree.Group.{Group}
use Rattle.params_syntax.specs.Reading.{Spells}
use Rattle.params_check.specs.Parameters.{Parameters, values_of}
use Rattle.demo_params.proofs.TreeTexts.{drawn, drawn-in_range, tree_of-text}
use Rattle.demo_params.proofs.Accepted.{Drawn, tree_of, tree_of-accepted, tree_of-limits, tree_of-strict, tree_of-few}
use Rattle.demo_params.proofs.laws.demo_texts_are_accepted.Goals as goal

pub returns : goal.returns
returns c = record {
  accepted = λ seed size least some most.
      let d : Drawn = drawn seed size in
      let ranges = drawn-in_range seed size some most in
      let groups : List Group = tree_of d in
      let p : Parameters = values_of groups in
      let accepted = tree_of-accepted d ranges in
      let limits = tree_of-limits d ranges in
      let text = c.accepted_text.ensures.text groups p limits accepted ∙ tree_of-text seed size in
      let spelled : Spells p.text groups = c.accepted_text.ensures.again groups p limits accepted in
      (groups, p, subst (λ (t : List ℕ). Spells t groups) text spelled, accepted, tree_of-strict d, tree_of-few d ranges);
}
