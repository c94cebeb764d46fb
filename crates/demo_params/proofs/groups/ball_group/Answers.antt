-- The pieces, one after another.
use Rattle.std.proofs.Common.{List, ℕ, ◌++◌, codes, ap, ap₂, ◌∙◌}
use Rattle.std.specs.Fmt.{decimal}
use Rattle.demo_params.specs.DemoTexts.{ball_group}
use Rattle.demo_params.proofs.groups.ball_group.Goals as goal

pub returns : goal.returns
unfolding ball_group
returns c =
    let center = c.push.ensures.bytes ∙ ap₂ (λ (a b : List ℕ). a ++ b) c.of-text.ensures.bytes (c.bytes.ensures.bytes ∙ c.three.ensures.list) in
    let before_radius = c.push-2.ensures.bytes ∙ ap (λ (t : List ℕ). t ++ codes ";\n    radius = ") center in
    let radius = c.push_number.ensures.bytes ∙ ap (λ (t : List ℕ). t ++ decimal c.args.radius) before_radius in
    let before_amount = c.push-3.ensures.bytes ∙ ap (λ (t : List ℕ). t ++ codes ";\n    amount = ") radius in
    let amount = c.push_number-2.ensures.bytes ∙ ap (λ (t : List ℕ). t ++ decimal c.args.amount) before_amount in
    record { group = c.push-4.ensures.bytes ∙ ap (λ (t : List ℕ). t ++ codes ";\n  }\n}\n") amount }
