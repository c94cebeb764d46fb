-- The pieces, one after another.
use Rattle.std.proofs.Common.{List, ℕ, ◌++◌, codes, ap, ap₂, ◌∙◌}
use Rattle.std.specs.Fmt.{decimal}
use Rattle.demo_params.specs.DemoTexts.{flow_group}
use Rattle.demo_params.proofs.groups.flow_group.Goals as goal

pub returns : goal.returns
unfolding flow_group
returns c =
    let velocity = c.push.ensures.bytes ∙ ap₂ (λ (a b : List ℕ). a ++ b) c.of-text.ensures.bytes (c.bytes.ensures.bytes ∙ c.three.ensures.list) in
    let before_cycles = c.push-2.ensures.bytes ∙ ap (λ (t : List ℕ). t ++ codes ";\n  den = 128;\n  cycles = ") velocity in
    let cycles = c.push_number.ensures.bytes ∙ ap (λ (t : List ℕ). t ++ decimal c.args.cycles) before_cycles in
    record { group = c.push-3.ensures.bytes ∙ ap (λ (t : List ℕ). t ++ codes ";\n}\n") cycles }
