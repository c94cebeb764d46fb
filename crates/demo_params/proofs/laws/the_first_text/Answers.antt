-- The text of the example, computed.
use Rattle.std.proofs.Common.{refl}
use Rattle.std.specs.Fmt.{digits}
use Rattle.demo_params.specs.DemoTexts.{draw, three, ball_group, flow_group, mesh_group, field_group, initial_group, adapt_group, method_group, demo_text}
use Rattle.demo_params.specs.Examples.{first_text}
use Rattle.demo_params.proofs.laws.the_first_text.Goals as goal

pub returns : goal.returns
unfolding digits draw three ball_group flow_group mesh_group field_group initial_group adapt_group method_group demo_text first_text
returns c = record { text = refl }
