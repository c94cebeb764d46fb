-- Each run of the demonstration has room.
use Rattle.std.proofs.Common.{◌≡◌, ℕ, ◌≤◌, List, Ok, subst}
use Rattle.demo_params.specs.DemoTexts.{demo_text, most_seed, most_size}
use Rattle.params_syntax.specs.declared.tree.Group.{Group}
use Rattle.params_syntax.specs.Reading.{Spells}
use Rattle.params_check.specs.Parameters.{IsParameters, Parameters}
use Rattle.params_check.specs.Walks.{parameters_of}
use Rattle.run_core.specs.Courses.{whole}
use Rattle.run_core.specs.Runs.{MeetsNoLimit}
use Rattle.roomy_runs.proofs.Accepted.{parameters-one}
use Rattle.roomy_runs.proofs.Room.{RunEnds-none}
use Rattle.roomy_runs.proofs.laws.demo_runs_meet_no_limit.Goals as goal

pub returns : goal.returns
returns c =
    let meets : (seed size : ℕ) (groups : List Group) (p : Parameters) → seed ≤ most_seed → 1 ≤ size → size ≤ most_size
    → Spells (demo_text seed size) groups → parameters_of groups ≡ Ok p → MeetsNoLimit (whole p) =
    λ seed size groups p least some most spells accepted.
    let d = c.demo_texts_are_accepted.ensures.accepted seed size least some most in
    let w : IsParameters d.1 = c.accepted_parameters.ensures.limits d.0 d.1 d.2.limits d.3 in
    let same : d.1 ≡ p = parameters-one c.one_reading.ensures.one (demo_text seed size) d.0 groups d.1 p d.2 spells d.3 accepted in
    subst (λ (q : Parameters). MeetsNoLimit (whole q)) same (c.roomy_runs_meet_no_limit.ensures.no_limit d.1 w d.4 d.5) in
    record {
      ends = λ seed size least some most.
          let d = c.demo_texts_are_accepted.ensures.accepted seed size least some most in
          let w : IsParameters d.1 = c.accepted_parameters.ensures.limits d.0 d.1 d.2.limits d.3 in
          (d.0, d.1, d.2, d.3, meets seed size d.0 d.1 least some most d.2 d.3, c.roomy_runs_meet_no_limit.ensures.ends d.1 w d.4 d.5);
      no_limit = meets;
      no_other_end = λ seed size groups p s limit least some most spells accepted ends.
          RunEnds-none (whole p) s limit (meets seed size groups p least some most spells accepted) ends;
    }
