-- The end of the one run of the text's parameters.
use Rattle.std.proofs.Common.{refl}
use Rattle.roomy_runs.specs.Summaries.{summary}
use Rattle.roomy_runs.proofs.Ends.{IsSummary-one}
use Rattle.roomy_runs.proofs.laws.each_demo_has_a_summary.Goals as goal

pub returns : goal.returns
returns c = record {
  exists = λ seed size least some most.
      let d = c.demo_runs_meet_no_limit.ensures.ends seed size least some most in (
        summary seed size d.1 d.5.0,
        record { groups = d.0; parameters = d.1; spells = d.2; accepted = d.3; run = d.5.0; ends = d.5.1; is = refl },
      );
  one = IsSummary-one c.one_reading.ensures.one c.one_run.ensures.state;
}
