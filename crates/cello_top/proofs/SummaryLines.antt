-- The lines of a summary, written out.
use Rattle.std.proofs.Common.{◌≡◌, ℕ, List, ◌++◌, refl}
use Rattle.std.specs.Prelude.{codes, decimal}
use Rattle.mesh_output.specs.Lines.{end_line}
use Rattle.roomy_runs.specs.Summaries.{amounts_line, demo_line, leaves_line}

pub demo_line_is : (seed size : ℕ) → demo_line seed size ≡ codes "demo " ++ decimal seed ++ codes " " ++ decimal size ++ codes "\n"
unfolding demo_line
demo_line_is seed size = refl

pub leaves_line_is : (leaves cycles : ℕ) → leaves_line leaves cycles ≡ codes "leaves " ++ decimal leaves ++ codes " cycles " ++ decimal cycles ++ codes "\n"
unfolding leaves_line
leaves_line_is leaves cycles = refl

pub amounts_line_is : (name : List ℕ) (total gone : ℕ)
    → amounts_line name total gone ≡ codes "field " ++ name ++ codes " total " ++ decimal total ++ codes " gone " ++ decimal gone ++ codes "\n"
unfolding amounts_line
amounts_line_is name total gone = refl

pub end_line_is : end_line ≡ codes "end\n"
unfolding end_line
end_line_is = refl
