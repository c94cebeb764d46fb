-- The actions of a run, as more of it is told.
use Rattle.std.proofs.Common.{◌≡◌, List, [], ◌∷◌, ◌++◌, ap, ◌∙◌, append-nil}
use Rattle.std.proofs.lemmas.List.Concat.{flat_map-append}
use Rattle.params_check.specs.Parameters.{Parameters}
use Rattle.mesh_output.specs.Lines.{header_line}
use Rattle.run_core.specs.Courses.{Told}
use Rattle.run_report.specs.Actions.{Action, piece, actions_of, report_actions, opening_actions}

pub report_actions-append : (p : Parameters) (told more : List Told) → report_actions p (told ++ more) ≡ report_actions p told ++ report_actions p more
report_actions-append p told more = flat_map-append (actions_of p) told more

pub opening_actions-append : (p : Parameters) (told more : List Told) → opening_actions p (told ++ more) ≡ opening_actions p told ++ report_actions p more
opening_actions-append p told more = ap (λ (l : List Action). piece header_line ∷ l) (report_actions-append p told more)

-- one thing more is told
pub opening_actions-one : (p : Parameters) (told : List Told) (next : Told) → opening_actions p (told ++ next ∷ []) ≡ opening_actions p told ++ actions_of p next
opening_actions-one p told next =
    opening_actions-append p told (next ∷ []) ∙ ap (λ (l : List Action). opening_actions p told ++ l) (append-nil (actions_of p next))
