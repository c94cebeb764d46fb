-- What a run writes that goes on from what is kept of a cycle, and the last that the whole run writes of that cycle.
use Rattle.std.proofs.Common.{◌≡◌, ℕ, true, ◌+◌, ◌≤◌, List, [], ◌∷◌, ◌++◌, Option, refl, sym, ap, ◌∙◌, subst, append_assoc}
use Rattle.std.proofs.lemmas.Bool.{cond-true}
use Rattle.block_fields.specs.States.{State}
use Rattle.amount_ledger.specs.Ledgers.{LedgerState}
use Rattle.checkpoint.specs.Reading.{AreAccepted}
use Rattle.checkpoint.specs.Spelling.{bytes_of}
use Rattle.mesh_output.specs.Lines.{header_line}
use Rattle.params_check.specs.Parameters.{IsParameters, Parameters}
use Rattle.params_check.proofs.NoFaults.{accepted-limits}
use Rattle.run_core.specs.declared.fault.RunFault.{RunFault}
use Rattle.run_core.specs.Courses.{Course, RunState, cycle_ended, is_due, whole}
use Rattle.run_core.specs.Runs.{RunEnds, Runs}
use Rattle.run_report.specs.Actions.{Action, actions_of, cycle_pieces, due_at, fields_file, file, kept_state, later_actions, mesh_file, opening_actions, piece, state_file, where_due}
use Rattle.run_report.specs.FileNames.{state_name}
use Rattle.run_report.proofs.RunActions.{opening_actions-one}
use Rattle.restart_laws.specs.Restarts.{GoesOnAlike}
use Rattle.restart_laws.specs.ResumedRuns.{GoesOnFrom, ResumesAt, WritesOnAlike, WritesRest}
use Rattle.restart_laws.proofs.GoingOn.{goes_on_alike}
use Rattle.restart_laws.proofs.KeptCheckpoints.{kept-IsCheckpoint}
use Rattle.restart_laws.proofs.RestCourses.{rest-same}
use Rattle.restart_laws.proofs.ShortFiles.{kept-stands}
use Rattle.restart_laws.proofs.ToldCycles.{TellsCycle, tells-cycle}

-- both runs write on alike
pub writes-on : (p : Parameters) (w : IsParameters p) (cycle : ℕ) (here all : RunState) (limit : Option RunFault) → cycle ≤ p.cycles
    → Runs (whole p) (p.rounds + cycle) here → RunEnds (whole p) all limit → WritesOnAlike p cycle here all limit
writes-on p w cycle here all limit within runs ends =
    let h : GoesOnAlike p cycle here all limit = goes_on_alike p w cycle here runs within all limit ends in
    record {
      later = later_actions p h.rest.told h.rest.state.leaves limit;
      whole_run = ap (λ (l : List Action). piece header_line ∷ l) h.acted;
      resumed_run = record {
        rest = h.rest;
        ends = subst (λ (c : Course). RunEnds c h.rest limit) (sym (rest-same p w (p.rounds + cycle) cycle here runs)) h.ends;
        state = h.state;
        writes = refl;
      };
    }

-- what is written of a cycle, but for its checkpoint
abbrev pub before_checkpoint : Parameters → ℕ → State → LedgerState → List Action
before_checkpoint p cycle s ledger =
    cycle_pieces p cycle s ledger ++ (where_due (due_at p cycle).mesh (mesh_file cycle s) ++ where_due (due_at p cycle).fields (fields_file cycle s))

-- the checkpoint of a cycle, if it is due
abbrev pub checkpoint_due : Parameters → ℕ → State → LedgerState → List Action
checkpoint_due p cycle s ledger = where_due (due_at p cycle).checkpoint (state_file p cycle s ledger)

regrouped : (a b c d : List Action) → a ++ (b ++ (c ++ d)) ≡ (a ++ (b ++ c)) ++ d
regrouped a b c d = ap (λ (l : List Action). a ++ l) (sym (append_assoc b c d)) ∙ sym (append_assoc a (b ++ c) d)

pub cycle-parts : (p : Parameters) (cycle : ℕ) (s : State) (ledger : LedgerState)
    → actions_of p (cycle_ended cycle s ledger) ≡ before_checkpoint p cycle s ledger ++ checkpoint_due p cycle s ledger
cycle-parts p cycle s ledger =
    regrouped (cycle_pieces p cycle s ledger) (where_due (due_at p cycle).mesh (mesh_file cycle s)) (where_due (due_at p cycle).fields (fields_file cycle s))
    (checkpoint_due p cycle s ledger)

-- the last that is written up to a cycle is its checkpoint, where it is due
record EndsWith (opening : List Action) (last : Action) : Type 0 where
  before : List Action
  is : opening ≡ before ++ last ∷ []

ends-with : (p : Parameters) (cycle : ℕ) (here : RunState) → is_due p.checkpoint_every cycle ≡ true → TellsCycle cycle here
    → EndsWith (opening_actions p here.told) (state_file p cycle here.state here.ledger)
ends-with p cycle here due tells =
    let s : State = here.state in
    let ledger : LedgerState = here.ledger in
    let front : List Action = opening_actions p tells.before in
    let last : List Action = state_file p cycle s ledger ∷ [] in
    let is : checkpoint_due p cycle s ledger ≡ last = cond-true (is_due p.checkpoint_every cycle) last [] due in
    record {
      before = front ++ before_checkpoint p cycle s ledger;
      is = ap (opening_actions p) tells.is
          ∙ opening_actions-one p tells.before (cycle_ended cycle s ledger)
          ∙ ap (λ (l : List Action). front ++ l) (cycle-parts p cycle s ledger)
          ∙ ap (λ (l : List Action). front ++ (before_checkpoint p cycle s ledger ++ l)) is
          ∙ sym (append_assoc front (before_checkpoint p cycle s ledger) last);
    }

-- the bytes of what is kept, and what is written on
pub goes-on-from : (p : Parameters) (cycle : ℕ) (here all : RunState) (limit : Option RunFault) (later : List Action) → AreAccepted p → cycle ≤ p.cycles
    → Runs (whole p) (p.rounds + cycle) here → WritesRest (kept_state p cycle here.state here.ledger) all limit later
    → GoesOnFrom p cycle (bytes_of (kept_state p cycle here.state here.ledger)) all limit later
goes-on-from p cycle here all limit later a within runs writes = record {
  saved = kept_state p cycle here.state here.ledger;
  reads = kept-stands (kept_state p cycle here.state here.ledger) (kept-IsCheckpoint p cycle here a within runs);
  params = refl;
  at = refl;
  resumed_run = writes;
}

pub resumes-at : (p : Parameters) (cycle : ℕ) (here all : RunState) (limit : Option RunFault) → AreAccepted p → cycle ≤ p.cycles
    → is_due p.checkpoint_every cycle ≡ true → Runs (whole p) (p.rounds + cycle) here → RunEnds (whole p) all limit → ResumesAt p cycle all limit
resumes-at p cycle here all limit a within due runs ends =
    let w : IsParameters p = accepted-limits a.groups p a.limits a.accepted in
    let on : WritesOnAlike p cycle here all limit = writes-on p w cycle here all limit within runs ends in
    let bytes : List ℕ = bytes_of (kept_state p cycle here.state here.ledger) in
    let last : EndsWith (opening_actions p here.told) (file (state_name cycle) bytes) =
    ends-with p cycle here due (tells-cycle p (p.rounds + cycle) cycle here refl runs) in
    record {
      before = last.before;
      bytes = bytes;
      later = on.later;
      whole_run = on.whole_run
          ∙ ap (λ (l : List Action). l ++ on.later) last.is
          ∙ append_assoc last.before (file (state_name cycle) bytes ∷ []) on.later;
      goes_on = goes-on-from p cycle here all limit on.later a within runs on.resumed_run;
    }
