-- The laws of phases, by name, for a plan that is kept where the problem is valid. A phase gives these as its own.
use Rattle.std.proofs.Common.{◌≡◌, ℕ, true, List, [], map, ap}
use Rattle.phase_core.specs.Stands.{Stands}
use Rattle.phase_core.specs.declared.envelope.Envelope.{Envelope}
use Rattle.phase_core.specs.Lemmas.Lookups.{map-slice_set_same}
use Rattle.phase_core.specs.PhaseLaws.{StartHolds, StartWeighs, Keeps, Lowers, KeepsParts, HoldsInAnyOrder, WeighsInAnyOrder, HasFewCells, IsAddressed, StartWeightFits}
use Rattle.owed_phase.specs.Plans.{Plan, Due, IsPlan, KeepsPart}
use Rattle.owed_phase.specs.Rest.{HasHandled, AreDone}
use Rattle.owed_phase.specs.Lemmas.States as states
use Rattle.owed_phase.specs.Holds.{OwingHolds, OwingBegins, owing_weight, owing_start_weight}
use Rattle.owed_phase.specs.Lemmas.Beginnings as beginnings
use Rattle.owed_phase.specs.Lemmas.Handlings as handlings
use Rattle.owed_phase.specs.Lemmas.Orders as orders

-- a handling keeps a cell's part, so it keeps the problem that phase and cells make
pub same_problem : {K C M Q : Type 0} (plan : Plan K C M) → KeepsPart plan → (with_parts : List K → Q) → KeepsParts plan.react (λ cells. with_parts (map plan.part cells))
same_problem plan stays with_parts cells at c m here = ap with_parts (map-slice_set_same plan.part cells at c (plan.react at c m).cell here (stays at c m))

module _ {K C M : Type 0} (valid : Type 0) (plan : Plan K C M) (parts : List K) (is : valid → IsPlan plan parts) where
  pub start_holds : StartHolds plan.start (OwingBegins valid plan parts) (OwingHolds valid plan parts)
  start_holds cells begins = record {
    problem = begins.problem;
    owing = beginnings.start_holds plan parts (is begins.problem) begins.fits cells begins.fresh begins.made;
  }

  pub start_weighs : StartWeighs plan.start (OwingBegins valid plan parts) (owing_weight plan) (owing_start_weight plan parts)
  start_weighs cells begins = beginnings.start_weighs plan parts (is begins.problem) cells begins.fresh begins.made

  pub keeps : Keeps plan.react (OwingHolds valid plan parts)
  keeps cells e rest c holds here = record { problem = holds.problem; owing = handlings.keeps plan parts (is holds.problem) cells e rest c holds.owing here }

  pub lowers : Lowers plan.react (OwingHolds valid plan parts) (owing_weight plan)
  lowers cells e rest c holds here = handlings.lowers plan parts (is holds.problem) cells e rest c holds.owing here

  pub holds_in_any_order : HoldsInAnyOrder (OwingHolds valid plan parts)
  holds_in_any_order cells flight other moved holds = record { problem = holds.problem; owing = orders.holds_in_any_order plan parts cells flight other moved holds.owing }

  pub weighs_in_any_order : WeighsInAnyOrder (owing_weight plan)
  weighs_in_any_order cells flight other moved = orders.weighs_in_any_order plan parts cells flight other moved

  pub few_cells : HasFewCells (OwingHolds valid plan parts)
  few_cells cells flight holds = orders.few_cells plan parts cells flight holds.owing

  pub addressed : IsAddressed (OwingHolds valid plan parts)
  addressed cells flight holds = orders.addressed plan parts cells flight holds.owing

  pub start_weight_fits : StartWeightFits (OwingHolds valid plan parts) (owing_start_weight plan parts)
  start_weight_fits cells flight holds = orders.start_weight_fits plan parts cells flight holds.owing

  -- with nothing in flight each cell is done, where a started cell owes nothing
  pub at_rest : ((i : ℕ) (c : C) → plan.started c ≡ true → plan.owed i c ≡ []) → (cells : List C) → OwingHolds valid plan parts cells [] → AreDone plan parts cells
  at_rest settled cells holds = states.at_rest plan parts (is holds.problem) settled cells holds.owing

  -- so too where what a cell owes is told by what it has handled
  pub at_rest_by : ((i : ℕ) (c : C) (done : List M) → HasHandled plan parts i c done → plan.started c ≡ true → plan.owed i c ≡ []) → (cells : List C) → OwingHolds valid plan parts cells [] → AreDone plan parts cells
  at_rest_by settled cells holds = states.at_rest_by plan parts (is holds.problem) settled cells holds.owing

-- what `handle` may use, of a phase whose plan and parts the problem tells
pub due_there : {Q K C M : Type 0} (valid : Q → Type 0) (plan : Q → Plan K C M) (parts : Q → List K) → ((p : Q) → valid p → IsPlan (plan p) (parts p)) → (problem : List C → Q) (at : ℕ) (c : C) (m : M) (cells : List C) (flight : List (Envelope M)) → Stands (λ p. OwingHolds (valid p) (plan p) (parts p)) problem at c m cells flight → Due (plan (problem cells)) (parts (problem cells)) (record { to = at; msg = m }) c
due_there valid plan parts is problem at c m cells flight stands =
    let p = problem cells in
    orders.due_anywhere (plan p) (parts p) (is p stands.valid.problem) cells flight (record { to = at; msg = m }) c stands.valid.owing stands.waits stands.here
