-- What the invariant says of each cell, face and message.
use Rattle.std.proofs.Common.{◌≡◌, ℕ, List, Some, map, sym, ap, ◌∙◌, subst, arith}
use Rattle.std.specs.Prelude.{All, Contains, slice_get}
use Rattle.std.proofs.lemmas.List.Elements.{All-weaker, All-contains_itself}
use Rattle.std.proofs.lemmas.Option.{same_Some}
use Rattle.phase_core.specs.declared.envelope.Envelope.{Envelope}
use Rattle.phase_core.specs.Lemmas.Lookups.{Contains-map_back}
use Rattle.owed_phase.specs.Plans.{inbox, all_of}
use Rattle.owed_phase.specs.Lemmas.Orders.{all_handled_meet, of_flight}
use Rattle.owed_phase.specs.Lemmas.States.{cell_handled, in_three_states, starts_in_flight}
use Rattle.advect.specs.FluxPieces.{FluxPieceState}
use Rattle.flux_register.specs.declared.flux_msg.FluxMsg.{FluxMsg}
use Rattle.flux_register.specs.Faces.{FluxFace}
use Rattle.flux_register.specs.Cells.{FluxPart, FluxState, FluxProblem, blank}
use Rattle.flux_register.specs.Problem.{IsFluxProblem, FluxFixHolds, flux_plan}
use Rattle.flux_register.specs.States.{IsFluxFixState, IsRightCell, IsRightMsg, piece_of, pieces_in}
use Rattle.flux_register.specs.Lemmas.FluxLaws.{is_plan}
use Rattle.flux_register.proofs.FaceCounts.{handled-count, one-piece, owed-count}
use Rattle.flux_register.proofs.Goings.{Goes, handled_goes}
use Rattle.flux_register.proofs.Handling.{owed-waits}
use Rattle.flux_register.proofs.Messages.{all_right}

module _ (p : FluxProblem) (cells : List FluxState) (flight : List (Envelope FluxMsg)) (holds : FluxFixHolds p cells flight) where
  abbrev valid : IsFluxProblem p
  valid = holds.problem

  abbrev all : List (Envelope FluxMsg)
  all = all_of (flux_plan p) p.parts

  each_right : All (λ (e : Envelope FluxMsg). IsRightMsg p e.to e.msg) all
  each_right = All-weaker (Contains all) (λ (e : Envelope FluxMsg). IsRightMsg p e.to e.msg) (all_right p valid) all (All-contains_itself all)

  abbrev used : ℕ → List FluxPieceState
  used i = pieces_in (inbox i holds.owing.handled)

  right_cell : (i : ℕ) (k : FluxPart) (c : FluxState) → slice_get p.parts i ≡ Some k → slice_get cells i ≡ Some c → IsRightCell p i k c (used i)
  right_cell i k c part here =
      let handled = cell_handled (flux_plan p) p.parts cells flight holds.owing i c here in
      let same : handled.part ≡ k = same_Some handled.part k (sym handled.here ∙ part) in
      let goes : Goes p i k c (inbox i holds.owing.handled) = subst (λ (x : FluxPart). Goes p i x c (inbox i holds.owing.handled)) same (handled_goes p valid i c (inbox i holds.owing.handled) handled) in
      let owes = (valid.leaves i k part).owes in
      let owed : (q : FluxPieceState) → Contains c.owed q → (face : FluxFace) × Contains k.owes face × (blank p.setting face ≡ q) = λ q h. Contains-map_back (blank p.setting) k.owes q (owed-waits c (map (blank p.setting) k.owes) q goes.owed h).1 in
      record {
        part = goes.part;
        right = goes.right;
        amounts = goes.amounts;
        waits = λ q h. (owed-waits c (map (blank p.setting) k.owes) q goes.owed h).0;
        own = λ q h. let b = owed q h in ap (λ (x : FluxPieceState). x.from) (sym b.2) ∙ owes.own b.0 b.1;
        zeros = λ q h. let b = owed q h in ap (λ (x : FluxPieceState). x.sums) (sym b.2);
      }

  pub each_state : IsFluxFixState p cells flight
  each_state = record {
    used = used;
    each = right_cell;
    faces = λ face is.
        let three = in_three_states (flux_plan p) p.parts cells flight holds.owing (λ (e : Envelope FluxMsg). piece_of face e.msg) in
        let right = all_handled_meet (flux_plan p) p.parts cells flight holds.owing (λ (e : Envelope FluxMsg). IsRightMsg p e.to e.msg) each_right in
        let here = handled-count p face holds.owing.handled right in
        let owed = owed-count p face 0 cells in
        let one = one-piece p face valid is in
        omega (arith, three, here, owed, one);
    starts = starts_in_flight (flux_plan p) p.parts cells flight holds.owing (is_plan p);
    messages = of_flight (flux_plan p) p.parts (λ (e : Envelope FluxMsg). IsRightMsg p e.to e.msg) cells flight holds.owing each_right;
  }
