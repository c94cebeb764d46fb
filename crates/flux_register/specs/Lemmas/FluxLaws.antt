-- The plan of the flux correction is kept, and a cell keeps its part.
use Rattle.std.proofs.Common.{◌≡◌, ℕ, true, false, List, [], ◌++◌, map, refl, sym, ap, append-nil}
use Rattle.std.specs.Prelude.{All, Contains, IsPermutation}
use Rattle.std.proofs.lemmas.Bool.{false≢true}
use Rattle.std.proofs.lemmas.List.Elements.{All-map, All-weaker, All-contains_itself}
use Rattle.std.proofs.lemmas.List.Sorted.{IsPermutation-refl}
use Rattle.phase_core.specs.declared.envelope.Envelope.{Envelope}
use Rattle.owed_phase.specs.Plans.{IsPlan, KeepsPart}
use Rattle.owed_phase.specs.Lemmas.Moves.{moved_same}
use Rattle.advect.specs.FaceFluxes.{FaceFluxState}
use Rattle.advect.specs.FluxPieces.{FluxPieceState}
use Rattle.flux_register.specs.declared.flux_msg.FluxMsg.{FluxMsg}
use Rattle.flux_register.specs.declared.flux_msg.FluxMsg.TheVariants.{Start, Piece}
use Rattle.flux_register.specs.Cells.{Setting, FluxPart, FluxState, FluxProblem, blank, kept}
use Rattle.flux_register.specs.React.{is_start, sent_piece, sent_pieces, flux_react}
use Rattle.flux_register.specs.Problem.{IsFresh, flux_plan}

sent-pieces : (faces : FaceFluxState) (qs : List FluxPieceState) → All (λ (e : Envelope FluxMsg). is_start e.msg ≡ false) (sent_pieces faces qs)
sent-pieces faces qs =
    All-map (λ (e : Envelope FluxMsg). is_start e.msg ≡ false) (sent_piece faces) qs (All-weaker (Contains qs) (λ q. false ≡ false) (λ q h. refl) qs (All-contains_itself qs))

starting : (p : FluxProblem) (i : ℕ) (c : FluxState) (m : FluxMsg) → is_start m ≡ true → (flux_react p i c m).cell.started ≡ true
starting p i c Start h = refl
starting p i c (Piece q) h = absurd (false≢true h)

staying : (p : FluxProblem) (i : ℕ) (c : FluxState) (m : FluxMsg) → is_start m ≡ false → (flux_react p i c m).cell.started ≡ c.started
staying p i c Start h = absurd (false≢true (sym h))
staying p i c (Piece q) h = refl

-- what a cell owed is what it owes after a handling, and what it sent
sends : (p : FluxProblem) (i : ℕ) (c : FluxState) (m : FluxMsg) → IsPermutation ((flux_plan p).owed i c) ((flux_plan p).owed i (flux_react p i c m).cell ++ (flux_react p i c m).sent)
sends p i c Start = IsPermutation-refl (sent_pieces c.faces c.owed)
sends p i c (Piece q) =
    let owed : List (Envelope FluxMsg) = sent_pieces c.faces c.owed in
    moved_same owed owed (owed ++ []) (IsPermutation-refl owed) (sym (append-nil owed))

owes : (p : FluxProblem) (i : ℕ) (c : FluxState) → IsFresh p.setting c → (flux_plan p).owed i c ≡ (flux_plan p).tells i (kept c)
owes p i c fresh = ap (sent_pieces c.faces) fresh.owed

pub is_plan : (p : FluxProblem) → IsPlan (flux_plan p) p.parts
is_plan p = record {
  starts = λ i. refl;
  pieces = λ i c. sent-pieces c.faces c.owed;
  pieces_told = λ i k. sent-pieces k.faces (map (blank p.setting) k.owes);
  fresh = λ c h. h.started;
  owes = owes p;
  starting = starting p;
  staying = staying p;
  sends = λ e c due. sends p e.to c e.msg;
}

pub part_stays : (p : FluxProblem) → KeepsPart (flux_plan p)
part_stays p i c Start = refl
part_stays p i c (Piece q) = refl

-- the problem of a setting with these parts
abbrev pub with_parts : Setting → List FluxPart → FluxProblem
with_parts s parts = record { setting = s; parts = parts }
