-- The plan of the refresh phase is kept, and a cell keeps its part.
use Rattle.std.proofs.Common.{◌≡◌, ℕ, Bool, true, false, cond, List, [], ◌++◌, map, refl, sym, ap, append-nil, inl, inr}
use Rattle.std.specs.Prelude.{All, Contains, IsPermutation}
use Rattle.std.proofs.lemmas.Bool.{false≢true, cases_Bool}
use Rattle.std.proofs.lemmas.List.Elements.{All-map, All-weaker, All-contains_itself}
use Rattle.std.proofs.lemmas.List.Sorted.{IsPermutation-refl}
use Rattle.phase_core.specs.declared.envelope.Envelope.{Envelope}
use Rattle.owed_phase.specs.Plans.{IsPlan, KeepsPart}
use Rattle.owed_phase.specs.Lemmas.Moves.{same_moved, moved_same}
use Rattle.block_index.specs.Places.{Grid}
use Rattle.block_fields.specs.Blocks.{BlockState}
use Rattle.ghost_pieces.specs.Filing.{Source, is_filed, after_filing, with_piece}
use Rattle.ghost_pieces.specs.Pieces.{PieceState}
use Rattle.refresh_phase.specs.declared.refresh_msg.RefreshMsg.{RefreshMsg}
use Rattle.refresh_phase.specs.declared.refresh_msg.RefreshMsg.TheVariants.{Start, Piece}
use Rattle.refresh_phase.specs.Cells.{Setting, LeafPart, LeafState, RefreshProblem, own_cells, blank, kept}
use Rattle.refresh_phase.specs.React.{is_start, sent_piece, sent_pieces, refresh_react}
use Rattle.refresh_phase.specs.Problem.{IsFresh, refresh_plan}

-- filing changes ghosts alone
pub own_cells-after_filing : (filed : List Source) (q : PieceState) (b : BlockState) → own_cells (after_filing filed q b) ≡ own_cells b
own_cells-after_filing filed q b = elim (cases_Bool (is_filed filed q.region)) [
  | inl is ↦ ap (λ (t : Bool). own_cells (cond t b (with_piece b q))) is
  | inr not ↦ ap (λ (t : Bool). own_cells (cond t b (with_piece b q))) not
]

sent-pieces : (grid : Grid) (b : BlockState) (qs : List PieceState) → All (λ (e : Envelope RefreshMsg). is_start e.msg ≡ false) (sent_pieces grid b qs)
sent-pieces grid b qs =
    All-map (λ (e : Envelope RefreshMsg). is_start e.msg ≡ false) (sent_piece grid b) qs (All-weaker (Contains qs) (λ q. false ≡ false) (λ q h. refl) qs (All-contains_itself qs))

starting : (p : RefreshProblem) (i : ℕ) (c : LeafState) (m : RefreshMsg) → is_start m ≡ true → (refresh_react p i c m).cell.started ≡ true
starting p i c Start h = refl
starting p i c (Piece q) h = absurd (false≢true h)

staying : (p : RefreshProblem) (i : ℕ) (c : LeafState) (m : RefreshMsg) → is_start m ≡ false → (refresh_react p i c m).cell.started ≡ c.started
staying p i c Start h = absurd (false≢true (sym h))
staying p i c (Piece q) h = refl

-- what a cell owed is what it owes after a handling, and what it sent
sends : (p : RefreshProblem) (i : ℕ) (c : LeafState) (m : RefreshMsg) → IsPermutation ((refresh_plan p).owed i c) ((refresh_plan p).owed i (refresh_react p i c m).cell ++ (refresh_react p i c m).sent)
sends p i c Start = IsPermutation-refl (sent_pieces p.setting.grid (own_cells c.block) c.owed)
sends p i c (Piece q) =
    let owed : BlockState → List (Envelope RefreshMsg) = λ b. sent_pieces p.setting.grid b c.owed in
    let before : BlockState = own_cells c.block in
    let later : BlockState = own_cells (after_filing c.filed q c.block) in
    let same : owed before ≡ owed later = ap owed (sym (own_cells-after_filing c.filed q c.block)) in
    same_moved (owed before) (owed later) (owed later ++ []) same (moved_same (owed later) (owed later) (owed later ++ []) (IsPermutation-refl (owed later)) (sym (append-nil (owed later))))

owes : (p : RefreshProblem) (i : ℕ) (c : LeafState) → IsFresh p.setting c → (refresh_plan p).owed i c ≡ (refresh_plan p).tells i (kept c)
owes p i c fresh = ap (λ (qs : List PieceState). sent_pieces p.setting.grid (own_cells c.block) qs) fresh.owed

pub is_plan : (p : RefreshProblem) → IsPlan (refresh_plan p) p.parts
is_plan p = record {
  starts = λ i. refl;
  pieces = λ i c. sent-pieces p.setting.grid (own_cells c.block) c.owed;
  pieces_told = λ i k. sent-pieces p.setting.grid k.own (map (blank p.setting) k.owes);
  fresh = λ c h. h.started;
  owes = owes p;
  starting = starting p;
  staying = staying p;
  sends = λ e c due. sends p e.to c e.msg;
}

pub part_stays : (p : RefreshProblem) → KeepsPart (refresh_plan p)
part_stays p i c Start = refl
part_stays p i c (Piece q) = ap (λ (b : BlockState). record { own = b; owes = c.owes }) (own_cells-after_filing c.filed q c.block)

-- the problem of a setting with these parts
abbrev pub with_parts : Setting → List LeafPart → RefreshProblem
with_parts s parts = record { setting = s; parts = parts }
