-- The lines of the fields of a summary, one after another, by the ledger and by the state.
use Rattle.std.proofs.Common.{◌≡◌, ℕ, ◌+◌, ◌<◌, ◌≤◌, zero, suc, cond, List, [], ◌∷◌, ◌++◌, length, take, Some, refl, sym, ap, ◌∙◌, append_assoc, append-nil, arith}
use Rattle.std.specs.Prelude.{nat_lt, slice_get, slice_index, slice_index_or}
use Rattle.std.proofs.lemmas.Bool.{lt-ltb}
use Rattle.std.proofs.lemmas.List.{take_all}
use Rattle.std.proofs.lemmas.Option.{none-some, same_Some, slice_get_read}
use Rattle.amount_ledger.specs.Ledgers.{LedgerState}
use Rattle.block_fields.specs.States.{State, total}
use Rattle.mesh_output.specs.Lines.{end_line}
use Rattle.params_check.specs.Parameters.{Parameters}
use Rattle.roomy_runs.specs.Summaries.{amounts_line, amounts_lines, demo_line, leaves_line, summary, told_amounts}
use Rattle.run_core.specs.Courses.{RunState, totals_of}
use Rattle.cello_top.specs.Lemmas.Demonstrating.{ledger_lines, ledger_summary}

-- one line more
lines-taken : (ledger : LedgerState) (k : ℕ) (xs : List (List ℕ)) (i : ℕ) (x : List ℕ) → slice_get xs i ≡ Some x
    → ledger_lines ledger k (take (suc i) xs) ≡ ledger_lines ledger k (take i xs) ++ amounts_line x (slice_index ledger.total (k + i)) (slice_index ledger.gone (k + i))
lines-taken ledger k [] i x at = absurd (none-some x at)
lines-taken ledger k (y ∷ ys) zero x at =
    let same : k ≡ k + 0 = omega arith in
    append-nil (amounts_line y (slice_index ledger.total k) (slice_index ledger.gone k))
    ∙ ap (λ (z : List ℕ). amounts_line z (slice_index ledger.total k) (slice_index ledger.gone k)) (same_Some y x at)
    ∙ ap (λ n. amounts_line x (slice_index ledger.total n) (slice_index ledger.gone n)) same
lines-taken ledger k (y ∷ ys) (suc i) x at =
    let here : k + 1 + i ≡ k + suc i = omega arith in
    let first = amounts_line y (slice_index ledger.total k) (slice_index ledger.gone k) in
    ap (λ (l : List ℕ). first ++ l)
    (lines-taken ledger (k + 1) ys i x at
    ∙ ap (λ n. ledger_lines ledger (k + 1) (take i ys) ++ amounts_line x (slice_index ledger.total n) (slice_index ledger.gone n)) here)
    ∙ sym (append_assoc first (ledger_lines ledger (k + 1) (take i ys)) (amounts_line x (slice_index ledger.total (k + suc i)) (slice_index ledger.gone (k + suc i))))

-- the text so far, and a line more
pub line-more : (ledger : LedgerState) (front text next : List ℕ) (xs : List (List ℕ)) (i field : ℕ) (x : List ℕ) → i < length xs → x ≡ slice_index_or xs i x → field ≡ i
    → text ≡ front ++ ledger_lines ledger 0 (take i xs) → next ≡ amounts_line x (slice_index ledger.total field) (slice_index ledger.gone field)
    → text ++ next ≡ front ++ ledger_lines ledger 0 (take (i + 1) xs)
line-more ledger front text next xs i field x within item counted before is =
    let at : slice_get xs i ≡ Some x = slice_get_read xs (length xs) i x refl within item in
    let same : field ≡ 0 + i = omega (arith, counted) in
    let more : suc i ≡ i + 1 = omega arith in
    let line : List ℕ = amounts_line x (slice_index ledger.total (0 + i)) (slice_index ledger.gone (0 + i)) in
    ap (λ (l : List ℕ). l ++ next) before
    ∙ ap (λ (l : List ℕ). (front ++ ledger_lines ledger 0 (take i xs)) ++ l) (is ∙ ap (λ n. amounts_line x (slice_index ledger.total n) (slice_index ledger.gone n)) same)
    ∙ append_assoc front (ledger_lines ledger 0 (take i xs)) line
    ∙ ap (λ (l : List ℕ). front ++ l) (sym (lines-taken ledger 0 xs i x at))
    ∙ ap (λ n. front ++ ledger_lines ledger 0 (take n xs)) more

-- ---- by the state

kept : (s : State) (f : ℕ) → f < s.fields → cond (nat_lt f s.fields) (total s f) 0 ≡ total s f
kept s f below = ap (λ b. cond b (total s f) 0) (lt-ltb f s.fields below)

totals_of-field : (s : State) (f : ℕ) → f < s.fields → f < 4 → slice_index (totals_of s) f ≡ total s f
totals_of-field s zero below four = kept s 0 below
totals_of-field s (suc zero) below four = kept s 1 below
totals_of-field s (suc (suc zero)) below four = kept s 2 below
totals_of-field s (suc (suc (suc zero))) below four = kept s 3 below
totals_of-field s (suc (suc (suc (suc f)))) below four = absurd (omega (arith, four))

lines-same : (s : RunState) (k : ℕ) (names : List (List ℕ)) → k + length names ≤ s.state.fields → k + length names ≤ 4 → s.ledger.total ≡ totals_of s.state
    → ledger_lines s.ledger k names ≡ amounts_lines s k names
lines-same s k [] within few totals = refl
lines-same s k (name ∷ names) within few totals =
    let below : k < s.state.fields = omega (arith, within) in
    let four : k < 4 = omega (arith, few) in
    let amount : slice_index s.ledger.total k ≡ total s.state k = ap (λ (l : List ℕ). slice_index l k) totals ∙ totals_of-field s.state k below four in
    ap (λ n. amounts_line name n (slice_index s.ledger.gone k) ++ ledger_lines s.ledger (k + 1) names) amount
    ∙ ap (λ (l : List ℕ). told_amounts s k name ++ l) (lines-same s (k + 1) names (omega (arith, within)) (omega (arith, few)) totals)

-- the summary by the ledger is that of the state that it is of
pub summary-same : (seed size : ℕ) (p : Parameters) (s : RunState) (leaves : ℕ) (ledger : LedgerState) → s.ledger ≡ ledger → ledger.total ≡ totals_of s.state
    → leaves ≡ length s.state.leaves → s.state.fields ≡ length p.fields → length p.fields ≤ 4
    → ledger_summary seed size p leaves ledger ≡ summary seed size p s
summary-same seed size p s leaves ledger same totals count fields few =
    ap (λ (l : LedgerState). ledger_summary seed size p leaves l) (sym same)
    ∙ ap (λ n. ledger_summary seed size p n s.ledger) count
    ∙ ap (λ (l : List ℕ). demo_line seed size ++ (leaves_line (length s.state.leaves) p.cycles ++ (l ++ end_line)))
    (lines-same s 0 p.fields (omega (arith, fields)) (omega (arith, few)) (ap (λ (l : LedgerState). l.total) same ∙ totals))

-- all lines of the fields, and the last line
pub summary-closed : (ledger : LedgerState) (seed size leaves : ℕ) (p : Parameters) (text last : List ℕ) (xs : List (List ℕ)) (i : ℕ) → xs ≡ p.fields → length xs ≤ i
    → text ≡ (demo_line seed size ++ leaves_line leaves p.cycles) ++ ledger_lines ledger 0 (take i xs) → last ≡ end_line
    → text ++ last ≡ ledger_summary seed size p leaves ledger
summary-closed ledger seed size leaves p text last xs i fields all before end =
    let front : List ℕ = demo_line seed size ++ leaves_line leaves p.cycles in
    ap (λ (l : List ℕ). l ++ last) (before ∙ ap (λ (l : List (List ℕ)). front ++ ledger_lines ledger 0 l) (take_all i xs all ∙ fields))
    ∙ ap (λ (l : List ℕ). (front ++ ledger_lines ledger 0 p.fields) ++ l) end
    ∙ append_assoc front (ledger_lines ledger 0 p.fields) end_line
    ∙ append_assoc (demo_line seed size) (leaves_line leaves p.cycles) (ledger_lines ledger 0 p.fields ++ end_line)
