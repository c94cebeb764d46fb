-- The lines of a cycle by its ledger and by its state.
use Rattle.std.proofs.Common.{◌≡◌, ℕ, ◌+◌, ◌<◌, ◌≤◌, zero, suc, cond, List, [], ◌∷◌, length, Option, Result, Ok, refl, sym, ap, subst, ◌∙◌, arith}
use Rattle.std.specs.Prelude.{nat_lt, slice_index}
use Rattle.std.specs.Io.KnownBytes.{append_known}
use Rattle.std.proofs.lemmas.Bool.{lt-ltb}
use Rattle.amount_ledger.specs.Ledgers.{LedgerState}
use Rattle.block_index.specs.Places.{Cube}
use Rattle.block_fields.specs.States.{State, total}
use Rattle.cello_io.specs.Files.{MadeFile}
use Rattle.cello_io.specs.Writes.{GrewByPart}
use Rattle.mesh_output.specs.Lines.{cycle_line, field_line}
use Rattle.params_check.specs.Parameters.{Parameters}
use Rattle.run_core.specs.Courses.{totals_of}
use Rattle.run_report.specs.Actions.{Action, piece, numbered_pieces, told_field, cycle_pieces}
use Rattle.run_report.specs.Lemmas.LedgerLines.{ledger_line}
use Rattle.run_report.specs.Outputs.{output, Acted, StandsWithin}
use Rattle.run_report.proofs.Prefixes.{acted-piece, acted-then, within-more, within-part}

kept : (s : State) (f : ℕ) → f < s.fields → cond (nat_lt f s.fields) (total s f) 0 ≡ total s f
kept s f below = ap (λ b. cond b (total s f) 0) (lt-ltb f s.fields below)

-- the total of a field in the list of all
totals_of-field : (s : State) (f : ℕ) → f < s.fields → f < 4 → slice_index (totals_of s) f ≡ total s f
totals_of-field s zero below four = kept s 0 below
totals_of-field s (suc zero) below four = kept s 1 below
totals_of-field s (suc (suc zero)) below four = kept s 2 below
totals_of-field s (suc (suc (suc zero))) below four = kept s 3 below
totals_of-field s (suc (suc (suc (suc f)))) below four = absurd (omega (arith, four))

-- lines that are the same for each element
numbered-same : {A : Type 0} (line other : ℕ → A → List ℕ) (k : ℕ) (xs : List A) → ((f : ℕ) (x : A) → f < k + length xs → line f x ≡ other f x) → numbered_pieces line k xs ≡ numbered_pieces other k xs
numbered-same line other k [] each = refl
numbered-same line other k (x ∷ xs) each =
    ap (λ (l : List ℕ). piece l ∷ numbered_pieces line (k + 1) xs) (each k x (omega arith))
    ∙ ap (λ (l : List Action). piece (other k x) ∷ l) (numbered-same line other (k + 1) xs (λ f y below. each f y (omega (arith, below))))

told_fields : (s : State) (ledger : LedgerState) (names : List (List ℕ)) → s.fields ≡ length names → length names ≤ 4 → ledger.total ≡ totals_of s
    → numbered_pieces (ledger_line ledger) 0 names ≡ numbered_pieces (told_field s ledger) 0 names
told_fields s ledger names fields few totals =
    numbered-same (ledger_line ledger) (told_field s ledger) 0 names
    (λ f name below.
    let within : f < s.fields = omega (arith, fields, below) in
    let four : f < 4 = omega (arith, few, below) in
    ap (λ (n : ℕ). field_line name n (slice_index ledger.out f) (slice_index ledger.gone f)) (ap (λ (l : List ℕ). slice_index l f) totals ∙ totals_of-field s f within four))

-- the line of the cycle, and then those of the fields
pub cycle-then : {T E : Type 0} (p : Parameters) (cycle count : ℕ) (s : State) (places : List Cube) (ledger : LedgerState) (files : Option (List MadeFile)) (old mid new : Option (List ℕ)) (result : Result T E)
    → s.leaves ≡ places → s.fields ≡ length p.fields → ledger.total ≡ totals_of s → length p.fields ≤ 4 → count ≡ length places
    → mid ≡ append_known old (cycle_line cycle count) → Acted (numbered_pieces (ledger_line ledger) 0 p.fields) (output mid files) (output new files) result
    → Acted (cycle_pieces p cycle s ledger) (output old files) (output new files) result
cycle-then p cycle count s places ledger files old mid new result leaves fields totals few counted first second =
    let same : count ≡ length s.leaves = counted ∙ ap length (sym leaves) in
    acted-then (piece (cycle_line cycle (length s.leaves)) ∷ []) (numbered_pieces (told_field s ledger) 0 p.fields) (output old files) (output mid files) (output new files) result
    (acted-piece {T = Unit {0}} {E = Unit {0}} (cycle_line cycle (length s.leaves)) old mid files (Ok tt) (first ∙ ap (λ (n : ℕ). append_known old (cycle_line cycle n)) same))
    (subst (λ (l : List Action). Acted l (output mid files) (output new files) result) (told_fields s ledger p.fields fields few totals) second)

-- a part of the first line
pub cycle-less : (p : Parameters) (cycle count : ℕ) (s : State) (places : List Cube) (ledger : LedgerState) (files : Option (List MadeFile)) (old new : Option (List ℕ))
    → s.leaves ≡ places → count ≡ length places → GrewByPart old new (cycle_line cycle count)
    → StandsWithin (cycle_pieces p cycle s ledger) (output old files) (output new files)
cycle-less p cycle count s places ledger files old new leaves counted some =
    let same : count ≡ length s.leaves = counted ∙ ap length (sym leaves) in
    within-more (piece (cycle_line cycle (length s.leaves)) ∷ []) (numbered_pieces (told_field s ledger) 0 p.fields) (output old files) (output new files)
    (within-part (piece (cycle_line cycle (length s.leaves))) (output old files) (output new files) (subst (λ (n : ℕ). GrewByPart old new (cycle_line cycle n)) same some, refl))
