-- A name tells its digits, and its first bytes tell of which kind it is.
use Rattle.std.proofs.Common.{◌≡◌, ℕ, List, ap, arith}
use Rattle.std.specs.Prelude.{slice_index}
use Rattle.run_report.specs.FileNames.{fields_name, mesh_name, state_name}
use Rattle.run_report.proofs.FourDigits.{four_digits-one}
use Rattle.run_report.proofs.laws.names_of_their_own.Goals as goal

byte : {a b : List ℕ} (i : ℕ) → a ≡ b → slice_index a i ≡ slice_index b i
byte i same = ap (λ (l : List ℕ). slice_index l i) same

pub returns-clause-mesh : goal.returns-clause-mesh
unfolding mesh_name
returns-clause-mesh c = λ a b few_a few_b same. four_digits-one a b few_a few_b (byte 5 same) (byte 6 same) (byte 7 same) (byte 8 same)

pub returns-clause-fields : goal.returns-clause-fields
unfolding fields_name
returns-clause-fields c = λ a b few_a few_b same. four_digits-one a b few_a few_b (byte 6 same) (byte 7 same) (byte 8 same) (byte 9 same)

pub returns-clause-state : goal.returns-clause-state
unfolding state_name
returns-clause-state c = λ a b few_a few_b same. four_digits-one a b few_a few_b (byte 6 same) (byte 7 same) (byte 8 same) (byte 9 same)

pub returns-clause-kinds : goal.returns-clause-kinds
unfolding mesh_name fields_name state_name
returns-clause-kinds c = λ a b. (λ same. omega (arith, byte 0 same), λ same. omega (arith, byte 0 same), λ same. omega (arith, byte 0 same))
