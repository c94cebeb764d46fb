-- The bytes of a state that a file may keep are few enough to be fetched whole.
use Rattle.std.proofs.Common.{◌≡◌, ℕ, ◌+◌, ◌*◌, ◌^◌, ◌≤◌, List, [], ◌++◌, Ok, All, codes, length, map, max, sym, ap, ◌∙◌, arith}
use Rattle.std.specs.Prelude.{slice_index_or}
use Rattle.std.specs.Int.{bytes_high_first}
use Rattle.std.specs.List.{flat_map}
use Rattle.std.proofs.Math.Nat.{le-max_right, mul-le-mul_left, mul-le-mul_right, mul_assoc, mul_comm}
use Rattle.std.proofs.lemmas.List.{length-append, length-map, take_all}
use Rattle.std.proofs.lemmas.List.Concat.{length-flat_map}
use Rattle.std.proofs.lemmas.List.Sums.{sum_by-le}
use Rattle.std.proofs.lemmas.Option.{slice_get-get_or}
use Rattle.block_index.specs.Places.{packed}
use Rattle.block_fields.specs.States.{State, IsState}
use Rattle.checkpoint.specs.Reading.{IsCheckpoint, state_in}
use Rattle.checkpoint.specs.SavedStates.{SavedState}
use Rattle.checkpoint.specs.Spelling.{all_amounts, bytes_of, numbers_bytes}
use Rattle.checkpoint.proofs.StageParts.{length-numbers_bytes}
use Rattle.params_check.specs.Parameters.{IsParameters, Parameters}
use Rattle.params_check.proofs.NoFaults.{accepted-limits}
use Rattle.restart_laws.specs.Resumes.{StandsFor, fetch_limit}

-- lists, of which each is short, joined
joined-few : {X : Type 0} (f : X → List ℕ) (many each : ℕ) (xs : List X) → length xs ≡ many → All (λ x. length (f x) ≤ each) xs
    → length (flat_map f xs) ≤ many * each
joined-few f many each xs long few =
    let all = length-flat_map f xs in
    let most = sum_by-le (λ x. length (f x)) each xs few in
    let same : length xs * each ≡ many * each = ap (λ n. n * each) long in
    omega (arith, all, most, same)

-- how many amounts a state has at most
amounts-few : (s : State) → IsState s → length (all_amounts s.amounts) ≤ length s.leaves * (s.fields * (s.edge * s.edge * s.edge))
amounts-few s w =
    let cells : ℕ = s.edge * s.edge * s.edge in
    joined-few (λ fields. flat_map (λ amounts. amounts) fields) (length s.leaves) (s.fields * cells) s.amounts w.one_each
    (λ i d l.
    let block = slice_index_or s.amounts i d in
    let at = slice_get-get_or s.amounts i d l in
    joined-few (λ amounts. amounts) s.fields cells block (w.all_fields i block at)
    (λ j e m. let same = w.all_cells i j block (slice_index_or block j e) at (slice_get-get_or block j e m) in omega (arith, same)))

-- ten parts, one after another
length-ten : (a b c d e f g h i j : List ℕ) → length (a ++ (b ++ (c ++ (d ++ (e ++ (f ++ (g ++ (h ++ (i ++ (j ++ []))))))))))
    ≡ length a + length b + length c + length d + length e + length f + length g + length h + length i + length j
length-ten a b c d e f g h i j =
    let nine : List ℕ = j ++ [] in
    let eight : List ℕ = i ++ nine in
    let seven : List ℕ = h ++ eight in
    let six : List ℕ = g ++ seven in
    let five : List ℕ = f ++ six in
    let four : List ℕ = e ++ five in
    let three : List ℕ = d ++ four in
    let two : List ℕ = c ++ three in
    let one : List ℕ = b ++ two in
    let e0 = length-append a one in
    let e1 = length-append b two in
    let e2 = length-append c three in
    let e3 = length-append d four in
    let e4 = length-append e five in
    let e5 = length-append f six in
    let e6 = length-append g seven in
    let e7 = length-append h eight in
    let e8 = length-append i nine in
    let e9 = length-append j [] in
    omega (arith, e0, e1, e2, e3, e4, e5, e6, e7, e8, e9)

-- the parts of a state
length-parts : (s : SavedState) → length (bytes_of s)
    ≡ 22 + length s.params.text + 8 * length s.places + 8 * length (all_amounts s.amounts) + 8 * length s.totals + 8 * length s.gone
length-parts s =
    let all : length (bytes_of s)
    ≡ 8 + 2 + 4 + length s.params.text + 4 + 4 + length (numbers_bytes (map packed s.places)) + length (numbers_bytes (all_amounts s.amounts))
    + length (numbers_bytes s.totals) + length (numbers_bytes s.gone) =
    length-ten (codes "CELLOAMR") (bytes_high_first 2 1) (bytes_high_first 4 (length s.params.text)) s.params.text (bytes_high_first 4 s.cycle)
    (bytes_high_first 4 (length s.places)) (numbers_bytes (map packed s.places)) (numbers_bytes (all_amounts s.amounts)) (numbers_bytes s.totals) (numbers_bytes s.gone) in
    let places = length-numbers_bytes (map packed s.places) in
    let many = length-map s.places packed in
    let amounts = length-numbers_bytes (all_amounts s.amounts) in
    let totals = length-numbers_bytes s.totals in
    let gone = length-numbers_bytes s.gone in
    omega (arith, all, places, many, amounts, totals, gone)

-- no more amounts than the blocks can hold
product-few : (leaves blocks fields cells : ℕ) → leaves ≤ blocks → leaves * (fields * cells) ≤ blocks * cells * max 1 fields
product-few leaves blocks fields cells few =
    let a : leaves * (fields * cells) ≤ blocks * (fields * cells) = mul-le-mul_right (fields * cells) few in
    let b : blocks * (fields * cells) ≡ blocks * cells * fields = ap (λ n. blocks * n) (mul_comm fields cells) ∙ sym (mul_assoc blocks cells fields) in
    let c : blocks * cells * fields ≤ blocks * cells * max 1 fields = mul-le-mul_left (blocks * cells) (le-max_right 1 fields) in
    omega (arith, a, b, c)

pub kept-short : (s : SavedState) → IsCheckpoint s → length (bytes_of s) ≤ fetch_limit
kept-short s h =
    let accepted = h.1.1.1.0 in
    let p : Parameters = s.params in
    let w : IsParameters p = accepted-limits accepted.groups p accepted.limits accepted.accepted in
    let cells : ℕ = p.block * p.block * p.block in
    let all = length-parts s in
    let text = w.short_text in
    let leaves : length s.places ≤ p.max_blocks = h.1.1.1.1.1.0 in
    let blocks = w.most_blocks in
    let amounts : length (all_amounts s.amounts) ≤ length s.places * (length p.fields * cells) = amounts-few (state_in s) h.1.1.1.1.1.1.1.0.0 in
    let product : length s.places * (length p.fields * cells) ≤ p.max_blocks * cells * max 1 (length p.fields) =
    product-few (length s.places) p.max_blocks (length p.fields) cells leaves in
    let most : p.max_blocks * cells * max 1 (length p.fields) ≤ 2 ^ 26 = w.amounts in
    let fields : length p.fields ≤ 4 = w.few_fields in
    let totals : length s.totals ≡ length p.fields = h.1.1.1.1.1.1.1.1.0.stated.one_each in
    let gone : length s.gone ≡ length p.fields = h.1.1.1.1.1.1.1.1.1.0.stated.one_each in
    omega (arith, all, text, leaves, blocks, amounts, product, most, fields, totals, gone)

-- so what is fetched of them is all
pub kept-stands : (s : SavedState) → IsCheckpoint s → StandsFor (bytes_of s) (Ok s)
kept-stands s h = (h, take_all fetch_limit (bytes_of s) (kept-short s h))
