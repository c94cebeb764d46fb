-- What each part of a file adds to what it has told.
use Rattle.std.proofs.Common.{◌≡◌, ℕ, ◌+◌, ◌*◌, ◌^◌, ◌<◌, ◌≤◌, List, [], ◌∷◌, ◌++◌, length, map, replicate, slice_index, sum, sum_by, take, drop, codes, length-take-le, inl, inr, refl, sym, ap, subst, ◌∙◌, arith}
use Rattle.std.specs.Int.{bytes_high_first}
use Rattle.std.proofs.lemmas.Bool.{cases_lt}
use Rattle.std.proofs.lemmas.List.{length-append, length-map, length-replicate, get_or-take}
use Rattle.byteorder.specs.Numbers.{length-bytes_high_first}
use Rattle.amount_ledger.specs.Ledgers.{LedgerState, restored_ledger}
use Rattle.block_index.specs.Places.{Cube, Grid, packed}
use Rattle.block_fields.specs.Blocks.{BlockState, amounts_of}
use Rattle.block_fields.specs.BlockStates.{AreBlocksOf}
use Rattle.block_fields.specs.States.{IsState, total}
use Rattle.block_fields.proofs.StatesOfBlocks.{HaveCells-amounts, IsState-state_by, total-state_by}
use Rattle.leaf_set.specs.Tiling.{IsTiling, Tiling}
use Rattle.params_syntax.specs.Limits.{longest}
use Rattle.params_check.specs.Parameters.{IsParameters, Parameters, total_of}
use Rattle.checkpoint.specs.Lemmas.PartEnds.{EndsPlaces, EndsText, IsFirstOff, faulty, misplaced, no_room, starved}
use Rattle.checkpoint.specs.Lemmas.Stages.{EndsRead, StandsBefore, StandsInFront, some_place, told, only_text}
use Rattle.checkpoint.specs.Reading.{AreAccepted, ArePlacesAtFault, AreNumber, AreWords, IsCheckpoint, IsSound, kept_depth, state_in}
use Rattle.checkpoint.specs.SavedStates.{AreZeroFrom}
use Rattle.checkpoint.specs.Spelling.{all_amounts, bytes_of, numbers_bytes}
use Rattle.checkpoint.specs.declared.state.State.{State as Kept}
use Rattle.checkpoint.specs.declared.fault.CheckFault.{CheckFault}
use Rattle.checkpoint.specs.declared.fault.CheckFault.TheVariants as faults
use Rattle.checkpoint.specs.declared.part.Part.TheVariants as parts
use Rattle.checkpoint.proofs.Stages.{extends, goes-on, is-faulty}

-- how many bytes numbers take
pub length-numbers_bytes : (numbers : List ℕ) → length (numbers_bytes numbers) ≡ 8 * length numbers
length-numbers_bytes [] = refl
length-numbers_bytes (n ∷ ns) =
    length-append (bytes_high_first 8 n) (numbers_bytes ns) ∙ (let one = length-bytes_high_first 8 n in let rest = length-numbers_bytes ns in omega (arith, one, rest))

-- the length of the text, of which only the length is known
pub after-text-length : (file left here after : List ℕ) (n : ℕ) → StandsBefore parts.TextLength file (told (only_text []) 0 [] [] [] []) left → here ≡ take 4 left → after ≡ drop 4 left
    → n ≤ longest → AreNumber 4 n here → StandsBefore parts.Text file (told (only_text (replicate n 0)) 0 [] [] [] []) after
after-text-length file left here after n h is_here is_after small is =
    goes-on parts.TextLength parts.Text (parts.Cycle ∷ parts.LeafCount ∷ parts.Places ∷ parts.Amounts ∷ parts.Totals ∷ parts.Gone ∷ []) file
    (told (only_text []) 0 [] [] [] []) (told (only_text (replicate n 0)) 0 [] [] [] []) left here after 4 h is_here is_after refl refl refl (tt, (tt, tt))
    (subst (λ (k : ℕ). k ≤ longest) (sym (length-replicate n 0)) small) (is.bytes_are ∙ ap (bytes_high_first 4) (sym (length-replicate n 0)))

-- the text
pub after-text : (file left here after : List ℕ) (n : ℕ) (p : Parameters) → StandsBefore parts.Text file (told (only_text (replicate n 0)) 0 [] [] [] []) left → here ≡ take n left → after ≡ drop n left
    → n ≤ length left → AreAccepted p → p.text ≡ here → StandsBefore parts.Cycle file (told p 0 [] [] [] []) after
after-text file left here after n p h is_here is_after within accepted is =
    let long : length (replicate n 0) ≡ length p.text = length-replicate n 0 ∙ sym (ap length is ∙ ap length is_here ∙ length-take-le n left within) in
    goes-on parts.Text parts.Cycle (parts.LeafCount ∷ parts.Places ∷ parts.Amounts ∷ parts.Totals ∷ parts.Gone ∷ []) file
    (told (only_text (replicate n 0)) 0 [] [] [] []) (told p 0 [] [] [] []) left here after n h is_here is_after refl refl
    (ap (λ (k : ℕ). codes "CELLOAMR" ++ (bytes_high_first 2 1 ++ (bytes_high_first 4 k ++ []))) long)
    (tt, (tt, (subst (λ (k : ℕ). k ≤ longest) long h.sound.1.1.0, tt))) accepted (sym is)

-- the cycle
pub after-cycle : (file left here after : List ℕ) (p : Parameters) (cycle : ℕ) → StandsBefore parts.Cycle file (told p 0 [] [] [] []) left → here ≡ take 4 left → after ≡ drop 4 left
    → IsSound (told p cycle [] [] [] []) parts.Cycle → AreNumber 4 cycle here → StandsBefore parts.LeafCount file (told p cycle [] [] [] []) after
after-cycle file left here after p cycle h is_here is_after small is =
    goes-on parts.Cycle parts.LeafCount (parts.Places ∷ parts.Amounts ∷ parts.Totals ∷ parts.Gone ∷ []) file
    (told p 0 [] [] [] []) (told p cycle [] [] [] []) left here after 4 h is_here is_after refl refl refl h.sound small is.bytes_are

-- the number of leaves, of which only the number is known
pub after-count : (file left here after : List ℕ) (p : Parameters) (cycle n : ℕ) → StandsBefore parts.LeafCount file (told p cycle [] [] [] []) left → here ≡ take 4 left → after ≡ drop 4 left
    → n ≤ p.max_blocks → AreNumber 4 n here → StandsBefore parts.Places file (told p cycle (replicate n some_place) [] [] []) after
after-count file left here after p cycle n h is_here is_after few is =
    goes-on parts.LeafCount parts.Places (parts.Amounts ∷ parts.Totals ∷ parts.Gone ∷ []) file
    (told p cycle [] [] [] []) (told p cycle (replicate n some_place) [] [] []) left here after 4 h is_here is_after refl refl refl h.sound
    (subst (λ (k : ℕ). k ≤ p.max_blocks) (sym (length-replicate n some_place)) few) (is.bytes_are ∙ ap (bytes_high_first 4) (sym (length-replicate n some_place)))

-- the leaves
pub after-places : (file left here after : List ℕ) (p : Parameters) (cycle n : ℕ) (set : Tiling) → StandsBefore parts.Places file (told p cycle (replicate n some_place) [] [] []) left
    → here ≡ take (8 * n) left → after ≡ drop (8 * n) left → 8 * n ≤ length left → IsTiling set → set.grid ≡ p.grid → here ≡ numbers_bytes (map packed set.places)
    → StandsBefore parts.Amounts file (told p cycle set.places [] [] []) after
after-places file left here after p cycle n set h is_here is_after within tiles grid spelled =
    let many : length set.places ≡ n =
    (let e = sym (length-map set.places packed) in let k = sym (ap length spelled ∙ length-numbers_bytes (map packed set.places)) ∙ ap length is_here ∙ length-take-le (8 * n) left within in omega (arith, e, k)) in
    let long : length (replicate n some_place) ≡ length set.places = length-replicate n some_place ∙ sym many in
    goes-on parts.Places parts.Amounts (parts.Totals ∷ parts.Gone ∷ []) file
    (told p cycle (replicate n some_place) [] [] []) (told p cycle set.places [] [] []) left here after (8 * n) h is_here is_after refl refl
    (ap (λ (k : ℕ). codes "CELLOAMR" ++ (bytes_high_first 2 1 ++ (bytes_high_first 4 (length p.text) ++ (p.text ++ (bytes_high_first 4 cycle ++ (bytes_high_first 4 k ++ [])))))) long)
    (tt, (tt, (h.sound.1.1.0, (h.sound.1.1.1.0, (h.sound.1.1.1.1.0, (subst (λ (k : ℕ). k ≤ p.max_blocks) long h.sound.1.1.1.1.1.0, tt))))))
    (subst (λ (g : Grid). IsTiling (record { grid = g; places = set.places })) grid tiles) spelled

-- the amounts
pub after-amounts : (file left here after : List ℕ) (k : ℕ) (p : Parameters) (cycle : ℕ) (places : List Cube) (blocks : List BlockState) → StandsBefore parts.Amounts file (told p cycle places [] [] []) left
    → here ≡ take k left → after ≡ drop k left → 2 ≤ p.block → AreBlocksOf places p.block (length p.fields) kept_depth blocks → AreWords (all_amounts (map (λ b. b.amounts) blocks)) here
    → StandsBefore parts.Totals file (told p cycle places (map (λ b. b.amounts) blocks) [] []) after
after-amounts file left here after k p cycle places blocks h is_here is_after edge are words =
    let tiles = h.sound.1.1.1.1.1.1.0 in
    let amounts = map (λ (b : BlockState). b.amounts) blocks in
    let state : IsState (state_in (told p cycle places amounts [] [])) =
    subst (λ (l : List Cube). IsState (record { grid = p.grid; edge = p.block; fields = length p.fields; leaves = l; amounts = amounts })) are.places
    (IsState-state_by (λ b. b.amounts) p.grid places p.block (length p.fields) blocks are.places (HaveCells-amounts places p.block (length p.fields) kept_depth blocks are) tiles.domain tiles.mesh tiles.balanced edge) in
    goes-on parts.Amounts parts.Totals (parts.Gone ∷ []) file (told p cycle places [] [] []) (told p cycle places amounts [] []) left here after k h is_here is_after refl refl refl h.sound
    (state, words.fit) words.bytes_are

-- the total of a field over blocks
pub total-told : (p : Parameters) (cycle : ℕ) (places : List Cube) (blocks : List BlockState) (f : ℕ)
    → sum_by (λ b. sum (amounts_of b f)) blocks ≡ total (state_in (told p cycle places (map (λ b. b.amounts) blocks) [] [])) f
total-told p cycle places blocks f = sym (total-state_by (λ b. b.amounts) p.grid p.block (length p.fields) blocks f)

-- the totals
pub after-totals : (file left here after : List ℕ) (k : ℕ) (p : Parameters) (cycle : ℕ) (places : List Cube) (amounts : List (List (List ℕ))) (stated : List ℕ)
    → StandsBefore parts.Totals file (told p cycle places amounts [] []) left → here ≡ take k left → after ≡ drop k left → length p.fields ≤ length stated
    → AreWords (take (length p.fields) stated) here → ((f : ℕ) → f < length p.fields → slice_index stated f ≡ total (state_in (told p cycle places amounts [] [])) f)
    → StandsBefore parts.Gone file (told p cycle places amounts (take (length p.fields) stated) []) after
after-totals file left here after k p cycle places amounts stated h is_here is_after long words same =
    goes-on parts.Totals parts.Gone [] file (told p cycle places amounts [] []) (told p cycle places amounts (take (length p.fields) stated) []) left here after k h is_here is_after refl refl refl h.sound
    (record {
      stated = record { one_each = length-take-le (length p.fields) stated long; fit = words.fit };
      sums = λ f l. get_or-take (length p.fields) stated f 0 l ∙ same f l;
    }) words.bytes_are

-- what has left: the state is whole
pub after-gone : (file left here after : List ℕ) (k : ℕ) (p : Parameters) (cycle : ℕ) (places : List Cube) (amounts : List (List (List ℕ))) (stated gone : List ℕ)
    → StandsBefore parts.Gone file (told p cycle places amounts (take (length p.fields) stated) []) left → here ≡ take k left → after ≡ drop k left → length p.fields ≤ length gone
    → AreWords (take (length p.fields) gone) here → ((f : ℕ) → f < length p.fields → slice_index stated f + slice_index gone f ≡ total_of p f)
    → IsCheckpoint (told p cycle places amounts (take (length p.fields) stated) (take (length p.fields) gone))
    × (file ≡ bytes_of (told p cycle places amounts (take (length p.fields) stated) (take (length p.fields) gone)) ++ after)
after-gone file left here after k p cycle places amounts stated gone h is_here is_after long words balance =
    let F = length p.fields in
    let q = h.sound in
    let totals = q.1.1.1.1.1.1.1.1.0 in
    extends parts.Gone file (told p cycle places amounts (take F stated) []) (told p cycle places amounts (take F stated) (take F gone)) left here after k h is_here is_after refl (
      tt,
      (
        tt,
        (
          q.1.1.0,
          (
            q.1.1.1.0,
            (
              q.1.1.1.1.0,
              (
                q.1.1.1.1.1.0,
                (
                  q.1.1.1.1.1.1.0,
                  (
                    q.1.1.1.1.1.1.1.0,
                    (record { stated = record { one_each = totals.stated.one_each; fit = totals.stated.fit }; sums = totals.sums }, tt),
                  ),
                ),
              ),
            ),
          ),
        ),
      ),
    )
    (record {
      stated = record { one_each = length-take-le F gone long; fit = words.fit };
      sums = λ f l. ap (λ (n : ℕ). n + slice_index (take F gone) f) (get_or-take F stated f 0 l) ∙ ap (λ (n : ℕ). slice_index stated f + n) (get_or-take F gone f 0 l) ∙ balance f l;
    }) words.bytes_are

-- a stated total isn't the sum
pub total-faulty : (file left here after : List ℕ) (k : ℕ) (p : Parameters) (cycle : ℕ) (places : List Cube) (amounts : List (List (List ℕ))) (sums stated : List ℕ) (f : ℕ) (fault : CheckFault)
    → StandsBefore parts.Totals file (told p cycle places amounts [] []) left → here ≡ take k left → after ≡ drop k left → k ≤ length left → k ≡ 8 * length p.fields
    → ((g : ℕ) → g < length p.fields → slice_index sums g ≡ total (state_in (told p cycle places amounts [] [])) g)
    → IsFirstOff here stated (length p.fields) (λ g. slice_index stated g ≡ slice_index sums g) f → fault ≡ faults.Total f (slice_index stated f) (slice_index sums f) → EndsRead file fault
total-faulty file left here after k p cycle places amounts sums stated f fault h is_here is_after within whole sums_are off is =
    let F = length p.fields in
    let s = told p cycle places amounts [] [] in
    let kept : (g : ℕ) → g < F → slice_index (take F stated) g ≡ slice_index stated g = λ g l. get_or-take F stated g 0 l in
    is-faulty parts.Totals file s left here after k fault h is_here is_after within whole (
      take F stated,
      record {
        is = off.words;
        field = f;
        first = record {
          here = record { field = off.field; other = λ e. off.breaks (sym (kept f off.field) ∙ e ∙ sym (sums_are f off.field)) };
          none_before = λ g l o. o.other (kept g o.field ∙ off.kept_before g l ∙ sums_are g o.field);
        };
        fault_is = is ∙ ap (λ (n : ℕ). faults.Total f n (slice_index sums f)) (sym (kept f off.field)) ∙ ap (λ (n : ℕ). faults.Total f (slice_index (take F stated) f) n) (sums_are f off.field);
      },
    )

-- a field is off balance
pub gone-faulty : (file left here after : List ℕ) (k : ℕ) (p : Parameters) (cycle : ℕ) (places : List Cube) (amounts : List (List (List ℕ))) (stated gone : List ℕ) (f : ℕ) (fault : CheckFault)
    → StandsBefore parts.Gone file (told p cycle places amounts (take (length p.fields) stated) []) left → here ≡ take k left → after ≡ drop k left → k ≤ length left → k ≡ 8 * length p.fields
    → IsFirstOff here gone (length p.fields) (λ g. slice_index stated g + slice_index gone g ≡ total_of p g) f
    → fault ≡ faults.Balance f (slice_index stated f + slice_index gone f) (total_of p f) → EndsRead file fault
gone-faulty file left here after k p cycle places amounts stated gone f fault h is_here is_after within whole off is =
    let F = length p.fields in
    let s = told p cycle places amounts (take F stated) [] in
    let kept : (g : ℕ) → g < F → slice_index (take F stated) g + slice_index (take F gone) g ≡ slice_index stated g + slice_index gone g =
    λ g l. ap (λ (n : ℕ). n + slice_index (take F gone) g) (get_or-take F stated g 0 l) ∙ ap (λ (n : ℕ). slice_index stated g + n) (get_or-take F gone g 0 l) in
    is-faulty parts.Gone file s left here after k fault h is_here is_after within whole (
      take F gone,
      record {
        is = off.words;
        field = f;
        first = record {
          here = record { field = off.field; other = λ e. off.breaks (sym (kept f off.field) ∙ e) };
          none_before = λ g l o. o.other (kept g o.field ∙ off.kept_before g l);
        };
        fault_is = is ∙ ap (λ (n : ℕ). faults.Balance f n (total_of p f)) (sym (kept f off.field));
      },
    )

-- what is there and what has left is no more than an initial total may be
pub restored-limit : (p : Parameters) (stated gone : List ℕ) → IsParameters p → ((f : ℕ) → f < length p.fields → slice_index stated f + slice_index gone f ≡ total_of p f)
    → AreZeroFrom (length p.fields) stated → AreZeroFrom (length p.fields) gone → (f : ℕ) → slice_index stated f + slice_index gone f ≤ 2 ^ 40
restored-limit p stated gone limits balance no_total no_gone f =
    elim (cases_lt f (length p.fields)) [
      | inl l ↦ let e = balance f l in let m = limits.totals f l in omega (arith, e, m)
      | inr l ↦ let a = no_total f l in let b = no_gone f l in omega (arith, a, b)
    ]

-- the state that was read
pub at-end : (file after : List ℕ) (s : Kept) (l : LedgerState) (total gone : List ℕ) → l ≡ restored_ledger total gone
    → IsCheckpoint (told s.params s.cycle s.set.places (map (λ b. b.amounts) s.blocks.items) (take (length s.params.fields) total) (take (length s.params.fields) gone))
    × (file ≡ bytes_of (told s.params s.cycle s.set.places (map (λ b. b.amounts) s.blocks.items) (take (length s.params.fields) total) (take (length s.params.fields) gone)) ++ after)
    → s.set.grid ≡ s.params.grid → AreBlocksOf s.set.places s.params.block (length s.params.fields) kept_depth s.blocks.items
    → AreZeroFrom (length s.params.fields) total → AreZeroFrom (length s.params.fields) gone → StandsInFront file (record s { ledger = l }) after
at-end file after s l total gone is both grid blocks no_total no_gone =
    subst (λ (m : LedgerState). StandsInFront file (record s { ledger = m }) after) (sym is) (record {
      kept = both.0;
      bytes_are = both.1;
      grid = grid;
      blocks = blocks;
      ledger = refl;
      no_total = no_total;
      no_gone = no_gone;
    })

-- the text is at fault, or memory was refused
pub text-ends : (file left here after : List ℕ) (n : ℕ) (fault : CheckFault) → StandsBefore parts.Text file (told (only_text (replicate n 0)) 0 [] [] [] []) left → here ≡ take n left → after ≡ drop n left
    → n ≤ length left → EndsText here fault → EndsRead file fault
text-ends file left here after n fault h is_here is_after within (faulty bad) =
    let s = told (only_text (replicate n 0)) 0 [] [] [] [] in
    is-faulty parts.Text file s left here after n fault h is_here is_after within (sym (length-replicate n 0)) (bad s)
text-ends file left here after n fault h is_here is_after within (starved e) = inl e

-- the places are at fault, or memory was refused
pub places-end : (file left here after : List ℕ) (p : Parameters) (cycle n : ℕ) (grid : Grid) (fault : CheckFault) → StandsBefore parts.Places file (told p cycle (replicate n some_place) [] [] []) left
    → here ≡ take (8 * n) left → after ≡ drop (8 * n) left → 8 * n ≤ length left → grid ≡ p.grid → EndsPlaces grid here fault → EndsRead file fault
places-end file left here after p cycle n grid fault h is_here is_after within same (misplaced bad) =
    let s = told p cycle (replicate n some_place) [] [] [] in
    is-faulty parts.Places file s left here after (8 * n) fault h is_here is_after within (ap (λ (k : ℕ). 8 * k) (sym (length-replicate n some_place)))
    (subst (λ (g : Grid). ArePlacesAtFault g here fault) same bad)
places-end file left here after p cycle n grid fault h is_here is_after within same (no_room e) = inl e
