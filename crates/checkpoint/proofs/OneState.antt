-- Bytes are the spelling of one state: what each part's bytes tell.
use Rattle.std.proofs.Common.{◌≡◌, ℕ, ◌+◌, ◌*◌, ◌^◌, ◌<◌, All, List, [], ◌∷◌, ◌++◌, codes, length, map, slice_index, slice_index_or, take, drop, refl, sym, ap, subst, ◌∙◌, arith}
use Rattle.std.specs.Int.{bytes_high_first}
use Rattle.std.specs.List.{flat_map}
use Rattle.std.proofs.Math.Nat.{add-mul}
use Rattle.std.proofs.lemmas.List.{length-append, length-map, take_at, drop_at}
use Rattle.std.proofs.lemmas.List.Elements.{All-head, All-map, All-tail, All-weaker}
use Rattle.std.proofs.lemmas.Option.{slice_get-get_or}
use Rattle.byteorder.specs.Endian.{big_from}
use Rattle.byteorder.specs.Numbers.{big_number-reads_back, length-bytes_high_first}
use Rattle.block_index.specs.Places.{Cube, IsPlace, packed}
use Rattle.block_fields.specs.States.{State, IsState}
use Rattle.leaf_set.specs.Tiling.{IsTiling, Tiling}
use Rattle.leaf_set.proofs.Stretches.{IsPlace-IsInside}
use Rattle.params_check.specs.Parameters.{Parameters}
use Rattle.params_check.proofs.NoFaults.{accepted-limits}
use Rattle.checkpoint.specs.Parts.{parts_of_version_1}
use Rattle.checkpoint.specs.Reading.{AreAccepted, FitWords, IsCheckpoint, state_in}
use Rattle.checkpoint.specs.SavedStates.{SavedState}
use Rattle.checkpoint.specs.Spelling.{all_amounts, bytes_of, numbers_bytes, part_bytes}
use Rattle.checkpoint.proofs.PlaceWords.{packed-fits}
use Rattle.checkpoint.proofs.StageParts.{length-numbers_bytes}
use Rattle.checkpoint.proofs.Texts.{one-accepted}

-- two lists that are made of a front and a rest, where the fronts are as long
pub split-same : (a b c d : List ℕ) → length a ≡ length c → a ++ b ≡ c ++ d → (a ≡ c) × (b ≡ d)
split-same a b c d long e = (
  sym (take_at a b (length c) long) ∙ ap (take (length c)) e ∙ take_at c d (length c) refl,
  sym (drop_at a b (length c) long) ∙ ap (drop (length c)) e ∙ drop_at c d (length c) refl,
)

-- a number is told by its bytes
pub same-number : (k n m : ℕ) → n < 256 ^ k → m < 256 ^ k → bytes_high_first k n ≡ bytes_high_first k m → n ≡ m
same-number k n m hn hm e =
    sym (big_number-reads_back k n [] hn) ∙ ap (λ (l : List ℕ). big_from 0 k (l ++ [])) e ∙ big_number-reads_back k m [] hm

-- as many numbers
same-words-of : (v w : List ℕ) → FitWords v → FitWords w → length v ≡ length w → numbers_bytes v ≡ numbers_bytes w → v ≡ w
same-words-of [] [] hv hw long e = refl
same-words-of [] (y ∷ ys) hv hw long e = absurd (omega (arith, long))
same-words-of (x ∷ xs) [] hv hw long e = absurd (omega (arith, long))
same-words-of (x ∷ xs) (y ∷ ys) hv hw long e =
    let P : ℕ → Type 0 = λ n. n < 2 ^ 64 in
    let s = split-same (bytes_high_first 8 x) (numbers_bytes xs) (bytes_high_first 8 y) (numbers_bytes ys) (length-bytes_high_first 8 x ∙ sym (length-bytes_high_first 8 y)) e in
    let here : x ≡ y = same-number 8 x y (All-head P x xs hv) (All-head P y ys hw) s.0 in
    let rest : xs ≡ ys = same-words-of xs ys (All-tail P x xs hv) (All-tail P y ys hw) (omega (arith, long)) s.1 in
    λ i. here i ∷ rest i

-- numbers are told by their bytes
pub same-words : (v w : List ℕ) → FitWords v → FitWords w → numbers_bytes v ≡ numbers_bytes w → v ≡ w
same-words v w hv hw e =
    let a = length-numbers_bytes v in
    let b = length-numbers_bytes w in
    let c = ap length e in
    same-words-of v w hv hw (omega (arith, a, b, c)) e

-- lists of one length are told by what they are joined to
pub same-lists : (k : ℕ) (xs ys : List (List ℕ)) → length xs ≡ length ys → All (λ l. length l ≡ k) xs → All (λ l. length l ≡ k) ys
    → flat_map (λ l. l) xs ≡ flat_map (λ l. l) ys → xs ≡ ys
same-lists k [] [] long hx hy e = refl
same-lists k [] (y ∷ ys) long hx hy e = absurd (omega (arith, long))
same-lists k (x ∷ xs) [] long hx hy e = absurd (omega (arith, long))
same-lists k (x ∷ xs) (y ∷ ys) long hx hy e =
    let P : List ℕ → Type 0 = λ l. length l ≡ k in
    let s = split-same x (flat_map (λ l. l) xs) y (flat_map (λ l. l) ys) (All-head P x xs hx ∙ sym (All-head P y ys hy)) e in
    let here : x ≡ y = s.0 in
    let rest : xs ≡ ys = same-lists k xs ys (omega (arith, long)) (All-tail P x xs hx) (All-tail P y ys hy) s.1 in
    λ i. here i ∷ rest i

-- how long joined lists of one length are
length-joined : (k : ℕ) (xs : List (List ℕ)) → All (λ l. length l ≡ k) xs → length (flat_map (λ l. l) xs) ≡ length xs * k
length-joined k [] h = omega arith
length-joined k (x ∷ xs) h =
    let P : List ℕ → Type 0 = λ l. length l ≡ k in
    let here : length x ≡ k = All-head P x xs h in
    let rest = length-joined k xs (All-tail P x xs h) in
    let all = length-append x (flat_map (λ l. l) xs) in
    let more : (length xs + 1) * k ≡ length xs * k + 1 * k = add-mul (length xs) 1 k in
    let many : length (x ∷ xs) * k ≡ (length xs + 1) * k = ap (λ (n : ℕ). n * k) (omega arith) in
    omega (arith, here, rest, all, more, many)

-- for each field, so many amounts
abbrev pub IsShaped : ℕ → ℕ → List (List ℕ) → Type 0
IsShaped fields k block = (length block ≡ fields) × All (λ l. length l ≡ k) block

length-block : (fields k : ℕ) (block : List (List ℕ)) → IsShaped fields k block → length (flat_map (λ l. l) block) ≡ fields * k
length-block fields k block h = length-joined k block h.1 ∙ ap (λ (n : ℕ). n * k) h.0

pub length-blocks : (fields k : ℕ) (blocks : List (List (List ℕ))) → All (IsShaped fields k) blocks → length (all_amounts blocks) ≡ length blocks * (fields * k)
length-blocks fields k [] h = omega arith
length-blocks fields k (x ∷ xs) h =
    let here = length-block fields k x (All-head (IsShaped fields k) x xs h) in
    let rest = length-blocks fields k xs (All-tail (IsShaped fields k) x xs h) in
    let all = length-append (flat_map (λ l. l) x) (all_amounts xs) in
    let more : (length xs + 1) * (fields * k) ≡ length xs * (fields * k) + 1 * (fields * k) = add-mul (length xs) 1 (fields * k) in
    let many : length (x ∷ xs) * (fields * k) ≡ (length xs + 1) * (fields * k) = ap (λ (n : ℕ). n * (fields * k)) (omega arith) in
    omega (arith, here, rest, all, more, many)

-- the amounts of blocks of one shape are told by what they are joined to
pub same-blocks : (fields k : ℕ) (xs ys : List (List (List ℕ))) → length xs ≡ length ys → All (IsShaped fields k) xs → All (IsShaped fields k) ys → all_amounts xs ≡ all_amounts ys → xs ≡ ys
same-blocks fields k [] [] long hx hy e = refl
same-blocks fields k [] (y ∷ ys) long hx hy e = absurd (omega (arith, long))
same-blocks fields k (x ∷ xs) [] long hx hy e = absurd (omega (arith, long))
same-blocks fields k (x ∷ xs) (y ∷ ys) long hx hy e =
    let P = IsShaped fields k in
    let p = All-head P x xs hx in
    let q = All-head P y ys hy in
    let s = split-same (flat_map (λ l. l) x) (all_amounts xs) (flat_map (λ l. l) y) (all_amounts ys) (length-block fields k x p ∙ sym (length-block fields k y q)) e in
    let here : x ≡ y = same-lists k x y (p.0 ∙ sym q.0) p.1 q.1 s.0 in
    let rest : xs ≡ ys = same-blocks fields k xs ys (omega (arith, long)) (All-tail P x xs hx) (All-tail P y ys hy) s.1 in
    λ i. here i ∷ rest i

-- places are told by their words
pub same-places : (one : (a c : Cube) → IsPlace a → IsPlace c → packed a ≡ packed c → a ≡ c) (xs ys : List Cube) → All IsPlace xs → All IsPlace ys → map packed xs ≡ map packed ys → xs ≡ ys
same-places one [] [] hx hy e = refl
same-places one [] (y ∷ ys) hx hy e = let l : 0 ≡ length (map packed ys) + 1 = ap length e ∙ omega arith in absurd (omega (arith, l))
same-places one (x ∷ xs) [] hx hy e = let l : length (map packed xs) + 1 ≡ 0 = omega arith ∙ ap length e in absurd (omega (arith, l))
same-places one (x ∷ xs) (y ∷ ys) hx hy e =
    let here : x ≡ y = one x y (All-head IsPlace x xs hx) (All-head IsPlace y ys hy) (ap (λ l. slice_index l 0) e) in
    let rest : xs ≡ ys = same-places one xs ys (All-tail IsPlace x xs hx) (All-tail IsPlace y ys hy) (ap (drop 1) e) in
    λ i. here i ∷ rest i

pub places-fit : (xs : List Cube) → All IsPlace xs → FitWords (map packed xs)
places-fit xs h = All-map (λ n. n < 2 ^ 64) packed xs (All-weaker IsPlace (λ c. packed c < 2 ^ 64) (λ c p. packed-fits c p) xs h)

pub are-places : (t : Tiling) → IsTiling t → All IsPlace t.places
are-places t h = λ i d l. IsPlace-IsInside t.grid (slice_index_or t.places i d) h.domain (h.mesh.inside i (slice_index_or t.places i d) (slice_get-get_or t.places i d l))

pub are-shaped : (s : State) → IsState s → All (IsShaped s.fields (s.edge * s.edge * s.edge)) s.amounts
are-shaped s h = λ i d l.
    let block = slice_index_or s.amounts i d in
    let at = slice_get-get_or s.amounts i d l in
    (h.all_fields i block at, λ j e m. h.all_cells i j block (slice_index_or block j e) at (slice_get-get_or block j e m))

-- bytes are the spelling of one state
pub one-state : (one : (a c : Cube) → IsPlace a → IsPlace c → packed a ≡ packed c → a ≡ c) (s t : SavedState) → IsCheckpoint s → IsCheckpoint t → bytes_of s ≡ bytes_of t → s ≡ t
one-state one s t h k e =
    let tail : ℕ → SavedState → List ℕ = λ n u. flat_map (part_bytes u) (drop n parts_of_version_1) in
    let four : (n m : ℕ) → length (bytes_high_first 4 n) ≡ length (bytes_high_first 4 m) = λ n m. length-bytes_high_first 4 n ∙ sym (length-bytes_high_first 4 m) in
    let words : (v w : List ℕ) → length v ≡ length w → length (numbers_bytes v) ≡ length (numbers_bytes w) =
    λ v w l. length-numbers_bytes v ∙ ap (λ (n : ℕ). 8 * n) l ∙ sym (length-numbers_bytes w) in
    let e1 = split-same (codes "CELLOAMR") (tail 1 s) (codes "CELLOAMR") (tail 1 t) refl e in
    let e2 = split-same (bytes_high_first 2 1) (tail 2 s) (bytes_high_first 2 1) (tail 2 t) refl e1.1 in
    let e3 = split-same (bytes_high_first 4 (length s.params.text)) (tail 3 s) (bytes_high_first 4 (length t.params.text)) (tail 3 t) (four (length s.params.text) (length t.params.text)) e2.1 in
    let text : length s.params.text ≡ length t.params.text =
    same-number 4 (length s.params.text) (length t.params.text) (omega (arith, h.1.1.0)) (omega (arith, k.1.1.0)) e3.0 in
    let e4 = split-same s.params.text (tail 4 s) t.params.text (tail 4 t) text e3.1 in
    let params : s.params ≡ t.params = one-accepted s.params t.params h.1.1.1.0 k.1.1.1.0 e4.0 in
    let limits = λ (p : Parameters) (a : AreAccepted p). accepted-limits a.groups p a.limits a.accepted in
    let e5 = split-same (bytes_high_first 4 s.cycle) (tail 5 s) (bytes_high_first 4 t.cycle) (tail 5 t) (four s.cycle t.cycle) e4.1 in
    let cycle : s.cycle ≡ t.cycle = same-number 4 s.cycle t.cycle (omega (arith, h.1.1.1.1.0)) (omega (arith, k.1.1.1.1.0)) e5.0 in
    let e6 = split-same (bytes_high_first 4 (length s.places)) (tail 6 s) (bytes_high_first 4 (length t.places)) (tail 6 t) (four (length s.places) (length t.places)) e5.1 in
    let few = (limits s.params h.1.1.1.0).most_blocks in
    let few' = (limits t.params k.1.1.1.0).most_blocks in
    let count : length s.places ≡ length t.places =
    same-number 4 (length s.places) (length t.places) (omega (arith, h.1.1.1.1.1.0, few)) (omega (arith, k.1.1.1.1.1.0, few')) e6.0 in
    let mapped : length (map packed s.places) ≡ length (map packed t.places) = length-map s.places packed ∙ count ∙ sym (length-map t.places packed) in
    let e7 = split-same (numbers_bytes (map packed s.places)) (tail 7 s) (numbers_bytes (map packed t.places)) (tail 7 t) (words (map packed s.places) (map packed t.places) mapped) e6.1 in
    let in_s = are-places (record { grid = s.params.grid; places = s.places }) h.1.1.1.1.1.1.0 in
    let in_t = are-places (record { grid = t.params.grid; places = t.places }) k.1.1.1.1.1.1.0 in
    let places : s.places ≡ t.places =
    same-places one s.places t.places in_s in_t (same-words (map packed s.places) (map packed t.places) (places-fit s.places in_s) (places-fit t.places in_t) e7.0) in
    let cells : Parameters → ℕ = λ p. p.block * p.block * p.block in
    let a = h.1.1.1.1.1.1.1.0 in
    let b = k.1.1.1.1.1.1.1.0 in
    let shaped : All (IsShaped (length s.params.fields) (cells s.params)) s.amounts = are-shaped (state_in s) a.0 in
    let shaped' : All (IsShaped (length s.params.fields) (cells s.params)) t.amounts =
    subst (λ (p : Parameters). All (IsShaped (length p.fields) (cells p)) t.amounts) (sym params) (are-shaped (state_in t) b.0) in
    let blocks : length s.amounts ≡ length t.amounts = a.0.one_each ∙ count ∙ sym b.0.one_each in
    let all : length (all_amounts s.amounts) ≡ length (all_amounts t.amounts) =
    length-blocks (length s.params.fields) (cells s.params) s.amounts shaped ∙ ap (λ (n : ℕ). n * (length s.params.fields * cells s.params)) blocks
    ∙ sym (length-blocks (length s.params.fields) (cells s.params) t.amounts shaped') in
    let e8 = split-same (numbers_bytes (all_amounts s.amounts)) (tail 8 s) (numbers_bytes (all_amounts t.amounts)) (tail 8 t) (words (all_amounts s.amounts) (all_amounts t.amounts) all) e7.1 in
    let amounts : s.amounts ≡ t.amounts =
    same-blocks (length s.params.fields) (cells s.params) s.amounts t.amounts blocks shaped shaped' (same-words (all_amounts s.amounts) (all_amounts t.amounts) a.1 b.1 e8.0) in
    let names : length s.params.fields ≡ length t.params.fields = ap (λ (p : Parameters). length p.fields) params in
    let x = h.1.1.1.1.1.1.1.1.0 in
    let y = k.1.1.1.1.1.1.1.1.0 in
    let e9 = split-same (numbers_bytes s.totals) (tail 9 s) (numbers_bytes t.totals) (tail 9 t) (words s.totals t.totals (x.stated.one_each ∙ names ∙ sym y.stated.one_each)) e8.1 in
    let totals : s.totals ≡ t.totals = same-words s.totals t.totals x.stated.fit y.stated.fit e9.0 in
    let v = h.1.1.1.1.1.1.1.1.1.0 in
    let w = k.1.1.1.1.1.1.1.1.1.0 in
    let e10 = split-same (numbers_bytes s.gone) [] (numbers_bytes t.gone) [] (words s.gone t.gone (v.stated.one_each ∙ names ∙ sym w.stated.one_each)) e9.1 in
    let gone : s.gone ≡ t.gone = same-words s.gone t.gone v.stated.fit w.stated.fit e10.0 in
    λ i. record { params = params i; cycle = cycle i; places = places i; amounts = amounts i; totals = totals i; gone = gone i }
