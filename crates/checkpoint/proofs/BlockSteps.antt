-- Fields and blocks that are read one after another.
use Rattle.std.proofs.Common.{◌≡◌, ℕ, ◌+◌, ◌*◌, ◌^◌, ◌<◌, ◌≤◌, List, [], ◌∷◌, ◌++◌, length, map, take, drop, get_or, slice_index, slice_index_or, slice_set, sum, inl, inr, sym, ap, subst, ◌∙◌, arith}
use Rattle.std.specs.List.{flat_map}
use Rattle.std.proofs.Math.Nat.{add-mul, mul-le-mul_right}
use Rattle.std.proofs.lemmas.Bool.{cases_lt}
use Rattle.std.proofs.lemmas.List.{append-nil, map-append, get_or-set_same, get_or-set_other, take_all, take_more, take_more_set, length-set}
use Rattle.std.proofs.lemmas.List.Concat.{flat_map-append}
use Rattle.std.proofs.lemmas.List.Elements.{All-push, All-get_or}
use Rattle.std.proofs.lemmas.List.Sums.{sum_by_push}
use Rattle.std.proofs.lemmas.Option.{slice_get_within, get_or_from_slice_get}
use Rattle.block_index.specs.Places.{Cube}
use Rattle.block_fields.specs.Blocks.{BlockState, amounts_of}
use Rattle.block_fields.specs.BlockStates.{AreBlocksOf, IsBlockOf}
use Rattle.block_fields.specs.Lending.{refilled, with_field}
use Rattle.block_fields.proofs.Lendings.{refilled-whole}
use Rattle.checkpoint.specs.Lemmas.AmountSteps.{BlocksRead, FieldsRead}
use Rattle.checkpoint.specs.Reading.{AreWords, kept_depth}
use Rattle.checkpoint.specs.Spelling.{all_amounts}
use Rattle.checkpoint.proofs.WordLists.{AreWords-append, take-seam}

-- one part more, all of one size
pub next-part : (size i : ℕ) → (i + 1) * size ≡ i * size + size
next-part size i = add-mul i 1 size ∙ omega arith

-- a part of those that there are ends within them
pub part-within : (size i count : ℕ) → i < count → i * size + size ≤ count * size
part-within size i count l = let e = next-part size i in let m = mul-le-mul_right {m = i + 1} {n = count} size (omega (arith, l)) in omega (arith, e, m)

-- one field more
pub FieldsRead-more : (size : ℕ) (bytes : List ℕ) (f : ℕ) (b : BlockState) (old sums w : List ℕ) (total : ℕ) → FieldsRead size bytes f b old sums
    → f < length b.amounts → length w ≡ length (amounts_of b f) → f < length sums → f * size + size ≤ length bytes
    → AreWords w (take size (drop (f * size) bytes)) → total ≡ sum w → total ≤ 2 ^ 76
    → FieldsRead size bytes (f + 1) (with_field b f w) old (slice_set sums f (slice_index sums f + total))
FieldsRead-more size bytes f b old sums w total h below long within room words sum_is small =
    let new = refilled (amounts_of b f) w in
    let whole : new ≡ w = refilled-whole (amounts_of b f) w long in
    let lists : List (List ℕ) = b.amounts in
    let sums' = slice_set sums f (slice_index sums f + total) in
    let list : take (f + 1) (slice_set lists f new) ≡ take f lists ++ w ∷ [] = take_more_set lists f new below ∙ ap (λ (q : List ℕ). take f lists ++ q ∷ []) whole in
    let here : take ((f + 1) * size) bytes ≡ take (f * size) bytes ++ take size (drop (f * size) bytes) =
    ap (λ (n : ℕ). take n bytes) (next-part size f) ∙ take-seam (f * size) size bytes (omega (arith, room)) in
    let all : flat_map (λ (q : List ℕ). q) (take (f + 1) (slice_set lists f new)) ≡ flat_map (λ (q : List ℕ). q) (take f lists) ++ w =
    ap (flat_map (λ (q : List ℕ). q)) list ∙ flat_map-append (λ (q : List ℕ). q) (take f lists) (w ∷ []) ∙ ap (λ (q : List ℕ). flat_map (λ (q : List ℕ). q) (take f lists) ++ q) (append-nil w) in
    let same_field : slice_index_or (slice_set lists f new) f [] ≡ w = get_or-set_same lists f new [] below ∙ whole in
    let other_field : (g : ℕ) → g < f → slice_index_or (slice_set lists f new) g [] ≡ slice_index_or lists g [] = λ g l. get_or-set_other lists f g new [] (λ e. omega (arith, e, l)) in
    let same_sum : slice_index sums' f ≡ slice_index sums f + total = get_or-set_same sums f (slice_index sums f + total) 0 within in
    let other_sum : (g : ℕ) → (g ≡ f → ⊥) → slice_index sums' g ≡ slice_index sums g = λ g ne. get_or-set_other sums f g (slice_index sums f + total) 0 ne in
    record {
      words = rw (all, here) (AreWords-append (flat_map (λ (q : List ℕ). q) (take f lists)) w (take (f * size) bytes) (take size (drop (f * size) bytes)) h.words words);
      long = length-set sums f (slice_index sums f + total) ∙ h.long;
      added = λ g l. elim (cases_lt g f) [
        | inl less ↦ other_sum g (λ e. omega (arith, e, less)) ∙ h.added g less ∙ ap (λ (q : List ℕ). slice_index old g + sum q) (sym (other_field g less))
        | inr more ↦
            let e : f ≡ g = omega (arith, l, more) in
            subst (λ (k : ℕ). slice_index sums' k ≡ slice_index old k + sum (slice_index_or (slice_set lists f new) k [])) e
            (same_sum ∙ ap (λ (n : ℕ). n + total) (h.kept f (omega arith)) ∙ ap (λ (n : ℕ). slice_index old f + n) (sum_is ∙ ap sum (sym same_field)))
      ];
      kept = λ g l. other_sum g (λ e. omega (arith, e, l)) ∙ h.kept g (omega (arith, l));
      limit = λ g l. elim (cases_lt g f) [
        | inl less ↦ subst (λ (q : List ℕ). sum q ≤ 2 ^ 76) (sym (other_field g less)) (h.limit g less)
        | inr more ↦
            let e : f ≡ g = omega (arith, l, more) in
            subst (λ (k : ℕ). sum (slice_index_or (slice_set lists f new) k []) ≤ 2 ^ 76) e
            (subst (λ (q : List ℕ). sum q ≤ 2 ^ 76) (sym same_field) (subst (λ (n : ℕ). n ≤ 2 ^ 76) sum_is small))
      ];
    }

-- one block more
pub BlocksRead-more : (size n fields : ℕ) (places : List Cube) (bytes : List ℕ) (i : ℕ) (blocks : List BlockState) (old sums : List ℕ) (b : BlockState)
    → BlocksRead size n fields places bytes i blocks old → i < length places → b.place ≡ get_or places i b.place → i * size + size ≤ length bytes → IsBlockOf n fields kept_depth b
    → AreWords (flat_map (λ (q : List ℕ). q) b.amounts) (take size (drop (i * size) bytes))
    → ((g : ℕ) → g < fields → slice_index sums g ≡ slice_index old g + sum (amounts_of b g)) → ((g : ℕ) → g < fields → sum (amounts_of b g) ≤ 2 ^ 76)
    → BlocksRead size n fields places bytes (i + 1) (blocks ++ b ∷ []) sums
BlocksRead-more size n fields places bytes i blocks old sums b h below place room of words added small =
    let lists : List BlockState → List (List (List ℕ)) = map (λ (b : BlockState). b.amounts) in
    let here : take ((i + 1) * size) bytes ≡ take (i * size) bytes ++ take size (drop (i * size) bytes) =
    ap (λ (n : ℕ). take n bytes) (next-part size i) ∙ take-seam (i * size) size bytes (omega (arith, room)) in
    let all : all_amounts (lists (blocks ++ b ∷ [])) ≡ all_amounts (lists blocks) ++ flat_map (λ (q : List ℕ). q) b.amounts =
    ap all_amounts (map-append (λ (b : BlockState). b.amounts) blocks (b ∷ []))
    ∙ flat_map-append (λ (fields : List (List ℕ)). flat_map (λ (q : List ℕ). q) fields) (lists blocks) (b.amounts ∷ [])
    ∙ ap (λ (q : List ℕ). all_amounts (lists blocks) ++ q) (append-nil (flat_map (λ (q : List ℕ). q) b.amounts)) in
    record {
      words = rw (all, here) (AreWords-append (all_amounts (lists blocks)) (flat_map (λ (q : List ℕ). q) b.amounts) (take (i * size) bytes) (take size (drop (i * size) bytes)) h.words words);
      places_are = map-append (λ (b : BlockState). b.place) blocks (b ∷ []) ∙ ap (λ (l : List Cube). l ++ b.place ∷ []) h.places_are
          ∙ ap (λ (p : Cube). take i places ++ p ∷ []) place ∙ sym (take_more places i b.place below);
      each = All-push (IsBlockOf n fields kept_depth) blocks b h.each of;
      sums_are = λ g l. added g l ∙ ap (λ (m : ℕ). m + sum (amounts_of b g)) (h.sums_are g l) ∙ sym (sum_by_push (λ (b : BlockState). sum (amounts_of b g)) blocks b);
      limit = λ g l. omega (arith, added g l, h.limit g l, small g l);
    }

-- all blocks are read
pub BlocksRead-blocks : (size n fields : ℕ) (places : List Cube) (bytes : List ℕ) (i : ℕ) (blocks : List BlockState) (sums : List ℕ) → BlocksRead size n fields places bytes i blocks sums
    → length places ≤ i → AreBlocksOf places n fields kept_depth blocks
BlocksRead-blocks size n fields places bytes i blocks sums h past = record {
  places = h.places_are ∙ take_all i places past;
  each = λ j b at.
      let f = slice_get_within blocks j b at in
      subst (IsBlockOf n fields kept_depth) (get_or_from_slice_get blocks j b b at) (All-get_or (IsBlockOf n fields kept_depth) blocks j b f h.each);
}
