-- Words are those of places, or a first one is no place; numbers are the amounts of blocks.
use Rattle.std.proofs.Common.{◌≡◌, ℕ, zero, suc, ◌+◌, ◌*◌, ◌^◌, ◌<◌, ◌≤◌, ◌⊎◌, inl, inr, All, List, [], ◌∷◌, ◌++◌, Some, length, map, get_or, slice_get, take, drop, take-append-drop, length-take-le, length-drop, refl, sym, ap, subst, ◌∙◌, arith}
use Rattle.std.specs.Int.{bytes_high_first}
use Rattle.std.specs.List.{flat_map}
use Rattle.std.proofs.Math.Nat.{add-mul, pow-le-pow_right}
use Rattle.std.proofs.lemmas.Bool.{cases_eq, cases_lt}
use Rattle.std.proofs.lemmas.List.Elements.{All-cons, All-get_or, All-head, All-nil, All-tail}
use Rattle.std.proofs.lemmas.Option.{get_or_from_slice_get, slice_get_within}
use Rattle.block_index.specs.Places.{Cube, IsPlace, packed}
use Rattle.leaf_set.specs.LeafFaults.{IsFirst}
use Rattle.checkpoint.specs.Reading.{AreWords, FitWords, IsNoPlace}
use Rattle.checkpoint.specs.Spelling.{all_amounts, numbers_bytes}
use Rattle.checkpoint.proofs.FirstCases.{first-or-none, some-or-none}
use Rattle.checkpoint.proofs.OnePartFault.{word-here}
use Rattle.checkpoint.proofs.OneState.{IsShaped, same-number}
use Rattle.checkpoint.proofs.PlaceWords.{packed-fits}
use Rattle.checkpoint.proofs.StageParts.{length-numbers_bytes}

-- ---- a word and a place

IsPlace-cases : (c : Cube) → IsPlace c ⊎ (IsPlace c → ⊥)
IsPlace-cases c =
    elim (cases_lt 6 c.level) [
      | inl deep ↦ inr (λ i. let l = i.level in omega (arith, l, deep))
      | inr level ↦
          elim (cases_lt c.x (16 * 2 ^ c.level)) [
            | inr past ↦ inr (λ i. let l = i.x in omega (arith, l, past))
            | inl x ↦
                elim (cases_lt c.y (16 * 2 ^ c.level)) [
                  | inr past ↦ inr (λ i. let l = i.y in omega (arith, l, past))
                  | inl y ↦
                      elim (cases_lt c.z (16 * 2 ^ c.level)) [
                        | inr past ↦ inr (λ i. let l = i.z in omega (arith, l, past))
                        | inl z ↦ inl (record { level = level; x = x; y = y; z = z })
                      ]
                ]
          ]
    ]

-- how far a place lies
place-limits : (c : Cube) → IsPlace c → (c.level < 7) × (c.z < 1024) × (c.y < 1024) × (c.x < 1024)
place-limits c h =
    let wide : 2 ^ c.level ≤ 2 ^ 6 = pow-le-pow_right {n = 2} (omega arith) h.level in
    let l = h.level in
    let x = h.x in
    let y = h.y in
    let z = h.z in
    (omega (arith, l), omega (arith, wide, z), omega (arith, wide, y), omega (arith, wide, x))

-- a word is that of a place
pub record IsWordOf (word : ℕ) (c : Cube) : Type 0 where
  pub limits : IsPlace c
  pub packs : packed c ≡ word

cube : ℕ → ℕ → ℕ → ℕ → Cube
cube l z y x = record { level = l; x = x; y = y; z = z }

cube-is : (c : Cube) → cube c.level c.z c.y c.x ≡ c
unfolding cube
cube-is c = refl

word-cases : (word : ℕ) (c : Cube) → IsWordOf word c ⊎ (IsWordOf word c → ⊥)
word-cases word c =
    elim (IsPlace-cases c) [
      | inr not ↦ inr (λ h. not h.limits)
      | inl limits ↦ elim (cases_eq (packed c) word) [ inl e ↦ inl (record { limits = limits; packs = e }) | inr not ↦ inr (λ h. not h.packs) ]
    ]

pub place-cases : (word : ℕ) → ((c : Cube) × IsWordOf word c) ⊎ ((c : Cube) → IsWordOf word c → ⊥)
place-cases word =
    let X : ℕ → ℕ → ℕ → ℕ → Type 0 = λ l z y x. IsWordOf word (cube l z y x) in
    let Y : ℕ → ℕ → ℕ → Type 0 = λ l z y. (x : ℕ) × (x < 1024) × X l z y x in
    let Z : ℕ → ℕ → Type 0 = λ l z. (y : ℕ) × (y < 1024) × Y l z y in
    let L : ℕ → Type 0 = λ l. (z : ℕ) × (z < 1024) × Z l z in
    let on_y : (l z y : ℕ) → Y l z y ⊎ (Y l z y → ⊥) = λ l z y.
    elim (some-or-none (X l z y) (λ x. word-cases word (cube l z y x)) 1024) [ inl h ↦ inl h | inr none ↦ inr (λ h. none h.0 h.1 h.2) ] in
    let on_z : (l z : ℕ) → Z l z ⊎ (Z l z → ⊥) = λ l z.
    elim (some-or-none (Y l z) (on_y l z) 1024) [ inl h ↦ inl h | inr none ↦ inr (λ h. none h.0 h.1 h.2) ] in
    let on_l : (l : ℕ) → L l ⊎ (L l → ⊥) = λ l.
    elim (some-or-none (Z l) (on_z l) 1024) [ inl h ↦ inl h | inr none ↦ inr (λ h. none h.0 h.1 h.2) ] in
    elim (some-or-none L on_l 7) [
      | inl h ↦ inl (cube h.0 h.2.0 h.2.2.0 h.2.2.2.0, h.2.2.2.2)
      | inr none ↦ inr (λ c h.
          let l = place-limits c h.limits in
          none c.level l.0 (c.z, l.1, (c.y, l.2, (c.x, l.3, subst (IsWordOf word) (sym (cube-is c)) h))))
    ]

-- ---- words and places

-- words are those of places
pub record AreWordsOf (words : List ℕ) : Type 0 where
  pub places : List Cube
  pub limits : All IsPlace places
  pub packs : map packed places ≡ words

places-of : (words : List ℕ) → ((i : ℕ) → i < length words → (c : Cube) × IsWordOf (get_or words i 0) c) → AreWordsOf words
places-of [] each = record { places = []; limits = All-nil IsPlace; packs = refl }
places-of (w ∷ words) each =
    let here = each zero (omega arith) in
    let rest = places-of words (λ i l. each (suc i) (omega (arith, l))) in
    let first = here.1.packs in
    record {
      places = here.0 ∷ rest.places;
      limits = All-cons IsPlace here.0 rest.places here.1.limits rest.limits;
      packs = λ i. first i ∷ rest.packs i;
    }

-- the word at a position is no place, or it is one
no-place-cases : (words bytes : List ℕ) → AreWords words bytes → (at : ℕ) → IsNoPlace bytes at ⊎ (IsNoPlace bytes at → ⊥)
no-place-cases words bytes are at =
    elim (cases_lt (length bytes) (8 * at + 8)) [
      | inl past ↦ inr (λ h. let l = h.within in omega (arith, l, past))
      | inr within ↦
          let long : length bytes ≡ 8 * length words = ap length are.bytes_are ∙ length-numbers_bytes words in
          let below : at < length words = omega (arith, long, within) in
          let here : take 8 (drop (8 * at) bytes) ≡ bytes_high_first 8 (get_or words at 0) =
          ap (λ (q : List ℕ). take 8 (drop (8 * at) q)) are.bytes_are ∙ word-here words at below in
          elim (place-cases (get_or words at 0)) [
            | inl h ↦ inr (λ bad. bad.none h.0 h.1.limits (ap (bytes_high_first 8) h.1.packs ∙ sym here))
            | inr none ↦ inl (record {
              within = within;
              none = λ c limits e. none c (record {
                limits = limits;
                packs = same-number 8 (packed c) (get_or words at 0) (packed-fits c limits) (All-get_or (λ n. n < 2 ^ 64) words at 0 below are.fit) (e ∙ here);
              });
            })
          ]
    ]

pub words-cases : (words bytes : List ℕ) → AreWords words bytes → AreWordsOf words ⊎ ((at : ℕ) × IsFirst (IsNoPlace bytes) at)
words-cases words bytes are =
    elim (first-or-none (IsNoPlace bytes) (no-place-cases words bytes are) (length words)) [
      | inl h ↦ inr h
      | inr none ↦ inl (places-of words (λ i l.
          elim (place-cases (get_or words i 0)) [
            | inl h ↦ h
            | inr no_such ↦
                let long : length bytes ≡ 8 * length words = ap length are.bytes_are ∙ length-numbers_bytes words in
                let here : take 8 (drop (8 * i) bytes) ≡ bytes_high_first 8 (get_or words i 0) =
                ap (λ (q : List ℕ). take 8 (drop (8 * i) q)) are.bytes_are ∙ word-here words i l in
                absurd (none i l (record {
                  within = omega (arith, long, l);
                  none = λ c limits e. no_such c (record {
                    limits = limits;
                    packs = same-number 8 (packed c) (get_or words i 0) (packed-fits c limits) (All-get_or (λ n. n < 2 ^ 64) words i 0 l are.fit) (e ∙ here);
                  });
                }))
          ]))
    ]

-- ---- amounts

-- a list as lists of one length
record Pieces (count k : ℕ) (all : List ℕ) : Type 0 where
  lists : List (List ℕ)
  many : length lists ≡ count
  each : All (λ l. length l ≡ k) lists
  joined : flat_map (λ l. l) lists ≡ all

pieces : (count k : ℕ) (all : List ℕ) → length all ≡ count * k → Pieces count k all
pieces zero k [] long = record { lists = []; many = refl; each = All-nil (λ l. length l ≡ k); joined = refl }
pieces zero k (x ∷ all) long = let none : 0 * k ≡ 0 = omega arith in absurd (omega (arith, long, none))
pieces (suc count) k all long =
    let split : (count + 1) * k ≡ count * k + 1 * k = add-mul count 1 k in
    let same : suc count * k ≡ (count + 1) * k = ap (λ (n : ℕ). n * k) (omega arith) in
    let first : length (take k all) ≡ k = length-take-le k all (omega (arith, long, split, same)) in
    let less = length-drop k all in
    let rest = pieces count k (drop k all) (omega (arith, less, long, split, same)) in
    let m = rest.many in
    record {
      lists = take k all ∷ rest.lists;
      many = omega (arith, m);
      each = All-cons (λ l. length l ≡ k) (take k all) rest.lists first rest.each;
      joined = ap (λ (l : List ℕ). take k all ++ l) rest.joined ∙ take-append-drop k all;
    }

-- numbers are the amounts of blocks, in each for each field so many
pub record AreAmounts (count fields k : ℕ) (numbers : List ℕ) : Type 0 where
  pub blocks : List (List (List ℕ))
  pub many : length blocks ≡ count
  pub each : All (IsShaped fields k) blocks
  pub joined : all_amounts blocks ≡ numbers

shaped : (fields k : ℕ) (lists : List (List ℕ)) → All (λ l. length l ≡ fields * k) lists → AreAmounts (length lists) fields k (flat_map (λ l. l) lists)
shaped fields k [] h = record { blocks = []; many = refl; each = All-nil (IsShaped fields k); joined = refl }
shaped fields k (l ∷ lists) h =
    let P : List ℕ → Type 0 = λ l. length l ≡ fields * k in
    let here = pieces fields k l (All-head P l lists h) in
    let rest = shaped fields k lists (All-tail P l lists h) in
    let m = rest.many in
    record {
      blocks = here.lists ∷ rest.blocks;
      many = omega (arith, m);
      each = All-cons (IsShaped fields k) here.lists rest.blocks (here.many, here.each) rest.each;
      joined = λ i. here.joined i ++ rest.joined i;
    }

pub amounts-of : (count fields k : ℕ) (numbers : List ℕ) → length numbers ≡ count * (fields * k) → AreAmounts count fields k numbers
amounts-of count fields k numbers long =
    let all = pieces count (fields * k) numbers long in
    let r = shaped fields k all.lists all.each in
    record { blocks = r.blocks; many = r.many ∙ all.many; each = r.each; joined = r.joined ∙ all.joined }

-- they are as small as the numbers, and have the same bytes
pub amounts-fit : (count fields k : ℕ) (numbers : List ℕ) (a : AreAmounts count fields k numbers) → FitWords numbers → FitWords (all_amounts a.blocks)
amounts-fit count fields k numbers a fit = subst FitWords (sym a.joined) fit

pub amounts-bytes : (count fields k : ℕ) (numbers bytes : List ℕ) (a : AreAmounts count fields k numbers) → bytes ≡ numbers_bytes numbers → bytes ≡ numbers_bytes (all_amounts a.blocks)
amounts-bytes count fields k numbers bytes a e = e ∙ ap numbers_bytes (sym a.joined)

-- what each block has
pub block-fields : (fields k : ℕ) (blocks : List (List (List ℕ))) → All (IsShaped fields k) blocks → (i : ℕ) (block : List (List ℕ)) → slice_get blocks i ≡ Some block → IsShaped fields k block
block-fields fields k blocks h i block at =
    subst (IsShaped fields k) (get_or_from_slice_get blocks i block block at) (All-get_or (IsShaped fields k) blocks i block (slice_get_within blocks i block at) h)

pub block-cells : (k : ℕ) (block : List (List ℕ)) → All (λ l. length l ≡ k) block → (f : ℕ) (cells : List ℕ) → slice_get block f ≡ Some cells → length cells ≡ k
block-cells k block h f cells at =
    subst (λ (l : List ℕ). length l ≡ k) (get_or_from_slice_get block f cells cells at) (All-get_or (λ l. length l ≡ k) block f cells (slice_get_within block f cells at) h)
