-- Words and the places that they are.
use Rattle.std.proofs.Common.{◌≡◌, ℕ, ◌+◌, ◌*◌, ◌^◌, ◌<◌, ◌≤◌, All, List, [], ◌∷◌, ◌++◌, length, map, take, drop, refl, inl, inr, sym, ap, subst, ◌∙◌, arith}
use Rattle.std.specs.Int.{bytes_high_first}
use Rattle.std.proofs.Math.Nat.{pow-le-pow_right}
use Rattle.std.proofs.lemmas.Bool.{cases_lt}
use Rattle.std.proofs.lemmas.List.{map-append}
use Rattle.std.proofs.lemmas.List.Concat.{flat_map-append}
use Rattle.byteorder.specs.Endian.{big_from}
use Rattle.byteorder.specs.Numbers.{big_number-reads_back}
use Rattle.block_index.specs.Places.{Cube, Grid, IsPlace, packed}
use Rattle.leaf_set.specs.LeafFaults.{IsLeafFault}
use Rattle.leaf_set.specs.declared.leaf_fault.LeafFault.{LeafFault}
use Rattle.leaf_set.specs.declared.leaf_fault.LeafFault.TheVariants as leaf_faults
use Rattle.checkpoint.specs.Lemmas.PartEnds.{EndsPlaces, misplaced}
use Rattle.checkpoint.specs.Reading.{AreNumber, IsNoPlace, no_place, no_mesh}
use Rattle.checkpoint.specs.declared.fault.CheckFault.TheVariants as faults
use Rattle.checkpoint.specs.Spelling.{numbers_bytes}
use Rattle.checkpoint.proofs.WordLists.{take-seam}

-- a number of 8 bytes is told by them
pub same_word : (n m : ℕ) → n < 256 ^ 8 → m < 256 ^ 8 → bytes_high_first 8 n ≡ bytes_high_first 8 m → n ≡ m
same_word n m hn hm e =
    sym (big_number-reads_back 8 n [] hn) ∙ ap (λ (l : List ℕ). big_from 0 8 (l ++ [])) e ∙ big_number-reads_back 8 m [] hm

-- a place's word has 64 bits
pub packed-fits : (c : Cube) → IsPlace c → packed c < 256 ^ 8
packed-fits c h =
    let wide : 2 ^ c.level ≤ 2 ^ 6 = pow-le-pow_right {n = 2} (omega arith) h.level in
    omega (arith, wide, h.level, h.x, h.y, h.z)

-- one place more
pub places-more : (bytes : List ℕ) (places : List Cube) (at word : ℕ) (c : Cube) → 8 * at + 8 ≤ length bytes → AreNumber 8 word (take 8 (drop (8 * at) bytes))
    → packed c ≡ word → take (8 * at) bytes ≡ numbers_bytes (map packed places) → take (8 * (at + 1)) bytes ≡ numbers_bytes (map packed (places ++ c ∷ []))
places-more bytes places at word c within is packs so_far =
    let next : 8 * (at + 1) ≡ 8 * at + 8 = omega arith in
    ap (λ (n : ℕ). take n bytes) next
    ∙ take-seam (8 * at) 8 bytes (omega arith)
    ∙ ap (λ (l : List ℕ). l ++ take 8 (drop (8 * at) bytes)) so_far
    ∙ ap (λ (l : List ℕ). numbers_bytes (map packed places) ++ l) (is.bytes_are ∙ ap (bytes_high_first 8) (sym packs))
    ∙ sym (flat_map-append (bytes_high_first 8) (map packed places) (packed c ∷ []))
    ∙ ap numbers_bytes (sym (map-append packed places (c ∷ [])))

-- a word that a place packs to is one
pub is-place : (bytes : List ℕ) (at word : ℕ) (c : Cube) → AreNumber 8 word (take 8 (drop (8 * at) bytes)) → packed c ≡ word → IsPlace c → IsNoPlace bytes at → ⊥
is-place bytes at word c is packs h none = none.none c h (ap (bytes_high_first 8) packs ∙ sym is.bytes_are)

-- and one that none packs to isn't
pub is-no-place : (bytes : List ℕ) (at word : ℕ) → 8 * at + 8 ≤ length bytes → AreNumber 8 word (take 8 (drop (8 * at) bytes))
    → ((c : Cube) → IsPlace c → packed c ≡ word → ⊥) → IsNoPlace bytes at
is-no-place bytes at word within is none = record {
  within = within;
  none = λ c h e. none c h (same_word (packed c) word (packed-fits c h) is.fits (e ∙ is.bytes_are));
}

-- the first word that no place packs to
pub first-no-place : (bytes : List ℕ) (at word : ℕ) (grid : Grid) → 8 * at + 8 ≤ length bytes → AreNumber 8 word (take 8 (drop (8 * at) bytes))
    → ((c : Cube) → IsPlace c → packed c ≡ word → ⊥) → ((k : ℕ) → k < at → IsNoPlace bytes k → ⊥) → EndsPlaces grid bytes (faults.Word at)
first-no-place bytes at word grid within is none before = misplaced (no_place at (record {
  here = is-no-place bytes at word within is none;
  none_before = before;
}) refl)

-- no word up to this one is none
pub none-so_far : (bytes : List ℕ) (at word : ℕ) (c : Cube) → AreNumber 8 word (take 8 (drop (8 * at) bytes)) → packed c ≡ word → IsPlace c
    → ((k : ℕ) → k < at → IsNoPlace bytes k → ⊥) → (k : ℕ) → k < at + 1 → IsNoPlace bytes k → ⊥
none-so_far bytes at word c is packs h before k below bad =
    elim (cases_lt k at) [
      | inl l ↦ before k l bad
      | inr l ↦ is-place bytes at word c is packs h (subst (IsNoPlace bytes) (omega (arith, l, below)) bad)
    ]

-- places that are no balanced mesh
pub no-mesh-here : (grid : Grid) (bytes : List ℕ) (places : List Cube) (f : LeafFault) → All IsPlace places → bytes ≡ numbers_bytes (map packed places)
    → IsLeafFault grid places f → (f ≡ leaf_faults.Memory → ⊥) → EndsPlaces grid bytes (faults.Leaves f)
no-mesh-here grid bytes places f limits are bad other = misplaced (no_mesh places f limits are bad other refl)
