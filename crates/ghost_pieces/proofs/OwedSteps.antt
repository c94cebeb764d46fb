-- The regions that a leaf owes, receiver by receiver.
use Rattle.std.proofs.Common.{◌≡◌, ℕ, ◌+◌, ◌*◌, ◌/◌, ◌%◌, ◌<◌, ◌≤◌, sym, ap, ◌∙◌, subst, arith, List, [], ◌∷◌, ◌++◌, Some, slice_get, slice_index_or, get_or, take, length, append-nil, append_assoc}
use Rattle.std.specs.List.{flat_map}
use Rattle.std.proofs.lemmas.Grind.{flat_map-append}
use Rattle.std.proofs.lemmas.List.{take_more}
use Rattle.std.proofs.lemmas.Option.{same_Some, slice_get-get_or}
use Rattle.block_index.specs.Places.{Cube, Grid}
use Rattle.block_index.specs.Touching.{Touches}
use Rattle.leaf_set.specs.Tiling.{Tiling, IsTiling}
use Rattle.leaf_set.specs.TouchingLeaves.{AreTouching}
use Rattle.ghost_pieces.specs.Regions.{Region, AreOwed}
use Rattle.ghost_pieces.specs.Lemmas.OwedLists.{regions_between, owed}
use Rattle.ghost_pieces.proofs.Owed.{at_index, owed_all}

module _ (grid : Grid) (n d : ℕ) (mesh : List Cube) (i : ℕ) (s : Cube) where
  abbrev of : ℕ → List Region
  of j = regions_between grid n d j (slice_index_or mesh j s) i s

  pub owed-first : slice_get mesh i ≡ Some s → regions_between grid n d i s i s ≡ owed grid n d mesh i s []
  owed-first at =
      ap (λ u. regions_between grid n d i u i s) (sym (at_index mesh i s s at))
      ∙ sym (append-nil (of i))

  pub owed-more : (js : List ℕ) (k : ℕ) (b : Cube) → k < length js → slice_get mesh (get_or js k 0) ≡ Some b → owed grid n d mesh i s (take k js) ++ regions_between grid n d (get_or js k 0) b i s ≡ owed grid n d mesh i s (take (k + 1) js)
  owed-more js k b h at =
      let j = get_or js k 0 in
      ap (λ u. owed grid n d mesh i s (take k js) ++ regions_between grid n d j u i s) (sym (at_index mesh j b s at))
      ∙ ap (λ u. owed grid n d mesh i s (take k js) ++ u) (sym (append-nil (of j)))
      ∙ append_assoc (of i) (flat_map of (take k js)) (flat_map of (j ∷ []))
      ∙ ap (λ u. of i ++ u) (sym (flat_map-append of (take k js) (j ∷ [])))
      ∙ ap (λ u. of i ++ flat_map of u) (sym (take_more js k 0 h))

pub touched : (grid : Grid) (mesh : List Cube) (i : ℕ) (js : List ℕ) (s : Cube) (k : ℕ) → AreTouching grid mesh i js → slice_get mesh i ≡ Some s → k < length js → (b : Cube) × (slice_get mesh (get_or js k 0) ≡ Some b) × Touches grid s b
touched grid mesh i js s k t at h =
    let j = get_or js k 0 in
    let e : get_or js k j ≡ j = same_Some (get_or js k j) j (sym (slice_get-get_or js k j h) ∙ slice_get-get_or js k 0 h) in
    t.touch j s (k, h, e) at

pub owed_even : (t : Tiling) (n d i : ℕ) (s : Cube) (js : List ℕ) → IsTiling t → n % 2 ≡ 0 → 2 * d ≤ n → 0 < n → slice_get t.places i ≡ Some s → AreTouching t.grid t.places i js → AreOwed t.grid n d t.places i (owed t.grid n d t.places i s js)
owed_even t n d i s js w even deep some at touching =
    let h = n / 2 in
    subst (λ u. AreOwed t.grid u d t.places i (owed t.grid u d t.places i s js)) (let f : 2 * h ≡ n = omega arith in f)
    (owed_all t.grid t.places w.domain w.mesh w.balanced h d (omega arith) (omega arith) i s js at touching)
