-- The pieces that a leaf owes, receiver by receiver and direction by direction.
use Rattle.std.proofs.Common.{◌≡◌, ℕ, zero, suc, ◌+◌, ◌*◌, ◌%◌, ◌<◌, ◌≤◌, Bool, true, false, cond, ◌&&◌, nat_lt, refl, sym, ap, ◌∙◌, subst, arith, List, [], ◌∷◌, ◌++◌, Some, slice_get, slice_index_or, get_or, take, drop, length, map, replicate, append-nil, append_assoc, length-append, inl, inr, pos}
use Rattle.std.specs.List.{filter, flat_map}
use Rattle.std.proofs.lemmas.Bool.{and_from, cond-true, cond-false, lt-ltb}
use Rattle.std.proofs.lemmas.Grind.{flat_map-append}
use Rattle.std.proofs.lemmas.List.{length-map, map-append, take_more}
use Rattle.block_index.specs.Beyond.{Offset}
use Rattle.block_index.specs.Places.{Cube, Grid}
use Rattle.leaf_set.specs.Tiling.{Tiling, IsTiling}
use Rattle.leaf_set.specs.TouchingLeaves.{AreTouching}
use Rattle.ghost_pieces.specs.Boxes.{Box, box_size, has_cells, reached_box, region_box}
use Rattle.ghost_pieces.specs.Regions.{AreOwed, Member}
use Rattle.ghost_pieces.specs.Pieces.{PieceState, AreOwedPieces, IsBetweenLeaves, empty_piece, zero_amounts}
use Rattle.ghost_pieces.specs.Lemmas.OwedLists.{directions, is_some_step, owed, owed_pieces, pieces_between, pieces_toward, regions_between}
use Rattle.ghost_pieces.proofs.Lists.{filter_left, member-cons, member-unflat_map, member-unmap}
use Rattle.ghost_pieces.proofs.Owed.{at_index, contains_member}
use Rattle.ghost_pieces.proofs.OwedSteps.{owed_even}
use Rattle.ghost_pieces.proofs.SameBoxes.{reached-region}

-- ---- in one direction

module _ (grid : Grid) (n d fields j : ℕ) (b : Cube) (i : ℕ) (s : Cube) (dir : Offset) where
  abbrev box : Box
  box = reached_box grid n d b dir s

  abbrev one : PieceState
  one = empty_piece n d fields j b i s dir

  and_first : (p q : Bool) → p ≡ false → (p && q) ≡ false
  and_first p q e = grind arith

  and_second : (p q : Bool) → q ≡ false → (p && q) ≡ false
  and_second p q e = grind arith

  no_cells : (x y z : ℕ) → z * y * x ≡ 0 → (nat_lt 0 x && nat_lt 0 y && nat_lt 0 z) ≡ false
  no_cells zero y z e = refl
  no_cells (suc x) zero z e = and_first (nat_lt 0 (suc x) && nat_lt 0 0) (nat_lt 0 z) (and_second (nat_lt 0 (suc x)) (nat_lt 0 0) refl)
  no_cells (suc x) (suc y) zero e = and_second (nat_lt 0 (suc x) && nat_lt 0 (suc y)) (nat_lt 0 0) refl
  no_cells (suc x) (suc y) (suc z) e = absurd (omega arith)

  some_cells : (x y z : ℕ) → 0 < z * y * x → (nat_lt 0 x && nat_lt 0 y && nat_lt 0 z) ≡ true
  some_cells zero y z e = absurd (omega arith)
  some_cells (suc x) zero z e = absurd (omega arith)
  some_cells (suc x) (suc y) zero e = absurd (omega arith)
  some_cells (suc x) (suc y) (suc z) e =
      and_from (nat_lt 0 (suc x) && nat_lt 0 (suc y)) (nat_lt 0 (suc z))
      (and_from (nat_lt 0 (suc x)) (nat_lt 0 (suc y)) (lt-ltb 0 (suc x) (omega arith)) (lt-ltb 0 (suc y) (omega arith)))
      (lt-ltb 0 (suc z) (omega arith))

  pub toward-no_step : is_some_step dir ≡ false → pieces_toward grid n d fields j b i s dir ≡ []
  toward-no_step e = cond-false (is_some_step dir && has_cells box) (one ∷ []) [] (and_first (is_some_step dir) (has_cells box) e)

  pub toward-no_cells : box_size (reached_box grid n d b dir s) ≡ 0 → pieces_toward grid n d fields j b i s dir ≡ []
  toward-no_cells e =
      cond-false (is_some_step dir && has_cells box) (one ∷ []) [] (and_second (is_some_step dir) (has_cells box) (no_cells box.x.count box.y.count box.z.count e))

  pub toward-one : (size : ℕ) → is_some_step dir ≡ true → size ≡ box_size (reached_box grid n d b dir s) → 0 < size → (record { region = record { receiver = j; sender = i; direction = dir }; receiver = b; sender = s; amounts = replicate fields (replicate size 0) }) ∷ [] ≡ pieces_toward grid n d fields j b i s dir
  toward-one size e same h =
      let cells : has_cells box ≡ true = some_cells box.x.count box.y.count box.z.count (omega arith) in
      let full : size ≡ box_size (region_box n d b dir s) = same ∙ ap box_size (reached-region grid n d b dir s cells) in
      ap (λ k. (record { region = record { receiver = j; sender = i; direction = dir }; receiver = b; sender = s; amounts = replicate fields (replicate k 0) }) ∷ []) full
      ∙ sym (cond-true (is_some_step dir && has_cells box) (one ∷ []) [] (and_from (is_some_step dir) (has_cells box) e cells))

-- ---- to all receivers

module _ (grid : Grid) (n d fields : ℕ) (mesh : List Cube) (i : ℕ) (s : Cube) where
  abbrev of : ℕ → List PieceState
  of j = pieces_between grid n d fields j (slice_index_or mesh j s) i s

  pub pieces-first : slice_get mesh i ≡ Some s → pieces_between grid n d fields i s i s ≡ owed_pieces grid n d fields mesh i s []
  pieces-first at =
      ap (λ u. pieces_between grid n d fields i u i s) (sym (at_index mesh i s s at))
      ∙ sym (append-nil (of i))

  pub pieces-more : (js : List ℕ) (k : ℕ) (b : Cube) → k < length js → slice_get mesh (get_or js k 0) ≡ Some b → owed_pieces grid n d fields mesh i s (take k js) ++ pieces_between grid n d fields (get_or js k 0) b i s ≡ owed_pieces grid n d fields mesh i s (take (k + 1) js)
  pieces-more js k b h at =
      let j = get_or js k 0 in
      ap (λ u. owed_pieces grid n d fields mesh i s (take k js) ++ pieces_between grid n d fields j u i s) (sym (at_index mesh j b s at))
      ∙ ap (λ u. owed_pieces grid n d fields mesh i s (take k js) ++ u) (sym (append-nil (of j)))
      ∙ append_assoc (of i) (flat_map of (take k js)) (flat_map of (j ∷ []))
      ∙ ap (λ u. of i ++ u) (sym (flat_map-append of (take k js) (j ∷ [])))
      ∙ ap (λ u. of i ++ flat_map of u) (sym (take_more js k 0 h))

map-after : {A B C : Type 0} (g : B → C) (f : A → B) (xs : List A) → map g (map f xs) ≡ map (λ x. g (f x)) xs
map-after g f [] = refl
map-after g f (x ∷ xs) = ap (λ ys. g (f x) ∷ ys) (map-after g f xs)

map-flat : {A B C : Type 0} (g : B → C) (f : A → List B) (h : A → List C) (xs : List A) → ((x : A) → map g (f x) ≡ h x) → map g (flat_map f xs) ≡ flat_map h xs
map-flat g f h [] e = refl
map-flat g f h (x ∷ xs) e = map-append g (f x) (flat_map f xs) ∙ ap (λ ys. ys ++ map g (flat_map f xs)) (e x) ∙ ap (λ ys. h x ++ ys) (map-flat g f h xs e)

regions-pieces : (grid : Grid) (n d fields : ℕ) (mesh : List Cube) (i : ℕ) (s : Cube) (js : List ℕ) → map (λ (p : PieceState). p.region) (owed_pieces grid n d fields mesh i s js) ≡ owed grid n d mesh i s js
regions-pieces grid n d fields mesh i s js =
    map-flat (λ (p : PieceState). p.region) (λ j. pieces_between grid n d fields j (slice_index_or mesh j s) i s) (λ j. regions_between grid n d j (slice_index_or mesh j s) i s) (i ∷ js) (λ j.
    map-after (λ (p : PieceState). p.region) (λ dir. empty_piece n d fields j (slice_index_or mesh j s) i s dir) (filter (λ dir. is_some_step dir && has_cells (reached_box grid n d (slice_index_or mesh j s) dir s)) directions))

pub pieces-owed : (t : Tiling) (n d fields i : ℕ) (s : Cube) (js : List ℕ) → IsTiling t → n % 2 ≡ 0 → 2 * d ≤ n → 0 < n → slice_get t.places i ≡ Some s → AreTouching t.grid t.places i js → AreOwedPieces t.grid n d fields t.places i (owed_pieces t.grid n d fields t.places i s js)
pieces-owed t n d fields i s js w even deep some at touching = record {
  regions = subst (AreOwed t.grid n d t.places i) (sym (regions-pieces t.grid n d fields t.places i s js)) (owed_even t n d i s js w even deep some at touching);
  leaves = λ k p e. (one k p e).0;
  zeros = λ k p e. (one k p e).1;
}
  where
    receiver : (j : ℕ) → Member (i ∷ js) j → slice_get t.places j ≡ Some (slice_index_or t.places j s)
    receiver j m =
        elim (member-cons i j js m) [
          | inl e ↦ subst (λ j. slice_get t.places j ≡ Some (slice_index_or t.places j s)) e (at ∙ ap Some (sym (at_index t.places i s s at)))
          | inr r ↦
              let q = touching.touch j s (contains_member js j r) at in
              q.1 ∙ ap Some (sym (at_index t.places j q.0 s q.1))
        ]

    one : (k : ℕ) (p : PieceState) → slice_get (owed_pieces t.grid n d fields t.places i s js) k ≡ Some p → IsBetweenLeaves t.places p × (p.amounts ≡ zero_amounts n d fields p)
    one k p e =
        let q = member-unflat_map (λ j. pieces_between t.grid n d fields j (slice_index_or t.places j s) i s) (i ∷ js) p (k, e) in
        let j = q.0 in
        let b = slice_index_or t.places j s in
        let r = member-unmap (λ dir. empty_piece n d fields j b i s dir) (filter (λ dir. is_some_step dir && has_cells (reached_box t.grid n d b dir s)) directions) p q.2 in
        subst (λ (p : PieceState). IsBetweenLeaves t.places p × (p.amounts ≡ zero_amounts n d fields p)) (sym r.2)
        (record { receives = receiver j q.1; sends = at }, refl)

-- ---- how many

filter-append : {A : Type 0} (p : A → Bool) (xs ys : List A) → filter p (xs ++ ys) ≡ filter p xs ++ filter p ys
filter-append p [] ys = refl
filter-append p (x ∷ xs) ys = kept (filter-append p xs ys) (p x)
  where
    kept : (filter p (xs ++ ys) ≡ filter p xs ++ filter p ys) → (b : Bool) → cond b (x ∷ filter p (xs ++ ys)) (filter p (xs ++ ys)) ≡ cond b (x ∷ filter p xs) (filter p xs) ++ filter p ys
    kept h true = ap (λ zs. x ∷ zs) h
    kept h false = h

filter-few : {A : Type 0} (p : A → Bool) (xs : List A) → length (filter p xs) ≤ length xs
filter-few p [] = omega arith
filter-few p (x ∷ xs) = kept (filter-few p xs) (p x)
  where
    kept : length (filter p xs) ≤ length xs → (b : Bool) → length (cond b (x ∷ filter p xs) (filter p xs)) ≤ suc (length xs)
    kept h true = omega arith
    kept h false = omega arith

middle : Offset
middle = record { x = pos 0; y = pos 0; z = pos 0 }

in_three : directions ≡ take 13 directions ++ (middle ∷ drop 14 directions)
unfolding middle
in_three = refl

few_directions : (t : Offset → Bool) → length (filter (λ dir. is_some_step dir && t dir) directions) ≤ 26
unfolding middle
few_directions t =
    let p = λ (dir : Offset). is_some_step dir && t dir in
    let front = take 13 directions in
    let back = drop 14 directions in
    let e : filter p directions ≡ filter p front ++ filter p back = ap (filter p) in_three ∙ filter-append p front (middle ∷ back) ∙ ap (λ ys. filter p front ++ ys) (filter_left p middle back refl) in
    let l = ap length e ∙ length-append (filter p front) (filter p back) in
    let a = filter-few p front in
    let b = filter-few p back in
    let la : length front ≡ 13 = refl in
    let lb : length back ≡ 13 = refl in
    omega arith

length-flat : {A B : Type 0} (f : A → List B) (m : ℕ) (xs : List A) → ((x : A) → length (f x) ≤ m) → length (flat_map f xs) ≤ m * length xs
length-flat f m [] h = omega arith
length-flat f m (x ∷ xs) h =
    let a = length-append (f x) (flat_map f xs) in
    let b = h x in
    let c = length-flat f m xs h in
    let d : m * suc (length xs) ≡ m + m * length xs = omega arith in
    omega arith

pub pieces-few : (grid : Grid) (n d fields : ℕ) (mesh : List Cube) (i : ℕ) (s : Cube) (js : List ℕ) → length js ≤ 56 → length (owed_pieces grid n d fields mesh i s js) ≤ 1482
pieces-few grid n d fields mesh i s js h =
    let f = λ (j : ℕ). pieces_between grid n d fields j (slice_index_or mesh j s) i s in
    let a = length-flat f 26 (i ∷ js) (λ j.
    let b = slice_index_or mesh j s in
    let t = λ (dir : Offset). has_cells (reached_box grid n d b dir s) in
    let l = length-map (filter (λ dir. is_some_step dir && t dir) directions) (λ dir. empty_piece n d fields j b i s dir) in
    let k = few_directions t in
    omega arith) in
    omega arith
