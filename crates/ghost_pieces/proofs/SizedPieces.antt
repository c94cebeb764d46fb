-- Counts of coordinates by step, and the pieces that are found by them.
use Rattle.std.proofs.Common.{◌≡◌, ℕ, zero, suc, ◌+◌, ◌-◌, ◌*◌, ◌/◌, ◌^◌, ◌<◌, ◌≤◌, replicate, Bool, true, false, cond, ◌&&◌, nat_lt, ◌==◌, inl, inr, refl, sym, ap, ◌∙◌, arith, List, [], ◌∷◌, ◌++◌, map}
use Rattle.std.specs.List.{filter, flat_map, range_with_len}
use Rattle.std.proofs.lemmas.Bool.{cases_Bool, cases_lt, eq-eqb, ne_eqb, lt-ltb, ltb-true, false_from_ne_true}
use Rattle.std.proofs.lemmas.List.{flat_map_more}
use Rattle.std.proofs.lemmas.List.Folds.{flat_map-map}
use Rattle.std.proofs.lemmas.Grind.{flat_map-append}
use Rattle.std.proofs.lemmas.List.FromFn.{map-range_with_len_more}
use Rattle.std.proofs.lemmas.Nat.{div-add-mod', div-mul-add, mod_below}
use Rattle.block_index.specs.Beyond.{Offset}
use Rattle.block_index.specs.Places.{Cube, Grid}
use Rattle.ghost_pieces.specs.Boxes.{box_size, has_cells, reached_box, reached_part, span}
use Rattle.ghost_pieces.specs.Pieces.{PieceState, empty_piece}
use Rattle.ghost_pieces.specs.Lemmas.Counts.{AreCounts, count_at, piece_of_size, plane_pieces, reached_pieces, row_pieces}
use Rattle.ghost_pieces.specs.Lemmas.OwedLists.{directions, is_some_step, pieces_between, pieces_toward, step_at}
use Rattle.ghost_pieces.proofs.OwedPieces.{toward-no_cells, toward-no_step, toward-one}

-- ---- a coordinate in a block

pub lies-below : (v c b : ℕ) → 0 < c → b * c ≤ v → nat_lt v (b * c + c) ≡ (v / c == b)
lies-below v c b some from =
    elim (cases_lt v (b * c + c)) [
      | inl below ↦
          let e : v / c ≡ b = ap (λ u. u / c) (let f : v ≡ b * c + (v - b * c) = omega arith in f) ∙ div-mul-add b c (v - b * c) (omega arith) in
          lt-ltb v (b * c + c) below ∙ sym (eq-eqb (v / c) b e)
      | inr past ↦
          false_from_ne_true (nat_lt v (b * c + c)) (λ t. let l = ltb-true v (b * c + c) t in omega arith)
          ∙ sym (ne_eqb (v / c) b (λ e. let f = ap (λ u. u * c) e in let s = div-add-mod' v c in let r = mod_below v c some in omega arith))
    ]

-- ---- lists that grow by what stands at a number

range-more : (k : ℕ) → range_with_len 0 (k + 1) ≡ range_with_len 0 k ++ k ∷ []
range-more k = sym (map-same (range_with_len 0 (k + 1))) ∙ map-range_with_len_more (λ x. x) 0 k k (omega arith) ∙ ap (λ xs. xs ++ k ∷ []) (map-same (range_with_len 0 k))
  where
    map-same : (xs : List ℕ) → map (λ x. x) xs ≡ xs
    map-same [] = refl
    map-same (x ∷ xs) = ap (λ ys. x ∷ ys) (map-same xs)

pub flat-next : {A : Type 0} (old : List A) (h : ℕ → List A) (k : ℕ) → (old ++ flat_map h (range_with_len 0 k)) ++ h k ≡ old ++ flat_map h (range_with_len 0 (k + 1))
flat-next old h k = flat_map_more h old (range_with_len 0 k) k ∙ ap (λ xs. old ++ flat_map h xs) (sym (range-more k))

flat-same : {A B : Type 0} (f g : A → List B) (xs : List A) → ((x : A) → f x ≡ g x) → flat_map f xs ≡ flat_map g xs
flat-same f g [] e = refl
flat-same f g (x ∷ xs) e = ap (λ ys. ys ++ flat_map f xs) (e x) ∙ ap (λ ys. g x ++ ys) (flat-same f g xs e)

flat-none : {A B : Type 0} (f : A → List B) (xs : List A) → ((x : A) → f x ≡ []) → flat_map f xs ≡ []
flat-none f [] e = refl
flat-none f (x ∷ xs) e = ap (λ ys. ys ++ flat_map f xs) (e x) ∙ flat-none f xs e

flat-flat : {A B C : Type 0} (f : B → List C) (g : A → List B) (xs : List A) → flat_map f (flat_map g xs) ≡ flat_map (λ x. flat_map f (g x)) xs
flat-flat f g [] = refl
flat-flat f g (x ∷ xs) = flat_map-append f (g x) (flat_map g xs) ∙ ap (λ ys. flat_map f (g x) ++ ys) (flat-flat f g xs)

-- ---- no pieces without cells

module _ (fields j : ℕ) (b : Cube) (i : ℕ) (s : Cube) where
  no_piece : (dir : Offset) → piece_of_size fields j b i s 0 dir ≡ []
  no_piece dir = none (is_some_step dir)
    where
      one : PieceState
      one = record { region = record { receiver = j; sender = i; direction = dir }; receiver = b; sender = s; amounts = replicate fields (replicate 0 0) }

      none : (t : Bool) → cond (t && nat_lt 0 0) (one ∷ []) [] ≡ []
      none true = refl
      none false = refl

  pub row-none : (x : ℕ → ℕ) (y z : ℕ) → row_pieces fields j b i s x 0 y z ≡ []
  row-none x y z =
      flat-none (λ k. piece_of_size fields j b i s (0 * x k) (record { x = step_at k; y = step_at y; z = step_at z })) (range_with_len 0 3)
      (λ k. ap (λ u. piece_of_size fields j b i s u (record { x = step_at k; y = step_at y; z = step_at z })) (let e : 0 * x k ≡ 0 = omega arith in e)
      ∙ no_piece (record { x = step_at k; y = step_at y; z = step_at z }))

  pub plane-none : (x y : ℕ → ℕ) (z : ℕ) → plane_pieces fields j b i s x y 0 z ≡ []
  plane-none x y z =
      flat-none (λ k. row_pieces fields j b i s x (0 * y k) k z) (range_with_len 0 3)
      (λ k. ap (λ u. row_pieces fields j b i s x u k z) (let e : 0 * y k ≡ 0 = omega arith in e) ∙ row-none x k z)

-- ---- what is found by the counts

module _ (grid : Grid) (n d fields j : ℕ) (b : Cube) (i : ℕ) (s : Cube) where
  sized : (dir : Offset) (size : ℕ) → size ≡ box_size (reached_box grid n d b dir s) → piece_of_size fields j b i s size dir ≡ pieces_toward grid n d fields j b i s dir
  sized dir size e = elim (cases_Bool (is_some_step dir)) [ inl t ↦ step t size e | inr f ↦ stay f ]
    where
      one : ℕ → PieceState
      one k = record { region = record { receiver = j; sender = i; direction = dir }; receiver = b; sender = s; amounts = replicate fields (replicate k 0) }

      stay : is_some_step dir ≡ false → piece_of_size fields j b i s size dir ≡ pieces_toward grid n d fields j b i s dir
      stay f = ap (λ t. cond (t && nat_lt 0 size) (one size ∷ []) []) f ∙ sym (toward-no_step grid n d fields j b i s dir f)

      step : is_some_step dir ≡ true → (k : ℕ) → k ≡ box_size (reached_box grid n d b dir s) → piece_of_size fields j b i s k dir ≡ pieces_toward grid n d fields j b i s dir
      step t zero e = no_piece fields j b i s dir ∙ sym (toward-no_cells grid n d fields j b i s dir (sym e))
      step t (suc k) e = ap (λ t. cond (t && nat_lt 0 (suc k)) (one (suc k) ∷ []) []) t ∙ ap (λ t. cond (true && t) (one (suc k) ∷ []) []) (lt-ltb 0 (suc k) (omega arith)) ∙ toward-one grid n d fields j b i s dir (suc k) t e (omega arith)

  spread : (xs : List Offset) → map (λ dir. empty_piece n d fields j b i s dir) (filter (λ dir. is_some_step dir && has_cells (reached_box grid n d b dir s)) xs) ≡ flat_map (pieces_toward grid n d fields j b i s) xs
  spread [] = refl
  spread (dir ∷ xs) = kept (spread xs) (is_some_step dir && has_cells (reached_box grid n d b dir s))
    where
      f : Offset → PieceState
      f dir = empty_piece n d fields j b i s dir

      rest : List Offset
      rest = filter (λ dir. is_some_step dir && has_cells (reached_box grid n d b dir s)) xs

      kept : map f rest ≡ flat_map (pieces_toward grid n d fields j b i s) xs → (t : Bool) → map f (cond t (dir ∷ rest) rest) ≡ cond t (f dir ∷ []) [] ++ flat_map (pieces_toward grid n d fields j b i s) xs
      kept e true = ap (λ ys. f dir ∷ ys) e
      kept e false = e

  three : List ℕ
  three = range_with_len 0 3

  along : ℕ → ℕ → ℕ → Offset
  along k l m = record { x = step_at k; y = step_at l; z = step_at m }

  in_order : directions ≡ flat_map (λ m. flat_map (λ l. map (λ k. along k l m) three) three) three
  unfolding three along
  in_order = refl

  by_steps : flat_map (pieces_toward grid n d fields j b i s) directions ≡ flat_map (λ m. flat_map (λ l. flat_map (λ k. pieces_toward grid n d fields j b i s (along k l m)) three) three) three
  by_steps =
      let toward = pieces_toward grid n d fields j b i s in
      ap (flat_map toward) in_order
      ∙ flat-flat toward (λ m. flat_map (λ l. map (λ k. along k l m) three) three) three
      ∙ flat-same (λ m. flat_map toward (flat_map (λ l. map (λ k. along k l m) three) three)) (λ m. flat_map (λ l. flat_map (λ k. toward (along k l m)) three) three) three (λ m.
      flat-flat toward (λ l. map (λ k. along k l m) three) three
      ∙ flat-same (λ l. flat_map toward (map (λ k. along k l m) three)) (λ l. flat_map (λ k. toward (along k l m)) three) three (λ l. flat_map-map toward (λ k. along k l m) three))

  pub counted : (x y z : ℕ → ℕ) → ((k : ℕ) → x k ≡ (reached_part n d (grid.trees_x * 2 ^ b.level) grid.wraps_x b.x (span n b.level s.level) s.x (step_at k)).count) → ((k : ℕ) → y k ≡ (reached_part n d (grid.trees_y * 2 ^ b.level) grid.wraps_y b.y (span n b.level s.level) s.y (step_at k)).count) → ((k : ℕ) → z k ≡ (reached_part n d (grid.trees_z * 2 ^ b.level) grid.wraps_z b.z (span n b.level s.level) s.z (step_at k)).count) → reached_pieces fields j b i s x y z ≡ pieces_between grid n d fields j b i s
  unfolding three along
  counted x y z ex ey ez =
      let toward = pieces_toward grid n d fields j b i s in
      flat-same (λ m. plane_pieces fields j b i s x y (z m) m) (λ m. flat_map (λ l. flat_map (λ k. toward (along k l m)) three) three) three (λ m.
      flat-same (λ l. row_pieces fields j b i s x (z m * y l) l m) (λ l. flat_map (λ k. toward (along k l m)) three) three (λ l.
      flat-same (λ k. piece_of_size fields j b i s (z m * y l * x k) (along k l m)) (λ k. toward (along k l m)) three (λ k.
      sized (along k l m) (z m * y l * x k)
      (ap (λ u. u * y l * x k) (ez m)
      ∙ ap (λ u. (reached_box grid n d b (along k l m) s).z.count * u * x k) (ey l)
      ∙ ap (λ u. (reached_box grid n d b (along k l m) s).z.count * (reached_box grid n d b (along k l m) s).y.count * u) (ex k)))))
      ∙ sym by_steps ∙ sym (spread directions)

-- the counts of an axis by number
pub count-at : (n d t : ℕ) (w : Bool) (a c b before own after : ℕ) → AreCounts n d t w a c b before own after → (k : ℕ) → count_at before own after k ≡ (reached_part n d t w a c b (step_at k)).count
count-at n d t w a c b before own after e zero = e.before_is
count-at n d t w a c b before own after e (suc zero) = e.own_is
count-at n d t w a c b before own after e (suc (suc k)) = e.after_is
