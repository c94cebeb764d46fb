-- Walking over the blocks of a mesh, a first cell for each.
use Rattle.std.proofs.Common.{◌≡◌, ℕ, zero, suc, ◌+◌, List, [], ◌∷◌, ◌++◌, Some, length, map, refl, sym, ap, ◌∙◌, subst, arith, append_assoc, append-nil}
use Rattle.std.specs.Prelude.{slice_get}
use Rattle.std.proofs.lemmas.List.{length-map}
use Rattle.std.proofs.lemmas.Option.{none-some, same_Some}
use Rattle.block_index.specs.Places.{Cube, Grid}
use Rattle.block_fields.specs.Blocks.{BlockState}
use Rattle.refresh_phase.specs.Cells.{LeafState}
use Rattle.refresh_phase.specs.Lemmas.FirstCells.{IsFirstCell, AreFirstCells}

-- the cells so far, and the blocks that are left
pub record Walks (grid : Grid) (mesh : List Cube) (blocks : List BlockState) (cells : List LeafState) (rest : List BlockState) : Type 0 where
  pub made : map (λ c. c.block) cells ++ rest ≡ blocks
  pub each : (i : ℕ) (c : LeafState) → slice_get cells i ≡ Some c → IsFirstCell grid mesh i c

pub walk_begins : (grid : Grid) (mesh : List Cube) (blocks rest : List BlockState) (cells : List LeafState) → cells ≡ [] → rest ≡ blocks → Walks grid mesh blocks cells rest
walk_begins grid mesh blocks rest cells none all = record {
  made = ap (λ (l : List LeafState). map (λ (c : LeafState). c.block) l ++ rest) none ∙ all;
  each = λ i c h. absurd (none-some c (subst (λ (l : List LeafState). slice_get l i ≡ Some c) none h));
}

get-after : (xs : List BlockState) (b : BlockState) (rest : List BlockState) → slice_get (xs ++ (b ∷ rest)) (length xs) ≡ Some b
get-after [] b rest = refl
get-after (x ∷ xs) b rest = get-after xs b rest

-- the next block stands after those of the cells
pub next_block : (grid : Grid) (mesh : List Cube) (blocks : List BlockState) (cells : List LeafState) (rest after : List BlockState) (b : BlockState) → Walks grid mesh blocks cells rest → rest ≡ b ∷ after → slice_get blocks (length cells) ≡ Some b
next_block grid mesh blocks cells rest after b walks first =
    let front = map (λ (c : LeafState). c.block) cells in
    subst (λ (l : List BlockState). slice_get l (length cells) ≡ Some b) (ap (λ (l : List BlockState). front ++ l) (sym first) ∙ walks.made)
    (subst (λ (n : ℕ). slice_get (front ++ (b ∷ after)) n ≡ Some b) (length-map cells (λ (c : LeafState). c.block)) (get-after front b after))

-- one more cell
get-push : (grid : Grid) (mesh : List Cube) (xs : List LeafState) (new : LeafState) (k : ℕ) → ((i : ℕ) (c : LeafState) → slice_get xs i ≡ Some c → IsFirstCell grid mesh (k + i) c) → IsFirstCell grid mesh (k + length xs) new → (i : ℕ) (c : LeafState) → slice_get (xs ++ new ∷ []) i ≡ Some c → IsFirstCell grid mesh (k + i) c
get-push grid mesh [] new k old is zero c h = subst (IsFirstCell grid mesh (k + 0)) (same_Some new c h) is
get-push grid mesh [] new k old is (suc i) c h = absurd (none-some c h)
get-push grid mesh (x ∷ xs) new k old is zero c h = old zero c h
get-push grid mesh (x ∷ xs) new k old is (suc i) c h =
    subst (λ (n : ℕ). IsFirstCell grid mesh n c) (moved k i)
    (get-push grid mesh xs new (suc k) (λ j d g. subst (λ (n : ℕ). IsFirstCell grid mesh n d) (sym (moved k j)) (old (suc j) d g)) (subst (λ (n : ℕ). IsFirstCell grid mesh n new) (sym (moved k (length xs))) is) i c h)
  where
    moved : (a b : ℕ) → suc a + b ≡ a + suc b
    moved a b = omega arith

pub walk_goes_on : (grid : Grid) (mesh : List Cube) (blocks rest after : List BlockState) (cells now : List LeafState) (b : BlockState) (new : LeafState) → Walks grid mesh blocks cells rest → rest ≡ b ∷ after → now ≡ cells ++ new ∷ [] → new.block ≡ b → IsFirstCell grid mesh (length cells) new → Walks grid mesh blocks now after
walk_goes_on grid mesh blocks rest after cells now b new walks first is block one =
    let blocks_of : List LeafState → List BlockState = λ l. map (λ (c : LeafState). c.block) l in
    record {
      made = ap (λ (l : List LeafState). blocks_of l ++ after) is
          ∙ (ap (λ (l : List BlockState). l ++ after) (map-push cells new)
          ∙ (append_assoc (blocks_of cells) (new.block ∷ []) after
          ∙ (ap (λ (x : BlockState). blocks_of cells ++ x ∷ after) block
          ∙ (ap (λ (l : List BlockState). blocks_of cells ++ l) (sym first) ∙ walks.made))));
      each = subst (λ (l : List LeafState). (i : ℕ) (c : LeafState) → slice_get l i ≡ Some c → IsFirstCell grid mesh i c) (sym is) (λ i c h. subst (λ (n : ℕ). IsFirstCell grid mesh n c) (none-before i) (get-push grid mesh cells new 0 (λ j d g. subst (λ (n : ℕ). IsFirstCell grid mesh n d) (sym (none-before j)) (walks.each j d g)) (subst (λ (n : ℕ). IsFirstCell grid mesh n new) (sym (none-before (length cells))) one) i c h));
    }
  where
    none-before : (n : ℕ) → 0 + n ≡ n
    none-before n = omega arith

    map-push : (xs : List LeafState) (x : LeafState) → map (λ (c : LeafState). c.block) (xs ++ x ∷ []) ≡ map (λ (c : LeafState). c.block) xs ++ x.block ∷ []
    map-push [] x = refl
    map-push (y ∷ ys) x = ap (λ (l : List BlockState). y.block ∷ l) (map-push ys x)

pub walk_ends : (grid : Grid) (mesh : List Cube) (blocks : List BlockState) (cells : List LeafState) (rest : List BlockState) → Walks grid mesh blocks cells rest → rest ≡ [] → AreFirstCells grid mesh blocks cells
walk_ends grid mesh blocks cells rest walks none = record {
  made = sym (append-nil (map (λ (c : LeafState). c.block) cells)) ∙ (ap (λ (l : List BlockState). map (λ (c : LeafState). c.block) cells ++ l) (sym none) ∙ walks.made);
  each = walks.each;
}

pub nothing_left : {A : Type 0} (xs : List A) → length xs ≡ 0 → xs ≡ []
nothing_left [] h = refl
nothing_left (x ∷ xs) h = absurd (omega (arith, h))
