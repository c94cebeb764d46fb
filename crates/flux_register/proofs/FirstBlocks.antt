-- Walking over the blocks of a mesh and the fluxes of their faces, a first cell for each.
use Rattle.std.proofs.Common.{◌≡◌, ℕ, zero, suc, ◌+◌, List, [], ◌∷◌, ◌++◌, Some, length, map, refl, sym, ap, ◌∙◌, subst, arith, append_assoc, append-nil, length-append}
use Rattle.std.specs.Prelude.{slice_get}
use Rattle.std.proofs.lemmas.List.{length-map}
use Rattle.std.proofs.lemmas.Option.{none-some, same_Some}
use Rattle.block_index.specs.Places.{Cube, Grid}
use Rattle.block_fields.specs.Blocks.{BlockState}
use Rattle.advect.specs.FaceFluxes.{FaceFluxState}
use Rattle.flux_register.specs.Cells.{FluxState}
use Rattle.flux_register.specs.Lemmas.FirstCells.{IsFirstCell, AreFirstCells}

-- the cells so far, and the blocks and fluxes that are left
pub record Walks (grid : Grid) (mesh : List Cube) (blocks : List BlockState) (faces : List FaceFluxState) (cells : List FluxState) (rest : List BlockState) (left : List FaceFluxState) : Type 0 where
  pub made : map (λ c. c.block) cells ++ rest ≡ blocks
  pub fluxes : map (λ c. c.faces) cells ++ left ≡ faces
  pub each : (i : ℕ) (c : FluxState) → slice_get cells i ≡ Some c → IsFirstCell grid mesh i c

pub walk_begins : (grid : Grid) (mesh : List Cube) (blocks rest : List BlockState) (faces left : List FaceFluxState) (cells : List FluxState) → cells ≡ [] → rest ≡ blocks → left ≡ faces → Walks grid mesh blocks faces cells rest left
walk_begins grid mesh blocks rest faces left cells none all both = record {
  made = ap (λ (l : List FluxState). map (λ (c : FluxState). c.block) l ++ rest) none ∙ all;
  fluxes = ap (λ (l : List FluxState). map (λ (c : FluxState). c.faces) l ++ left) none ∙ both;
  each = λ i c h. absurd (none-some c (subst (λ (l : List FluxState). slice_get l i ≡ Some c) none h));
}

get-after : {A : Type 0} (xs : List A) (b : A) (rest : List A) → slice_get (xs ++ (b ∷ rest)) (length xs) ≡ Some b
get-after [] b rest = refl
get-after (x ∷ xs) b rest = get-after xs b rest

-- the next block stands after those of the cells
pub next_block : (grid : Grid) (mesh : List Cube) (blocks : List BlockState) (faces : List FaceFluxState) (cells : List FluxState) (rest after : List BlockState) (left : List FaceFluxState) (b : BlockState) → Walks grid mesh blocks faces cells rest left → rest ≡ b ∷ after → slice_get blocks (length cells) ≡ Some b
next_block grid mesh blocks faces cells rest after left b walks first =
    let front = map (λ (c : FluxState). c.block) cells in
    subst (λ (l : List BlockState). slice_get l (length cells) ≡ Some b) (ap (λ (l : List BlockState). front ++ l) (sym first) ∙ walks.made)
    (subst (λ (n : ℕ). slice_get (front ++ (b ∷ after)) n ≡ Some b) (length-map cells (λ (c : FluxState). c.block)) (get-after front b after))

-- as many fluxes are left as blocks
pub as-many : (grid : Grid) (mesh : List Cube) (blocks : List BlockState) (faces : List FaceFluxState) (cells : List FluxState) (rest : List BlockState) (left : List FaceFluxState) → Walks grid mesh blocks faces cells rest left → length faces ≡ length blocks → length left ≡ length rest
as-many grid mesh blocks faces cells rest left walks same =
    let a = length-append (map (λ (c : FluxState). c.block) cells) rest in
    let b = length-append (map (λ (c : FluxState). c.faces) cells) left in
    let c = length-map cells (λ (c : FluxState). c.block) in
    let d = length-map cells (λ (c : FluxState). c.faces) in
    let e = ap length walks.made in
    let f = ap length walks.fluxes in
    omega (arith, a, b, c, d, e, f, same)

-- one more cell
get-push : (grid : Grid) (mesh : List Cube) (xs : List FluxState) (new : FluxState) (k : ℕ) → ((i : ℕ) (c : FluxState) → slice_get xs i ≡ Some c → IsFirstCell grid mesh (k + i) c) → IsFirstCell grid mesh (k + length xs) new → (i : ℕ) (c : FluxState) → slice_get (xs ++ new ∷ []) i ≡ Some c → IsFirstCell grid mesh (k + i) c
get-push grid mesh [] new k old is zero c h = subst (IsFirstCell grid mesh (k + 0)) (same_Some new c h) is
get-push grid mesh [] new k old is (suc i) c h = absurd (none-some c h)
get-push grid mesh (x ∷ xs) new k old is zero c h = old zero c h
get-push grid mesh (x ∷ xs) new k old is (suc i) c h =
    subst (λ (n : ℕ). IsFirstCell grid mesh n c) (moved k i)
    (get-push grid mesh xs new (suc k) (λ j d g. subst (λ (n : ℕ). IsFirstCell grid mesh n d) (sym (moved k j)) (old (suc j) d g)) (subst (λ (n : ℕ). IsFirstCell grid mesh n new) (sym (moved k (length xs))) is) i c h)
  where
    moved : (a b : ℕ) → suc a + b ≡ a + suc b
    moved a b = omega arith

-- what is made of one more cell, and what is left after it
map-front : {A B : Type 0} (f : A → B) (xs : List A) (x : A) (y : B) (rest after all : List B) → map f xs ++ rest ≡ all → rest ≡ y ∷ after → f x ≡ y → map f (xs ++ x ∷ []) ++ after ≡ all
map-front {A} {B} f xs x y rest after all made first is =
    ap (λ (l : List B). l ++ after) (map-push xs)
    ∙ (append_assoc (map f xs) (f x ∷ []) after
    ∙ (ap (λ (z : B). map f xs ++ z ∷ after) is
    ∙ (ap (λ (l : List B). map f xs ++ l) (sym first) ∙ made)))
  where
    map-push : (xs : List A) → map f (xs ++ x ∷ []) ≡ map f xs ++ f x ∷ []
    map-push [] = refl
    map-push (z ∷ zs) = ap (λ (l : List B). f z ∷ l) (map-push zs)

pub walk_goes_on : (grid : Grid) (mesh : List Cube) (blocks rest after : List BlockState) (faces left later : List FaceFluxState) (cells now : List FluxState) (b : BlockState) (q : FaceFluxState) (new : FluxState) → Walks grid mesh blocks faces cells rest left → rest ≡ b ∷ after → left ≡ q ∷ later
    → now ≡ cells ++ new ∷ [] → new.block ≡ b → new.faces ≡ q → IsFirstCell grid mesh (length cells) new → Walks grid mesh blocks faces now after later
walk_goes_on grid mesh blocks rest after faces left later cells now b q new walks first second is block fluxes one =
    subst (λ (l : List FluxState). Walks grid mesh blocks faces l after later) (sym is) (record {
      made = map-front (λ (c : FluxState). c.block) cells new b rest after blocks walks.made first block;
      fluxes = map-front (λ (c : FluxState). c.faces) cells new q left later faces walks.fluxes second fluxes;
      each = λ i c h. subst (λ (n : ℕ). IsFirstCell grid mesh n c) (none-before i) (get-push grid mesh cells new 0 (λ j d g. subst (λ (n : ℕ). IsFirstCell grid mesh n d) (sym (none-before j)) (walks.each j d g)) (subst (λ (n : ℕ). IsFirstCell grid mesh n new) (sym (none-before (length cells))) one) i c h);
    })
  where
    none-before : (n : ℕ) → 0 + n ≡ n
    none-before n = omega arith

pub nothing_left : {A : Type 0} (xs : List A) → length xs ≡ 0 → xs ≡ []
nothing_left [] h = refl
nothing_left (x ∷ xs) h = absurd (omega (arith, h))

pub walk_ends : (grid : Grid) (mesh : List Cube) (blocks : List BlockState) (faces : List FaceFluxState) (cells : List FluxState) (rest : List BlockState) (left : List FaceFluxState) → Walks grid mesh blocks faces cells rest left → rest ≡ [] → length faces ≡ length blocks → AreFirstCells grid mesh blocks faces cells
walk_ends grid mesh blocks faces cells rest left walks none same =
    let over : left ≡ [] = nothing_left left (as-many grid mesh blocks faces cells rest left walks same ∙ ap length none) in
    record {
      made = sym (append-nil (map (λ (c : FluxState). c.block) cells)) ∙ (ap (λ (l : List BlockState). map (λ (c : FluxState). c.block) cells ++ l) (sym none) ∙ walks.made);
      fluxes = sym (append-nil (map (λ (c : FluxState). c.faces) cells)) ∙ (ap (λ (l : List FaceFluxState). map (λ (c : FluxState). c.faces) cells ++ l) (sym over) ∙ walks.fluxes);
      each = walks.each;
    }
