-- Blocks that move from list to list one by one, and those that were advanced in several threads.
use Rattle.std.proofs.Common.{◌≡◌, ℕ, List, [], ◌∷◌, ◌++◌, Option, Some, map, length, refl, sym, ap, ◌∙◌, subst, arith}
use Rattle.std.specs.Prelude.{slice_get}
use Rattle.std.proofs.lemmas.List.{length-map}
use Rattle.std.proofs.lemmas.Option.{same_Some, slice_get_past}
use Rattle.phase_core.specs.Lemmas.Lookups.{get-map, get-map_back}
use Rattle.block_fields.specs.Blocks.{BlockState}
use Rattle.params_check.specs.Parameters.{Parameters}
use Rattle.advect.specs.FaceFluxes.{FaceFluxState}
use Rattle.flux_register.specs.Made.{AreUpwindAdvanced}
use Rattle.parallel_maps.specs.declared.moving.Moving.{Moving}
use Rattle.parallel_maps.specs.Advances.{CanAdvance, IsAdvanced, WasAdvanced}
use Rattle.parallel_maps.proofs.BlockAdvances.{advances-all}

-- a list without elements
pub nothing_left : {A : Type 0} (xs : List A) → length xs ≡ 0 → xs ≡ []
nothing_left [] e = refl
nothing_left (x ∷ xs) e = absurd (omega (arith, e))

-- an element behind a list and before another
between : {A : Type 0} (xs : List A) (y : A) (zs : List A) → (xs ++ y ∷ []) ++ zs ≡ xs ++ y ∷ zs
between [] y zs = refl
between (x ∷ xs) y zs = ap (λ l. x ∷ l) (between xs y zs)

map_between : {A B : Type 0} (f : A → B) (xs : List A) (y : A) (zs : List B) → map f (xs ++ y ∷ []) ++ zs ≡ map f xs ++ f y ∷ zs
map_between f [] y zs = refl
map_between f (x ∷ xs) y zs = ap (λ l. f x ∷ l) (map_between f xs y zs)

nil_behind : {A : Type 0} (xs : List A) → xs ++ [] ≡ xs
nil_behind [] = refl
nil_behind (x ∷ xs) = ap (λ l. x ∷ l) (nil_behind xs)

-- the first of what is left has joined those before it, in a pair
pub joins : {A B : Type 0} (f : A → B) (all : List B) (here made : List A) (rest later : List B) (x : A) (y : B)
    → map f here ++ rest ≡ all → rest ≡ y ∷ later → made ≡ here ++ x ∷ [] → f x ≡ y → map f made ++ later ≡ all
joins f all here made rest later x y walks steps pushes is =
    ap (λ l. map f l ++ later) pushes ∙ (map_between f here x later ∙ (ap (λ z. map f here ++ z ∷ later) is ∙ (ap (λ l. map f here ++ l) (sym steps) ∙ walks)))

-- a part of the first of what is left has joined those before it
pub leaves : {A B : Type 0} (f : A → B) (all : List B) (here made : List B) (rest later : List A) (x : A)
    → here ++ map f rest ≡ all → rest ≡ x ∷ later → made ≡ here ++ f x ∷ [] → made ++ map f later ≡ all
leaves f all here made rest later x walks steps pushes =
    ap (λ l. l ++ map f later) pushes ∙ (between here (f x) (map f later) ∙ (ap (λ l. here ++ map f l) (sym steps) ∙ walks))

-- nothing is left
pub joined : {A : Type 0} (all here rest : List A) → here ++ rest ≡ all → rest ≡ [] → here ≡ all
joined all here rest walks none = sym (nil_behind here) ∙ (ap (λ l. here ++ l) (sym none) ∙ walks)

pub left : {A B : Type 0} (f : A → B) (all here : List B) (rest : List A) → here ++ map f rest ≡ all → rest ≡ [] → here ≡ all
left f all here rest walks none = joined all here (map f rest) walks (ap (map f) none)

-- blocks that can be advanced
pub can-each : (p : Parameters) (befores : List BlockState) (moving : List Moving) → map (λ (m : Moving). m.block) moving ≡ befores
    → ((i : ℕ) (b : BlockState) → slice_get befores i ≡ Some b → CanAdvance p b) → (i : ℕ) (m : Moving) → slice_get moving i ≡ Some m → CanAdvance p m.block
can-each p befores moving first can i m here =
    can i m.block (subst (λ (l : List BlockState). slice_get l i ≡ Some m.block) first (get-map (λ (n : Moving). n.block) moving i m here))

-- all blocks that were taken apart again are advanced
pub all-moved : (p : Parameters) (befores blocks : List BlockState) (faces : List FaceFluxState) (moving moved : List Moving)
    → map (λ (m : Moving). m.block) moving ≡ befores → blocks ≡ map (λ (m : Moving). m.block) moved → map Some faces ≡ map (λ (m : Moving). m.faces) moved
    → length moved ≡ length moving
    → ((i : ℕ) (m n : Moving) → slice_get moving i ≡ Some m → slice_get moved i ≡ Some n → WasAdvanced p m.block n.block n.faces)
    → AreUpwindAdvanced p befores blocks faces
all-moved p befores blocks faces moving moved first second third long each =
    let block : Moving → BlockState = λ m. m.block in
    let fluxes : Moving → Option FaceFluxState = λ m. m.faces in
    let some : FaceFluxState → Option FaceFluxState = Some in
    let count : length befores ≡ length moving = sym (ap length first) ∙ length-map moving block in
    let one_each : length blocks ≡ length befores = ap length second ∙ (length-map moved block ∙ (long ∙ sym count)) in
    let counted : length faces ≡ length befores = sym (length-map faces some) ∙ (ap length third ∙ (length-map moved fluxes ∙ (long ∙ sym count))) in
    advances-all p (length befores) befores blocks faces (λ h. omega (arith, h)) (omega arith) (record {
      one_each = one_each;
      counted = counted;
      ahead = λ i h. slice_get_past blocks i (omega (arith, h, one_each)) ∙ sym (slice_get_past befores i h);
      each = λ i b new q below before now face.
          let m = get-map_back block moving i b (subst (λ (l : List BlockState). slice_get l i ≡ Some b) (sym first) before) in
          let n = get-map_back block moved i new (subst (λ (l : List BlockState). slice_get l i ≡ Some new) second now) in
          let k = get-map_back fluxes moved i (Some q) (subst (λ (l : List (Option FaceFluxState)). slice_get l i ≡ Some (Some q)) third (get-map some faces i q face)) in
          let same : n.0 ≡ k.0 = same_Some n.0 k.0 (sym n.1 ∙ k.1) in
          let of_faces : n.0.faces ≡ Some q = ap fluxes same ∙ k.2 in
          subst (λ (x : BlockState). IsAdvanced p x new q) m.2
          (subst (λ (x : BlockState). IsAdvanced p m.0.block x q) n.2
          (subst (λ (x : Option FaceFluxState). WasAdvanced p m.0.block n.0.block x) of_faces (each i m.0 n.0 m.1 n.1)));
    })
