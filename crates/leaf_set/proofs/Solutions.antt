-- Solutions of the level rules: the greatest levels are one, and so is the lesser of two at each leaf. There is at
-- most one least solution.
use Rattle.std.proofs.Common.{◌≡◌, ℕ, zero, suc, ◌+◌, ◌≤◌, min, List, [], ◌∷◌, Some, map, length, slice_get, slice_index, refl, sym, ap, ◌∙◌, arith, inl, inr}
use Rattle.std.specs.Option.{option_map}
use Rattle.std.proofs.lemmas.Option.{slice_get-map, slice_get_cases, get_or_from_slice_get}
use Rattle.std.proofs.lemmas.List.{length-map, get_or_past}
use Rattle.block_index.specs.Places.{Cube, Grid, IsDomain}
use Rattle.block_index.specs.declared.wish.Wish.{Wish}
use Rattle.block_index.specs.declared.wish.Wish.TheVariants.{Coarsen, Stay, Refine}
use Rattle.leaf_set.specs.Meshes.{IsMesh, IsBalanced}
use Rattle.leaf_set.specs.LevelRules.{wished_level, KeepsRange, MeetsWish, KeepsJump, KeepsLone, KeepsSiblings, IsSolution, IsLeast}
use Rattle.leaf_set.specs.Solutions.{greatest_levels, pointwise_min}
use Rattle.leaf_set.proofs.Boxes.{Touches-sym}

-- ---- levels by their leaves

pub slice_index-map : (f : Cube → ℕ) (mesh : List Cube) (i : ℕ) (a : Cube) → slice_get mesh i ≡ Some a → slice_index (map f mesh) i ≡ f a
slice_index-map f mesh i a e = get_or_from_slice_get (map f mesh) i (f a) 0 (slice_get-map f mesh i ∙ ap (option_map f) e)

-- lists of levels that agree everywhere are one
pub same_levels : (ds es : List ℕ) → length ds ≡ length es → ((i : ℕ) → slice_index ds i ≡ slice_index es i) → ds ≡ es
same_levels [] [] l h = refl
same_levels [] (e ∷ es) l h = absurd (omega arith)
same_levels (d ∷ ds) [] l h = absurd (omega arith)
same_levels (d ∷ ds) (e ∷ es) l h =
    ap (λ x. x ∷ ds) (h zero) ∙ ap (λ xs. e ∷ xs) (same_levels ds es (omega arith) (λ i. h (suc i)))

-- ---- the greatest levels

wished_level-next : (w : Wish) (l : ℕ) → wished_level w l ≤ l + 1
wished_level-next Coarsen l = omega arith
wished_level-next Stay l = omega arith
wished_level-next Refine l = omega arith

pub greatest_at : (grid : Grid) (mesh : List Cube) (i : ℕ) (a : Cube) → slice_get mesh i ≡ Some a → slice_index (greatest_levels grid mesh) i ≡ min (a.level + 1) grid.finest
greatest_at grid mesh = slice_index-map (λ c. min (c.level + 1) grid.finest) mesh

pub greatest_levels-IsSolution : (grid : Grid) (mesh : List Cube) (wishes : List Wish) → IsDomain grid → IsMesh grid mesh → IsBalanced grid mesh → IsSolution grid mesh wishes (greatest_levels grid mesh)
greatest_levels-IsSolution grid mesh wishes g m b = record {
  one_each = length-map mesh (λ c. min (c.level + 1) grid.finest);
  range = range;
  wish = wish;
  jump = jump;
  lone = lone;
  siblings = siblings;
}
  where
    range : KeepsRange grid mesh (greatest_levels grid mesh)
    range i a s =
        let e = greatest_at grid mesh i a s in
        let h = (m.inside i a s).level in
        (omega arith, omega arith)

    wish : MeetsWish grid mesh wishes (greatest_levels grid mesh)
    wish i a w s t =
        let e = greatest_at grid mesh i a s in
        let h = wished_level-next w a.level in
        omega arith

    jump : KeepsJump grid mesh (greatest_levels grid mesh)
    jump i j a c s t h =
        let e = greatest_at grid mesh i a s in
        let f = greatest_at grid mesh j c t in
        let k : c.level ≤ a.level + 1 = b j i c a t s (Touches-sym grid a c h) in
        omega arith

    lone : KeepsLone mesh (greatest_levels grid mesh)
    lone i k a s h l n =
        let e = greatest_at grid mesh i a s in
        let h = (m.inside i a s).level in
        omega arith

    siblings : KeepsSiblings mesh (greatest_levels grid mesh)
    siblings i j a c s t h =
        let e = greatest_at grid mesh i a s in
        let h = (m.inside i a s).level in
        omega arith

-- every solution is at or below the greatest levels
pub IsSolution-greatest : (grid : Grid) (mesh : List Cube) (wishes : List Wish) (levels : List ℕ) → IsSolution grid mesh wishes levels → (i : ℕ) → slice_index levels i ≤ slice_index (greatest_levels grid mesh) i
IsSolution-greatest grid mesh wishes levels h i =
    elim ((slice_get_cases mesh i).1) [
      | inl within ↦
          let e = greatest_at grid mesh i within.0 within.2 in
          let r = h.range i within.0 within.2 in
          omega (arith, r.1)
      | inr past ↦
          let e = get_or_past levels i 0 (omega (arith, past.0, h.one_each)) in
          omega arith
    ]

-- ---- the lesser of two

pub slice_index-pointwise_min : (ds es : List ℕ) (i : ℕ) → slice_index (pointwise_min ds es) i ≡ min (slice_index ds i) (slice_index es i)
slice_index-pointwise_min [] es i = omega arith
slice_index-pointwise_min (d ∷ ds) [] i = omega arith
slice_index-pointwise_min (d ∷ ds) (e ∷ es) zero = refl
slice_index-pointwise_min (d ∷ ds) (e ∷ es) (suc i) = slice_index-pointwise_min ds es i

pub length-pointwise_min : (ds es : List ℕ) → length (pointwise_min ds es) ≡ min (length ds) (length es)
length-pointwise_min [] es = omega arith
length-pointwise_min (d ∷ ds) [] = omega arith
length-pointwise_min (d ∷ ds) (e ∷ es) = omega (arith, length-pointwise_min ds es)

pub pointwise_min-IsSolution : (grid : Grid) (mesh : List Cube) (wishes : List Wish) (ds es : List ℕ) → IsSolution grid mesh wishes ds → IsSolution grid mesh wishes es → IsSolution grid mesh wishes (pointwise_min ds es)
pointwise_min-IsSolution grid mesh wishes ds es p q = record {
  one_each = omega (arith, length-pointwise_min ds es, p.one_each, q.one_each);
  range = range;
  wish = wish;
  jump = jump;
  lone = lone;
  siblings = siblings;
}
  where
    range : KeepsRange grid mesh (pointwise_min ds es)
    range i a s =
        let e = slice_index-pointwise_min ds es i in
        let h = p.range i a s in
        let k = q.range i a s in
        (omega (arith, h.0, k.0), omega (arith, h.1, k.1))

    wish : MeetsWish grid mesh wishes (pointwise_min ds es)
    wish i a w s t =
        let e = slice_index-pointwise_min ds es i in
        let h = p.wish i a w s t in
        let k = q.wish i a w s t in
        omega arith

    jump : KeepsJump grid mesh (pointwise_min ds es)
    jump i j a c s t touch =
        let e = slice_index-pointwise_min ds es i in
        let f = slice_index-pointwise_min ds es j in
        let h = p.jump i j a c s t touch in
        let k = q.jump i j a c s t touch in
        omega arith

    lone : KeepsLone mesh (pointwise_min ds es)
    lone i n a s above l none =
        let e = slice_index-pointwise_min ds es i in
        let h = p.lone i n a s above l none in
        let k = q.lone i n a s above l none in
        omega arith

    siblings : KeepsSiblings mesh (pointwise_min ds es)
    siblings i j a c s t together =
        let e = slice_index-pointwise_min ds es i in
        let f = slice_index-pointwise_min ds es j in
        let h = p.siblings i j a c s t together in
        let k = q.siblings i j a c s t together in
        omega arith

-- ---- the least

pub IsLeast-one : (grid : Grid) (mesh : List Cube) (wishes : List Wish) (ds es : List ℕ) → IsLeast grid mesh wishes ds → IsLeast grid mesh wishes es → ds ≡ es
IsLeast-one grid mesh wishes ds es p q =
    same_levels ds es (p.solves.one_each ∙ sym q.solves.one_each) (λ i.
    let a = p.least es q.solves i in
    let b = q.least ds p.solves i in
    omega arith)

pub IsSolution-changes : (grid : Grid) (mesh : List Cube) (wishes : List Wish) (levels : List ℕ) → IsSolution grid mesh wishes levels → (i : ℕ) (a : Cube) → slice_get mesh i ≡ Some a → (a.level ≤ slice_index levels i + 1) × (slice_index levels i ≤ a.level + 1)
IsSolution-changes grid mesh wishes levels h i a s = let r = h.range i a s in (omega (arith, r.0), omega (arith, r.1))
