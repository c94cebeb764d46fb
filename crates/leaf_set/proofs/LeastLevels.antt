-- There is a least solution: from the lowest levels of the range on, one level that breaks a rule is raised at a
-- time. Raised levels stay at or below every solution, so this ends, in a solution.
use Rattle.std.proofs.Common.{◌≡◌, ℕ, zero, suc, ◌+◌, ◌-◌, ◌<◌, ◌≤◌, min, List, [], ◌∷◌, Some, map, length, slice_get, slice_index, refl, sym, ap, ◌∙◌, subst, arith, ◌⊎◌, inl, inr}
use Rattle.std.proofs.lemmas.List.{length-map, get_or_past}
use Rattle.std.proofs.lemmas.Bool.{cases_lt, cases_eq}
use Rattle.std.proofs.lemmas.Option.{slice_get_within, slice_get_cases}
use Rattle.block_index.specs.Places.{Cube, Grid, IsDomain, child_of, parent_of}
use Rattle.block_index.specs.Touching.{Touches}
use Rattle.block_index.specs.declared.wish.Wish.{Wish}
use Rattle.leaf_set.specs.Meshes.{IsLeaf, IsMesh, IsBalanced}
use Rattle.leaf_set.specs.LevelRules.{wished_level, AreSiblings, KeepsRange, MeetsWish, KeepsJump, KeepsLone, KeepsSiblings, IsSolution, IsLeast}
use Rattle.leaf_set.specs.Solutions.{greatest_levels}
use Rattle.leaf_set.proofs.Leaves.{find_leaf}
use Rattle.leaf_set.proofs.Solutions.{slice_index-map, greatest_at, greatest_levels-IsSolution}
use Rattle.leaf_set.proofs.Decisions.{touches_cases, siblings_cases, each_or, each_below_or}

-- ---- raising one level of a list

raised : ℕ → List ℕ → List ℕ
raised i [] = []
raised zero (d ∷ ds) = suc d ∷ ds
raised (suc i) (d ∷ ds) = d ∷ raised i ds

length-raised : (i : ℕ) (ds : List ℕ) → length (raised i ds) ≡ length ds
unfolding raised
length-raised i [] = refl
length-raised zero (d ∷ ds) = refl
length-raised (suc i) (d ∷ ds) = ap suc (length-raised i ds)

raised_here : (i : ℕ) (ds : List ℕ) → slice_index (raised i ds) i ≤ slice_index ds i + 1
unfolding raised
raised_here i [] = omega arith
raised_here zero (d ∷ ds) = omega arith
raised_here (suc i) (d ∷ ds) = raised_here i ds

raised_there : (i j : ℕ) (ds : List ℕ) → (j ≡ i → ⊥) → slice_index (raised i ds) j ≡ slice_index ds j
unfolding raised
raised_there i j [] n = refl
raised_there zero zero (d ∷ ds) n = absurd (n refl)
raised_there zero (suc j) (d ∷ ds) n = refl
raised_there (suc i) zero (d ∷ ds) n = refl
raised_there (suc i) (suc j) (d ∷ ds) n = raised_there i j ds (λ e. n (ap suc e))

raised_grows : (i j : ℕ) (ds : List ℕ) → slice_index ds j ≤ slice_index (raised i ds) j
unfolding raised
raised_grows i j [] = omega arith
raised_grows zero zero (d ∷ ds) = omega arith
raised_grows zero (suc j) (d ∷ ds) = omega arith
raised_grows (suc i) zero (d ∷ ds) = omega arith
raised_grows (suc i) (suc j) (d ∷ ds) = raised_grows i j ds

total : List ℕ → ℕ
total [] = 0
total (d ∷ ds) = d + total ds

total-raised : (i : ℕ) (ds : List ℕ) → i < length ds → total (raised i ds) ≡ total ds + 1
unfolding raised total
total-raised i [] h = absurd (omega arith)
total-raised zero (d ∷ ds) h = omega arith
total-raised (suc i) (d ∷ ds) h = omega (arith, total-raised i ds (omega arith))

total-below : (ds es : List ℕ) → length ds ≡ length es → ((i : ℕ) → slice_index ds i ≤ slice_index es i) → total ds ≤ total es
unfolding total
total-below [] [] l h = omega arith
total-below [] (e ∷ es) l h = absurd (omega arith)
total-below (d ∷ ds) [] l h = absurd (omega arith)
total-below (d ∷ ds) (e ∷ es) l h = omega (arith, h zero, total-below ds es (omega arith) (λ i. h (suc i)))

module _ (grid : Grid) (mesh : List Cube) (wishes : List Wish) (g : IsDomain grid) (m : IsMesh grid mesh) (b : IsBalanced grid mesh) where
  -- levels at or above the lowest of the range and at or below every solution
  record IsLow (ds : List ℕ) : Type 0 where
    one_each : length ds ≡ length mesh
    lowest : (i : ℕ) (a : Cube) → slice_get mesh i ≡ Some a → a.level - 1 ≤ slice_index ds i
    below : (others : List ℕ) → IsSolution grid mesh wishes others → (i : ℕ) → slice_index ds i ≤ slice_index others i

  -- a leaf whose level is below its level in every solution
  abbrev Short : List ℕ → Type 0
  Short ds = (i : ℕ) × (i < length mesh) × ((others : List ℕ) → IsSolution grid mesh wishes others → slice_index ds i < slice_index others i)

  -- ---- a rule that is broken shows a leaf whose level is too low

  module _ (ds : List ℕ) (low : IsLow ds) where
    -- a level is at least the bound, or the bound is one that each solution meets
    bound_or : (i : ℕ) (a : Cube) (n : ℕ) → slice_get mesh i ≡ Some a → ((others : List ℕ) → IsSolution grid mesh wishes others → n ≤ slice_index others i) → (n ≤ slice_index ds i) ⊎ Short ds
    bound_or i a n s h =
        elim (cases_lt (slice_index ds i) n) [
          | inr enough ↦ inl enough
          | inl less ↦ inr (i, slice_get_within mesh i a s, λ others o. let k = h others o in omega arith)
        ]

    wish_or : MeetsWish grid mesh wishes ds ⊎ Short ds
    wish_or =
        elim (each_or (Short ds) mesh (λ i a. (j : ℕ) (w : Wish) → slice_get wishes j ≡ Some w → j ≡ i → min (wished_level w a.level) grid.finest ≤ slice_index ds i) (λ i a s.
        each_or (Short ds) wishes (λ j w. j ≡ i → min (wished_level w a.level) grid.finest ≤ slice_index ds i) (λ j w t.
        elim (cases_eq j i) [
          | inr n ↦ inl (λ e. absurd (n e))
          | inl same ↦
              elim (bound_or i a (min (wished_level w a.level) grid.finest) s (λ others o. o.wish i a w s (subst (λ k. slice_get wishes k ≡ Some w) same t))) [
                | inr short ↦ inr short
                | inl k ↦ inl (λ e. k)
              ]
        ]))) [
          | inr short ↦ inr short
          | inl h ↦ inl (λ i a w s t. h i a s i w t refl)
        ]

    jump_or : KeepsJump grid mesh ds ⊎ Short ds
    jump_or =
        elim (each_or (Short ds) mesh (λ i a. (j : ℕ) (c : Cube) → slice_get mesh j ≡ Some c → Touches grid a c → slice_index ds j - 1 ≤ slice_index ds i) (λ i a s.
        each_or (Short ds) mesh (λ j c. Touches grid a c → slice_index ds j - 1 ≤ slice_index ds i) (λ j c t.
        elim (touches_cases grid a c) [
          | inr n ↦ inl (λ h. absurd (n h))
          | inl touch ↦
              elim (bound_or i a (slice_index ds j - 1) s (λ others o.
              let k = o.jump i j a c s t touch in
              let l = low.below others o j in
              omega arith)) [
                | inr short ↦ inr short
                | inl k ↦ inl (λ h. k)
              ]
        ]))) [
          | inr short ↦ inr short
          | inl h ↦ inl (λ i j a c s t touch. h i a s j c t touch)
        ]

    lone_or : KeepsLone mesh ds ⊎ Short ds
    lone_or =
        elim (each_or (Short ds) mesh (λ i a. (k : ℕ) → k < 8 → 1 ≤ a.level → (IsLeaf mesh (child_of (parent_of a) k) → ⊥) → a.level ≤ slice_index ds i) (λ i a s.
        each_below_or (Short ds) 8 (λ k. 1 ≤ a.level → (IsLeaf mesh (child_of (parent_of a) k) → ⊥) → a.level ≤ slice_index ds i) (λ k l.
        elim (cases_lt a.level 1) [
          | inl root ↦ inl (λ h n. absurd (omega arith))
          | inr above ↦
              elim (find_leaf mesh (child_of (parent_of a) k)) [
                | inl leaf ↦ inl (λ h n. absurd (n leaf))
                | inr none ↦
                    elim (bound_or i a a.level s (λ others o. o.lone i k a s above l none)) [
                      | inr short ↦ inr short
                      | inl e ↦ inl (λ h n. e)
                    ]
              ]
        ]))) [
          | inr short ↦ inr short
          | inl h ↦ inl (λ i k a s above l none. h i a s k l above none)
        ]

    siblings_or : KeepsSiblings mesh ds ⊎ Short ds
    siblings_or =
        elim (each_or (Short ds) mesh (λ i a. (j : ℕ) (c : Cube) → slice_get mesh j ≡ Some c → AreSiblings a c → min (slice_index ds j) a.level ≤ slice_index ds i) (λ i a s.
        each_or (Short ds) mesh (λ j c. AreSiblings a c → min (slice_index ds j) a.level ≤ slice_index ds i) (λ j c t.
        elim (siblings_cases a c) [
          | inr n ↦ inl (λ h. absurd (n h))
          | inl together ↦
              elim (bound_or i a (min (slice_index ds j) a.level) s (λ others o.
              let k = o.siblings i j a c s t together in
              let l = low.below others o j in
              omega arith)) [
                | inr short ↦ inr short
                | inl k ↦ inl (λ h. k)
              ]
        ]))) [
          | inr short ↦ inr short
          | inl h ↦ inl (λ i j a c s t together. h i a s j c t together)
        ]

    range_low : KeepsRange grid mesh ds
    range_low i a s =
        let e = greatest_at grid mesh i a s in
        let k = low.below (greatest_levels grid mesh) (greatest_levels-IsSolution grid mesh wishes g m b) i in
        (low.lowest i a s, omega arith)

    solution_or : IsSolution grid mesh wishes ds ⊎ Short ds
    solution_or =
        elim wish_or [
          | inr short ↦ inr short
          | inl wish ↦
              elim jump_or [
                | inr short ↦ inr short
                | inl jump ↦
                    elim lone_or [
                      | inr short ↦ inr short
                      | inl lone ↦
                          elim siblings_or [
                            | inr short ↦ inr short
                            | inl siblings ↦ inl (record { one_each = low.one_each; range = range_low; wish = wish; jump = jump; lone = lone; siblings = siblings })
                          ]
                    ]
              ]
        ]

    -- low levels stay low when a leaf whose level is too low is raised
    raised-IsLow : (short : Short ds) → IsLow (raised short.0 ds)
    raised-IsLow short = record {
      one_each = length-raised short.0 ds ∙ low.one_each;
      lowest = λ i a s. let h = low.lowest i a s in let k = raised_grows short.0 i ds in omega arith;
      below = below;
    }
      where
        below : (others : List ℕ) → IsSolution grid mesh wishes others → (i : ℕ) → slice_index (raised short.0 ds) i ≤ slice_index others i
        below others o i =
            elim (cases_eq i short.0) [
              | inl same ↦
                  let h = raised_here short.0 ds in
                  let k = short.2 others o in
                  subst (λ n. slice_index (raised short.0 ds) n ≤ slice_index others n) (sym same) (let q : slice_index (raised short.0 ds) short.0 ≤ slice_index others short.0 = omega arith in q)
              | inr n ↦
                  let h = raised_there short.0 i ds n in
                  let k = low.below others o i in
                  omega arith
            ]

    total_bound : total ds ≤ total (greatest_levels grid mesh)
    total_bound =
        let o = greatest_levels-IsSolution grid mesh wishes g m b in
        total-below ds (greatest_levels grid mesh) (low.one_each ∙ sym o.one_each) (low.below (greatest_levels grid mesh) o)

  raise : (fuel : ℕ) (ds : List ℕ) → IsLow ds → total (greatest_levels grid mesh) < total ds + fuel → (levels : List ℕ) × IsLeast grid mesh wishes levels
  raise zero ds low h = absurd (let k = total_bound ds low in omega arith)
  raise (suc fuel) ds low h =
      elim (solution_or ds low) [
        | inl solves ↦ (ds, record { solves = solves; least = low.below })
        | inr short ↦
            let k = total-raised short.0 ds (let l = low.one_each in let n = short.1 in omega arith) in
            raise fuel (raised short.0 ds) (raised-IsLow ds low short) (omega arith)
      ]

  lowest_levels : List ℕ
  lowest_levels = map (λ c. c.level - 1) mesh

  lowest-IsLow : IsLow lowest_levels
  unfolding lowest_levels
  lowest-IsLow = record {
    one_each = length-map mesh (λ c. c.level - 1);
    lowest = λ i a s. let e = slice_index-map (λ c. c.level - 1) mesh i a s in omega arith;
    below = below;
  }
    where
      below : (others : List ℕ) → IsSolution grid mesh wishes others → (i : ℕ) → slice_index (map (λ c. c.level - 1) mesh) i ≤ slice_index others i
      below others o i =
          elim ((slice_get_cases mesh i).1) [
            | inl within ↦
                let e = slice_index-map (λ c. c.level - 1) mesh i within.0 within.2 in
                let r = o.range i within.0 within.2 in
                omega (arith, r.0)
            | inr past ↦
                let n = length-map mesh (λ c. c.level - 1) in
                let e = get_or_past (map (λ c. c.level - 1) mesh) i 0 (omega (arith, past.0)) in
                omega arith
          ]

  pub least_exists : (levels : List ℕ) × IsLeast grid mesh wishes levels
  least_exists = raise (total (greatest_levels grid mesh) + 1) lowest_levels lowest-IsLow (omega arith)
