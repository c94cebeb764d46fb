-- Broken rules: levels that break none are a solution, and a solution breaks none.
use Rattle.std.proofs.Common.{◌≡◌, ℕ, ◌+◌, ◌-◌, ◌<◌, ◌≤◌, min, List, Some, slice_get, slice_index, length, sym, ap, ◌∙◌, arith, inl, inr}
use Rattle.std.specs.Prelude.{Contains}
use Rattle.std.proofs.lemmas.Bool.{cases_lt}
use Rattle.std.proofs.lemmas.Option.{slice_get_within, slice_get-get_or}
use Rattle.block_index.specs.Places.{Cube, Grid, IsDomain}
use Rattle.block_index.specs.declared.wish.Wish.{Wish}
use Rattle.leaf_set.specs.LevelRules.{IsSolution, wished_level}
use Rattle.leaf_set.specs.Meshes.{IsMesh}
use Rattle.leaf_set.specs.TouchingLeaves.{AreTouching}
use Rattle.leaf_set.proofs.MeshFacts.{leaves_distinct}
use Rattle.sibling_rule.specs.BrokenRules.{Breaks, BreaksJump, BreaksLone, BreaksRange, BreaksSibling, BreaksWish, rule_rank}
use Rattle.sibling_rule.specs.Lemmas.TouchAt.{TouchAt}
use Rattle.sibling_rule.specs.declared.broken.LevelRule.{LevelRule}
use Rattle.sibling_rule.specs.declared.broken.LevelRule.TheVariants.{Range, Wish as ByWish, Jump, Lone, Sibling}
use Rattle.sibling_rule.proofs.SiblingPlaces.{AreSiblings-Touches}

module _ (grid : Grid) (mesh : List Cube) (wishes : List Wish) (levels : List ℕ) where
  -- a solution breaks no rule
  pub solution-unbroken : IsSolution grid mesh wishes levels → (r : LevelRule) (i j : ℕ) → Breaks grid mesh wishes levels r i j → ⊥
  solution-unbroken s Range i j b = b.1.outside (s.range i b.1.leaf b.1.is_leaf)
  solution-unbroken s ByWish i j b =
      let w = s.wish i b.1.leaf b.1.wish b.1.is_leaf b.1.is_wish in
      let k = b.1.below in
      omega arith
  solution-unbroken s Jump i j b =
      let w = s.jump i j b.leaf b.beside b.is_leaf b.is_beside b.touch in
      let k = b.below in
      omega arith
  solution-unbroken s Lone i j b =
      let w = s.lone i b.1.lone.1.0 b.1.leaf b.1.is_leaf b.1.lone.0 b.1.lone.1.1 b.1.lone.1.2 in
      let k = b.1.below in
      omega arith
  solution-unbroken s Sibling i j b =
      let w = s.siblings i j b.leaf b.sibling b.is_leaf b.is_sibling b.siblings in
      let k = b.below in
      omega arith

  range_at : (i : ℕ) (a : Cube) → slice_get mesh i ≡ Some a → (BreaksRange grid mesh levels i → ⊥) → (a.level - 1 ≤ slice_index levels i) × (slice_index levels i ≤ min (a.level + 1) grid.finest)
  range_at i a s none =
      elim (cases_lt (slice_index levels i) (a.level - 1)) [
        | inl low ↦ absurd (none (record { leaf = a; is_leaf = s; outside = λ h. let k = h.0 in omega arith }))
        | inr low ↦
            elim (cases_lt (min (a.level + 1) grid.finest) (slice_index levels i)) [
              | inl high ↦ absurd (none (record { leaf = a; is_leaf = s; outside = λ h. let k = h.1 in omega arith }))
              | inr high ↦ (low, high)
            ]
      ]

  -- levels that break none are a solution
  pub unbroken-solution : length levels ≡ length mesh → ((r : LevelRule) (i j : ℕ) → Breaks grid mesh wishes levels r i j → ⊥) → IsSolution grid mesh wishes levels
  unbroken-solution long none = record {
    one_each = long;
    range = λ i a s. range_at i a s (λ b. none Range i i (refl_of i, b));
    wish = λ i a w s t. elim (cases_lt (slice_index levels i) (min (wished_level w a.level) grid.finest)) [
      | inl below ↦ absurd (none ByWish i i (refl_of i, record { leaf = a; wish = w; is_leaf = s; is_wish = t; below = below }))
      | inr met ↦ met
    ];
    jump = λ i j a c s t touch. elim (cases_lt (slice_index levels i) (slice_index levels j - 1)) [
      | inl below ↦ absurd (none Jump i j (record { leaf = a; beside = c; is_leaf = s; is_beside = t; touch = touch; below = below }))
      | inr met ↦ met
    ];
    lone = λ i k a s root l n. elim (cases_lt (slice_index levels i) a.level) [
      | inl below ↦ absurd (none Lone i i (refl_of i, record { leaf = a; is_leaf = s; lone = (root, (k, l, n)); below = below }))
      | inr met ↦ met
    ];
    siblings = λ i j a c s t h. elim (cases_lt (slice_index levels i) (min (slice_index levels j) a.level)) [
      | inl below ↦ absurd (none Sibling i j (record { leaf = a; sibling = c; is_leaf = s; is_sibling = t; siblings = h; below = below }))
      | inr met ↦ met
    ];
  }
    where
      refl_of : (i : ℕ) → i ≡ i
      refl_of i = λ _. i

  -- a leaf that breaks a rule is one
  pub broken-within : (r : LevelRule) (i j : ℕ) → Breaks grid mesh wishes levels r i j → i < length mesh
  broken-within Range i j b = slice_get_within mesh i b.1.leaf b.1.is_leaf
  broken-within ByWish i j b = slice_get_within mesh i b.1.leaf b.1.is_leaf
  broken-within Jump i j b = slice_get_within mesh i b.leaf b.is_leaf
  broken-within Lone i j b = slice_get_within mesh i b.1.leaf b.1.is_leaf
  broken-within Sibling i j b = slice_get_within mesh i b.leaf b.is_leaf

  -- no rule of a leaf before one is broken
  pub none-earlier : (i n : ℕ) → (0 < n → BreaksRange grid mesh levels i → ⊥) → (1 < n → BreaksWish grid mesh wishes levels i → ⊥) → (2 < n → (j : ℕ) → BreaksJump grid mesh levels i j → ⊥) → (3 < n → BreaksLone mesh levels i → ⊥) → (4 < n → (j : ℕ) → BreaksSibling mesh levels i j → ⊥) → (r : LevelRule) (j : ℕ) → rule_rank r < n → Breaks grid mesh wishes levels r i j → ⊥
  none-earlier i n range wish jump lone sibling Range j h b = range h b.1
  none-earlier i n range wish jump lone sibling ByWish j h b = wish h b.1
  none-earlier i n range wish jump lone sibling Jump j h b = jump h j b
  none-earlier i n range wish jump lone sibling Lone j h b = lone h b.1
  none-earlier i n range wish jump lone sibling Sibling j h b = sibling h j b

  -- a leaf by which another breaks a rule is among those that touch it
  pub jump-around : (i : ℕ) (js : List ℕ) → AreTouching grid mesh i js → (j : ℕ) → BreaksJump grid mesh levels i j → Contains js j
  jump-around i js around j b = around.all j b.leaf b.beside b.is_leaf b.is_beside b.touch

  pub sibling-around : IsDomain grid → IsMesh grid mesh → (i : ℕ) (js : List ℕ) → AreTouching grid mesh i js → (j : ℕ) → BreaksSibling mesh levels i j → Contains js j
  sibling-around d w i js around j b =
      around.all j b.leaf b.sibling b.is_leaf b.is_sibling
      (AreSiblings-Touches grid b.leaf b.sibling b.siblings (λ e.
      let same : i ≡ j = leaves_distinct grid mesh d w i j b.leaf b.is_leaf (b.is_sibling ∙ ap Some (sym e)) in
      let level : slice_index levels i ≡ slice_index levels j = ap (slice_index levels) same in
      let k = b.below in
      omega arith))

  -- a leaf around another touches it
  pub around-touch : (i : ℕ) (js : List ℕ) (j : ℕ) → AreTouching grid mesh i js → Contains js j → TouchAt grid mesh i j
  around-touch i js j around m a s = around.touch j a m s

  pub below-jump : (i j : ℕ) → i < length mesh → TouchAt grid mesh i j → slice_index levels i < slice_index levels j - 1 → BreaksJump grid mesh levels i j
  below-jump i j h touch below =
      let none : Cube = record { level = 0; x = 0; y = 0; z = 0 } in
      let s = slice_get-get_or mesh i none h in
      let t = touch _ s in
      record { leaf = _; beside = t.0; is_leaf = s; is_beside = t.1; touch = t.2; below = below }
