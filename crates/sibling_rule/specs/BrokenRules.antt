-- What levels that are no solution break first: the first leaf that breaks a level rule, its first broken rule, and the
-- first leaf beside it that this rule is broken by.
use Rattle.std.specs.Prelude.{◌≡◌, ℕ, ◌+◌, ◌-◌, ◌<◌, ◌≤◌, min, List, Some, slice_get, slice_index}
use Rattle.block_index.specs.Places.{Cube, Grid}
use Rattle.block_index.specs.Touching.{Touches}
use Rattle.block_index.specs.declared.wish.Wish.{Wish}
use Rattle.leaf_set.specs.LevelRules.{AreSiblings, wished_level}
use Rattle.sibling_rule.specs.Lemmas.OwnLevel.{IsLone}
use Rattle.sibling_rule.specs.declared.broken.Broken.{Broken}
use Rattle.sibling_rule.specs.declared.broken.LevelRule.{LevelRule}
use Rattle.sibling_rule.specs.declared.broken.LevelRule.TheVariants.{Range, Wish as ByWish, Jump, Lone, Sibling}

-- the leaf at i: its level isn't in its range
pub record BreaksRange (grid : Grid) (mesh : List Cube) (levels : List ℕ) (i : ℕ) : Type 0 where
  pub leaf : Cube
  pub is_leaf : slice_get mesh i ≡ Some leaf
  pub outside : (leaf.level - 1 ≤ slice_index levels i) × (slice_index levels i ≤ min (leaf.level + 1) grid.finest) → ⊥

-- its level is below the one wished for, as far as the range allows that
pub record BreaksWish (grid : Grid) (mesh : List Cube) (wishes : List Wish) (levels : List ℕ) (i : ℕ) : Type 0 where
  pub leaf : Cube
  pub wish : Wish
  pub is_leaf : slice_get mesh i ≡ Some leaf
  pub is_wish : slice_get wishes i ≡ Some wish
  pub below : slice_index levels i < min (wished_level wish leaf.level) grid.finest

-- its level is more than one below that of the leaf at j, which touches it
pub record BreaksJump (grid : Grid) (mesh : List Cube) (levels : List ℕ) (i j : ℕ) : Type 0 where
  pub leaf : Cube
  pub beside : Cube
  pub is_leaf : slice_get mesh i ≡ Some leaf
  pub is_beside : slice_get mesh j ≡ Some beside
  pub touch : Touches grid leaf beside
  pub below : slice_index levels i < slice_index levels j - 1

-- it coarsens, and one of its sibling places is no leaf
pub record BreaksLone (mesh : List Cube) (levels : List ℕ) (i : ℕ) : Type 0 where
  pub leaf : Cube
  pub is_leaf : slice_get mesh i ≡ Some leaf
  pub lone : IsLone mesh leaf
  pub below : slice_index levels i < leaf.level

-- it coarsens, and the leaf at j, its sibling, doesn't coarsen as far
pub record BreaksSibling (mesh : List Cube) (levels : List ℕ) (i j : ℕ) : Type 0 where
  pub leaf : Cube
  pub sibling : Cube
  pub is_leaf : slice_get mesh i ≡ Some leaf
  pub is_sibling : slice_get mesh j ≡ Some sibling
  pub siblings : AreSiblings leaf sibling
  pub below : slice_index levels i < min (slice_index levels j) leaf.level

-- The leaf at i breaks a rule by the leaf at j. A rule about one leaf alone is broken by that leaf.
abbrev pub Breaks : Grid → List Cube → List Wish → List ℕ → LevelRule → ℕ → ℕ → Type 0
Breaks grid mesh wishes levels Range i j = (j ≡ i) × BreaksRange grid mesh levels i
Breaks grid mesh wishes levels ByWish i j = (j ≡ i) × BreaksWish grid mesh wishes levels i
Breaks grid mesh wishes levels Jump i j = BreaksJump grid mesh levels i j
Breaks grid mesh wishes levels Lone i j = (j ≡ i) × BreaksLone mesh levels i
Breaks grid mesh wishes levels Sibling i j = BreaksSibling mesh levels i j

-- the order of the rules
abbrev pub rule_rank : LevelRule → ℕ
rule_rank Range = 0
rule_rank ByWish = 1
rule_rank Jump = 2
rule_rank Lone = 3
rule_rank Sibling = 4

-- of the rules that the leaf at i breaks the first, by the first leaf
pub record IsFirstOfLeaf (grid : Grid) (mesh : List Cube) (wishes : List Wish) (levels : List ℕ) (i : ℕ) (rule : LevelRule) (j : ℕ) : Type 0 where
  pub here : Breaks grid mesh wishes levels rule i j
  pub no_earlier_rule : (r : LevelRule) (k : ℕ) → rule_rank r < rule_rank rule → Breaks grid mesh wishes levels r i k → ⊥
  pub no_earlier_leaf : (k : ℕ) → k < j → Breaks grid mesh wishes levels rule i k → ⊥

-- of all leaves the first
pub record IsFirstBroken (grid : Grid) (mesh : List Cube) (wishes : List Wish) (levels : List ℕ) (b : Broken) : Type 0 where
  pub first : IsFirstOfLeaf grid mesh wishes levels b.a b.rule b.b
  pub none_before : (r : LevelRule) (i j : ℕ) → i < b.a → Breaks grid mesh wishes levels r i j → ⊥
