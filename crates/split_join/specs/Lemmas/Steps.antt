-- What one turn of the walk does with an old block, where the next new place is `at`.
use Rattle.std.specs.Prelude.{◌≡◌, ℕ, ◌<◌, List, [], ◌∷◌, ◌++◌, length}
use Rattle.block_index.specs.Places.{Cube}
use Rattle.block_fields.specs.Blocks.{BlockState}
use Rattle.split_join.specs.Lemmas.NewBlocks.{IsFamily, children_blocks, joined_block}

-- the block of a family that joins waits, or completes it
pub record Gathers (at : Cube) (b : BlockState) (family next family2 next2 : List BlockState) : Type 0 where
  pub waits_family : length family < 7 → family2 ≡ family ++ b ∷ []
  pub waits_next : length family < 7 → next2 ≡ next
  pub joins_family : length family ≡ 7 → family2 ≡ []
  pub joins_next : (n fields depth : ℕ) → length family ≡ 7 → IsFamily at n fields depth (family ++ b ∷ []) →
      next2 ≡ next ++ joined_block n fields depth at (family ++ b ∷ []) ∷ []

pub record Steps (at : Cube) (b : BlockState) (family next family2 next2 : List BlockState) : Type 0 where
  pub kept_family : at.level ≡ b.place.level → family2 ≡ family
  pub kept_next : at.level ≡ b.place.level → next2 ≡ next ++ b ∷ []
  pub split_family : b.place.level < at.level → family2 ≡ family
  pub split_next : b.place.level < at.level → next2 ≡ next ++ children_blocks b
  pub gathers : at.level < b.place.level → Gathers at b family next family2 next2
