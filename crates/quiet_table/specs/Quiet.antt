-- A board with no envelope on it.
use Rattle.std.specs.Prelude.{◌≡◌, ℕ, ◌*◌, ◌<◌, [], slice_index, Option, Some}
use mathlib.Core.Option.{some}
use lib.ListN.{get_elem?}
use Rattle.atomic_table.specs.Table.{State}
use Rattle.quiet_table.specs.declared.view.Hand.{Hand}
use Rattle.quiet_table.specs.declared.view.View.{View}
use Rattle.quiet_table.specs.declared.item.Item.{Item}
use Rattle.quiet_table.specs.Contents.{Contents}
use Rattle.quiet_table.specs.BoardRule.{uncounted}

module _ {C B R E : Type 0} (contents : Item C B → Contents R E) where
  -- no free slot has an envelope, no hand has one, and none is uncounted
  pub record NoneLeft (shards : ℕ) (s : State (Option (Item C B)) (View R E)) : Type 0 where
    pub slots : (k : ℕ) → k < 2 * shards → slice_index s.words k ≡ 0 → (i : Item C B) × (get_elem? s.homes k ≡ some (some (Some i))) × ((contents i).parcels ≡ [])
    pub hands : (j : ℕ) (v : View R E) (a : ℕ) (h : Hand R E) → get_elem? s.views j ≡ some v → get_elem? v.hands a ≡ some h → h.parcels ≡ []
    pub counted : uncounted s.views ≡ 0
