-- The slots of a group or a sub: the value of each of its keys, or what the key is where it is left out.
use Rattle.std.specs.Prelude.{◌≡◌, List, Option, option_copied, map}
use Rattle.std.specs.Option.{option_or}
use Rattle.params_syntax.specs.declared.tree.Value.{Value}
use Rattle.params_syntax.specs.declared.tree.Setting.{Setting}
use Rattle.params_check.specs.declared.lookup.Lines.{Lines}
use Rattle.params_check.specs.declared.lookup.Lines.TheVariants.{Items, Settings}
use Rattle.params_check.specs.declared.slots.Slot.{Slot}
use Rattle.params_check.specs.Keys.{Key}
use Rattle.params_check.specs.Lemmas.Tables.{default_of}
use Rattle.params_check.specs.TreeValues.{value_at}
use Rattle.params_check.specs.Values.{settings_among}

-- the settings among these lines
abbrev pub settings_in : Lines → List Setting
settings_in (Items items) = settings_among items.now
settings_in (Settings sets) = sets.now

-- the value of a slot, or its default
abbrev pub given : Slot → Option Value
given s = option_or (option_copied s.value) (default_of s.fallback)

-- The slots are those of the keys, in their order.
abbrev pub AreSlots : List Key → List Setting → List Slot → Type 0
AreSlots keys sets slots = map given slots ≡ map (λ k. value_at k sets) keys
