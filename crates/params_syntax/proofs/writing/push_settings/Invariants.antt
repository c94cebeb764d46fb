-- The loop over the settings of a sub.
use Rattle.std.proofs.Common.{◌≡◌, ◌++◌, take}
use Rattle.std.specs.List.{flat_map}
use Rattle.params_syntax.specs.Canonical.{sub_setting_text}
use Rattle.params_syntax.proofs.writing.push_settings.Given as goal

abbrev pub invariant-loop-setting : goal.invariant-loop-setting
invariant-loop-setting l = l.text.items ≡ l.initial.text.items ++ flat_map sub_setting_text (take l.setting-index l.sets)
