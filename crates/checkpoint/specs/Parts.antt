-- The parts of a file, in order.
use Rattle.std.specs.Prelude.{List, [], ◌∷◌}
use Rattle.checkpoint.specs.declared.part.Part.{Part}
use Rattle.checkpoint.specs.declared.part.Part.TheVariants.{Magic, Version, TextLength, Text, Cycle, LeafCount, Places, Amounts, Totals, Gone}

-- a file of version 1 is these parts, one after another
abbrev pub parts_of_version_1 : List Part
parts_of_version_1 =
    Magic ∷ Version ∷ TextLength ∷ Text ∷ Cycle ∷ LeafCount ∷ Places ∷ Amounts ∷ Totals ∷ Gone ∷ []
