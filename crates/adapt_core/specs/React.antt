-- What handling a message does to a cell of the adapt phase, and what it sends.
use Rattle.std.specs.Prelude.{ℕ, ◌-◌, min, max, Bool, true, ◌&&◌, ◌==◌, nat_lt, cond, List, [], map}
use Rattle.std.specs.List.{list_any}
use Rattle.phase_core.specs.declared.envelope.Envelope.{Envelope}
use Rattle.phase_core.specs.Machine.{Reaction}
use Rattle.adapt_core.specs.declared.adapt_msg.AdaptMsg.{AdaptMsg}
use Rattle.adapt_core.specs.declared.adapt_msg.AdaptMsg.TheVariants.{Start, Level}
use Rattle.adapt_core.specs.Cells.{LeafPart, LeafState, AdaptProblem}

-- whether the leaf at position `from` is one of the siblings
abbrev pub has_sibling_at : LeafPart → ℕ → Bool
has_sibling_at part from = list_any (λ j. j == from) part.siblings

-- the least level that a touching leaf's level asks of a leaf: one less, and where that leaf is a sibling, no
-- coarsening beside it
abbrev pub asked : LeafPart → ℕ → ℕ → ℕ
asked part from value = max (value - 1) (cond (has_sibling_at part from) (min value part.place.level) 0)

-- a level of the leaf, sent to each touching leaf in ascending order
abbrev pub tells : LeafPart → ℕ → List (Envelope AdaptMsg)
tells part level = map (λ j. record { to = j; msg = Level part.index level }) part.neighbours

-- the cell once its start message is handled: it has started, at its opening level or above
abbrev pub opened : LeafState → LeafState
opened cell = record { part = cell.part; level = max cell.level cell.part.opening; started = true }

-- the cell with at least the level that the level of a touching leaf asks
abbrev pub raised : LeafState → ℕ → ℕ → LeafState
raised cell from value = record { part = cell.part; level = max cell.level (asked cell.part from value); started = cell.started }

-- The start message raises the level to the opening level, and the cell tells it. The level of a touching leaf raises
-- the level to what it asks, and a cell that has started tells its level where that rose.
abbrev pub adapt_react : AdaptProblem → ℕ → LeafState → AdaptMsg → Reaction LeafState AdaptMsg
adapt_react p at cell Start = record { cell = opened cell; sent = tells cell.part (opened cell).level }
adapt_react p at cell (Level from value) =
    record {
      cell = raised cell from value;
      sent = cond (cell.started && nat_lt cell.level (raised cell from value).level) (tells cell.part (raised cell from value).level) [];
    }

abbrev pub adapt_start : ℕ → AdaptMsg
adapt_start to = Start
