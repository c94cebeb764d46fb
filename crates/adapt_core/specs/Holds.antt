-- What stands in every state of an adapt phase, whatever was handled and in whatever order.
use Rattle.std.specs.Prelude.{◌≡◌, ℕ, ◌+◌, ◌-◌, ◌*◌, ◌≤◌, ◌⊎◌, ◌&&◌, ◌==◌, min, Bool, true, false, cond, Option, Some, None, List, All, Contains, length, map, count_by, sum_by, slice_get, slice_index}
use Rattle.phase_core.specs.declared.envelope.Envelope.{Envelope}
use Rattle.block_index.specs.Touching.{Touches}
use Rattle.leaf_set.specs.LevelRules.{AreSiblings, IsSolution}
use Rattle.adapt_core.specs.declared.adapt_msg.AdaptMsg.{AdaptMsg}
use Rattle.adapt_core.specs.declared.adapt_msg.AdaptMsg.TheVariants.{Start, Level}
use Rattle.adapt_core.specs.Cells.{LeafPart, LeafState, AdaptProblem}
use Rattle.adapt_core.specs.Problem.{mesh_of, wishes_of, unopened, IsAdaptProblem}

abbrev pub is_start : AdaptMsg → Bool
is_start Start = true
is_start (Level from value) = false

abbrev pub is_level : AdaptMsg → Bool
is_level Start = false
is_level (Level from value) = true

-- how many start messages to the cell at a position are in flight
abbrev pub starts_to : ℕ → List (Envelope AdaptMsg) → ℕ
starts_to i flight = count_by (λ e. (e.to == i) && is_start e.msg) flight

-- how many should be: one for a cell that hasn't started, and none for another or where no cell is
abbrev pub starts_due : Option LeafState → ℕ
starts_due None = 0
starts_due (Some cell) = cond cell.started 0 1

-- c has what the rules about touching leaves ask of it for this level of b
pub record HasAsked (b c : LeafPart) (value level : ℕ) : Type 0 where
  pub jump : value - 1 ≤ level
  pub siblings : AreSiblings c.place b.place → min value c.place.level ≤ level

-- a level message comes from a cell that touches the receiver, and is at most the sender's level
abbrev pub IsTold : AdaptProblem → List LeafState → ℕ → AdaptMsg → Type 0
IsTold p cells to Start = Unit {0}
IsTold p cells to (Level from value) =
    (b : LeafState) × (c : LeafState) × (slice_get cells from ≡ Some b) × (slice_get cells to ≡ Some c)
    × Touches p.grid b.part.place c.part.place × (value ≤ b.level)

pub record AdaptHolds (p : AdaptProblem) (cells : List LeafState) (flight : List (Envelope AdaptMsg)) : Type 0 where
  pub problem : IsAdaptProblem p
  pub parts : map (λ cell. cell.part) cells ≡ p.parts
  -- no level is below one less than the leaf's, or above that of any solution
  pub low : (i : ℕ) (c : LeafState) → slice_get cells i ≡ Some c → c.part.place.level - 1 ≤ c.level
  pub high : (levels : List ℕ) → IsSolution p.grid (mesh_of p) (wishes_of p) levels →
      (i : ℕ) (c : LeafState) → slice_get cells i ≡ Some c → c.level ≤ slice_index levels i
  -- start messages are in flight for the cells that haven't started, one each, and no other
  pub starts : (i : ℕ) → starts_to i flight ≡ starts_due (slice_get cells i)
  -- a cell that has started has its opening level
  pub opening : (i : ℕ) (c : LeafState) → slice_get cells i ≡ Some c → c.started ≡ true → c.part.opening ≤ c.level
  pub messages : All (λ e. IsTold p cells e.to e.msg) flight
  -- Of what the level of a started cell asks of a touching one, the latter has it, or will be told.
  pub told : (i j : ℕ) (b c : LeafState) → slice_get cells i ≡ Some b → slice_get cells j ≡ Some c →
      b.started ≡ true → Touches p.grid b.part.place c.part.place →
      HasAsked b.part c.part b.level c.level ⊎ Contains flight (record { to = j; msg = Level i b.level })

-- how many leaves touch the cell's
abbrev pub degree : LeafPart → ℕ
degree part = length part.neighbours

-- how many levels the cell may still rise
abbrev pub levels_left : LeafState → ℕ
levels_left c = c.part.place.level + 1 - c.level

-- What a cell can still add: its start and the telling of it, where it hasn't started, and for each level that it
-- may still rise a telling.
abbrev pub cell_weight : LeafState → ℕ
cell_weight c = cond c.started 0 (1 + degree c.part) + levels_left c * degree c.part

-- how many level messages are in flight
abbrev pub levels_in : List (Envelope AdaptMsg) → ℕ
levels_in flight = count_by (λ e. is_level e.msg) flight

-- at least how many messages may still be handled
abbrev pub adapt_weight : AdaptProblem → List LeafState → List (Envelope AdaptMsg) → ℕ
adapt_weight p cells flight = sum_by cell_weight cells + levels_in flight

-- the same at the start: what the cells can add before anything is handled
abbrev pub adapt_start_weight : AdaptProblem → ℕ
adapt_start_weight p = sum_by cell_weight (map unopened p.parts)

-- how many ordered pairs of leaves touch
abbrev pub touching_pairs : AdaptProblem → ℕ
touching_pairs p = sum_by degree p.parts
