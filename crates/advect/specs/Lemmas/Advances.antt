-- One field of a block advanced.
use Rattle.std.specs.Prelude.{◌≡◌, ℕ, ◌+◌, ◌-◌, ◌*◌, ◌<◌, ◌≤◌, List, [], length, slice_index, slice_index_or, pos, negsuc}
use Rattle.block_fields.specs.Blocks.{BlockState, amount_at, amounts_of, before_of, shell_of}
use Rattle.grid_fluxes.specs.Axes.{Axis, along_x, along_y, along_z}
use Rattle.advect.specs.Coordinates.{face_number}
use Rattle.advect.specs.Flows.{axis_number}
use Rattle.advect.specs.OwnFluxes.{seen_on}
use Rattle.advect.specs.Lemmas.Rims.{AreSides}
use Rattle.advect.specs.declared.stream.Streams.{Streams}
use Rattle.advect.specs.Lemmas.Streams.{Field, enters, goes}

-- a field of a block
abbrev pub field_in : BlockState → ℕ → Field
field_in b f = record { edge = b.edge; depth = b.depth; amounts = amounts_of b f; shell = shell_of b f }

-- no amount of the field is above this, and no ghost of it beside a face
pub record FieldAtMost (most : ℕ) (b : BlockState) (f : ℕ) : Type 0 where
  pub amounts : (x y z : ℕ) → x < b.edge → y < b.edge → z < b.edge → amount_at b f x y z ≤ most
  pub below : (a : Axis) (i j : ℕ) → i < b.edge → j < b.edge → seen_on b f a (negsuc 0) i j ≤ most
  pub above : (a : Axis) (i j : ℕ) → i < b.edge → j < b.edge → seen_on b f a (pos b.edge) i j ≤ most

-- the block with one field advanced: its second copy is what the amounts were
pub record AdvancesField (streams : Streams) (f : ℕ) (b new : BlockState) : Type 0 where
  pub place : new.place ≡ b.place
  pub edge : new.edge ≡ b.edge
  pub depth : new.depth ≡ b.depth
  pub ghosts : new.ghosts ≡ b.ghosts
  pub fields : length new.amounts ≡ length b.amounts
  pub before_fields : length new.before ≡ length b.before
  pub before : before_of new f ≡ amounts_of b f
  pub other_before : (g : ℕ) → (g ≡ f → ⊥) → before_of new g ≡ before_of b g
  pub other_amounts : (g : ℕ) → (g ≡ f → ⊥) → amounts_of new g ≡ amounts_of b g
  pub moved : (x y z : ℕ) → x < b.edge → y < b.edge → z < b.edge → amount_at new f x y z ≡ amount_at b f x y z
      - (goes streams.x (field_in b f) along_x x y z + goes streams.y (field_in b f) along_y y x z + goes streams.z (field_in b f) along_z z x y)
      + (enters streams.x (field_in b f) along_x x y z + enters streams.y (field_in b f) along_y y x z + enters streams.z (field_in b f) along_z z x y)

-- the fields before one are advanced, and the others aren't
pub record AdvancesFields (streams : Streams) (f : ℕ) (b new : BlockState) : Type 0 where
  pub place : new.place ≡ b.place
  pub edge : new.edge ≡ b.edge
  pub depth : new.depth ≡ b.depth
  pub ghosts : new.ghosts ≡ b.ghosts
  pub fields : length new.amounts ≡ length b.amounts
  pub before_fields : length new.before ≡ length b.before
  pub before : (g : ℕ) → g < f → before_of new g ≡ amounts_of b g
  pub ahead : (g : ℕ) → f ≤ g → amounts_of new g ≡ amounts_of b g
  pub moved : (g x y z : ℕ) → g < f → x < b.edge → y < b.edge → z < b.edge → amount_at new g x y z ≡ amount_at b g x y z
      - (goes streams.x (field_in b g) along_x x y z + goes streams.y (field_in b g) along_y y x z + goes streams.z (field_in b g) along_z z x y)
      + (enters streams.x (field_in b g) along_x x y z + enters streams.y (field_in b g) along_y y x z + enters streams.z (field_in b g) along_z z x y)

-- the lists of the fields before one hold these fluxes
pub record NotesFields (n f : ℕ) (flux : ℕ → Axis → ℕ → ℕ → ℕ) (old new : List (List ℕ)) : Type 0 where
  pub here : (g : ℕ) (a : Axis) (i j : ℕ) → g < f → i < n → j < n → slice_index (slice_index_or new (3 * g + axis_number a) []) (face_number n i j) ≡ flux g a i j
  pub long : length new ≡ length old
  pub sizes : AreSides n new
