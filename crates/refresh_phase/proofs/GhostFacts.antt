-- What ghost pieces promise, as far as this phase uses it.
use Rattle.std.specs.Prelude.{◌≡◌, ℕ, ◌*◌, ◌%◌, ◌<◌, ◌≤◌, ◌⊎◌, true, false, List, [], Some, length, slice_get}
use Rattle.std.proofs.Common.{refl, sym, subst}
use Rattle.std.proofs.lemmas.Bool.{false≢true}
use Rattle.block_index.specs.Places.{Cube, Grid, IsDomain}
use Rattle.leaf_set.specs.Meshes.{IsMesh, IsBalanced}
use Rattle.cello_neighbours.specs.Directions.{IsDirection}
use Rattle.block_fields.specs.Blocks.{BlockState, IsBlock}
use Rattle.block_fields.specs.BlockStates.{HoldsSamples, IsLeafOf}
use Rattle.block_fields.specs.States.{State, IsState}
use Rattle.ghost_pieces.specs.Filing.{Source, after_filing, is_filed, source_of, with_filed, with_piece}
use Rattle.ghost_pieces.specs.Pieces.{PieceState, AreOwedPieces, CarriesSamples, FitsSize, HasRegion, IsBetweenLeaves, filled}
use Rattle.ghost_pieces.specs.Regions.{Region, IsRegion, Member, Once}
use Rattle.ghost_pieces.specs.Shells.{HoldsFiled, AreAllFiled, IsSourceOf}
use Rattle.ghost_pieces.proofs.Owed.{ghost_direction}
use Rattle.ghost_pieces.proofs.FiledLists.{filed-kept, filed-once, filed-others, filed-room, filed-this, one_source_of}
use Rattle.ghost_pieces.proofs.FiledShells.{holds_all, holds_more}
use Rattle.ghost_pieces.proofs.Pastes.{limits-filed}
use Rattle.ghost_pieces.proofs.PieceFacts.{carried_size, owed_between, owed_cells, owed_length, piece_region, piece_size, samples_sent}

pub record GhostFacts : Type 0 where
  pub between : (grid : Grid) (leaves : List Cube) (n d fields i k : ℕ) (ps : List PieceState) (p : PieceState) → IsDomain grid → IsMesh grid leaves → IsBalanced grid leaves → n % 2 ≡ 0 → 2 * d ≤ n → 0 < n → AreOwedPieces grid n d fields leaves i ps → slice_get ps k ≡ Some p → (p.region.sender ≡ i) × IsRegion grid n d leaves p.region × IsBetweenLeaves leaves p
  pub fits : (grid : Grid) (leaves : List Cube) (n d fields i k : ℕ) (ps : List PieceState) (p : PieceState) → IsDomain grid → IsMesh grid leaves → IsBalanced grid leaves → n % 2 ≡ 0 → 2 * d ≤ n → 0 < n → AreOwedPieces grid n d fields leaves i ps → slice_get ps k ≡ Some p → FitsSize n d fields p × HasRegion grid n d p
  pub samples : (s : State) (i k : ℕ) (b : BlockState) (ps : List PieceState) (p : PieceState) → IsState s → s.edge % 2 ≡ 0 → 2 * b.depth ≤ s.edge → IsLeafOf s i b → AreOwedPieces s.grid s.edge b.depth s.fields s.leaves i ps → slice_get ps k ≡ Some p → CarriesSamples s b.depth (filled s.grid b p)
  pub carried : (s : State) (d : ℕ) (p : PieceState) → IsState s → s.edge % 2 ≡ 0 → 2 * d ≤ s.edge → CarriesSamples s d p → FitsSize s.edge d s.fields p
  pub limits : (b : BlockState) (p : PieceState) → IsBlock b → FitsSize b.edge b.depth (length b.amounts) p → IsDirection p.region.direction → IsBlock (with_piece b p)
  pub direction : (grid : Grid) (n d : ℕ) (leaves : List Cube) (r : Region) → IsRegion grid n d leaves r → IsDirection r.direction
  pub unfiled : (r : Region) → is_filed [] r ≡ false
  pub this : (filed : List Source) (r : Region) → is_filed (with_filed filed r) r ≡ true
  pub kept : (filed : List Source) (r q : Region) → is_filed filed q ≡ true → is_filed (with_filed filed r) q ≡ true
  pub others : (filed : List Source) (r q : Region) → is_filed (with_filed filed r) q ≡ true → (is_filed filed q ≡ true) ⊎ (source_of q ≡ source_of r)
  pub one : (r q : Region) → IsDirection r.direction → IsDirection q.direction → r.receiver ≡ q.receiver → source_of r ≡ source_of q → r ≡ q
  pub once : (filed : List Source) (r : Region) → Once filed → Once (with_filed filed r)
  pub room : (grid : Grid) (leaves : List Cube) (n d j : ℕ) (filed : List Source) (q : Region) → IsDomain grid → IsMesh grid leaves → n % 2 ≡ 0 → 2 * d ≤ n → 0 < n → Once filed → ((k : Source) → Member filed k → IsSourceOf grid n d leaves j k) → q.receiver ≡ j → IsRegion grid n d leaves q → is_filed filed q ≡ false → length filed < 56
  pub none : (s : State) (j : ℕ) (b : BlockState) → HoldsFiled s j [] b
  pub more : (s : State) (j : ℕ) (filed : List Source) (b : BlockState) (p : PieceState) → IsState s → IsBlock b → IsLeafOf s j b → p.region.receiver ≡ j → CarriesSamples s b.depth p → HoldsFiled s j filed b → HoldsFiled s j (with_filed filed p.region) (after_filing filed p b)
  pub all : (s : State) (j : ℕ) (filed : List Source) (b : BlockState) → IsState s → IsBlock b → IsLeafOf s j b → AreAllFiled s b.depth j filed → HoldsFiled s j filed b → HoldsSamples s b

pub facts : GhostFacts
facts = record {
  between = λ grid leaves n d fields i k ps p domain mesh balanced even deep some owed at. owed_between grid leaves n d fields i k ps p owed at;
  fits = λ grid leaves n d fields i k ps p domain mesh balanced even deep some owed at.
      let o = owed_between grid leaves n d fields i k ps p owed at in (
        piece_size grid leaves n d domain mesh balanced even deep some p o.2 o.1 fields (owed_length grid leaves n d fields i k ps p owed at) (owed_cells grid leaves n d fields i k ps p owed at),
        piece_region grid leaves n d domain mesh balanced even deep some p o.2 o.1,
      );
  samples = λ s i k b ps p state even deep leaf owed at.
      let o = owed_between s.grid s.leaves s.edge b.depth s.fields i k ps p owed at in
      samples_sent s state even b.depth deep b p refl (subst (λ i. IsLeafOf s i b) (sym o.0) leaf) o.2 o.1;
  carried = λ s d p state even deep carries. carried_size s state even d deep p carries;
  limits = λ b p is fits along. limits-filed b is p fits along;
  direction = λ grid n d leaves r is. subst IsDirection is.1.direction (ghost_direction n d is.0 is.1.ghost);
  unfiled = λ r. refl;
  this = filed-this;
  kept = filed-kept;
  others = filed-others;
  one = one_source_of;
  once = filed-once;
  room = λ grid leaves n d j filed q domain mesh even deep some once each to is none. filed-room grid leaves n d j filed q domain mesh even deep some once each to is none;
  none = λ s j b r g f to filed within cell. absurd (false≢true filed);
  more = λ s j filed b p state is leaf to carries holds. holds_more s state j b is leaf p to carries filed holds;
  all = λ s j filed b state is leaf all holds. holds_all s state j b is leaf filed all holds;
}
