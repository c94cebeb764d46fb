-- The first cells begin the phase of their problem.
use Rattle.std.proofs.Common.{◌≡◌, ℕ, suc, ◌+◌, ◌*◌, ◌^◌, ◌<◌, ◌≤◌, List, [], ◌∷◌, ◌++◌, Some, get_or, length, map, refl, sym, ap, ◌∙◌, subst, arith, length-append}
use Rattle.std.proofs.Math.Nat.{mul-pos}
use Rattle.std.proofs.lemmas.Nat.{pow_pos}
use Rattle.std.specs.Prelude.{Contains, slice_get, sum}
use Rattle.std.proofs.lemmas.List.{length-map}
use Rattle.std.proofs.lemmas.List.Elements.{All-weaker, All-contains_itself}
use Rattle.std.proofs.lemmas.Option.{slice_get-get_or}
use Rattle.phase_core.specs.declared.envelope.Envelope.{Envelope}
use Rattle.phase_core.specs.Machine.{start_flight}
use Rattle.phase_core.specs.Lemmas.Lookups.{get-map, get-map_back, Contains-get}
use Rattle.phase_core.specs.Lemmas.Starts.{length-start_flight}
use Rattle.owed_phase.specs.Plans.{owed_from, all_of}
use Rattle.owed_phase.specs.Holds.{Fits}
use Rattle.owed_phase.specs.Lemmas.Moves.{get-some}
use Rattle.block_index.specs.Places.{Cube, Grid, IsDomain, IsInside}
use Rattle.leaf_set.specs.Meshes.{IsMesh, cover_count}
use Rattle.leaf_set.specs.Tiling.{IsTiling}
use Rattle.leaf_set.proofs.LeafCounts.{length-IsMesh_limit}
use Rattle.block_fields.specs.Blocks.{BlockState, amounts_of}
use Rattle.block_fields.specs.BlockStates.{AreBlocksOf, state_of}
use Rattle.block_fields.specs.States.{State, IsState}
use Rattle.block_fields.proofs.StatesOfBlocks.{HaveCells-amounts, IsState-state_by}
use Rattle.ghost_pieces.specs.Pieces.{PieceState, AreOwedPieces, zero_amounts, most_owed}
use Rattle.refresh_phase.specs.declared.refresh_msg.RefreshMsg.{RefreshMsg}
use Rattle.refresh_phase.specs.declared.refresh_msg.RefreshMsg.TheVariants.{Start, Piece}
use Rattle.refresh_phase.specs.Cells.{Setting, LeafPart, LeafState, RefreshProblem, blank, header, own_cells, kept, problem_of, state_in}
use Rattle.refresh_phase.specs.React.{refresh_start, sent_piece, sent_pieces}
use Rattle.refresh_phase.specs.Problem.{IsFresh, IsLeafPart, IsRefreshProblem, RefreshBegins, refresh_plan}
use Rattle.refresh_phase.specs.States.{IsRightMsg}
use Rattle.refresh_phase.specs.Lemmas.FirstCells.{AreFirstCells}
use Rattle.refresh_phase.proofs.Messages.{all_right}

pub map-twice : {A B C : Type 0} (f : A → B) (g : B → C) (xs : List A) → map g (map f xs) ≡ map (λ x. g (f x)) xs
map-twice f g [] = refl
map-twice {A} {B} {C} f g (x ∷ xs) = ap (λ (ys : List C). g (f x) ∷ ys) (map-twice f g xs)

-- ghosts are no part of a state
pub state-own : (grid : Grid) (n fields : ℕ) (blocks : List BlockState) → state_of grid n fields (map own_cells blocks) ≡ state_of grid n fields blocks
state-own grid n fields blocks =
    ap (λ (places : List Cube). record { grid = grid; edge = n; fields = fields; leaves = places; amounts = map (λ (b : BlockState). b.amounts) (map own_cells blocks) }) (map-twice own_cells (λ (b : BlockState). b.place) blocks)
    ∙ ap (λ (amounts : List (List (List ℕ))). record { grid = grid; edge = n; fields = fields; leaves = map (λ (b : BlockState). b.place) blocks; amounts = amounts }) (map-twice own_cells (λ (b : BlockState). b.amounts) blocks)

-- pieces that hold only 0 are told by their headers
blank-headers : (s : Setting) (qs : List PieceState) → ((k : ℕ) (q : PieceState) → slice_get qs k ≡ Some q → q.amounts ≡ zero_amounts s.edge s.depth s.fields q) → map (blank s) (map header qs) ≡ qs
blank-headers s [] zeros = refl
blank-headers s (q ∷ qs) zeros =
    let here : blank s (header q) ≡ q = ap (λ (amounts : List (List ℕ)). record q { amounts = amounts }) (sym (zeros 0 q refl)) in
    ap (λ (x : PieceState). x ∷ map (blank s) (map header qs)) here ∙ ap (λ (l : List PieceState). q ∷ l) (blank-headers s qs (λ k x h. zeros (suc k) x h))

-- a domain has leaves
some_leaf : (grid : Grid) (mesh : List Cube) → IsDomain grid → IsMesh grid mesh → 0 < length mesh
some_leaf grid [] domain mesh =
    let corner : Cube = record { level = grid.finest; x = 0; y = 0; z = 0 } in
    absurd (none (cover_count [] corner) 1 (mesh.covered corner (inside grid domain) refl) refl refl)
  where
    none : (a b : ℕ) → a ≡ b → a ≡ 0 → b ≡ 1 → ⊥
    none a b e f g = omega (arith, e, f, g)

    positive : (a b : ℕ) → 1 ≤ a → 0 < a * 2 ^ b
    positive a b h = mul-pos h (pow_pos b)

    inside : (g : Grid) → IsDomain g → IsInside g (record { level = g.finest; x = 0; y = 0; z = 0 })
    inside g d = record { level = omega arith; x = positive g.trees_x g.finest d.some_x; y = positive g.trees_y g.finest d.some_y; z = positive g.trees_z g.finest d.some_z }
some_leaf grid (c ∷ mesh) domain tiles = omega arith

right_within : (p : RefreshProblem) (to : ℕ) (m : RefreshMsg) → IsRightMsg p to m → to < length p.parts
right_within p to Start right = right
right_within p to (Piece q) right = right.1

told-short : (p : RefreshProblem) (k : ℕ) (parts : List LeafPart) → ((i : ℕ) (part : LeafPart) → slice_get parts i ≡ Some part → length part.owes ≤ most_owed) → length (owed_from (refresh_plan p).tells k parts) ≤ most_owed * length parts
told-short p k [] few = omega arith
told-short p k (part ∷ parts) few =
    let owed : List PieceState = map (blank p.setting) part.owes in
    let own : List (Envelope RefreshMsg) = sent_pieces p.setting.grid part.own owed in
    let long : length own ≡ length part.owes = length-map owed (sent_piece p.setting.grid part.own) ∙ length-map part.owes (blank p.setting) in
    let here : length part.owes ≤ most_owed = few 0 part refl in
    let rest = told-short p (suc k) parts (λ i x h. few (suc i) x h) in
    let all : length (own ++ owed_from (refresh_plan p).tells (suc k) parts) ≡ length own + length (owed_from (refresh_plan p).tells (suc k) parts) = length-append own (owed_from (refresh_plan p).tells (suc k) parts) in
    omega (arith, long, here, rest, all)

module _ (grid : Grid) (places : List Cube) (tiles : IsTiling (record { grid = grid; places = places })) (blocks : List BlockState) (n fields depth : ℕ) (sized : AreBlocksOf places n fields depth blocks) where
  pub places-long : length blocks ≡ length places
  places-long = sym (length-map blocks (λ (b : BlockState). b.place)) ∙ ap length sized.places

  pub some_block : 0 < length blocks
  some_block = omega (arith, some_leaf grid places tiles.domain tiles.mesh, places-long)

  pub block_place : (i : ℕ) (b : BlockState) → slice_get blocks i ≡ Some b → slice_get places i ≡ Some b.place
  block_place i b here = subst (λ (l : List Cube). slice_get l i ≡ Some b.place) sized.places (get-map (λ (x : BlockState). x.place) blocks i b here)

  -- the setting that the first block tells
  pub setting-is : (g : Grid) (b : BlockState) → g ≡ grid → b ≡ get_or blocks 0 b → ◌≡◌ {A = Setting} (record { grid = g; edge = b.edge; fields = length b.amounts; depth = b.depth }) (record { grid = grid; edge = n; fields = fields; depth = depth })
  setting-is g b domain first =
      let here : slice_get blocks 0 ≡ Some b = slice_get-get_or blocks 0 b some_block ∙ ap Some (sym first) in
      let size = sized.each 0 b here in
      ap (λ (x : Grid). record { grid = x; edge = b.edge; fields = length b.amounts; depth = b.depth }) domain
      ∙ (ap (λ (x : ℕ). record { grid = grid; edge = x; fields = length b.amounts; depth = b.depth }) size.same_edge
      ∙ (ap (λ (x : ℕ). record { grid = grid; edge = n; fields = x; depth = b.depth }) size.same_fields
      ∙ ap (λ (x : ℕ). record { grid = grid; edge = n; fields = fields; depth = x }) size.same_depth))

  module _ (cells : List LeafState) (first : AreFirstCells grid places blocks cells) where
    abbrev setting : Setting
    setting = record { grid = grid; edge = n; fields = fields; depth = depth }

    abbrev p : RefreshProblem
    p = problem_of setting cells

    pub own-parts : map (λ (k : LeafPart). k.own) p.parts ≡ map own_cells blocks
    own-parts = map-twice kept (λ (k : LeafPart). k.own) cells ∙ (sym (map-twice (λ (c : LeafState). c.block) own_cells cells) ∙ ap (map own_cells) first.made)

    pub state-is : state_in p ≡ state_of grid n fields blocks
    state-is = ap (state_of grid n fields) own-parts ∙ state-own grid n fields blocks

    leaves-are : (state_in p).leaves ≡ places
    leaves-are = ap (λ (s : State). s.leaves) state-is ∙ sized.places

    cell_block : (i : ℕ) (c : LeafState) → slice_get cells i ≡ Some c → slice_get blocks i ≡ Some c.block
    cell_block i c here = subst (λ (l : List BlockState). slice_get l i ≡ Some c.block) first.made (get-map (λ (x : LeafState). x.block) cells i c here)

    blank-owes : (i : ℕ) (c : LeafState) → slice_get cells i ≡ Some c → c.owed ≡ map (blank setting) c.owes
    blank-owes i c here =
        let cell = first.each i c here in
        let size = sized.each i c.block (cell_block i c here) in
        let zeros : (k : ℕ) (q : PieceState) → slice_get c.owed k ≡ Some q → q.amounts ≡ zero_amounts n depth fields q = λ k q h.
        cell.owed.zeros k q h ∙ (ap (λ (m : ℕ). zero_amounts m c.block.depth (length c.block.amounts) q) size.same_edge
        ∙ (ap (λ (d : ℕ). zero_amounts n d (length c.block.amounts) q) size.same_depth ∙ ap (λ (f : ℕ). zero_amounts n depth f q) size.same_fields)) in
        sym (blank-headers setting c.owed zeros) ∙ ap (map (blank setting)) (sym cell.owes)

    module _ (few : (i f : ℕ) (b : BlockState) → slice_get blocks i ≡ Some b → sum (amounts_of b f) ≤ 2 ^ 42) where
      leaf_part : (i : ℕ) (k : LeafPart) → slice_get p.parts i ≡ Some k → IsLeafPart p i k
      leaf_part i k here =
          let at = get-map_back kept cells i k here in
          subst (IsLeafPart p i) at.2 (of_cell at.0 at.1)
        where
          of_cell : (c : LeafState) → slice_get cells i ≡ Some c → IsLeafPart p i (kept c)
          of_cell c at =
              let block = cell_block i c at in
              let size = sized.each i c.block block in
              record {
                same_edge = size.same_edge;
                same_depth = size.same_depth;
                few = λ f. few i f c.block block;
                owes = subst (λ (l : List Cube). AreOwedPieces grid n depth fields l i (map (blank setting) c.owes)) (sym leaves-are)
                    (subst (λ (qs : List PieceState). AreOwedPieces grid n depth fields places i qs) (blank-owes i c at)
                    (subst (λ (m : ℕ). AreOwedPieces grid m depth fields places i c.owed) size.same_edge
                    (subst (λ (d : ℕ). AreOwedPieces grid c.block.edge d fields places i c.owed) size.same_depth
                    (subst (λ (f : ℕ). AreOwedPieces grid c.block.edge c.block.depth f places i c.owed) size.same_fields (first.each i c at).owed))));
              }

      problem : IsRefreshProblem p
      problem =
          let b = get-some blocks 0 some_block in
          let size = sized.each 0 b.0 b.1 in
          let l = size.limits in
          record {
            state = subst IsState (sym state-is) (IsState-state_by (λ x. x.amounts) grid places n fields blocks sized.places (HaveCells-amounts places n fields depth blocks sized) tiles.domain tiles.mesh tiles.balanced (omega (arith, l.least, size.same_edge)));
            even = omega (arith, l.even, size.same_edge);
            least = omega (arith, l.least, size.same_edge);
            most = omega (arith, l.most, size.same_edge);
            shallowest = omega (arith, l.shallowest, size.same_depth);
            deepest = omega (arith, l.deepest, size.same_depth);
            leaves = leaf_part;
          }

      fits : Fits (refresh_plan p) p.parts
      fits =
          let all = all_of (refresh_plan p) p.parts in
          let long : length p.parts ≡ length places = length-map cells kept ∙ (sym (length-map cells (λ (c : LeafState). c.block)) ∙ (ap length first.made ∙ places-long)) in
          let limit = length-IsMesh_limit grid places tiles.domain tiles.mesh in
          let told = told-short p 0 p.parts few_owed in
          let starts = length-start_flight refresh_start (length p.parts) in
          let sum' : length (owed_from (refresh_plan p).tells 0 p.parts ++ start_flight refresh_start (length p.parts)) ≡ length (owed_from (refresh_plan p).tells 0 p.parts) + length (start_flight refresh_start (length p.parts)) = length-append (owed_from (refresh_plan p).tells 0 p.parts) (start_flight refresh_start (length p.parts)) in
          record {
            few = omega (arith, long, limit);
            addressed = All-weaker (Contains all) (λ (e : Envelope RefreshMsg). e.to < length p.parts) (λ e h. right_within p e.to e.msg (all_right p problem e h)) all (All-contains_itself all);
            short = omega (arith, long, limit, told, starts, sum');
          }
        where
          few_owed : (i : ℕ) (k : LeafPart) → slice_get p.parts i ≡ Some k → length k.owes ≤ most_owed
          few_owed i k here =
              let at = get-map_back kept cells i k here in
              let cell = first.each i at.0 at.1 in
              let long : length k.owes ≡ length at.0.owed = ap (λ (x : LeafPart). length x.owes) (sym at.2) ∙ (ap length cell.owes ∙ length-map at.0.owed header) in
              omega (arith, long, cell.few)

      pub begins : RefreshBegins p cells
      begins = record {
        problem = problem;
        fits = fits;
        made = refl;
        fresh = All-weaker (Contains cells) (IsFresh setting) one cells (All-contains_itself cells);
      }
        where
          one : (c : LeafState) → Contains cells c → IsFresh setting c
          one c h =
              let at = Contains-get cells c h in
              let cell = first.each at.0 c at.1 in
              record { limits = cell.limits; filed = cell.filed; owed = blank-owes at.0 c at.1; started = cell.started }
