-- The first cells begin the phase of their problem.
use Rattle.std.proofs.Common.{◌≡◌, ℕ, suc, ◌+◌, ◌*◌, ◌^◌, ◌<◌, ◌≤◌, List, [], ◌∷◌, ◌++◌, Some, get_or, length, map, refl, sym, ap, ◌∙◌, subst, arith, length-append}
use Rattle.std.proofs.Math.Nat.{mul-pos}
use Rattle.std.proofs.lemmas.Nat.{pow_pos}
use Rattle.std.specs.Prelude.{Contains, slice_get}
use Rattle.std.proofs.lemmas.List.{length-map}
use Rattle.std.proofs.lemmas.List.Elements.{All-weaker, All-contains_itself}
use Rattle.std.proofs.lemmas.Option.{slice_get-get_or, slice_get_within}
use Rattle.phase_core.specs.declared.envelope.Envelope.{Envelope}
use Rattle.phase_core.specs.Machine.{start_flight}
use Rattle.phase_core.specs.Lemmas.Lookups.{get-map, get-map_back, Contains-get}
use Rattle.phase_core.specs.Lemmas.Starts.{length-start_flight}
use Rattle.owed_phase.specs.Plans.{owed_from, all_of}
use Rattle.owed_phase.specs.Holds.{Fits}
use Rattle.owed_phase.specs.Lemmas.Moves.{get-some}
use Rattle.block_index.specs.Places.{Cube, Grid, IsDomain, IsInside}
use Rattle.leaf_set.specs.Meshes.{IsMesh, cover_count}
use Rattle.leaf_set.specs.Tiling.{IsTiling}
use Rattle.leaf_set.proofs.LeafCounts.{length-IsMesh_limit}
use Rattle.block_fields.specs.Blocks.{BlockState, IsBlock}
use Rattle.block_fields.specs.BlockStates.{AreBlocksOf, state_of, state_before}
use Rattle.block_fields.specs.States.{State, IsState}
use Rattle.block_fields.proofs.StatesOfBlocks.{HaveCells-before, IsState-state_by}
use Rattle.grid_fluxes.specs.Fluxes.{Fluxes}
use Rattle.advect.specs.FaceFluxes.{FaceFluxState}
use Rattle.advect.specs.FluxPieces.{FluxPieceState}
use Rattle.flux_register.specs.declared.flux_msg.FluxMsg.{FluxMsg}
use Rattle.flux_register.specs.declared.flux_msg.FluxMsg.TheVariants.{Start, Piece}
use Rattle.flux_register.specs.Faces.{AreOwedFaces}
use Rattle.flux_register.specs.Cells.{Setting, FluxPart, FluxState, FluxProblem, blank, kept, problem_of, state_in, unadvanced}
use Rattle.flux_register.specs.React.{flux_start, sent_piece, sent_pieces}
use Rattle.flux_register.specs.Made.{AreAdvancedBy, CanReplace, HasFluxesOf, IsMadeBy}
use Rattle.flux_register.specs.Problem.{IsFresh, IsFluxPart, IsFluxProblem, FluxFixBegins, flux_plan}
use Rattle.flux_register.specs.States.{IsRightMsg}
use Rattle.flux_register.specs.Lemmas.FirstCells.{AreFirstCells}
use Rattle.flux_register.proofs.Messages.{all_right, leaves_long}

map-twice : {A B C : Type 0} (f : A → B) (g : B → C) (xs : List A) → map g (map f xs) ≡ map (λ x. g (f x)) xs
map-twice f g [] = refl
map-twice {A} {B} {C} f g (x ∷ xs) = ap (λ (ys : List C). g (f x) ∷ ys) (map-twice f g xs)

-- the state of blocks as they were before the advance
state-unadvanced : (grid : Grid) (n fields : ℕ) (blocks : List BlockState) → state_of grid n fields (map unadvanced blocks) ≡ state_before grid n fields blocks
state-unadvanced grid n fields blocks =
    ap (λ (places : List Cube). record { grid = grid; edge = n; fields = fields; leaves = places; amounts = map (λ (b : BlockState). b.amounts) (map unadvanced blocks) }) (map-twice unadvanced (λ (b : BlockState). b.place) blocks)
    ∙ ap (λ (amounts : List (List (List ℕ))). record { grid = grid; edge = n; fields = fields; leaves = map (λ (b : BlockState). b.place) blocks; amounts = amounts }) (map-twice unadvanced (λ (b : BlockState). b.amounts) blocks)

IsBlock-unadvanced : (b : BlockState) → IsBlock b → IsBlock (unadvanced b)
IsBlock-unadvanced b l = record {
  even = l.even;
  least = l.least;
  most = l.most;
  shallowest = l.shallowest;
  deepest = l.deepest;
  few = (let f = l.few in let e = l.one_before_each in omega (arith, f, e));
  one_before_each = refl;
  one_shell_each = l.one_shell_each ∙ sym l.one_before_each;
  all_cells = l.all_before;
  all_before = l.all_before;
  all_directions = l.all_directions;
  all_ghosts = l.all_ghosts;
}

-- a domain has leaves
some_leaf : (grid : Grid) (mesh : List Cube) → IsDomain grid → IsMesh grid mesh → 0 < length mesh
some_leaf grid [] domain mesh =
    let corner : Cube = record { level = grid.finest; x = 0; y = 0; z = 0 } in
    absurd (none (cover_count [] corner) 1 (mesh.covered corner (inside grid domain) refl) refl refl)
  where
    none : (a b : ℕ) → a ≡ b → a ≡ 0 → b ≡ 1 → ⊥
    none a b e f g = omega (arith, e, f, g)

    positive : (a b : ℕ) → 1 ≤ a → 0 < a * 2 ^ b
    positive a b h = mul-pos h (pow_pos b)

    inside : (g : Grid) → IsDomain g → IsInside g (record { level = g.finest; x = 0; y = 0; z = 0 })
    inside g d = record { level = omega arith; x = positive g.trees_x g.finest d.some_x; y = positive g.trees_y g.finest d.some_y; z = positive g.trees_z g.finest d.some_z }
some_leaf grid (c ∷ mesh) domain tiles = omega arith

right_within : (p : FluxProblem) (to : ℕ) (m : FluxMsg) → IsRightMsg p to m → to < length p.parts
right_within p to Start right = right
right_within p to (Piece q) right =
    let face = right.is_face in
    let within = slice_get_within (state_in p).leaves right.face.to face.receiver face.receives in
    let long = leaves_long p in
    let to' = right.receives in
    omega (arith, within, long, to')

told-short : (p : FluxProblem) (k : ℕ) (parts : List FluxPart) → ((i : ℕ) (part : FluxPart) → slice_get parts i ≡ Some part → length part.owes ≤ 6) → length (owed_from (flux_plan p).tells k parts) ≤ 6 * length parts
told-short p k [] few = omega arith
told-short p k (part ∷ parts) few =
    let owed : List FluxPieceState = map (blank p.setting) part.owes in
    let own : List (Envelope FluxMsg) = sent_pieces part.faces owed in
    let long : length own ≡ length part.owes = length-map owed (sent_piece part.faces) ∙ length-map part.owes (blank p.setting) in
    let here : length part.owes ≤ 6 = few 0 part refl in
    let rest = told-short p (suc k) parts (λ i x h. few (suc i) x h) in
    let all : length (own ++ owed_from (flux_plan p).tells (suc k) parts) ≡ length own + length (owed_from (flux_plan p).tells (suc k) parts) = length-append own (owed_from (flux_plan p).tells (suc k) parts) in
    omega (arith, long, here, rest, all)

module _ (grid : Grid) (places : List Cube) (tiles : IsTiling (record { grid = grid; places = places })) (blocks : List BlockState) (n fields depth : ℕ) (sized : AreBlocksOf places n fields depth blocks) where
  pub places-long : length blocks ≡ length places
  places-long = sym (length-map blocks (λ (b : BlockState). b.place)) ∙ ap length sized.places

  pub some_block : 0 < length blocks
  some_block = omega (arith, some_leaf grid places tiles.domain tiles.mesh, places-long)

  -- the setting that the first block tells
  pub setting-is : (g : Grid) (b : BlockState) → g ≡ grid → b ≡ get_or blocks 0 b → ◌≡◌ {A = Setting} (record { grid = g; edge = b.edge; fields = length b.amounts }) (record { grid = grid; edge = n; fields = fields })
  setting-is g b domain first =
      let here : slice_get blocks 0 ≡ Some b = slice_get-get_or blocks 0 b some_block ∙ ap Some (sym first) in
      let size = sized.each 0 b here in
      ap (λ (x : Grid). record { grid = x; edge = b.edge; fields = length b.amounts }) domain
      ∙ (ap (λ (x : ℕ). record { grid = grid; edge = x; fields = length b.amounts }) size.same_edge
      ∙ ap (λ (x : ℕ). record { grid = grid; edge = n; fields = x }) size.same_fields)

  module _ (faces : List FaceFluxState) (cells : List FluxState) (first : AreFirstCells grid places blocks faces cells) where
    abbrev setting : Setting
    setting = record { grid = grid; edge = n; fields = fields }

    abbrev p : FluxProblem
    p = problem_of setting cells

    pub own-parts : map (λ (k : FluxPart). k.before) (map kept cells) ≡ map unadvanced blocks
    own-parts = map-twice kept (λ (k : FluxPart). k.before) cells ∙ (sym (map-twice (λ (c : FluxState). c.block) unadvanced cells) ∙ ap (map unadvanced) first.made)

    pub state-is : state_in p ≡ state_before grid n fields blocks
    state-is = ap (state_of grid n fields) own-parts ∙ state-unadvanced grid n fields blocks

    leaves-are : (state_in p).leaves ≡ places
    leaves-are = ap (λ (s : State). s.leaves) state-is ∙ sized.places

    cell_block : (i : ℕ) (c : FluxState) → slice_get cells i ≡ Some c → slice_get blocks i ≡ Some c.block
    cell_block i c here = subst (λ (l : List BlockState). slice_get l i ≡ Some c.block) first.made (get-map (λ (x : FluxState). x.block) cells i c here)

    cell_faces : (i : ℕ) (c : FluxState) → slice_get cells i ≡ Some c → slice_get faces i ≡ Some c.faces
    cell_faces i c here = subst (λ (l : List FaceFluxState). slice_get l i ≡ Some c.faces) first.fluxes (get-map (λ (x : FluxState). x.faces) cells i c here)

    module _ (fluxes : Fluxes) (made : AreAdvancedBy grid places n fields depth blocks faces fluxes) where
      pub made-by : IsMadeBy p fluxes
      made-by = record {
        each = λ i k here. let at = get-map_back kept cells i k here in subst (λ (x : FluxPart). HasFluxesOf (state_in p) fluxes x.before x.faces) at.2 (of_cell i at.0 at.1);
        replaces = subst (λ (s : State). CanReplace s fluxes) (sym state-is) made.replaces;
      }
        where
          of_cell : (i : ℕ) (c : FluxState) → slice_get cells i ≡ Some c → HasFluxesOf (state_in p) fluxes (unadvanced c.block) c.faces
          of_cell i c at = subst (λ (s : State). HasFluxesOf s fluxes (unadvanced c.block) c.faces) (sym state-is) (made.each i c.block c.faces (cell_block i c at) (cell_faces i c at))

      flux_part : (i : ℕ) (k : FluxPart) → slice_get p.parts i ≡ Some k → IsFluxPart p i k
      flux_part i k here =
          let at = get-map_back kept cells i k here in
          subst (IsFluxPart p i) at.2 (of_cell at.0 at.1)
        where
          of_cell : (c : FluxState) → slice_get cells i ≡ Some c → IsFluxPart p i (kept c)
          of_cell c at =
              let size = sized.each i c.block (cell_block i c at) in
              let limits = made.limits i c.faces (cell_faces i c at) in
              record {
                limits = IsBlock-unadvanced c.block size.limits;
                same_edge = size.same_edge;
                faces = limits.0;
                faces_edge = limits.1;
                faces_fields = limits.2;
                owes = subst (λ (l : List Cube). AreOwedFaces grid l i c.owes) (sym leaves-are) (first.each i c at).owes;
              }

      problem : IsFluxProblem p
      problem =
          let b = get-some blocks 0 some_block in
          let size = sized.each 0 b.0 b.1 in
          let l = size.limits in
          record {
            state = subst IsState (sym state-is) (IsState-state_by (λ x. x.before) grid places n fields blocks sized.places (HaveCells-before places n fields depth blocks sized) tiles.domain tiles.mesh tiles.balanced (omega (arith, l.least, size.same_edge)));
            even = omega (arith, l.even, size.same_edge);
            least = omega (arith, l.least, size.same_edge);
            most = omega (arith, l.most, size.same_edge);
            few = omega (arith, l.few, size.same_fields);
            leaves = flux_part;
            fluxes = fluxes;
            made = made-by;
          }

      fits : Fits (flux_plan p) p.parts
      fits =
          let all = all_of (flux_plan p) p.parts in
          let long : length p.parts ≡ length places = length-map cells kept ∙ (sym (length-map cells (λ (c : FluxState). c.block)) ∙ (ap length first.made ∙ places-long)) in
          let limit = length-IsMesh_limit grid places tiles.domain tiles.mesh in
          let told = told-short p 0 p.parts few_owed in
          let starts = length-start_flight flux_start (length p.parts) in
          let sum' : length (owed_from (flux_plan p).tells 0 p.parts ++ start_flight flux_start (length p.parts)) ≡ length (owed_from (flux_plan p).tells 0 p.parts) + length (start_flight flux_start (length p.parts)) = length-append (owed_from (flux_plan p).tells 0 p.parts) (start_flight flux_start (length p.parts)) in
          record {
            few = omega (arith, long, limit);
            addressed = All-weaker (Contains all) (λ (e : Envelope FluxMsg). e.to < length p.parts) (λ e h. right_within p e.to e.msg (all_right p problem e h)) all (All-contains_itself all);
            short = omega (arith, long, limit, told, starts, sum');
          }
        where
          few_owed : (i : ℕ) (k : FluxPart) → slice_get p.parts i ≡ Some k → length k.owes ≤ 6
          few_owed i k here =
              let at = get-map_back kept cells i k here in
              let cell = first.each i at.0 at.1 in
              let long : length k.owes ≡ length at.0.owes = ap (λ (x : FluxPart). length x.owes) (sym at.2) in
              omega (arith, long, cell.owes.few)

      pub begins : FluxFixBegins p cells
      begins = record {
        problem = problem;
        fits = fits;
        made = refl;
        fresh = All-weaker (Contains cells) (IsFresh setting) one cells (All-contains_itself cells);
      }
        where
          one : (c : FluxState) → Contains cells c → IsFresh setting c
          one c h =
              let at = Contains-get cells c h in
              let i = at.0 in
              let cell = first.each i c at.1 in
              let block = cell_block i c at.1 in
              let size = sized.each i c.block block in
              record {
                limits = size.limits;
                provisional = made.provisional i c.block c.faces block (cell_faces i c at.1);
                owed = cell.owed
                    ∙ (ap (λ (m : ℕ). map (blank (record { grid = grid; edge = m; fields = length c.block.amounts })) c.owes) size.same_edge
                    ∙ ap (λ (m : ℕ). map (blank (record { grid = grid; edge = n; fields = m })) c.owes) size.same_fields);
                started = cell.started;
              }
