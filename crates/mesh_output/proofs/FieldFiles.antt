-- The bytes of a field file, number by number, field by field, and leaf by leaf.
use Rattle.std.proofs.Common.{◌≡◌, ℕ, ◌+◌, ◌<◌, ◌≤◌, List, [], ◌∷◌, ◌++◌, length, map, take, drop, get_or, Some, slice_get, slice_index_or, take-append-drop, refl, sym, ap, subst, ◌∙◌, arith}
use Rattle.std.specs.Int.{bytes_high_first}
use Rattle.std.specs.List.{flat_map, zip}
use Rattle.std.proofs.Math.Nat.{mul-le-mul, one-le-pow}
use Rattle.std.proofs.lemmas.List.{drop_more, drop_all}
use Rattle.std.proofs.lemmas.List.Concat.{flat_map-append}
use Rattle.block_index.specs.Places.{Cube, Grid, IsDomain, IsInside, packed}
use Rattle.leaf_set.specs.Meshes.{IsMesh}
use Rattle.leaf_set.specs.Tiling.{IsTiling, Tiling}
use Rattle.block_fields.specs.Blocks.{BlockState}
use Rattle.block_fields.specs.BlockStates.{AreBlocksOf, state_of}
use Rattle.mesh_output.specs.FieldFiles.{field_bytes, leaf_numbers}

-- numbers of 8 bytes, those of some fields, those of a block, and those of some blocks
abbrev pub numbers_bytes : List ℕ → List ℕ
numbers_bytes numbers = flat_map (bytes_high_first 8) numbers

abbrev pub fields_bytes : List (List ℕ) → List ℕ
fields_bytes fields = numbers_bytes (flat_map (λ amounts. amounts) fields)

abbrev pub block_bytes : BlockState → List ℕ
block_bytes b = numbers_bytes (leaf_numbers b.place b.amounts)

abbrev pub blocks_bytes : List BlockState → List ℕ
blocks_bytes blocks = flat_map block_bytes blocks

-- some numbers, and those after them
pub numbers_bytes-split : (k : ℕ) (left few more : List ℕ) → few ≡ take k left → more ≡ drop k left → numbers_bytes left ≡ numbers_bytes few ++ numbers_bytes more
numbers_bytes-split k left few more is_few is_more =
    rw (is_few, is_more) (ap numbers_bytes (sym (take-append-drop k left)) ∙ flat_map-append (bytes_high_first 8) (take k left) (drop k left))

-- a field, and those after it
pub fields_bytes-next : (fields : List (List ℕ)) (i : ℕ) (q : List ℕ) → i < length fields → q ≡ slice_index_or fields i [] → fields_bytes (drop i fields) ≡ numbers_bytes q ++ fields_bytes (drop (i + 1) fields)
fields_bytes-next fields i q below is =
    ap fields_bytes (drop_more fields i [] below)
    ∙ flat_map-append (bytes_high_first 8) (get_or fields i []) (flat_map (λ amounts. amounts) (drop (i + 1) fields))
    ∙ ap (λ l. numbers_bytes l ++ fields_bytes (drop (i + 1) fields)) (sym is)

pub fields_bytes-end : (fields : List (List ℕ)) (i : ℕ) → length fields ≤ i → fields_bytes (drop i fields) ≡ []
fields_bytes-end fields i end = ap fields_bytes (drop_all i fields end)

-- a block: its place, and its fields
pub block_bytes-begins : (b : BlockState) (word : ℕ) → word ≡ packed b.place → block_bytes b ≡ numbers_bytes (word ∷ []) ++ fields_bytes b.amounts
block_bytes-begins b word is =
    rw is (flat_map-append (bytes_high_first 8) (packed b.place ∷ []) (flat_map (λ amounts. amounts) b.amounts))

-- a block, and those after it
pub blocks_bytes-next : (blocks : List BlockState) (i : ℕ) (b : BlockState) → i < length blocks → b ≡ get_or blocks i b → blocks_bytes (drop i blocks) ≡ block_bytes b ++ blocks_bytes (drop (i + 1) blocks)
blocks_bytes-next blocks i b below is =
    ap blocks_bytes (drop_more blocks i b below) ∙ ap (λ c. block_bytes c ++ blocks_bytes (drop (i + 1) blocks)) (sym is)

pub blocks_bytes-end : (blocks : List BlockState) (i : ℕ) → length blocks ≤ i → blocks_bytes (drop i blocks) ≡ []
blocks_bytes-end blocks i end = ap blocks_bytes (drop_all i blocks end)

-- the leaves of a state of blocks, with their amounts
zip-blocks : (blocks : List BlockState) → flat_map (λ leaf. flat_map (bytes_high_first 8) (leaf_numbers leaf.0 leaf.1)) (zip (map (λ b. b.place) blocks) (map (λ b. b.amounts) blocks)) ≡ blocks_bytes blocks
zip-blocks [] = refl
zip-blocks (b ∷ bs) = ap (λ l. block_bytes b ++ l) (zip-blocks bs)

-- a set's mesh has a leaf, so where it has a block for each there is one
no_mesh : (grid : Grid) → IsDomain grid → IsMesh grid [] → ⊥
no_mesh grid domain mesh =
    let corner : Cube = record { level = grid.finest; x = 0; y = 0; z = 0 } in
    let wide = one-le-pow grid.finest 2 (omega arith) in
    let inside : IsInside grid corner = record {
      level = omega arith;
      x = omega (arith, mul-le-mul domain.some_x wide);
      y = omega (arith, mul-le-mul domain.some_y wide);
      z = omega (arith, mul-le-mul domain.some_z wide);
    } in
    absurd (omega (arith, mesh.covered corner inside refl))

pub some_block : (set : Tiling) (blocks : List BlockState) → IsTiling set → map (λ (b : BlockState). b.place) blocks ≡ set.places → 0 < length blocks
some_block set [] t places = absurd (no_mesh set.grid t.domain (subst (IsMesh set.grid) (sym places) t.mesh))
some_block set (b ∷ bs) t places = omega arith

slice_get-first : (blocks : List BlockState) (first : BlockState) → 0 < length blocks → first ≡ get_or blocks 0 first → slice_get blocks 0 ≡ Some first
slice_get-first [] first some is = absurd (omega (arith, some))
slice_get-first (b ∷ bs) first some is = ap (λ (x : BlockState). Some x) (sym is)

-- a file: the numbers that it begins with, and the blocks
pub field_bytes-blocks : (cycle fields leaves edge : ℕ) (set : Tiling) (n f depth : ℕ) (blocks : List BlockState) (first : BlockState) (page : List ℕ) → IsTiling set → AreBlocksOf set.places n f depth blocks
    → first ≡ get_or blocks 0 first → fields ≡ length first.amounts → leaves ≡ length set.places → edge ≡ first.edge
    → page ≡ flat_map (bytes_high_first 4) (cycle ∷ fields ∷ leaves ∷ edge ∷ [])
    → page ++ blocks_bytes blocks ≡ field_bytes cycle (state_of set.grid n f blocks)
field_bytes-blocks cycle fields leaves edge set n f depth blocks first page tiles are is_first is_fields is_leaves is_edge is_page =
    let size = are.each 0 first (slice_get-first blocks first (some_block set blocks tiles are.places) is_first) in
    let same_fields : fields ≡ f = is_fields ∙ size.same_fields in
    let same_leaves : leaves ≡ length (map (λ (b : BlockState). b.place) blocks) = is_leaves ∙ ap length (sym are.places) in
    let same_edge : edge ≡ n = is_edge ∙ size.same_edge in
    rw (is_page, same_fields, same_leaves, same_edge, zip-blocks blocks) refl
