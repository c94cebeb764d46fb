-- A block advanced by its own fluxes is its part of the state advanced.
use Rattle.std.proofs.Common.{◌≡◌, ℕ, zero, suc, ◌+◌, ◌-◌, ◌*◌, ◌%◌, ◌<◌, ◌≤◌, cond, List, [], ◌∷◌, Some, get_or, length, map, slice_get, slice_index, arith, ap, sym, ◌∙◌, subst, refl}
use Rattle.std.specs.List.{range_with_len}
use Rattle.std.proofs.lemmas.Nat.{mod_below}
use Rattle.std.proofs.lemmas.Option.{slice_get-get_or, slice_get_within}
use Rattle.block_index.specs.Places.{Cube, Grid, IsDomain}
use Rattle.leaf_set.specs.Meshes.{IsBalanced, IsMesh}
use Rattle.block_fields.specs.Blocks.{BlockState, IsBlock, amounts_of, number_at}
use Rattle.block_fields.specs.BlockStates.{AreBlocksOf, HoldsSamples, IsLeafOf, state_of}
use Rattle.block_fields.specs.Cells.{block_of, cell_at, cells_of}
use Rattle.block_fields.specs.States.{State, IsState, filled, held}
use Rattle.block_fields.proofs.BlockSamples.{held-at}
use Rattle.block_fields.proofs.CellFacts.{block_of-cell_at, cell_number-cell_at}
use Rattle.block_fields.proofs.FilledStates.{at-map}
use Rattle.block_fields.proofs.StatesOfBlocks.{HaveCells-amounts, IsState-state_by, filled-state_by, lists-filled}
use Rattle.grid_fluxes.specs.Axes.{Axis}
use Rattle.grid_fluxes.specs.Fluxes.{Across, Fluxes, advanced_by, given, given_along, none_across, over_axes, taken, taken_along}
use Rattle.grid_fluxes.specs.Upwind.{Flow, upwind}
use Rattle.grid_fluxes.proofs.Replacing.{held-advanced_by}
use Rattle.advect.specs.CellFluxes.{AreProvisional, amount_of}
use Rattle.advect.specs.OwnFluxes.{IsProvisional, gives_along, own_flux, takes_along}
use Rattle.advect.proofs.StateFluxes.{own-after, own-before}

-- what a state holds at a cell of a block
pub held-cell : (s : State) → IsState s → (i : ℕ) (b : BlockState) → IsLeafOf s i b → (f : ℕ) (c : Cube) → block_of s.edge c ≡ b.place → held s f c ≡ amount_of s.edge b f c
held-cell s w i b k f c e =
    held-at s w f i b.place c b.amounts k.leaf k.held e
    ∙ ap (λ m. slice_index (amounts_of b f) (number_at m (c.x % s.edge) (c.y % s.edge) (c.z % s.edge))) (sym k.same_edge)

module _ (s : State) (w : IsState s) (flow : Flow) (i : ℕ) (b new : BlockState) (limits : IsBlock b) (k : IsLeafOf s i b) (samples : HoldsSamples s b)
    (advanced : IsProvisional (own_flux flow s.grid b) flow.goes_up b new) where
  fields : length b.amounts ≡ s.fields
  fields = w.all_fields i b.amounts k.held

  some : 0 < s.edge
  some = let h = w.edge in omega (arith, h)

  pub advanced-cell : (f : ℕ) (c : Cube) → f < s.fields → block_of s.edge c ≡ b.place → amount_of s.edge new f c ≡ held (advanced_by s none_across (upwind s flow)) f c
  advanced-cell f c hf e =
      let x = c.x % s.edge in let y = c.y % s.edge in let z = c.z % s.edge in
      let own = own_flux flow s.grid b in
      let gives : given s none_across (upwind s flow) f c ≡ over_axes (gives_along own flow.goes_up f x y z) =
      λ j. over_axes (λ a. gives_on a j) in
      let takes : taken s none_across (upwind s flow) f c ≡ over_axes (takes_along own flow.goes_up f x y z) =
      λ j. over_axes (λ a. takes_on a j) in
      advanced.amounts f x y z (subst (λ m. f < m) (sym fields) hf) (within c.x) (within c.y) (within c.z)
      ∙ (λ j. sym (held-cell s w i b k f c e) j - sym gives j + sym takes j)
      ∙ sym (held-advanced_by s none_across (upwind s flow) f c w hf (i, k.leaf ∙ ap Some (sym e)))
    where
      within : (x : ℕ) → x % s.edge < b.edge
      within x = subst (λ m. x % s.edge < m) (sym k.same_edge) (mod_below x s.edge some)

      gives_on : (a : Axis) → given_along s none_across (upwind s flow) f c a ≡ gives_along (own_flux flow s.grid b) flow.goes_up f (c.x % s.edge) (c.y % s.edge) (c.z % s.edge) a
      gives_on a =
          let after = own-after s w i b limits k samples f hf c e a flow in
          let before = own-before s w i b limits k samples f hf c e a flow in
          λ j. cond (flow.goes_up a) (sym after j) (sym before j)

      takes_on : (a : Axis) → taken_along s none_across (upwind s flow) f c a ≡ takes_along (own_flux flow s.grid b) flow.goes_up f (c.x % s.edge) (c.y % s.edge) (c.z % s.edge) a
      takes_on a =
          let after = own-after s w i b limits k samples f hf c e a flow in
          let before = own-before s w i b limits k samples f hf c e a flow in
          λ j. cond (flow.goes_up a) (sym before j) (sym after j)

-- a block that holds at each of its cells what a function gives
pub by-cells : (n fields : ℕ) (b : BlockState) (place : Cube) (given : ℕ → Cube → ℕ) → IsBlock b → b.edge ≡ n → length b.amounts ≡ fields →
    ((f : ℕ) (c : Cube) → f < fields → block_of n c ≡ place → amount_of n b f c ≡ given f c) → b.amounts ≡ map (λ f. map (given f) (cells_of n place)) (range_with_len 0 fields)
by-cells n fields b place given limits edge long same =
    let least = limits.least in
    let some : 0 < n = omega (arith, least, edge) in
    lists-filled b.amounts n fields place given some long (λ f p t. limits.all_cells f p t ∙ ap (λ m. m * m * m) edge)
    (λ f j hf hj.
    let c = cell_at n place j in
    (λ t. slice_index (amounts_of b f) (sym (cell_number-cell_at n some place j hj) t))
    ∙ ap (λ m. slice_index (amounts_of b f) (number_at m (c.x % n) (c.y % n) (c.z % n))) (sym edge)
    ∙ same f c hf (block_of-cell_at n some place j hj))

-- such a block is its leaf of the filled state
pub leaf-filled : (s : State) → (i : ℕ) (b : BlockState) (given : ℕ → Cube → ℕ) → IsBlock b → b.edge ≡ s.edge → length b.amounts ≡ s.fields → slice_get s.leaves i ≡ Some b.place →
    ((f : ℕ) (c : Cube) → f < s.fields → block_of s.edge c ≡ b.place → amount_of s.edge b f c ≡ given f c) → IsLeafOf (filled s.grid s.edge s.fields s.leaves given) i b
leaf-filled s i b given limits edge long at same = record {
  same_edge = edge;
  leaf = at;
  held = at-map (λ place. map (λ f. map (given f) (cells_of s.edge place)) (range_with_len 0 s.fields)) s.leaves i b.place at
      ∙ ap Some (sym (by-cells s.edge s.fields b b.place given limits edge long same));
}

-- and of the state advanced, whichever faces carry sums
pub leaf-advanced_by : (s : State) → IsState s → (across : Across) (fluxes : Fluxes) (i : ℕ) (b : BlockState) → IsBlock b → b.edge ≡ s.edge → length b.amounts ≡ s.fields → slice_get s.leaves i ≡ Some b.place →
    ((f : ℕ) (c : Cube) → f < s.fields → block_of s.edge c ≡ b.place → amount_of s.edge b f c ≡ held (advanced_by s across fluxes) f c) → IsLeafOf (advanced_by s across fluxes) i b
leaf-advanced_by s w across fluxes i b limits edge long at same =
    leaf-filled s i b (λ f c. held s f c - given s across fluxes f c + taken s across fluxes f c) limits edge long at
    (λ f c hf e. same f c hf e ∙ held-advanced_by s across fluxes f c w hf (i, at ∙ ap Some (sym e)))

pub leaf-advanced : (s : State) → IsState s → (flow : Flow) (i : ℕ) (b new : BlockState) → IsBlock b → IsBlock new → IsLeafOf s i b → HoldsSamples s b → IsProvisional (own_flux flow s.grid b) flow.goes_up b new → IsLeafOf (advanced_by s none_across (upwind s flow)) i new
leaf-advanced s w flow i b new limits new_limits k samples advanced =
    leaf-advanced_by s w none_across (upwind s flow) i new new_limits (advanced.edge ∙ k.same_edge) (advanced.fields ∙ w.all_fields i b.amounts k.held) (k.leaf ∙ ap Some (sym advanced.place))
    (λ f c hf e. advanced-cell s w flow i b new limits k samples advanced f c hf (e ∙ advanced.place))

-- ---- all blocks of a mesh

same-places : (blocks news : List BlockState) → length news ≡ length blocks → ((i : ℕ) (b new : BlockState) → slice_get blocks i ≡ Some b → slice_get news i ≡ Some new → new.place ≡ b.place) → map (λ b. b.place) news ≡ map (λ b. b.place) blocks
same-places [] [] l h = refl
same-places [] (new ∷ news) l h = absurd (omega (arith, l))
same-places (b ∷ blocks) [] l h = absurd (omega (arith, l))
same-places (b ∷ blocks) (new ∷ news) l h =
    let head = h zero b new refl refl in
    let tail = same-places blocks news (omega (arith, l)) (λ i b new p q. h (suc i) b new p q) in
    λ j. head j ∷ tail j

pub mesh-advanced : (flow : Flow) (grid : Grid) (leaves : List Cube) (n fields depth : ℕ) (blocks news : List BlockState) → IsDomain grid → IsMesh grid leaves → IsBalanced grid leaves → 2 ≤ n → AreBlocksOf leaves n fields depth blocks →
    ((i : ℕ) (b : BlockState) → slice_get blocks i ≡ Some b → HoldsSamples (state_of grid n fields blocks) b) → AreProvisional flow grid blocks news →
    state_of grid n fields news ≡ advanced_by (state_of grid n fields blocks) none_across (upwind (state_of grid n fields blocks) flow)
mesh-advanced flow grid leaves n fields depth blocks news g m balanced edge w samples advanced =
    let s : State = state_of grid n fields blocks in
    let is : IsState s = IsState-state_by (λ b. b.amounts) grid leaves n fields blocks w.places (HaveCells-amounts leaves n fields depth blocks w) g m balanced edge in
    filled-state_by (λ b. b.amounts) grid (map (λ b. b.place) blocks) n fields news (λ f c. held s f c - given s none_across (upwind s flow) f c + taken s none_across (upwind s flow) f c)
    (same-places blocks news advanced.one_each (λ i b new p q. (advanced.each i b new p q).place))
    (λ i new at.
    let b = get_or blocks i new in
    let old : slice_get blocks i ≡ Some b = slice_get-get_or blocks i new (let h = slice_get_within news i new at in omega (arith, h, advanced.one_each)) in
    let one = w.each i b old in
    let step = advanced.each i b new old at in
    let leaf : IsLeafOf s i b = record {
      same_edge = one.same_edge;
      leaf = at-map (λ b. b.place) blocks i b old;
      held = at-map (λ b. b.amounts) blocks i b old;
    } in
    by-cells n fields new new.place (λ f c. held s f c - given s none_across (upwind s flow) f c + taken s none_across (upwind s flow) f c) (advanced.limits i new at) (step.edge ∙ one.same_edge) (step.fields ∙ one.same_fields)
    (λ f c hf e.
    advanced-cell s is flow i b new one.limits leaf (samples i b old) step f c hf (e ∙ step.place)
    ∙ held-advanced_by s none_across (upwind s flow) f c is hf (i, leaf.leaf ∙ ap Some (sym (e ∙ step.place)))))
