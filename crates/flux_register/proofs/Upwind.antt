-- What an advance by the upwind fluxes makes of the blocks of a mesh.
use Rattle.std.proofs.Common.{◌≡◌, ℕ, zero, suc, ◌+◌, ◌-◌, ◌%◌, ◌^◌, ◌<◌, ◌≤◌, Bool, true, false, ◌&&◌, ◌||◌, ◌==◌, cond, List, [], ◌∷◌, Some, get_or, length, map, refl, sym, ap, ◌∙◌, subst, arith, inl, inr, ℤ, pos, negsuc}
use Rattle.std.specs.Prelude.{nat_abs, slice_get, slice_index}
use Rattle.std.proofs.lemmas.Bool.{cases_eq}
use Rattle.std.proofs.lemmas.Bool.Decides.{nat_tests}
use Rattle.std.proofs.lemmas.Nat.{mod_below}
use Rattle.std.proofs.lemmas.Option.{slice_get-get_or, slice_get_within}
use Rattle.cello_num.specs.Fluxes.{flux}
use Rattle.block_index.specs.Places.{Cube, Grid}
use Rattle.leaf_set.specs.Tiling.{IsTiling}
use Rattle.block_fields.specs.Blocks.{BlockState, IsBlock, amount_at, seen_at}
use Rattle.block_fields.specs.BlockStates.{AreBlocksOf, HoldsSamples, IsLeafOf, state_before, state_of}
use Rattle.block_fields.specs.Cells.{block_of}
use Rattle.block_fields.specs.Shells.{IsAround}
use Rattle.block_fields.specs.States.{IsState, State, total}
use Rattle.block_fields.proofs.FilledStates.{at-map}
use Rattle.block_fields.proofs.SampleBounds.{sample-most}
use Rattle.block_fields.proofs.SamplesAround.{seen-samples}
use Rattle.block_fields.proofs.Seen.{seen-within}
use Rattle.block_fields.proofs.StatesOfBlocks.{HaveCells-amounts, IsState-state_by}
use Rattle.grid_fluxes.specs.Axes.{Axis, along_x, along_y, along_z, next_cell}
use Rattle.grid_fluxes.specs.Fluxes.{Fluxes, over_axes}
use Rattle.grid_fluxes.specs.Upwind.{Flow, IsCourant, upwind}
use Rattle.grid_fluxes.proofs.AmountBounds.{provisional-most}
use Rattle.grid_fluxes.proofs.Shares.{CarriesShares-GivesWithin, IsWithinFiner-IsBelowFinest}
use Rattle.grid_fluxes.proofs.UpwindFluxes.{upwind-CarriesShares}
use Rattle.params_check.specs.Parameters.{IsParameters, Parameters}
use Rattle.advect.specs.Coordinates.{across_first, across_second, along, face_number}
use Rattle.advect.specs.FaceFluxes.{FaceFluxState, HoldsFluxes, high_of, low_of}
use Rattle.advect.specs.Flows.{flow_of, goes_up_by, velocity_along}
use Rattle.advect.specs.OwnFluxes.{HoldsAtMost, IsProvisional, gives_along, is_outer, own_flux, provisional, seen_on, takes_along, upwind_side}
use Rattle.advect.proofs.StateFluxes.{own-after, own-before}
use Rattle.flux_register.specs.Cells.{unadvanced}
use Rattle.flux_register.specs.Made.{AreAdvancedBy, AreUpwindAdvanced, CanReplace, HasFluxesOf, kept_after, kept_before, kept_flux}

-- ---- the fluxes of one block

-- inside a block no face is an outer one
none-outer : (w : Bool) (u n at trees : ℕ) → (u ≡ 0 → ⊥) → (u ≡ n → ⊥) → cond w false (((u == 0) && (at == 0)) || ((u == n) && (at + 1 == trees))) ≡ false
none-outer true u n at trees first last = refl
none-outer false u n at trees first last = grind (arith, nat_tests)

-- the coordinates of a cell in its block lie below the edge
in_block : (a : Axis) (n x y z : ℕ) → x < n → y < n → z < n → (along a x y z < n) × (across_first a x y z < n) × (across_second a x y z < n)
in_block along_x n x y z hx hy hz = (hx, hy, hz)
in_block along_y n x y z hx hy hz = (hy, hx, hz)
in_block along_z n x y z hx hy hz = (hz, hx, hy)

module _ (p : Parameters) (b : BlockState) (q : FaceFluxState) (edge : q.edge ≡ b.edge) (velocity : q.velocity ≡ p.velocity) (den : q.den ≡ p.den)
    (notes : HoldsFluxes (own_flux (flow_of p) p.grid b) q) where
  abbrev inside : ℕ → Axis → ℕ → ℕ → ℕ → ℕ
  inside f a u i j = flux (seen_on b f a (upwind_side (goes_up_by q.velocity a) u) i j) (nat_abs (velocity_along q.velocity a)) q.den b.place.level

  -- the kept fluxes are the own ones
  pub kept-own : (f : ℕ) (a : Axis) (u i j : ℕ) → f < q.fields → u ≤ b.edge → i < b.edge → j < b.edge → kept_flux b q f a u i j ≡ own_flux (flow_of p) p.grid b f a u i j
  kept-own f a u i j hf hu hi hj =
      let wi : i < q.edge = omega (arith, hi, edge) in
      let wj : j < q.edge = omega (arith, hj, edge) in
      elim (cases_eq u 0) [
        | inl first ↦
            (λ t. cond (first t == 0) (slice_index (low_of q f a) (face_number (sym edge t) i j)) (cond (u == b.edge) (slice_index (high_of q f a) (face_number b.edge i j)) (inside f a u i j)))
            ∙ notes.low f a i j hf wi wj
            ∙ ap (λ t. own_flux (flow_of p) p.grid b f a t i j) (sym first)
        | inr some ↦
            elim (cases_eq u b.edge) [
              | inl last ↦
                  (let no : (u == 0) ≡ false = grind (arith, nat_tests) in
                  let at : (u == b.edge) ≡ true = grind (arith, nat_tests) in
                  λ t. cond (no t) (slice_index (low_of q f a) (face_number b.edge i j)) (cond (at t) (slice_index (high_of q f a) (face_number (sym edge t) i j)) (inside f a u i j)))
                  ∙ notes.high f a i j hf wi wj
                  ∙ ap (λ t. own_flux (flow_of p) p.grid b f a t i j) (edge ∙ sym last)
              | inr other ↦
                  (let no : (u == 0) ≡ false = grind (arith, nat_tests) in
                  let not : (u == b.edge) ≡ false = grind (arith, nat_tests) in
                  λ t. cond (no t) (slice_index (low_of q f a) (face_number b.edge i j)) (cond (not t) (slice_index (high_of q f a) (face_number b.edge i j)) (inside f a u i j)))
                  ∙ (λ t. flux (seen_on b f a (upwind_side (goes_up_by (velocity t) a) u) i j) (nat_abs (velocity_along (velocity t) a)) (den t) b.place.level)
                  ∙ sym (free (is_outer p.grid b a u) _ (outer a some other))
            ]
      ]
    where
      outer : (a : Axis) → (u ≡ 0 → ⊥) → (u ≡ b.edge → ⊥) → is_outer p.grid b a u ≡ false
      outer along_x first last = none-outer p.grid.wraps_x u b.edge b.place.x _ first last
      outer along_y first last = none-outer p.grid.wraps_y u b.edge b.place.y _ first last
      outer along_z first last = none-outer p.grid.wraps_z u b.edge b.place.z _ first last

      free : (outer barred : Bool) {v : ℕ} → outer ≡ false → cond (outer && barred) 0 v ≡ v
      free outer barred {v} e = ap (λ (o : Bool). cond (o && barred) 0 v) e

  -- so an advance by the one is an advance by the other
  gives-same : (f x y z : ℕ) → f < q.fields → x < b.edge → y < b.edge → z < b.edge → (a : Axis) →
      gives_along (kept_flux b q) (goes_up_by q.velocity) f x y z a ≡ gives_along (own_flux (flow_of p) p.grid b) (flow_of p).goes_up f x y z a
  gives-same f x y z hf hx hy hz a =
      let h = in_block a b.edge x y z hx hy hz in
      let after = kept-own f a (along a x y z + 1) (across_first a x y z) (across_second a x y z) hf (let l = h.0 in omega (arith, l)) h.1 h.2 in
      let before = kept-own f a (along a x y z) (across_first a x y z) (across_second a x y z) hf (let l = h.0 in omega (arith, l)) h.1 h.2 in
      λ t. cond (goes_up_by (velocity t) a) (after t) (before t)

  takes-same : (f x y z : ℕ) → f < q.fields → x < b.edge → y < b.edge → z < b.edge → (a : Axis) →
      takes_along (kept_flux b q) (goes_up_by q.velocity) f x y z a ≡ takes_along (own_flux (flow_of p) p.grid b) (flow_of p).goes_up f x y z a
  takes-same f x y z hf hx hy hz a =
      let h = in_block a b.edge x y z hx hy hz in
      let after = kept-own f a (along a x y z + 1) (across_first a x y z) (across_second a x y z) hf (let l = h.0 in omega (arith, l)) h.1 h.2 in
      let before = kept-own f a (along a x y z) (across_first a x y z) (across_second a x y z) hf (let l = h.0 in omega (arith, l)) h.1 h.2 in
      λ t. cond (goes_up_by (velocity t) a) (before t) (after t)

  pub provisional-same : (f x y z : ℕ) → f < q.fields → x < b.edge → y < b.edge → z < b.edge →
      provisional (own_flux (flow_of p) p.grid b) (flow_of p).goes_up b f x y z ≡ provisional (kept_flux b q) (goes_up_by q.velocity) b f x y z
  provisional-same f x y z hf hx hy hz =
      λ t. amount_at b f x y z - over_axes (λ a. sym (gives-same f x y z hf hx hy hz a) t) + over_axes (λ a. sym (takes-same f x y z hf hx hy hz a) t)

  -- they are the upwind fluxes of the state
  module _ (s : State) (w : IsState s) (grid : s.grid ≡ p.grid) (k : ℕ) (limits : IsBlock b) (leaf : IsLeafOf s k b) (samples : HoldsSamples s b) (fields : q.fields ≡ s.fields) where
    cells : (x : ℕ) → x % s.edge < b.edge
    cells x = let e = w.edge in subst (λ m. x % s.edge < m) (sym leaf.same_edge) (mod_below x s.edge (omega (arith, e)))

    pub before-same : (f : ℕ) (a : Axis) (c : Cube) → f < s.fields → block_of s.edge c ≡ b.place → kept_before s.edge b q f a c ≡ (upwind s (flow_of p)).level_flux f a c
    before-same f a c hf e =
        let x = c.x % s.edge in let y = c.y % s.edge in let z = c.z % s.edge in
        let h = in_block a b.edge x y z (cells c.x) (cells c.y) (cells c.z) in
        kept-own f a (along a x y z) (across_first a x y z) (across_second a x y z) (omega (arith, hf, fields)) (let l = h.0 in omega (arith, l)) h.1 h.2
        ∙ ap (λ (g : Grid). own_flux (flow_of p) g b f a (along a x y z) (across_first a x y z) (across_second a x y z)) (sym grid)
        ∙ own-before s w k b limits leaf samples f hf c e a (flow_of p)

    pub after-same : (f : ℕ) (a : Axis) (c : Cube) → f < s.fields → block_of s.edge c ≡ b.place → kept_after s.edge b q f a c ≡ (upwind s (flow_of p)).level_flux f a (next_cell a s.grid s.edge c)
    after-same f a c hf e =
        let x = c.x % s.edge in let y = c.y % s.edge in let z = c.z % s.edge in
        let h = in_block a b.edge x y z (cells c.x) (cells c.y) (cells c.z) in
        kept-own f a (along a x y z + 1) (across_first a x y z) (across_second a x y z) (omega (arith, hf, fields)) (let l = h.0 in omega (arith, l)) h.1 h.2
        ∙ ap (λ (g : Grid). own_flux (flow_of p) g b f a (along a x y z + 1) (across_first a x y z) (across_second a x y z)) (sym grid)
        ∙ own-after s w k b limits leaf samples f hf c e a (flow_of p)

-- ---- the flow of parameters

pub flow-IsCourant : (p : Parameters) → IsParameters p → IsCourant (flow_of p) p.grid.finest
flow-IsCourant p w = record { some = w.some_den; small = w.courant }

pub upwind-CanReplace : (s : State) (flow : Flow) → IsState s → IsCourant flow s.grid.finest → ((f : ℕ) → f < s.fields → total s f ≤ 2 ^ 40) → CanReplace s (upwind s flow)
upwind-CanReplace s flow w courant few = record {
  gives = λ across f hf only. CarriesShares-GivesWithin s across (upwind s flow) f flow.speed flow.den w (IsWithinFiner-IsBelowFinest s across w only) (upwind-CarriesShares s flow f courant);
  small = λ across f c hf only leaf. let most = provisional-most s across flow f c w hf (few f hf) courant only leaf in omega (arith, most);
}

-- ---- all blocks of a mesh

-- a list by what each element of another is beside it
same-lists : {A : Type 0} (g h : BlockState → A) (blocks news : List BlockState) → length news ≡ length blocks → ((i : ℕ) (b new : BlockState) → slice_get blocks i ≡ Some b → slice_get news i ≡ Some new → g new ≡ h b) → map g news ≡ map h blocks
same-lists g h [] [] l each = refl
same-lists g h [] (new ∷ news) l each = absurd (omega (arith, l))
same-lists g h (b ∷ blocks) [] l each = absurd (omega (arith, l))
same-lists g h (b ∷ blocks) (new ∷ news) l each =
    let head = each zero b new refl refl in
    let tail = same-lists g h blocks news (omega (arith, l)) (λ i b new p q. each (suc i) b new p q) in
    λ j. head j ∷ tail j

module _ (p : Parameters) (befores blocks : List BlockState) (faces : List FaceFluxState) (is : AreUpwindAdvanced p befores blocks faces) where
  same-places : map (λ (b : BlockState). b.place) blocks ≡ map (λ (b : BlockState). b.place) befores
  same-places = same-lists (λ b. b.place) (λ b. b.place) befores blocks is.provisional.one_each (λ i b new here there. (is.provisional.each i b new here there).place)

  same-amounts : map (λ (b : BlockState). b.before) blocks ≡ map (λ (b : BlockState). b.amounts) befores
  same-amounts = same-lists (λ b. b.before) (λ b. b.amounts) befores blocks is.provisional.one_each (λ i b new here there. (is.provisional.each i b new here there).before)

  pub state-before : (grid : Grid) (n fields : ℕ) → state_before grid n fields blocks ≡ state_of grid n fields befores
  state-before grid n fields = λ t. record { grid = grid; edge = n; fields = fields; leaves = same-places t; amounts = same-amounts t }

module _ (p : Parameters) (mesh : List Cube) (depth : ℕ) (befores : List BlockState) (w : IsParameters p) (t : IsTiling (record { grid = p.grid; places = mesh }))
    (are : AreBlocksOf mesh p.block (length p.fields) depth befores) (few : (f : ℕ) → f < length p.fields → total (state_of p.grid p.block (length p.fields) befores) f ≤ 2 ^ 40)
    (samples : (i : ℕ) (b : BlockState) → slice_get befores i ≡ Some b → HoldsSamples (state_of p.grid p.block (length p.fields) befores) b) where
  abbrev s : State
  s = state_of p.grid p.block (length p.fields) befores

  is_state : IsState s
  is_state =
      let low = w.block.low in
      IsState-state_by (λ b. b.amounts) p.grid mesh p.block (length p.fields) befores are.places (HaveCells-amounts mesh p.block (length p.fields) depth befores are) t.domain t.mesh t.balanced (omega (arith, low))

  leaf_of : (i : ℕ) (b : BlockState) → slice_get befores i ≡ Some b → IsLeafOf s i b
  leaf_of i b at = record {
    same_edge = (are.each i b at).same_edge;
    leaf = at-map (λ (b : BlockState). b.place) befores i b at;
    held = at-map (λ (b : BlockState). b.amounts) befores i b at;
  }

  -- no block sees more than an advance allows
  module _ (i : ℕ) (b : BlockState) (at : slice_get befores i ≡ Some b) where
    seen-most : (f : ℕ) (x y z : ℤ) → f < length b.amounts → IsAround b.edge b.depth x → IsAround b.edge b.depth y → IsAround b.edge b.depth z → seen_at b f x y z ≤ 2 ^ 42
    seen-most f x y z hf hx hy hz =
        let known : f < length p.fields = subst (λ n. f < n) (are.each i b at).same_fields hf in
        let seen = seen-samples s is_state i b (leaf_of i b at) (samples i b at) f x y z known hx hy hz in
        let most = few f known in
        let sampled = sample-most s is_state f known _ in
        let both = subst (λ (q : ℕ). q ≤ total s f) (sym seen) sampled in
        omega (arith, both, most)

    within : (u : ℕ) → u < b.edge → IsAround b.edge b.depth (pos u)
    within u h = omega (arith, h)

    below : IsAround b.edge b.depth (negsuc 0)
    below = let some = (are.each i b at).limits.shallowest in omega (arith, some)

    above : IsAround b.edge b.depth (pos b.edge)
    above = let some = (are.each i b at).limits.shallowest in omega (arith, some)

    beside : (f : ℕ) (a : Axis) (u : ℤ) (i j : ℕ) → f < length b.amounts → IsAround b.edge b.depth u → i < b.edge → j < b.edge → seen_on b f a u i j ≤ 2 ^ 42
    beside f along_x u i j hf hu hi hj = seen-most f u (pos i) (pos j) hf hu (within i hi) (within j hj)
    beside f along_y u i j hf hu hi hj = seen-most f (pos i) u (pos j) hf (within i hi) hu (within j hj)
    beside f along_z u i j hf hu hi hj = seen-most f (pos i) (pos j) u hf (within i hi) (within j hj) hu

    pub holds-small : HoldsAtMost (2 ^ 42) b
    holds-small = record {
      amounts = λ f x y z hf hx hy hz. subst (λ (q : ℕ). q ≤ 2 ^ 42) (seen-within b f x y z hx hy hz) (seen-most f (pos x) (pos y) (pos z) hf (within x hx) (within y hy) (within z hz));
      below = λ f a i j hf hi hj. beside f a (negsuc 0) i j hf below hi hj;
      above = λ f a i j hf hi hj. beside f a (pos b.edge) i j hf above hi hj;
    }

  -- the advanced blocks
  module _ (blocks : List BlockState) (faces : List FaceFluxState) (is : AreUpwindAdvanced p befores blocks faces) where
    abbrev fluxes : Fluxes
    fluxes = upwind s (flow_of p)

    -- each comes from one before the advance
    old_block : (i : ℕ) (new : BlockState) → slice_get blocks i ≡ Some new → (b : BlockState) × (slice_get befores i ≡ Some b)
    old_block i new here =
        let h = slice_get_within blocks i new here in
        (get_or befores i new, slice_get-get_or befores i new (omega (arith, h, is.provisional.one_each)))

    -- with the amounts of its second copy such a block is that one, but for its second copy
    module _ (i : ℕ) (new : BlockState) (q : FaceFluxState) (here : slice_get blocks i ≡ Some new) (there : slice_get faces i ≡ Some q) (b : BlockState) (at : slice_get befores i ≡ Some b) where
      step : IsProvisional (own_flux (flow_of p) p.grid b) (flow_of p).goes_up b new
      step = is.provisional.each i b new at here

      undone : unadvanced new ≡ record b { before = new.before }
      undone = λ t. record { place = step.place t; edge = step.edge t; depth = step.depth t; amounts = step.before t; before = new.before; ghosts = step.ghosts t }

      edge_of : q.edge ≡ b.edge
      edge_of = (is.limits i q there).1 ∙ sym (are.each i b at).same_edge

      made : (q.velocity ≡ p.velocity) × (q.den ≡ p.den)
      made = is.made_by i q there

      notes : HoldsFluxes (own_flux (flow_of p) p.grid b) q
      notes = is.noted i b q at there

      fields_of : q.fields ≡ length p.fields
      fields_of = (is.limits i q there).2

      pub step-kept : IsProvisional (kept_flux (unadvanced new) q) (goes_up_by q.velocity) (unadvanced new) new
      step-kept = record {
        place = refl;
        edge = refl;
        depth = refl;
        ghosts = refl;
        before = refl;
        fields = step.fields ∙ ap (λ (l : List (List ℕ)). length l) (sym step.before);
        amounts = λ f x y z hf hx hy hz.
            let same = (are.each i b at).same_fields in
            let long : length new.before ≡ length b.amounts = ap (λ (l : List (List ℕ)). length l) step.before in
            let known : f < length b.amounts = omega (arith, hf, long) in
            let wx : x < b.edge = omega (arith, hx, step.edge) in
            let wy : y < b.edge = omega (arith, hy, step.edge) in
            let wz : z < b.edge = omega (arith, hz, step.edge) in
            step.amounts f x y z known wx wy wz
            ∙ provisional-same p b q edge_of made.0 made.1 notes f x y z (omega (arith, known, same, fields_of)) wx wy wz
            ∙ ap (λ (o : BlockState). provisional (kept_flux o q) (goes_up_by q.velocity) o f x y z) (sym undone);
      }

      pub fluxes-kept : HasFluxesOf s fluxes (unadvanced new) q
      fluxes-kept = record {
        goes_up = λ a t. goes_up_by (made.0 t) a;
        before = λ f a c hf e.
            ap (λ (o : BlockState). kept_before p.block o q f a c) undone
            ∙ before-same p b q edge_of made.0 made.1 notes s is_state refl i (are.each i b at).limits (leaf_of i b at) (samples i b at) fields_of f a c hf (e ∙ step.place);
        after = λ f a c hf e.
            ap (λ (o : BlockState). kept_after p.block o q f a c) undone
            ∙ after-same p b q edge_of made.0 made.1 notes s is_state refl i (are.each i b at).limits (leaf_of i b at) (samples i b at) fields_of f a c hf (e ∙ step.place);
      }

    sizes : AreBlocksOf mesh p.block (length p.fields) depth blocks
    sizes = record {
      places = same-places p befores blocks faces is ∙ are.places;
      each = λ i new here.
          let o = old_block i new here in
          let step = is.provisional.each i o.0 new o.1 here in
          let size = are.each i o.0 o.1 in
          record {
            limits = is.provisional.limits i new here;
            same_edge = step.edge ∙ size.same_edge;
            same_fields = step.fields ∙ size.same_fields;
            same_depth = step.depth ∙ size.same_depth;
          };
    }

    pub upwind-advanced : AreAdvancedBy p.grid mesh p.block (length p.fields) depth blocks faces fluxes
    upwind-advanced =
        let state = state-before p befores blocks faces is p.grid p.block (length p.fields) in
        record {
          sizes = sizes;
          one_each = is.one_each ∙ sym is.provisional.one_each;
          limits = is.limits;
          provisional = λ i new q here there. let o = old_block i new here in step-kept i new q here there o.0 o.1;
          each = λ i new q here there.
              let o = old_block i new here in
              subst (λ (u : State). HasFluxesOf u fluxes (unadvanced new) q) (sym state) (fluxes-kept i new q here there o.0 o.1);
          replaces = subst (λ (u : State). CanReplace u fluxes) (sym state) (upwind-CanReplace s (flow_of p) is_state (flow-IsCourant p w) few);
        }
