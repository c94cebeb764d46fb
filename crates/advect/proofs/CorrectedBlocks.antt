-- A block after a correction is its part of the state advanced with more of its fluxes replaced.
use Rattle.std.proofs.Common.{◌≡◌, ℕ, ◌+◌, ◌-◌, ◌%◌, ◌^◌, ◌<◌, ◌≤◌, Bool, true, false, cond, Some, length, arith, ap, sym, ◌∙◌, subst, refl, inl, inr, sum_by}
use Rattle.std.proofs.lemmas.Bool.{cases_Bool}
use Rattle.std.proofs.lemmas.Nat.{mod_below}
use Rattle.block_index.specs.Places.{Cube}
use Rattle.leaf_set.specs.Meshes.{IsLeaf}
use Rattle.block_fields.specs.Blocks.{BlockState, IsBlock}
use Rattle.block_fields.specs.BlockStates.{IsLeafOf}
use Rattle.block_fields.specs.Cells.{block_of}
use Rattle.block_fields.specs.States.{State, IsState, held}
use Rattle.block_fields.proofs.FilledStates.{IsState-filled}
use Rattle.grid_fluxes.specs.Axes.{Axis, along_x, along_y, along_z, first_children, next_cell}
use Rattle.grid_fluxes.specs.Bounds.{GivesWithin}
use Rattle.grid_fluxes.specs.Fluxes.{Across, Fluxes, advanced_by, flux_after, flux_before, given, over_axes, taken, taken_along}
use Rattle.grid_fluxes.proofs.Replacing.{above-giving, above-taking, below-giving, below-taking, held-advanced_by, held-not_replaced}
use Rattle.advect.specs.CellFluxes.{amount_of}
use Rattle.advect.specs.CorrectedStates.{ReplacesBehind, lies_behind}
use Rattle.advect.specs.FaceFluxes.{FaceFluxState, axis_of, flows_out, is_end}
use Rattle.advect.specs.Flows.{goes_up_by}
use Rattle.advect.specs.FluxPieces.{FluxPieceState, IsCorrected, StaysWithin, replaced_flux, replacing_sum}
use Rattle.advect.proofs.AdvancedBlocks.{held-cell, leaf-advanced_by}

giving : (after q flux sum h fl su : ℕ) → q ≡ h → flux ≡ fl → sum ≡ su → after + su ≡ h + fl → (sum ≤ q + flux) × (q + flux - sum ≡ after)
giving after q flux sum h fl su a b c e = (omega (arith, a, b, c, e), omega (arith, a, b, c, e))

taking : (after q flux sum h fl su : ℕ) → q ≡ h → flux ≡ fl → sum ≡ su → after + fl ≡ h + su → fl ≤ h → (flux ≤ q) × (q - flux + sum ≡ after)
taking after q flux sum h fl su a b c e l = (omega (arith, a, b, c, e, l), omega (arith, a, b, c, e, l))

a-part : (g : Axis → ℕ) (a : Axis) → g a ≤ over_axes g
a-part g along_x = omega arith
a-part g along_y = omega arith
a-part g along_z = omega arith

advanced-is_state : (s : State) → IsState s → (across : Across) (fluxes : Fluxes) → IsState (advanced_by s across fluxes)
advanced-is_state s w across fluxes =
    IsState-filled s.grid s.edge s.fields s.leaves (λ f c. held s f c - given s across fluxes f c + taken s across fluxes f c) w.domain w.mesh w.edge w.balanced

module _ (s : State) (w : IsState s) (fluxes : Fluxes) (one other : Across) (i : ℕ) (b : BlockState) (k : IsLeafOf (advanced_by s one fluxes) i b) (faces : FaceFluxState) (piece : FluxPieceState) (r : ReplacesBehind s fluxes b.place faces piece one other) where
  fields : length b.amounts ≡ s.fields
  fields = (advanced-is_state s w one fluxes).all_fields i b.amounts k.held

  module _ (f : ℕ) (hf : f < s.fields) (within_one : GivesWithin s one fluxes f) (within_other : GivesWithin s other fluxes f) (c : Cube) (e : block_of s.edge c ≡ b.place) where
    abbrev a : Axis
    a = axis_of piece.side

    abbrev q : ℕ
    q = amount_of s.edge b f c

    abbrev flux : ℕ
    flux = replaced_flux faces piece f (c.x % s.edge) (c.y % s.edge) (c.z % s.edge)

    abbrev sum : ℕ
    sum = replacing_sum piece f (c.x % s.edge) (c.y % s.edge) (c.z % s.edge)

    abbrev earlier : ℕ
    earlier = held (advanced_by s one fluxes) f c

    abbrev later : ℕ
    later = held (advanced_by s other fluxes) f c

    leaf : IsLeaf s.leaves (block_of s.edge c)
    leaf = (i, k.leaf ∙ ap Some (sym e))

    was : q ≡ earlier
    was = sym (held-cell (advanced_by s one fluxes) (advanced-is_state s w one fluxes) i b k f c e)

    -- it has what it takes along an axis
    took : (t : ℕ) → taken_along s one fluxes f c a ≡ t → t ≤ earlier
    took t is =
        let h = held-advanced_by s one fluxes f c w hf leaf in
        let p = a-part (taken_along s one fluxes f c) a in
        omega (arith, h, p, is)

    abbrev Becomes : Bool → Type 0
    Becomes out = (cond out sum flux ≤ cond out (q + flux) q) × (cond out (q + flux - sum) (q - flux + sum) ≡ later)

    module _ (behind : lies_behind s.edge piece c ≡ true) where
      flux-at : (end : Bool) → is_end piece.side ≡ end → flux ≡ fluxes.level_flux f a (cond end (next_cell a s.grid s.edge c) c)
      flux-at end is = r.noted f c hf e behind ∙ (λ j. fluxes.level_flux f a (cond (is j) (next_cell a s.grid s.edge c) c))

      sum-at : (end : Bool) → is_end piece.side ≡ end → sum ≡ sum_by (fluxes.level_flux f a) (first_children a (cond end (next_cell a s.grid s.edge c) c))
      sum-at end is = r.sums f c hf e behind ∙ (λ j. sum_by (fluxes.level_flux f a) (first_children a (cond (is j) (next_cell a s.grid s.edge c) c)))

      turn : (end up : Bool) → is_end piece.side ≡ end → goes_up_by faces.velocity a ≡ up → Becomes (cond end up (cond up false true))
      turn true true ee ue =
          let v = next_cell a s.grid s.edge c in
          giving later q flux sum earlier (fluxes.level_flux f a v) (sum_by (fluxes.level_flux f a) (first_children a v)) was (flux-at true ee) (sum-at true ee)
          (above-giving s one other fluxes f c w hf leaf within_one within_other a (r.at_end c e behind ee) (sym r.way ∙ ue))
      turn true false ee ue =
          let v = next_cell a s.grid s.edge c in
          let own = r.at_end c e behind ee in
          let down : fluxes.goes_up a ≡ false = sym r.way ∙ ue in
          let takes : taken_along s one fluxes f c a ≡ fluxes.level_flux f a v =
          λ j. cond (down j) (flux_before one (fluxes.level_flux f) a c) (cond (own.own j) (sum_by (fluxes.level_flux f a) (first_children a v)) (fluxes.level_flux f a v)) in
          taking later q flux sum earlier (fluxes.level_flux f a v) (sum_by (fluxes.level_flux f a) (first_children a v)) was (flux-at true ee) (sum-at true ee)
          (above-taking s one other fluxes f c w hf leaf within_one within_other a own down) (took (fluxes.level_flux f a v) takes)
      turn false true ee ue =
          let own = r.at_beginning c e behind ee in
          let up : fluxes.goes_up a ≡ true = sym r.way ∙ ue in
          let takes : taken_along s one fluxes f c a ≡ fluxes.level_flux f a c =
          λ j. cond (up j) (cond (own.own j) (sum_by (fluxes.level_flux f a) (first_children a c)) (fluxes.level_flux f a c)) (flux_after s one (fluxes.level_flux f) a c) in
          taking later q flux sum earlier (fluxes.level_flux f a c) (sum_by (fluxes.level_flux f a) (first_children a c)) was (flux-at false ee) (sum-at false ee)
          (below-taking s one other fluxes f c w hf leaf within_one within_other a own up) (took (fluxes.level_flux f a c) takes)
      turn false false ee ue =
          giving later q flux sum earlier (fluxes.level_flux f a c) (sum_by (fluxes.level_flux f a) (first_children a c)) was (flux-at false ee) (sum-at false ee)
          (below-giving s one other fluxes f c w hf leaf within_one within_other a (r.at_beginning c e behind ee) (sym r.way ∙ ue))

      turned : Becomes (flows_out faces piece.side)
      turned = turn (is_end piece.side) (goes_up_by faces.velocity a) refl refl

      -- there is enough to take
      pub corrected-stays : held (advanced_by s other fluxes) f c ≤ 2 ^ 44 → StaysWithin faces piece f (c.x % s.edge) (c.y % s.edge) (c.z % s.edge) (amount_of s.edge b f c)
      corrected-stays most = record {
        enough = turned.0;
        most = subst (λ t. t ≤ 2 ^ 44) (sym (turned.1)) most;
      }

    -- the cell after the correction
    pub corrected-cell : (new : BlockState) → IsCorrected faces piece b new → amount_of s.edge new f c ≡ held (advanced_by s other fluxes) f c
    corrected-cell new step =
        elim (cases_Bool (lies_behind s.edge piece c)) [
          | inl behind ↦
              step.behind f (c.x % s.edge) (c.y % s.edge) (c.z % s.edge) known (within c.x) (within c.y) (within c.z) behind
              ∙ (turned behind).1
          | inr beside ↦
              let away : lies_behind s.edge piece c ≡ true → ⊥ = λ t. absurd (cc) in
              step.elsewhere f (c.x % s.edge) (c.y % s.edge) (c.z % s.edge) known (within c.x) (within c.y) (within c.z) away
              ∙ was
              ∙ sym (held-not_replaced s one other fluxes f c w hf leaf (r.elsewhere c e away))
        ]
      where
        known : f < length b.amounts
        known = subst (λ m. f < m) (sym fields) hf

        within : (x : ℕ) → x % s.edge < b.edge
        within x = let h = w.edge in subst (λ m. x % s.edge < m) (sym k.same_edge) (mod_below x s.edge (omega (arith, h)))

  -- the block after it
  pub corrected-leaf : ((f : ℕ) → f < s.fields → GivesWithin s one fluxes f) → ((f : ℕ) → f < s.fields → GivesWithin s other fluxes f) → (new : BlockState) → IsBlock new → IsCorrected faces piece b new → IsLeafOf (advanced_by s other fluxes) i new
  corrected-leaf within_one within_other new limits step =
      leaf-advanced_by s w other fluxes i new limits (step.edge ∙ k.same_edge) (step.fields ∙ fields) (k.leaf ∙ ap Some (sym step.place))
      (λ f c hf e. corrected-cell f hf (within_one f hf) (within_other f hf) c (e ∙ step.place) new step)
