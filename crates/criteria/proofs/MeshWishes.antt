-- The wishes of the blocks of a mesh are those of its state.
use Rattle.std.proofs.Common.{◌≡◌, ℕ, ◌≤◌, sym, ap, ◌∙◌, subst, List, [], ◌∷◌, Some, All, map, slice_get, refl}
use Rattle.block_index.specs.Places.{Cube, Grid, IsDomain}
use Rattle.leaf_set.specs.Meshes.{IsBalanced, IsMesh}
use Rattle.block_fields.specs.Blocks.{BlockState, seen_at}
use Rattle.block_fields.specs.BlockStates.{AreBlocksOf, HoldsSamples, IsLeafOf, state_of}
use Rattle.block_fields.specs.States.{IsState, State}
use Rattle.block_fields.proofs.BlockSamples.{map-same}
use Rattle.block_fields.proofs.FilledStates.{at-map}
use Rattle.block_fields.proofs.StatesOfBlocks.{HaveCells-amounts, IsState-state_by}
use Rattle.params_check.specs.Limits.{KeepsCriterion}
use Rattle.params_check.specs.declared.criterion.Criterion.{Criterion}
use Rattle.criteria.specs.Wishes.{criteria_wish, wish_of, wishes_in}
use Rattle.criteria.proofs.Agreeing.{wish-wish_of}

twice : {A B C : Type 0} (f : B → C) (g : A → B) (xs : List A) → map f (map g xs) ≡ map (λ x. f (g x)) xs
twice f g [] = refl
twice f g (x ∷ xs) = ap (λ ys. f (g x) ∷ ys) (twice f g xs)

pub wishes-wishes_in : (grid : Grid) (leaves : List Cube) (n fields depth : ℕ) (blocks : List BlockState) (phase : ℕ) (criteria : List Criterion) → IsDomain grid → IsMesh grid leaves → IsBalanced grid leaves → 2 ≤ n → AreBlocksOf leaves n fields depth blocks → All (KeepsCriterion fields) criteria → ((i : ℕ) (b : BlockState) → slice_get blocks i ≡ Some b → HoldsSamples (state_of grid n fields blocks) b) → map (λ b. criteria_wish b.edge phase criteria (seen_at b) b.place) blocks ≡ wishes_in phase criteria (state_of grid n fields blocks)
wishes-wishes_in grid leaves n fields depth blocks phase criteria g m balanced edge w keeps samples =
    let s : State = state_of grid n fields blocks in
    let is : IsState s = IsState-state_by (λ b. b.amounts) grid leaves n fields blocks w.places (HaveCells-amounts leaves n fields depth blocks w) g m balanced edge in
    map-same (λ b. criteria_wish b.edge phase criteria (seen_at b) b.place) (λ b. wish_of phase criteria s b.place) blocks
    (λ i b at.
    let one = w.each i b at in
    let leaf : IsLeafOf s i b = record {
      same_edge = one.same_edge;
      leaf = at-map (λ b. b.place) blocks i b at;
      held = at-map (λ b. b.amounts) blocks i b at;
    } in
    wish-wish_of s i b phase criteria one.limits (subst (λ k. All (KeepsCriterion k) criteria) (sym one.same_fields) keeps) is leaf (samples i b at))
    ∙ sym (twice (wish_of phase criteria s) (λ b. b.place) blocks)
