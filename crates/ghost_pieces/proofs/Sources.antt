-- The sources of ghost cells: one leaf of a balanced mesh, which is the receiver or touches it.
use Rattle.std.proofs.Common.{◌≡◌, ℕ, ◌+◌, ◌-◌, ◌*◌, ◌/◌, ◌%◌, ◌^◌, ◌<◌, ◌≤◌, ◌⊎◌, inl, inr, Bool, true, ◌&&◌, refl, sym, ap, ◌∙◌, subst, arith, ℤ, pos, negsuc, ◌-ℤ◌, List, Some, slice_get}
use Rattle.std.proofs.lemmas.Bool.{and_from, cases_lt}
use Rattle.std.proofs.lemmas.Int.{ints}
use Rattle.std.proofs.lemmas.Nat.{div-mul-add, mod-mul-add}
use Rattle.block_index.specs.Places.{Cube, Grid, IsDomain, IsInside, child_of, parent_of}
use Rattle.block_index.specs.Touching.{Touches}
use Rattle.leaf_set.specs.Meshes.{IsMesh, IsBalanced}
use Rattle.leaf_set.proofs.Boxes.{BoxesMeet, BoxesMeet-sym, BoxesMeet-Contains, Touches-BoxesMeet}
use Rattle.leaf_set.proofs.Containment.{Contains, Contains-self, Contains-trans, Contains-parent_of, Contains-between, same_cube}
use Rattle.leaf_set.proofs.Leaves.{cube_cases}
use Rattle.leaf_set.proofs.MeshFacts.{leaves_apart}
use Rattle.leaf_set.proofs.Spots.{finest_limit}
use Rattle.block_index.specs.Beyond.{Offset, IsBeyond}
use Rattle.block_index.specs.Axes.{IsUnitStep, IsNext}
use Rattle.cello_neighbours.specs.Directions.{IsDirection}
use Rattle.cello_neighbours.specs.Covers.{LiesAgainst, is_near, is_near_half}
use Rattle.cello_neighbours.proofs.NearSides.{BoxesMeet-IsBeyond, BoxesMeet-LiesAgainst}
use Rattle.block_index.proofs.Beyond.{at_steps, IsBeyond-one, IsInside-IsBeyond}
use Rattle.block_fields.specs.Cells.{block_of}
use Rattle.block_fields.specs.Samples.{moved}
use Rattle.ghost_pieces.proofs.Halves.{LiesNearOnAxis, near_on_axis, children-one_block}
use Rattle.block_fields.proofs.CellFacts.{Contains-block_of-child_of}
use Rattle.leaf_set.proofs.MeetingLeaves.{covers_beside}
use Rattle.ghost_pieces.specs.Ghosts.{Local, IsGhost, ghost_cell, IsSource}
use Rattle.ghost_pieces.proofs.AxisCells.{Moved, inner, before, after, held_first, held_last, moved_cases}

step_down : IsUnitStep (negsuc 0)
step_down = record { least = omega (arith, ints); most = omega (arith, ints) }

step_none : IsUnitStep (pos 0)
step_none = record { least = omega (arith, ints); most = omega (arith, ints) }

step_up : IsUnitStep (pos 1)
step_up = record { least = omega (arith, ints); most = omega (arith, ints) }

-- ---- along an axis

-- v lies in the block one step from a, or in a, and there in the half against a
pub record NearAxis (n t : ℕ) (w : Bool) (a v : ℕ) : Type 0 where
  pub step : ℤ
  pub is_step : IsUnitStep step
  pub next : IsNext t w step a (v / n)
  pub near : LiesNearOnAxis n step v

own_block : (t : ℕ) (w : Bool) (a : ℕ) → a < t → IsNext t w (pos 0) a a
own_block t w a h = record { inside = h; at = inl (omega (arith, ints)) }

near_axis : (n d t : ℕ) (w : Bool) (a g v : ℕ) → a < t → 2 * d ≤ n → g < n + 2 * d → Moved n d t w a g v → NearAxis n t w a v
near_axis n d t w a g v h deep k (inner low high e) = record {
  step = pos 0;
  is_step = step_none;
  next = subst (IsNext t w (pos 0) a) (sym (ap (λ u. u / n) e ∙ div-mul-add a n (g - d) (omega arith))) (own_block t w a h);
  near = tt;
}
near_axis n d t w a g v h deep k (before low p next e) = record {
  step = negsuc 0;
  is_step = step_down;
  next = subst (IsNext t w (negsuc 0) a) (sym (ap (λ u. u / n) e ∙ div-mul-add p n (n + g - d) (omega arith))) next;
  near = (let f = ap (λ u. u % n) e ∙ mod-mul-add p n (n + g - d) (omega arith) in omega arith);
}
near_axis n d t w a g v h deep k (after high p next e) = record {
  step = pos 1;
  is_step = step_up;
  next = subst (IsNext t w (pos 1) a) (sym (ap (λ u. u / n) e ∙ div-mul-add p n (g - n - d) (omega arith))) next;
  near = (let f = ap (λ u. u % n) e ∙ mod-mul-add p n (g - n - d) (omega arith) in omega arith);
}
near_axis n d t w a g v h deep k (held_first low e) = record {
  step = pos 0;
  is_step = step_none;
  next = subst (IsNext t w (pos 0) a) (sym (ap (λ u. u / n) e ∙ div-mul-add a n 0 (omega arith))) (own_block t w a h);
  near = tt;
}
near_axis n d t w a g v h deep k (held_last high e) = record {
  step = pos 0;
  is_step = step_none;
  next = subst (IsNext t w (pos 0) a) (sym (ap (λ u. u / n) e ∙ div-mul-add a n (n - 1) (omega arith))) (own_block t w a h);
  near = tt;
}

is_none : (s : ℤ) → IsUnitStep s → (s ≡ pos 0) ⊎ (s ≡ pos 0 → ⊥)
is_none s h = at_steps (λ s. (s ≡ pos 0) ⊎ (s ≡ pos 0 → ⊥)) (inr (λ e. cc)) (inl refl) (inr (λ e. cc)) s h

-- ---- of a cell around a block

pub record NearCell (grid : Grid) (n : ℕ) (b v : Cube) : Type 0 where
  pub level : v.level ≡ b.level
  pub x : NearAxis n (grid.trees_x * 2 ^ b.level) grid.wraps_x b.x v.x
  pub y : NearAxis n (grid.trees_y * 2 ^ b.level) grid.wraps_y b.y v.y
  pub z : NearAxis n (grid.trees_z * 2 ^ b.level) grid.wraps_z b.z v.z

pub ghost_near : (grid : Grid) (n d : ℕ) (b : Cube) (g : Local) → IsInside grid b → 2 * d ≤ n → IsGhost n d g → NearCell grid n b (ghost_cell grid n d b g)
ghost_near grid n d b g w deep h = record {
  level = refl;
  x = axis (grid.trees_x * 2 ^ b.level) grid.wraps_x b.x g.x w.x h.x;
  y = axis (grid.trees_y * 2 ^ b.level) grid.wraps_y b.y g.y w.y h.y;
  z = axis (grid.trees_z * 2 ^ b.level) grid.wraps_z b.z g.z w.z h.z;
}
  where
    axis : (t : ℕ) (w : Bool) (a g : ℕ) → a < t → g < n + 2 * d → NearAxis n t w a (moved w (t * n) (pos (a * n + g) -ℤ pos d))
    axis t w a g l k = near_axis n d t w a g (moved w (t * n) (pos (a * n + g) -ℤ pos d)) l deep k (moved_cases n d t a l deep w g k)

-- what holds the cell v: a leaf that is b or touches it
abbrev pub HasSource : Grid → List Cube → ℕ → Cube → Cube → Type 0
HasSource grid mesh n b v = (i : ℕ) × (s : Cube) × (slice_get mesh i ≡ Some s) × IsSource n s v × ((s ≡ b) ⊎ Touches grid b s)

module _ (grid : Grid) (mesh : List Cube) (g : IsDomain grid) (m : IsMesh grid mesh) (balanced : IsBalanced grid mesh) (n : ℕ) (even : n % 2 ≡ 0) (some : 0 < n) where
  meeting : (i : ℕ) (s b v : Cube) → slice_get mesh i ≡ Some s → IsSource n s v → BoxesMeet grid b s → HasSource grid mesh n b v
  meeting i s b v at source meets =
      elim (cube_cases s b) [
        | inl e ↦ (i, s, at, source, inl e)
        | inr other ↦ (i, s, at, source, inr (Touches-BoxesMeet grid b s (λ e. other (sym e)) meets))
      ]

  module _ (b v : Cube) (j : ℕ) (at : slice_get mesh j ≡ Some b) (near : NearCell grid n b v) where
    steps : Offset
    steps = record { x = near.x.step; y = near.y.step; z = near.z.step }

    beyond : IsBeyond grid b steps (block_of n v)
    unfolding steps
    beyond = record { level = near.level; x = near.x.next; y = near.y.next; z = near.z.next }

    inside : IsInside grid b
    inside = m.inside j b at

    low : b.level ≤ 6
    low = finest_limit grid b g inside

    child_near : (k : ℕ) → k < 8 → is_near steps (block_of n (child_of v k)) ≡ true
    unfolding steps
    child_near k h =
        let x = near_on_axis n v.x (k % 2) even some (omega arith) near.x.step near.x.is_step near.x.near in
        let y = near_on_axis n v.y (k / 2 % 2) even some (omega arith) near.y.step near.y.is_step near.y.near in
        let z = near_on_axis n v.z (k / 4) even some (omega arith) near.z.step near.z.is_step near.z.near in
        let q = block_of n (child_of v k) in
        and_from (is_near_half near.x.step (q.x % 2) && is_near_half near.y.step (q.y % 2)) (is_near_half near.z.step (q.z % 2)) (and_from (is_near_half near.x.step (q.x % 2)) (is_near_half near.y.step (q.y % 2)) x y) z

    child_against : (k : ℕ) → k < 8 → LiesAgainst steps (block_of n v) (block_of n (child_of v k))
    child_against k h =
        let down = Contains-block_of-child_of n v k h in
        let r = block_of n (child_of v k) in
        record { finer = down.level; parent = same_cube (parent_of r) (block_of n v) (omega arith) down.x down.y down.z; near = child_near k h }

    toward : IsDirection steps → HasSource grid mesh n b v
    toward w =
        let q = block_of n v in
        let meets : BoxesMeet grid b q = BoxesMeet-IsBeyond grid b q steps inside w beyond low in
        let q_inside : IsInside grid q = IsInside-IsBeyond grid b q steps inside beyond in
        elim (covers_beside grid mesh g m balanced q b j at near.level q_inside (BoxesMeet-sym grid b q meets)) [
          | inl leaf ↦ meeting leaf.0 q b v leaf.1 (inl refl) meets
          | inr other ↦
              elim other [
                | inl up ↦
                    let p = parent_of q in
                    meeting up.1.0 p b v up.1.1 (inr (inl (up.0, refl)))
                    (BoxesMeet-sym grid p b (BoxesMeet-Contains grid 1 p q b (Contains-parent_of q up.0) (finest_limit grid q g q_inside) (BoxesMeet-sym grid b q meets)))
                | inr down ↦
                    let r = block_of n (child_of v 0) in
                    let f = finest_limit grid q g q_inside in
                    let against : BoxesMeet grid b r = BoxesMeet-LiesAgainst grid b q steps inside w beyond r (omega (arith, g.finest, down.0)) (child_against 0 (omega arith)) in
                    let leaf = down.1 r (Contains-block_of-child_of n v 0 (omega arith)) (BoxesMeet-sym grid b r against) in
                    meeting leaf.0 r b v leaf.1 (inr (inr (λ k h. sym (children-one_block n v k even some h)))) against
              ]
        ]

    own : (near.x.step ≡ pos 0) → (near.y.step ≡ pos 0) → (near.z.step ≡ pos 0) → HasSource grid mesh n b v
    own x y z =
        let none : Offset = record { x = pos 0; y = pos 0; z = pos 0 } in
        let there : IsBeyond grid b none (block_of n v) = record {
          level = near.level;
          x = subst (λ s. IsNext (grid.trees_x * 2 ^ b.level) grid.wraps_x s b.x (v.x / n)) x near.x.next;
          y = subst (λ s. IsNext (grid.trees_y * 2 ^ b.level) grid.wraps_y s b.y (v.y / n)) y near.y.next;
          z = subst (λ s. IsNext (grid.trees_z * 2 ^ b.level) grid.wraps_z s b.z (v.z / n)) z near.z.next;
        } in
        let here : IsBeyond grid b none b = record {
          level = refl;
          x = own_block (grid.trees_x * 2 ^ b.level) grid.wraps_x b.x inside.x;
          y = own_block (grid.trees_y * 2 ^ b.level) grid.wraps_y b.y inside.y;
          z = own_block (grid.trees_z * 2 ^ b.level) grid.wraps_z b.z inside.z;
        } in
        (j, b, at, inl (IsBeyond-one grid b b (block_of n v) none here there), inl refl)

    pub has_source : HasSource grid mesh n b v
    unfolding steps
    has_source =
        elim (is_none near.x.step near.x.is_step) [
          | inr some ↦ toward (record { x = near.x.is_step; y = near.y.is_step; z = near.z.is_step; some = λ e f h. some e })
          | inl x ↦
              elim (is_none near.y.step near.y.is_step) [
                | inr some ↦ toward (record { x = near.x.is_step; y = near.y.is_step; z = near.z.is_step; some = λ e f h. some f })
                | inl y ↦
                    elim (is_none near.z.step near.z.is_step) [
                      | inr some ↦ toward (record { x = near.x.is_step; y = near.y.is_step; z = near.z.is_step; some = λ e f h. some h })
                      | inl z ↦ own x y z
                    ]
              ]
        ]

-- ---- one source

module _ (grid : Grid) (mesh : List Cube) (g : IsDomain grid) (m : IsMesh grid mesh) (n : ℕ) where
  abbrev Held : ℕ → Cube → Cube → Type 0
  Held d s v = Contains d s (block_of n (child_of v 0))

  -- a source of v contains the finer block at its first child
  over : (s v : Cube) → IsSource n s v → (d : ℕ) × Held d s v
  over s v (inl e) = (1, subst (λ q. Held 1 q v) (sym e) (Contains-block_of-child_of n v 0 (omega arith)))
  over s v (inr (inl up)) =
      (1 + 1, subst (λ q. Held (1 + 1) q v) (sym (up.1)) (Contains-trans 1 1 (parent_of (block_of n v)) (block_of n v) (block_of n (child_of v 0)) (Contains-parent_of (block_of n v) up.0) (Contains-block_of-child_of n v 0 (omega arith))))
  over s v (inr (inr down)) = (0, subst (λ q. Held 0 q v) (sym (down 0 (omega arith))) (Contains-self (block_of n (child_of v 0))))

  between : (i j d e : ℕ) (a c v : Cube) → slice_get mesh i ≡ Some a → slice_get mesh j ≡ Some c → d ≤ e → Held e a v → Held d c v → i ≡ j
  between i j d e a c v s t h p q =
      leaves_apart grid mesh g m i j (e - d) a c s t
      (Contains-between (e - d) d a c (block_of n (child_of v 0)) (subst (λ k. Held k a v) (let f : e ≡ d + (e - d) = omega arith in f) p) q)

  pub one_source : (i j : ℕ) (a c v : Cube) → slice_get mesh i ≡ Some a → slice_get mesh j ≡ Some c → IsSource n a v → IsSource n c v → i ≡ j
  one_source i j a c v s t p q =
      let x = over a v p in
      let y = over c v q in
      elim (cases_lt x.0 y.0) [
        | inl less ↦ sym (between j i x.0 y.0 c a v t s (omega arith) y.1 x.1)
        | inr more ↦ between i j y.0 x.0 a c v s t more x.1 y.1
      ]
