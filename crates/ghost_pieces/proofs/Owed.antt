-- The regions that a leaf owes, found from itself and the leaves that touch it.
use Rattle.std.proofs.Common.{◌≡◌, ℕ, zero, suc, ◌+◌, ◌*◌, ◌%◌, ◌<◌, ◌≤◌, ◌⊎◌, inl, inr, Bool, true, false, not, ◌&&◌, nat_lt, refl, sym, ap, ◌∙◌, subst, arith, ℤ, pos, negsuc, List, [], ◌∷◌, Some, slice_get, slice_index_or, get_or, length, map}
use Rattle.std.specs.List.{filter, flat_map, Contains}
use Rattle.std.specs.List.Sorted.{IsStrictlyIncreasing}
use Rattle.std.proofs.lemmas.Bool.{and_from, and_parts, lt-ltb, ltb-true, false≢true, cases_order}
use Rattle.std.proofs.lemmas.Int.{ints}
use Rattle.std.proofs.lemmas.Option.{same_Some, slice_get_within, slice_get-get_or}
use Rattle.block_index.specs.Places.{Cube, Grid, IsDomain}
use Rattle.block_index.specs.Touching.{Touches}
use Rattle.leaf_set.specs.Meshes.{IsMesh, IsBalanced}
use Rattle.leaf_set.specs.TouchingLeaves.{AreTouching}
use Rattle.leaf_set.proofs.Boxes.{Touches-sym}
use Rattle.leaf_set.proofs.MeshFacts.{leaves_distinct}
use Rattle.block_index.specs.Beyond.{Offset}
use Rattle.block_index.specs.Axes.{IsUnitStep}
use Rattle.cello_neighbours.specs.Directions.{IsDirection}
use Rattle.cello_neighbours.proofs.Insertions.{IsStrictlyIncreasing-far}
use Rattle.block_index.proofs.Beyond.{at_steps}
use Rattle.ghost_pieces.specs.Ghosts.{Local, IsGhost, IsSource, steps_of, ghost_cell}
use Rattle.ghost_pieces.specs.Boxes.{Stretch, Box, IsWithin, IsInBox, reached_box, has_cells}
use Rattle.ghost_pieces.specs.Regions.{Region, IsRegionCell, IsRegion, Member, Once, AreOwed}
use Rattle.ghost_pieces.specs.Lemmas.OwedLists.{is_stay, is_some_step, directions, owed}
use Rattle.ghost_pieces.proofs.Sources.{ghost_near, has_source, one_source}
use Rattle.ghost_pieces.proofs.AxisParts.{is_step_of, step_none}
use Rattle.ghost_pieces.proofs.RegionBoxes.{into_box, from_box}
use Rattle.ghost_pieces.proofs.Lists.{member-rest, member-none, member-cons, member-map, member-unmap, member-filter, member-unfilter, member-flat_map, member-unflat_map, once-none, once-cons, once-map, once-filter, once-flat_map}

-- ---- the directions

steps : List ℤ
steps = negsuc 0 ∷ pos 0 ∷ pos 1 ∷ []

member_steps : (s : ℤ) → IsUnitStep s → Member steps s
unfolding steps
member_steps s h = at_steps (λ s. Member steps s) (0, refl) (1, refl) (2, refl) s h

steps_members : (s : ℤ) → Member steps s → IsUnitStep s
unfolding steps
steps_members s (zero, e) = subst IsUnitStep (same_Some (negsuc 0) s e) (record { least = omega (arith, ints); most = omega (arith, ints) })
steps_members s (suc zero, e) = subst IsUnitStep (same_Some (pos 0) s e) (record { least = omega (arith, ints); most = omega (arith, ints) })
steps_members s (suc (suc zero), e) = subst IsUnitStep (same_Some (pos 1) s e) (record { least = omega (arith, ints); most = omega (arith, ints) })
steps_members s (suc (suc (suc p)), e) = absurd (member-none s (p, e))

once_steps : Once steps
unfolding steps
once_steps =
    once-cons (negsuc 0) (pos 0 ∷ pos 1 ∷ [])
    (λ m. elim (member-cons (pos 0) (negsuc 0) (pos 1 ∷ []) m) [
      | inl e ↦ cc
      | inr r ↦ elim (member-cons (pos 1) (negsuc 0) [] r) [ inl e ↦ cc | inr n ↦ member-none (negsuc 0) n ]
    ])
    (once-cons (pos 0) (pos 1 ∷ [])
    (λ m. elim (member-cons (pos 1) (pos 0) [] m) [ inl e ↦ absurd (omega (arith, ints)) | inr n ↦ member-none (pos 0) n ])
    (once-cons (pos 1) [] (λ m. member-none (pos 1) m) once-none))

row : ℤ → ℤ → List Offset
row z y = map (λ x. record { x = x; y = y; z = z }) steps

plane : ℤ → List Offset
plane z = flat_map (row z) steps

directions_is : directions ≡ flat_map plane steps
unfolding steps row plane
directions_is = refl

pub member_directions : (dir : Offset) → IsDirection dir → Member directions dir
unfolding row plane
member_directions dir h =
    subst (λ l. Member l dir) (sym directions_is)
    (member-flat_map plane steps dir.z dir (member_steps dir.z h.z)
    (member-flat_map (row dir.z) steps dir.y dir (member_steps dir.y h.y)
    (member-map (λ x. record { x = x; y = dir.y; z = dir.z }) steps dir.x (member_steps dir.x h.x))))

in_row : (z y : ℤ) (dir : Offset) → Member (row z y) dir → (dir.z ≡ z) × (dir.y ≡ y) × Member steps dir.x
unfolding row
in_row z y dir m =
    let r = member-unmap (λ x. record { x = x; y = y; z = z }) steps dir m in
    (ap (λ (d : Offset). d.z) r.2, ap (λ (d : Offset). d.y) r.2, subst (Member steps) (sym (ap (λ (d : Offset). d.x) r.2)) r.1)

in_plane : (z : ℤ) (dir : Offset) → Member (plane z) dir → (dir.z ≡ z) × Member steps dir.y × Member steps dir.x
unfolding plane
in_plane z dir m =
    let r = member-unflat_map (row z) steps dir m in
    let q = in_row z r.0 dir r.2 in
    (q.0, subst (Member steps) (sym q.1) r.1, q.2)

in_directions : (dir : Offset) → Member directions dir → Member steps dir.z × Member steps dir.y × Member steps dir.x
in_directions dir m =
    let r = member-unflat_map plane steps dir (subst (λ l. Member l dir) directions_is m) in
    let q = in_plane r.0 dir r.2 in
    (subst (Member steps) (sym q.0) r.1, q.1, q.2)

pub once_directions : Once directions
unfolding row plane
once_directions =
    subst Once (sym directions_is)
    (once-flat_map plane steps once_steps
    (λ z _. once-flat_map (row z) steps once_steps
    (λ y _. once-map (λ x. record { x = x; y = y; z = z }) steps (λ u v e. ap (λ (d : Offset). d.x) e) once_steps)
    (λ y v dir m k. sym ((in_row z y dir m).1) ∙ (in_row z v dir k).1))
    (λ z v dir m k. sym ((in_plane z dir m).0) ∙ (in_plane v dir k).0))

-- a step somewhere
stay_test : (a b c : Bool) → not (a && b && c) ≡ true → a ≡ true → b ≡ true → c ≡ true → ⊥
stay_test a b c e f g h = grind arith

some_test : (a b c : Bool) → (a ≡ true → b ≡ true → c ≡ true → ⊥) → not (a && b && c) ≡ true
some_test true true true n = absurd (n refl refl refl)
some_test true true false n = refl
some_test true false c n = refl
some_test false b c n = refl

stay-none : (s : ℤ) → is_stay s ≡ true → s ≡ pos 0
stay-none (pos zero) e = refl
stay-none (pos (suc k)) e = absurd (false≢true e)
stay-none (negsuc k) e = absurd (false≢true e)

pub unit_direction : (dir : Offset) → IsUnitStep dir.x → IsUnitStep dir.y → IsUnitStep dir.z → is_some_step dir ≡ true → IsDirection dir
unit_direction dir x y z e = record {
  x = x;
  y = y;
  z = z;
  some = λ f g h. stay_test (is_stay dir.x) (is_stay dir.y) (is_stay dir.z) e (ap is_stay f) (ap is_stay g) (ap is_stay h);
}

pub is_direction : (dir : Offset) → Member directions dir → is_some_step dir ≡ true → IsDirection dir
is_direction dir m e =
    let q = in_directions dir m in
    unit_direction dir (steps_members dir.x q.2) (steps_members dir.y q.1) (steps_members dir.z q.0) e

pub direction_some : (dir : Offset) → IsDirection dir → is_some_step dir ≡ true
direction_some dir h =
    some_test (is_stay dir.x) (is_stay dir.y) (is_stay dir.z) (λ f g k. h.some (stay-none dir.x f) (stay-none dir.y g) (stay-none dir.z k))

-- the direction of a ghost cell is one
pub ghost_direction : (n d : ℕ) (g : Local) → IsGhost n d g → IsDirection (steps_of n d g)
ghost_direction n d g h = record {
  x = is_step_of n d g.x;
  y = is_step_of n d g.y;
  z = is_step_of n d g.z;
  some = λ e f k.
      let x = step_none n d g.x e in
      let y = step_none n d g.y f in
      let z = step_none n d g.z k in
      h.outside x.0 x.1 y.0 y.1 z.0 z.1;
}

-- ---- boxes with cells

some_within : (p : Stretch) (g : ℕ) → IsWithin p g → nat_lt 0 p.count ≡ true
some_within p g w = lt-ltb 0 p.count (omega (arith, w.from, w.below))

within_first : (p : Stretch) → nat_lt 0 p.count ≡ true → IsWithin p p.first
within_first p t = let h = ltb-true 0 p.count t in record { from = omega arith; below = omega arith }

pub in_has_cells : (p : Box) (g : Local) → IsInBox p g → has_cells p ≡ true
in_has_cells p g w =
    and_from (nat_lt 0 p.x.count && nat_lt 0 p.y.count) (nat_lt 0 p.z.count)
    (and_from (nat_lt 0 p.x.count) (nat_lt 0 p.y.count) (some_within p.x g.x w.x) (some_within p.y g.y w.y))
    (some_within p.z g.z w.z)

pub corner : (p : Box) → has_cells p ≡ true → (g : Local) × IsInBox p g
corner p t =
    let a = and_parts (nat_lt 0 p.x.count && nat_lt 0 p.y.count) (nat_lt 0 p.z.count) t in
    let b = and_parts (nat_lt 0 p.x.count) (nat_lt 0 p.y.count) a.0 in
    (record { x = p.x.first; y = p.y.first; z = p.z.first }, record { x = within_first p.x b.0; y = within_first p.y b.1; z = within_first p.z a.1 })

-- ---- lists of positions

pub member_contains : (js : List ℕ) (j : ℕ) → Contains js j → Member js j
member_contains js j (k, l, e) = (k, slice_get-get_or js k j l ∙ ap Some e)

pub contains_member : (js : List ℕ) (j : ℕ) → Member js j → Contains js j
contains_member js j (k, e) =
    let l = slice_get_within js k j e in
    (k, l, same_Some (get_or js k j) j (sym (slice_get-get_or js k j l) ∙ e))

pub at_index : (mesh : List Cube) (j : ℕ) (b s : Cube) → slice_get mesh j ≡ Some b → slice_index_or mesh j s ≡ b
at_index mesh j b s e =
    let l = slice_get_within mesh j b e in
    same_Some (get_or mesh j s) b (sym (slice_get-get_or mesh j s l) ∙ e)

rises : (xs : List ℕ) → IsStrictlyIncreasing xs → (p q : ℕ) → p < q → q < length xs → get_or xs p 0 < get_or xs q 0
rises xs h p q l k =
    let a = IsStrictlyIncreasing-far xs h (p + 1) q (omega arith) k in
    let b : get_or xs p 0 < get_or xs (p + 1) 0 = h p (omega arith) in
    omega arith

once_increasing : (xs : List ℕ) → IsStrictlyIncreasing xs → Once xs
once_increasing xs h p q x e f =
    let l = slice_get_within xs p x e in
    let k = slice_get_within xs q x f in
    let a : get_or xs p 0 ≡ x = same_Some (get_or xs p 0) x (sym (slice_get-get_or xs p 0 l) ∙ e) in
    let b : get_or xs q 0 ≡ x = same_Some (get_or xs q 0) x (sym (slice_get-get_or xs q 0 k) ∙ f) in
    elim (cases_order p q) [
      | inl same ↦ same
      | inr other ↦
          elim other [
            | inl less ↦ absurd (let r = rises xs h p q less k in omega arith)
            | inr more ↦ absurd (let r = rises xs h q p more l in omega arith)
          ]
    ]

-- ---- regions

pub same_region : (r q : Region) → r.receiver ≡ q.receiver → r.sender ≡ q.sender → r.direction ≡ q.direction → r ≡ q
same_region r q a b c =
    ap (λ u. record { receiver = u; sender = r.sender; direction = r.direction }) a
    ∙ ap (λ u. record { receiver = q.receiver; sender = u; direction = r.direction }) b
    ∙ ap (λ u. record { receiver = q.receiver; sender = q.sender; direction = u }) c

module _ (grid : Grid) (mesh : List Cube) (g : IsDomain grid) (m : IsMesh grid mesh) (balanced : IsBalanced grid mesh) (n d : ℕ) where
  -- the two leaves of a region are one or touch
  pub region_touches : n % 2 ≡ 0 → 2 * d ≤ n → (r : Region) (c : Local) → (x : IsRegionCell grid n d mesh r c) → (r.sender ≡ r.receiver) ⊎ Touches grid x.block x.source
  region_touches even deep r c x =
      let v = ghost_cell grid n d x.block c in
      let gh = x.ghost in
      let o = has_source grid mesh g m balanced n even (omega (arith, gh.x)) x.block v r.receiver x.receives (ghost_near grid n d x.block c (m.inside r.receiver x.block x.receives) deep gh) in
      let one : o.0 ≡ r.sender = one_source grid mesh g m n o.0 r.sender o.1 x.source v o.2 x.sends o.3 x.held in
      let same : o.1 ≡ x.source = same_Some o.1 x.source (sym o.2 ∙ ap (slice_get mesh) one ∙ x.sends) in
      elim (o.4) [
        | inl e ↦ inl (leaves_distinct grid mesh g m r.sender r.receiver x.block (x.sends ∙ ap Some (sym same ∙ e)) x.receives)
        | inr t ↦ inr (subst (Touches grid x.block) same t)
      ]

  -- each ghost cell lies in one region
  pub region_over : n % 2 ≡ 0 → 2 * d ≤ n → (j : ℕ) (b : Cube) (c : Local) → slice_get mesh j ≡ Some b → IsGhost n d c → (r : Region) × (r.receiver ≡ j) × IsRegionCell grid n d mesh r c
  region_over even deep j b c at gh =
      let v = ghost_cell grid n d b c in
      let o = has_source grid mesh g m balanced n even (omega (arith, gh.x)) b v j at (ghost_near grid n d b c (m.inside j b at) deep gh) in
      (record { receiver = j; sender = o.0; direction = steps_of n d c }, refl, record { block = b; source = o.1; receives = at; sends = o.2; ghost = gh; direction = refl; held = o.3 })

  pub one_region : (r q : Region) (c : Local) → r.receiver ≡ q.receiver → IsRegionCell grid n d mesh r c → IsRegionCell grid n d mesh q c → r ≡ q
  one_region r q c e x y =
      let same : x.block ≡ y.block = same_Some x.block y.block (sym x.receives ∙ ap (slice_get mesh) e ∙ y.receives) in
      same_region r q e
      (one_source grid mesh g m n r.sender q.sender x.source y.source (ghost_cell grid n d y.block c) x.sends y.sends (subst (λ b. IsSource n x.source (ghost_cell grid n d b c)) same x.held) y.held)
      (sym x.direction ∙ y.direction)

module _ (grid : Grid) (mesh : List Cube) (g : IsDomain grid) (m : IsMesh grid mesh) (balanced : IsBalanced grid mesh) (h d : ℕ) (some : 0 < h) (deep : d ≤ h) where
  -- two leaves that are one or touch are at most one level apart
  near_levels : (i j : ℕ) (s b : Cube) → slice_get mesh i ≡ Some s → slice_get mesh j ≡ Some b → (s ≡ b) ⊎ Touches grid s b → (s.level ≤ b.level + 1) × (b.level ≤ s.level + 1)
  near_levels i j s b at there (inl e) = let l = ap (λ (c : Cube). c.level) e in (omega arith, omega arith)
  near_levels i j s b at there (inr t) = (balanced i j s b at there t, balanced j i b s there at (Touches-sym grid s b t))

  -- a region between two such leaves, by its box
  pub box-cell : (r : Region) (b s : Cube) (c : Local) → slice_get mesh r.receiver ≡ Some b → slice_get mesh r.sender ≡ Some s → IsDirection r.direction → (s ≡ b) ⊎ Touches grid s b → IsInBox (reached_box grid (2 * h) d b r.direction s) c → IsRegionCell grid (2 * h) d mesh r c
  box-cell r b s c there at w near p =
      let l = near_levels r.sender r.receiver s b at there near in
      let o = from_box grid h d some deep b s (m.inside r.receiver b there) c r.direction w l.0 l.1 p in
      record { block = b; source = s; receives = there; sends = at; ghost = o.0; direction = o.1; held = o.2 }

  pub cell-box : (r : Region) (b s : Cube) (c : Local) → slice_get mesh r.receiver ≡ Some b → slice_get mesh r.sender ≡ Some s → IsRegionCell grid (2 * h) d mesh r c → IsInBox (reached_box grid (2 * h) d b r.direction s) c
  cell-box r b s c there at x =
      let eb : x.block ≡ b = same_Some x.block b (sym x.receives ∙ there) in
      let es : x.source ≡ s = same_Some x.source s (sym x.sends ∙ at) in
      let held : IsSource (2 * h) s (ghost_cell grid (2 * h) d b c) = subst (λ u. IsSource (2 * h) u (ghost_cell grid (2 * h) d b c)) es (subst (λ u. IsSource (2 * h) x.source (ghost_cell grid (2 * h) d u c)) eb x.held) in
      subst (λ u. IsInBox (reached_box grid (2 * h) d b u s) c) x.direction (into_box grid h d some deep b s (m.inside r.receiver b there) c x.ghost held)

  -- ---- what a leaf owes

  module _ (i : ℕ) (s : Cube) (js : List ℕ) (at : slice_get mesh i ≡ Some s) (touching : AreTouching grid mesh i js) where
    test : Cube → Offset → Bool
    test b dir = is_some_step dir && has_cells (reached_box grid (2 * h) d b dir s)

    made : ℕ → Offset → Region
    made j dir = record { receiver = j; sender = i; direction = dir }

    of : ℕ → List Region
    of j = map (made j) (filter (test (slice_index_or mesh j s)) directions)

    owed_is : owed grid (2 * h) d mesh i s js ≡ flat_map of (i ∷ js)
    unfolding of test made
    owed_is = refl

    receiver_near : (j : ℕ) → Member (i ∷ js) j → (b : Cube) × (slice_get mesh j ≡ Some b) × ((s ≡ b) ⊎ Touches grid s b)
    receiver_near j mem =
        elim (member-cons i j js mem) [
          | inl e ↦ (s, subst (λ k. slice_get mesh k ≡ Some s) e at, inl refl)
          | inr r ↦ let t = touching.touch j s (contains_member js j r) at in (t.0, t.1, inr t.2)
        ]

    -- what stands in the list is a region
    listed : (r : Region) → Member (flat_map of (i ∷ js)) r → (r.sender ≡ i) × IsRegion grid (2 * h) d mesh r
    unfolding of test made
    listed r mem =
        let j = member-unflat_map of (i ∷ js) r mem in
        let near = receiver_near j.0 j.1 in
        let b = near.0 in
        let k = member-unmap (made j.0) (filter (test (slice_index_or mesh j.0 s)) directions) r j.2 in
        let dir = k.0 in
        let f = member-unfilter (test (slice_index_or mesh j.0 s)) directions dir k.1 in
        let t = and_parts (is_some_step dir) (has_cells (reached_box grid (2 * h) d (slice_index_or mesh j.0 s) dir s)) f.1 in
        let cells : has_cells (reached_box grid (2 * h) d b dir s) ≡ true = subst (λ u. has_cells (reached_box grid (2 * h) d u dir s) ≡ true) (at_index mesh j.0 b s near.1) t.1 in
        let c = corner (reached_box grid (2 * h) d b dir s) cells in
        let region : IsRegionCell grid (2 * h) d mesh (made j.0 dir) c.0 = box-cell (made j.0 dir) b s c.0 near.1 at (is_direction dir f.0 t.0) near.2 c.1 in
        (ap (λ (r : Region). r.sender) k.2, subst (IsRegion grid (2 * h) d mesh) (sym k.2) (c.0, region))

    every : (r : Region) → IsRegion grid (2 * h) d mesh r → r.sender ≡ i → Member (flat_map of (i ∷ js)) r
    unfolding of test made
    every r (c, x) e =
        let b = x.block in
        let is : x.source ≡ s = same_Some x.source s (sym x.sends ∙ ap (slice_get mesh) e ∙ at) in
        let here : slice_get mesh r.sender ≡ Some s = x.sends ∙ ap Some is in
        let j : Member (i ∷ js) r.receiver = receiver (region_touches grid mesh g m balanced (2 * h) d (omega arith) (omega arith) r c x) in
        let box = cell-box r b s c x.receives here x in
        let dir : IsDirection r.direction = subst IsDirection x.direction (ghost_direction (2 * h) d c x.ghost) in
        let t : test b r.direction ≡ true = and_from (is_some_step r.direction) (has_cells (reached_box grid (2 * h) d b r.direction s)) (direction_some r.direction dir) (in_has_cells (reached_box grid (2 * h) d b r.direction s) c box) in
        let u : test (slice_index_or mesh r.receiver s) r.direction ≡ true = subst (λ q. test q r.direction ≡ true) (sym (at_index mesh r.receiver b s x.receives)) t in
        let there : Member (of r.receiver) (made r.receiver r.direction) = member-map (made r.receiver) (filter (test (slice_index_or mesh r.receiver s)) directions) r.direction (member-filter (test (slice_index_or mesh r.receiver s)) directions r.direction u (member_directions r.direction dir)) in
        subst (Member (flat_map of (i ∷ js))) (same_region (made r.receiver r.direction) r refl (sym e) refl)
        (member-flat_map of (i ∷ js) r.receiver (made r.receiver r.direction) j there)
      where
        receiver : (r.sender ≡ r.receiver) ⊎ Touches grid x.block x.source → Member (i ∷ js) r.receiver
        receiver (inl f) = (zero, ap Some (sym e ∙ f))
        receiver (inr t) =
            let is : x.source ≡ s = same_Some x.source s (sym x.sends ∙ ap (slice_get mesh) e ∙ at) in
            member-rest i r.receiver js (member_contains js r.receiver (touching.all r.receiver s x.block at x.receives (Touches-sym grid x.block s (subst (Touches grid x.block) is t))))

    itself : Member js i → ⊥
    itself mem =
        let t = touching.touch i s (contains_member js i mem) at in
        t.2.apart (same_Some s t.0 (sym at ∙ t.1))

    once : Once (flat_map of (i ∷ js))
    unfolding of test made
    once =
        once-flat_map of (i ∷ js) (once-cons i js itself (once_increasing js touching.ascending))
        (λ j _. once-map (made j) (filter (test (slice_index_or mesh j s)) directions) (λ u v e. ap (λ (r : Region). r.direction) e) (once-filter (test (slice_index_or mesh j s)) directions once_directions))
        (λ j k r p q. from j r p ∙ sym (from k r q))
      where
        from : (j : ℕ) (r : Region) → Member (of j) r → j ≡ r.receiver
        from j r p = sym (ap (λ (r : Region). r.receiver) ((member-unmap (made j) (filter (test (slice_index_or mesh j s)) directions) r p).2))

    pub owed_all : AreOwed grid (2 * h) d mesh i (owed grid (2 * h) d mesh i s js)
    owed_all =
        subst (AreOwed grid (2 * h) d mesh i) (sym owed_is)
        (record { regions = λ r p. (listed r p).1; own = λ r p. (listed r p).0; all = every; once = once })
