-- At most 56 regions belong to one leaf: each has a cell in one of the 56 places of half its width around it.
use Rattle.std.proofs.Common.{◌≡◌, ℕ, zero, suc, ◌+◌, ◌-◌, ◌*◌, ◌/◌, ◌%◌, ◌^◌, ◌<◌, ◌≤◌, inl, inr, Bool, true, false, ◌&&◌, nat_le, refl, sym, ap, ◌∙◌, subst, arith, pos, ◌-ℤ◌, List, [], ◌∷◌, Some, slice_get, length, eqb}
use Rattle.std.specs.List.{IsDistinct, AllByRecursion}
use Rattle.std.proofs.lemmas.Bool.{cases_lt, cases_order, and_parts, false_from_ne_true, leb-true, ne_eqb, eqb-true}
use Rattle.std.proofs.lemmas.Map.Steps.{length-le_from_distinct_below}
use Rattle.std.proofs.lemmas.Option.{same_Some}
use Rattle.std.proofs.lemmas.Nat.{div-mul-add}
use Rattle.block_index.specs.Places.{Cube, Grid, IsDomain}
use Rattle.leaf_set.specs.Meshes.{IsMesh}
use Rattle.ghost_pieces.proofs.OuterPlaces.{is_inner, is_middle, outer_below, outer_below-outer, outer_below-le, outer_below-most}
use Rattle.block_fields.specs.Samples.{moved}
use Rattle.block_fields.proofs.Sums.{any-found}
use Rattle.ghost_pieces.specs.Ghosts.{Local, IsGhost, IsSource, steps_of, ghost_cell, step_of}
use Rattle.ghost_pieces.specs.Regions.{Region, IsRegionCell, IsRegion, Member, Once}
use Rattle.ghost_pieces.proofs.AxisCells.{middle}
use Rattle.ghost_pieces.proofs.AxisParts.{step-low, step-middle, step-high, one_half_low, one_half_high, in_halves}
use Rattle.ghost_pieces.proofs.SourceAxes.{IsSource-axes, axes-IsSource}
use Rattle.ghost_pieces.proofs.Sources.{one_source}
use Rattle.ghost_pieces.proofs.Owed.{same_region}
use Rattle.ghost_pieces.proofs.Lists.{member-first, member-rest, member-none, member-cons, once-none, once-cons, once-rest, once-first}

-- ---- along an axis

-- the zone of a local coordinate: before the block, in its lower half, in its upper half, after it
pub data Zone (h d g k : ℕ) : Type 0 where
  low_zone : k ≡ 0 → g < d → Zone h d g k
  lower_zone : k ≡ 1 → d ≤ g → g < d + h → Zone h d g k
  upper_zone : k ≡ 2 → d + h ≤ g → g < 2 * h + d → Zone h d g k
  high_zone : k ≡ 3 → 2 * h + d ≤ g → Zone h d g k

zone : (h d g : ℕ) → (k : ℕ) × Zone h d g k
zone h d g =
    elim (cases_lt g d) [
      | inl a ↦ (0, low_zone refl a)
      | inr a ↦
          elim (cases_lt g (d + h)) [
            | inl b ↦ (1, lower_zone refl a b)
            | inr b ↦ elim (cases_lt g (2 * h + d)) [ inl c ↦ (2, upper_zone refl b c) | inr c ↦ (3, high_zone refl c) ]
          ]
    ]

zone_below : (h d g k : ℕ) → Zone h d g k → k < 4
zone_below h d g k (low_zone e a) = omega arith
zone_below h d g k (lower_zone e a b) = omega arith
zone_below h d g k (upper_zone e a b) = omega arith
zone_below h d g k (high_zone e a) = omega arith

zone_middle : (h d g k : ℕ) → Zone h d g k → is_middle k ≡ true → (d ≤ g) × (g < 2 * h + d)
zone_middle h d g k z t =
    let p = and_parts (nat_le 1 k) (nat_le k 2) t in
    let a = leb-true 1 k p.0 in
    let b = leb-true k 2 p.1 in
    at z
  where
    at : Zone h d g k → (d ≤ g) × (g < 2 * h + d)
    at (low_zone e u) = absurd (let p = and_parts (nat_le 1 k) (nat_le k 2) t in let a = leb-true 1 k p.0 in omega arith)
    at (lower_zone e u v) = (u, omega arith)
    at (upper_zone e u v) = (omega arith, v)
    at (high_zone e u) = absurd (let p = and_parts (nat_le 1 k) (nat_le k 2) t in let b = leb-true k 2 p.1 in omega arith)

module _ (h d t a : ℕ) (inside_axis : a < t) (deep : d ≤ h) (some : 0 < h) (w : Bool) where
  abbrev to : ℕ → ℕ
  to g = moved w (t * (2 * h)) (pos (a * (2 * h) + g) -ℤ pos d)

  lower : (g : ℕ) → d ≤ g → g < d + h → to g / h ≡ 2 * a
  lower g l k =
      ap (λ u. u / h) (middle (2 * h) d t a inside_axis (omega arith) w g l (omega arith) ∙ (let e : a * (2 * h) + (g - d) ≡ 2 * a * h + (g - d) = omega arith in e))
      ∙ div-mul-add (2 * a) h (g - d) (omega arith)

  upper : (g : ℕ) → d + h ≤ g → g < 2 * h + d → to g / h ≡ 2 * a + 1
  upper g l k =
      ap (λ u. u / h) (middle (2 * h) d t a inside_axis (omega arith) w g (omega arith) k ∙ (let e : a * (2 * h) + (g - d) ≡ (2 * a + 1) * h + (g - d - h) = omega arith in e))
      ∙ div-mul-add (2 * a + 1) h (g - d - h) (omega arith)

  abbrev Alike : ℕ → ℕ → Type 0
  Alike g f = (step_of (2 * h) d g ≡ step_of (2 * h) d f) × (to g / h ≡ to f / h)

  -- coordinates of one zone have one step, and are moved into one half block
  pub alike : (g f k : ℕ) → g < 2 * h + 2 * d → f < 2 * h + 2 * d → Zone h d g k → Zone h d f k → Alike g f
  alike g f k l m (low_zone e x) (low_zone _ y) =
      (step-low (2 * h) d g x ∙ sym (step-low (2 * h) d f y), one_half_low h d t a inside_axis deep some w g x ∙ sym (one_half_low h d t a inside_axis deep some w f y))
  alike g f k l m (lower_zone e x y) (lower_zone _ u v) =
      (step-middle (2 * h) d g x (omega arith) ∙ sym (step-middle (2 * h) d f u (omega arith)), lower g x y ∙ sym (lower f u v))
  alike g f k l m (upper_zone e x y) (upper_zone _ u v) =
      (step-middle (2 * h) d g (omega arith) y ∙ sym (step-middle (2 * h) d f (omega arith) v), upper g x y ∙ sym (upper f u v))
  alike g f k l m (high_zone e x) (high_zone _ y) =
      (step-high (2 * h) d g x ∙ sym (step-high (2 * h) d f y), one_half_high h d t a inside_axis deep some w g x l ∙ sym (one_half_high h d t a inside_axis deep some w f y m))
  alike g f k l m (low_zone e x) (lower_zone i u v) = absurd (omega arith)
  alike g f k l m (low_zone e x) (upper_zone i u v) = absurd (omega arith)
  alike g f k l m (low_zone e x) (high_zone i u) = absurd (omega arith)
  alike g f k l m (lower_zone e x y) (low_zone i u) = absurd (omega arith)
  alike g f k l m (lower_zone e x y) (upper_zone i u v) = absurd (omega arith)
  alike g f k l m (lower_zone e x y) (high_zone i u) = absurd (omega arith)
  alike g f k l m (upper_zone e x y) (low_zone i u) = absurd (omega arith)
  alike g f k l m (upper_zone e x y) (lower_zone i u v) = absurd (omega arith)
  alike g f k l m (upper_zone e x y) (high_zone i u) = absurd (omega arith)
  alike g f k l m (high_zone e x) (low_zone i u) = absurd (omega arith)
  alike g f k l m (high_zone e x) (lower_zone i u v) = absurd (omega arith)
  alike g f k l m (high_zone e x) (upper_zone i u v) = absurd (omega arith)

-- ---- numbers

pub record IsSpot (h d : ℕ) (g : Local) (s : ℕ) : Type 0 where
  pub x : Zone h d g.x (s % 4)
  pub y : Zone h d g.y (s / 4 % 4)
  pub z : Zone h d g.z (s / 16)
  pub below : s < 64

spot : (h d : ℕ) (g : Local) → (s : ℕ) × IsSpot h d g s
spot h d g =
    let x = zone h d g.x in
    let y = zone h d g.y in
    let z = zone h d g.z in
    let bx = zone_below h d g.x x.0 x.1 in
    let by = zone_below h d g.y y.0 y.1 in
    let bz = zone_below h d g.z z.0 z.1 in
    let s = x.0 + 4 * y.0 + 16 * z.0 in
    let ex : x.0 ≡ s % 4 = omega arith in
    let ey : y.0 ≡ s / 4 % 4 = omega arith in
    let ez : z.0 ≡ s / 16 = omega arith in
    (s, record { x = subst (Zone h d g.x) ex x.1; y = subst (Zone h d g.y) ey y.1; z = subst (Zone h d g.z) ez z.1; below = omega arith })

spot_outer : (h d : ℕ) (g : Local) (s : ℕ) → IsGhost (2 * h) d g → IsSpot h d g s → is_inner s ≡ false
spot_outer h d g s gh p =
    false_from_ne_true (is_inner s) (λ t.
    let a = and_parts (is_middle (s % 4) && is_middle (s / 4 % 4)) (is_middle (s / 16)) t in
    let b = and_parts (is_middle (s % 4)) (is_middle (s / 4 % 4)) a.0 in
    let x = zone_middle h d g.x (s % 4) p.x b.0 in
    let y = zone_middle h d g.y (s / 4 % 4) p.y b.1 in
    let z = zone_middle h d g.z (s / 16) p.z a.1 in
    gh.outside x.0 x.1 y.0 y.1 z.0 z.1)

climbs : (k s : ℕ) → outer_below s ≤ outer_below (s + k)
climbs zero s = subst (λ n. outer_below s ≤ outer_below n) (let e : s ≡ s + 0 = omega arith in e) (omega arith)
climbs (suc k) s =
    omega (arith, climbs k s, outer_below-le (s + k), ap outer_below (let e : s + suc k ≡ s + k + 1 = omega arith in e))

outer_before : (s t : ℕ) → s < t → is_inner s ≡ false → outer_below s < outer_below t
outer_before s t l e =
    omega (arith, outer_below-outer s e, climbs (t - (s + 1)) (s + 1), ap outer_below (let f : s + 1 + (t - (s + 1)) ≡ t = omega arith in f))

outer_one : (s t : ℕ) → is_inner s ≡ false → is_inner t ≡ false → outer_below s ≡ outer_below t → s ≡ t
outer_one s t e f q =
    elim (cases_order s t) [
      | inl same ↦ same
      | inr other ↦
          elim other [
            | inl less ↦ absurd (omega (arith, outer_before s t less e))
            | inr more ↦ absurd (omega (arith, outer_before t s more f))
          ]
    ]

outer_few : (s : ℕ) → s < 64 → is_inner s ≡ false → outer_below s < 56
outer_few s l e = omega (arith, outer_below-outer s e, outer_below-most (s + 1) (omega arith))

-- ---- numbers for the members of a list

module _ {A : Type 0} (R : A → ℕ → Type 0) where
  numbers : (xs : List A) → ((x : A) → Member xs x → (k : ℕ) × R x k) → List ℕ
  numbers [] f = []
  numbers (x ∷ xs) f = (f x (member-first x xs)).0 ∷ numbers xs (λ y m. f y (member-rest x y xs m))

  numbers-length : (xs : List A) (f : (x : A) → Member xs x → (k : ℕ) × R x k) → length (numbers xs f) ≡ length xs
  unfolding numbers
  numbers-length [] f = refl
  numbers-length (x ∷ xs) f = ap suc (numbers-length xs (λ y m. f y (member-rest x y xs m)))

  numbers-from : (xs : List A) (f : (x : A) → Member xs x → (k : ℕ) × R x k) (k : ℕ) → Member (numbers xs f) k → (x : A) × Member xs x × R x k
  unfolding numbers
  numbers-from [] f k m = absurd (member-none k m)
  numbers-from (x ∷ xs) f k m =
      let rest = λ (y : A) (n : Member xs y). f y (member-rest x y xs n) in
      elim (member-cons ((f x (member-first x xs)).0) k (numbers xs rest) m) [
        | inl e ↦ (x, member-first x xs, subst (R x) e ((f x (member-first x xs)).1))
        | inr r ↦ let q = numbers-from xs rest k r in (q.0, member-rest x q.0 xs q.1, q.2)
      ]

  module _ (one : (x y : A) (k : ℕ) → R x k → R y k → x ≡ y) where
    numbers-once : (xs : List A) (f : (x : A) → Member xs x → (k : ℕ) × R x k) → Once xs → Once (numbers xs f)
    unfolding numbers
    numbers-once [] f o = once-none
    numbers-once (x ∷ xs) f o =
        let rest = λ (y : A) (n : Member xs y). f y (member-rest x y xs n) in
        let first = f x (member-first x xs) in
        once-cons first.0 (numbers xs rest)
        (λ m. let q = numbers-from xs rest first.0 m in once-first x xs o (subst (Member xs) (one q.0 x first.0 q.2 first.1) q.1))
        (numbers-once xs rest (once-rest x xs o))

apart : (x : ℕ) (xs : List ℕ) → (Member xs x → ⊥) → AllByRecursion (λ y. eqb x y ≡ false) xs
apart x [] n = tt
apart x (y ∷ xs) n = (ne_eqb x y (λ e. n (zero, ap Some (sym e))), apart x xs (λ m. n (member-rest y x xs m)))

distinct : (xs : List ℕ) → Once xs → IsDistinct eqb xs
unfolding IsDistinct
distinct [] o = tt
distinct (x ∷ xs) o = (apart x xs (once-first x xs o), distinct xs (once-rest x xs o))

-- a list without repetition of numbers below n
pub once_few : (xs : List ℕ) (n : ℕ) → Once xs → ((k : ℕ) → Member xs k → k < n) → length xs ≤ n
once_few xs n o h =
    length-le_from_distinct_below xs n (distinct xs o) (λ q t.
    let m = any-found (eqb q) xs t in
    h q (m.0, m.2 ∙ ap Some (sym (eqb-true q m.1 m.3))))

-- ---- regions

module _ (grid : Grid) (mesh : List Cube) (g : IsDomain grid) (m : IsMesh grid mesh) (h d : ℕ) (some : 0 < h) (deep : d ≤ h) where
  -- a region of the leaf at j with a cell in place s
  pub record HasSpot (j : ℕ) (r : Region) (k : ℕ) : Type 0 where
    pub cell : Local
    pub is_cell : IsRegionCell grid (2 * h) d mesh r cell
    pub receiver : r.receiver ≡ j
    pub spot : ℕ
    pub is_spot : IsSpot h d cell spot
    pub outer : is_inner spot ≡ false
    pub number : outer_below spot ≡ k

  transfer : (u v c a p : ℕ) → u / h ≡ v / h → u / (h * p) ≡ c → v / (h * p) ≡ c
  transfer u v c a p e f = sym (in_halves u v h p e) ∙ f

  -- the source of a cell holds all cells of its place
  same_source : (b s : Cube) (i j : ℕ) (c e : Local) (k : ℕ) → slice_get mesh j ≡ Some b → IsGhost (2 * h) d c → IsGhost (2 * h) d e → IsSpot h d c k → IsSpot h d e k → IsSource (2 * h) s (ghost_cell grid (2 * h) d b c) → IsSource (2 * h) s (ghost_cell grid (2 * h) d b e) × (steps_of (2 * h) d c ≡ steps_of (2 * h) d e)
  same_source b s i j c e k at gc ge p q source =
      let w = m.inside j b at in
      let x = alike h d (grid.trees_x * 2 ^ b.level) b.x w.x deep some grid.wraps_x c.x e.x (k % 4) gc.x ge.x p.x q.x in
      let y = alike h d (grid.trees_y * 2 ^ b.level) b.y w.y deep some grid.wraps_y c.y e.y (k / 4 % 4) gc.y ge.y p.y q.y in
      let z = alike h d (grid.trees_z * 2 ^ b.level) b.z w.z deep some grid.wraps_z c.z e.z (k / 16) gc.z ge.z p.z q.z in
      let u = ghost_cell grid (2 * h) d b c in
      let v = ghost_cell grid (2 * h) d b e in
      let o = IsSource-axes h s u source in
      let f = 2 ^ (b.level + 1 - s.level) in (
        axes-IsSource h s v (record { least = o.least; most = o.most; x = transfer u.x v.x s.x 0 f x.1 o.x; y = transfer u.y v.y s.y 0 f y.1 o.y; z = transfer u.z v.z s.z 0 f z.1 o.z }),
        ap (λ u. record { x = u; y = step_of (2 * h) d c.y; z = step_of (2 * h) d c.z }) x.0 ∙ ap (λ u. record { x = step_of (2 * h) d e.x; y = u; z = step_of (2 * h) d c.z }) y.0 ∙ ap (λ u. record { x = step_of (2 * h) d e.x; y = step_of (2 * h) d e.y; z = u }) z.0,
      )

  one_by_spot : (j : ℕ) (r q : Region) (k : ℕ) → HasSpot j r k → HasSpot j q k → r ≡ q
  one_by_spot j r q k a c =
      let x = a.is_cell in
      let y = c.is_cell in
      let e : a.spot ≡ c.spot = outer_one a.spot c.spot a.outer c.outer (a.number ∙ sym c.number) in
      let there : IsSpot h d a.cell c.spot = subst (IsSpot h d a.cell) e a.is_spot in
      let same : x.block ≡ y.block = same_Some x.block y.block (sym x.receives ∙ ap (slice_get mesh) (a.receiver ∙ sym c.receiver) ∙ y.receives) in
      let held : IsSource (2 * h) x.source (ghost_cell grid (2 * h) d y.block a.cell) = subst (λ b. IsSource (2 * h) x.source (ghost_cell grid (2 * h) d b a.cell)) same x.held in
      let o = same_source y.block x.source 0 q.receiver a.cell c.cell c.spot y.receives x.ghost y.ghost there c.is_spot held in
      same_region r q (a.receiver ∙ sym c.receiver)
      (one_source grid mesh g m (2 * h) r.sender q.sender x.source y.source (ghost_cell grid (2 * h) d y.block c.cell) x.sends y.sends o.0 y.held)
      (sym x.direction ∙ o.1 ∙ y.direction)

  spotted : (j : ℕ) (r : Region) → r.receiver ≡ j → IsRegion grid (2 * h) d mesh r → (k : ℕ) × HasSpot j r k
  spotted j r e (c, x) =
      let s = spot h d c in
      (outer_below s.0, record { cell = c; is_cell = x; receiver = e; spot = s.0; is_spot = s.1; outer = spot_outer h d c s.0 x.ghost s.1; number = refl })

  pub few_regions : (j : ℕ) (rs : List Region) → Once rs → ((r : Region) → Member rs r → (r.receiver ≡ j) × IsRegion grid (2 * h) d mesh r) → length rs ≤ 56
  few_regions j rs o each =
      let f = λ (r : Region) (n : Member rs r). spotted j r ((each r n).0) ((each r n).1) in
      let ks = numbers (HasSpot j) rs f in
      let l = numbers-length (HasSpot j) rs f in
      let b = once_few ks 56 (numbers-once (HasSpot j) (one_by_spot j) rs f o) (λ k n.
      let q = numbers-from (HasSpot j) rs f k n in
      let s = q.2 in
      let i = s.is_spot in
      subst (λ u. u < 56) s.number (outer_few s.spot i.below s.outer)) in
      omega arith

-- for every even edge; and there is room where a region is missing
module _ (grid : Grid) (leaves : List Cube) (n d j : ℕ) (dom : IsDomain grid) (mesh : IsMesh grid leaves) (even : n % 2 ≡ 0) (deep : 2 * d ≤ n) (some : 0 < n) where
  pub regions_few : (rs : List Region) → Once rs → ((r : Region) → Member rs r → (r.receiver ≡ j) × IsRegion grid n d leaves r) → length rs ≤ 56
  regions_few rs o each =
      let h = n / 2 in
      few_regions grid leaves dom mesh h d (omega arith) (omega arith) j rs o
      (subst (λ u. (r : Region) → Member rs r → (r.receiver ≡ j) × IsRegion grid u d leaves r) (let f : n ≡ 2 * h = omega arith in f) each)

  pub regions_room : (rs : List Region) (q : Region) → Once rs → ((r : Region) → Member rs r → (r.receiver ≡ j) × IsRegion grid n d leaves r) → q.receiver ≡ j → IsRegion grid n d leaves q → (Member rs q → ⊥) → length rs < 56
  regions_room rs q o each e x none =
      let w = regions_few (q ∷ rs) (once-cons q rs none o) (λ r m.
      elim (member-cons q r rs m) [
        | inl f ↦ subst (λ (u : Region). (u.receiver ≡ j) × IsRegion grid n d leaves u) f (e, x)
        | inr k ↦ each r k
      ]) in
      omega arith
