-- Where two kinds of samples agree in the cells of a block and next to them, they give the same wishes.
use Rattle.std.proofs.Common.{◌≡◌, ℕ, zero, suc, ◌+◌, ◌-◌, ◌*◌, ◌<◌, nat_le, nat_lt, cond, max, min, refl, sym, ap, ◌∙◌, subst, arith, List, [], ◌∷◌, All, length, ℤ, pos, negsuc, ◌+ℤ◌}
use Rattle.std.proofs.lemmas.List.Elements.{All-head, All-tail}
use Rattle.block_index.specs.Places.{Cube}
use Rattle.block_fields.specs.Blocks.{BlockState, IsBlock, seen_at}
use Rattle.block_fields.specs.BlockStates.{HoldsSamples, IsLeafOf}
use Rattle.block_fields.specs.Samples.{sample_at}
use Rattle.block_fields.specs.Shells.{IsAround}
use Rattle.block_fields.specs.States.{State, IsState}
use Rattle.block_fields.proofs.SamplesAround.{seen-samples}
use Rattle.params_check.specs.Limits.{KeepsCriterion, KeepsTest}
use Rattle.params_check.specs.declared.criterion.Test.{Test}
use Rattle.params_check.specs.declared.criterion.Test.TheVariants.{Region, Mass, Slope, Contrast}
use Rattle.params_check.specs.declared.criterion.Criterion.{Criterion}
use Rattle.criteria.specs.Cells.{greatest_near, least_near, own, across_x, across_y, across_z, gap, contrast, some_steep, each_flat}
use Rattle.criteria.specs.Lemmas.CellWishes.{cell_wish, number_wish, plane_wish, row_wish, slope_wish, wish_below}
use Rattle.criteria.specs.Samples.{Samples, before, samples_beside}
use Rattle.criteria.specs.Wishes.{criteria_wish, greater, test_wish, wish_of}
use Rattle.criteria.proofs.GreatestWishes.{cells_wish-below, wish_below-same}

-- the coordinates of a block's cells and of those next to them
pub around-before : (n x : ℕ) → x < n + 2 → IsAround n 1 (before x)
around-before n zero h = omega arith
around-before n (suc x) h = omega arith

pub around-own : (n x : ℕ) → x < n → IsAround n 1 (pos x)
around-own n x h = omega arith

pub around-next : (n x : ℕ) → x < n → IsAround n 1 (pos (x + 1))
around-next n x h = omega arith

-- the same samples of these fields
abbrev pub Agree : ℕ → ℕ → Samples → Samples → Type 0
Agree n fields s t =
    (f : ℕ) (x y z : ℤ) → f < fields → IsAround n 1 x → IsAround n 1 y → IsAround n 1 z → s f x y z ≡ t f x y z

module _ (n x : ℕ) (hx : x < n) (q r : ℤ → ℕ) (e : (u : ℤ) → IsAround n 1 u → q u ≡ r u) where
  pub greatest_near-same : greatest_near q x ≡ greatest_near r x
  greatest_near-same =
      let a = e (before x) (around-before n x (omega arith)) in
      let b = e (pos x) (around-own n x hx) in
      let c = e (pos (x + 1)) (around-next n x hx) in
      λ i. max (a i) (max (b i) (c i))

  pub least_near-same : least_near q x ≡ least_near r x
  least_near-same =
      let a = e (before x) (around-before n x (omega arith)) in
      let b = e (pos x) (around-own n x hx) in
      let c = e (pos (x + 1)) (around-next n x hx) in
      λ i. min (a i) (min (b i) (c i))

module _ (n fields : ℕ) (s t : Samples) (e : Agree n fields s t) (x y z : ℕ) (hx : x < n) (hy : y < n) (hz : z < n) where
  contrast-same : (f : ℕ) → f < fields → contrast (s f) x y z ≡ contrast (t f) x y z
  contrast-same f hf =
      let most = greatest_near-same n x hx (λ u. greatest_near (λ v. greatest_near (λ w. s f u v w) z) y) (λ u. greatest_near (λ v. greatest_near (λ w. t f u v w) z) y)
      (λ u hu. greatest_near-same n y hy (λ v. greatest_near (λ w. s f u v w) z) (λ v. greatest_near (λ w. t f u v w) z)
      (λ v hv. greatest_near-same n z hz (λ w. s f u v w) (λ w. t f u v w) (λ w hw. e f u v w hf hu hv hw))) in
      let fewest = least_near-same n x hx (λ u. least_near (λ v. least_near (λ w. s f u v w) z) y) (λ u. least_near (λ v. least_near (λ w. t f u v w) z) y)
      (λ u hu. least_near-same n y hy (λ v. least_near (λ w. s f u v w) z) (λ v. least_near (λ w. t f u v w) z)
      (λ v hv. least_near-same n z hz (λ w. s f u v w) (λ w. t f u v w) (λ w hw. e f u v w hf hu hv hw))) in
      λ i. most i - fewest i

  own-same : (f : ℕ) → f < fields → own (s f) x y z ≡ own (t f) x y z
  own-same f hf = e f (pos x) (pos y) (pos z) hf (around-own n x hx) (around-own n y hy) (around-own n z hz)

  across_x-same : (f : ℕ) → f < fields → across_x (s f) x y z ≡ across_x (t f) x y z
  across_x-same f hf =
      let a = e f (pos (x + 1)) (pos y) (pos z) hf (around-next n x hx) (around-own n y hy) (around-own n z hz) in
      let b = e f (before x) (pos y) (pos z) hf (around-before n x (omega arith)) (around-own n y hy) (around-own n z hz) in
      λ i. gap (a i) (b i)

  across_y-same : (f : ℕ) → f < fields → across_y (s f) x y z ≡ across_y (t f) x y z
  across_y-same f hf =
      let a = e f (pos x) (pos (y + 1)) (pos z) hf (around-own n x hx) (around-next n y hy) (around-own n z hz) in
      let b = e f (pos x) (before y) (pos z) hf (around-own n x hx) (around-before n y (omega arith)) (around-own n z hz) in
      λ i. gap (a i) (b i)

  across_z-same : (f : ℕ) → f < fields → across_z (s f) x y z ≡ across_z (t f) x y z
  across_z-same f hf =
      let a = e f (pos x) (pos y) (pos (z + 1)) hf (around-own n x hx) (around-own n y hy) (around-next n z hz) in
      let b = e f (pos x) (pos y) (before z) hf (around-own n x hx) (around-own n y hy) (around-before n z (omega arith)) in
      λ i. gap (a i) (b i)

  pub cell_wish-same : (test : Test) → KeepsTest fields test → cell_wish s test x y z ≡ cell_wish t test x y z
  cell_wish-same (Region low high level) k = refl
  cell_wish-same (Mass f refine coarsen) k = ap (number_wish refine coarsen) (own-same f k.known)
  cell_wish-same (Slope f refine coarsen) k =
      let o = own-same f k.known in
      let a = across_x-same f k.known in
      let b = across_y-same f k.known in
      let c = across_z-same f k.known in
      λ i. slope_wish refine coarsen (o i) (a i) (b i) (c i)
  cell_wish-same (Contrast f refine coarsen) k = ap (number_wish refine coarsen) (contrast-same f k.known)

-- the wish by a test of a field is the greatest of its cells
pub cells-Mass : (n : ℕ) (s : Samples) (f refine coarsen : ℕ) (c : Cube) → test_wish n s (Mass f refine coarsen) c ≡ wish_below n (plane_wish n s (Mass f refine coarsen))
cells-Mass n s f refine coarsen c =
    cells_wish-below n (λ x y z. nat_lt refine (own (s f) x y z)) (λ x y z. nat_le (own (s f) x y z) coarsen)

pub cells-Slope : (n : ℕ) (s : Samples) (f refine coarsen : ℕ) (c : Cube) → test_wish n s (Slope f refine coarsen) c ≡ wish_below n (plane_wish n s (Slope f refine coarsen))
cells-Slope n s f refine coarsen c = cells_wish-below n (some_steep (s f) refine) (each_flat (s f) coarsen)

pub cells-Contrast : (n : ℕ) (s : Samples) (f refine coarsen : ℕ) (c : Cube) → test_wish n s (Contrast f refine coarsen) c ≡ wish_below n (plane_wish n s (Contrast f refine coarsen))
cells-Contrast n s f refine coarsen c =
    cells_wish-below n (λ x y z. nat_lt refine (contrast (s f) x y z)) (λ x y z. nat_le (contrast (s f) x y z) coarsen)

module _ (n fields : ℕ) (s t : Samples) (e : Agree n fields s t) where
  planes-same : (test : Test) → KeepsTest fields test → wish_below n (plane_wish n s test) ≡ wish_below n (plane_wish n t test)
  planes-same test w =
      wish_below-same n (plane_wish n s test) (plane_wish n t test)
      (λ z hz. wish_below-same n (λ y. row_wish n s test y z) (λ y. row_wish n t test y z)
      (λ y hy. wish_below-same n (λ x. cell_wish s test x y z) (λ x. cell_wish t test x y z)
      (λ x hx. cell_wish-same n fields s t e x y z hx hy hz test w)))

  test_wish-same : (test : Test) (c : Cube) → KeepsTest fields test → test_wish n s test c ≡ test_wish n t test c
  test_wish-same (Region low high level) c w = refl
  test_wish-same (Mass f refine coarsen) c w =
      cells-Mass n s f refine coarsen c ∙ planes-same (Mass f refine coarsen) w ∙ sym (cells-Mass n t f refine coarsen c)
  test_wish-same (Slope f refine coarsen) c w =
      cells-Slope n s f refine coarsen c ∙ planes-same (Slope f refine coarsen) w ∙ sym (cells-Slope n t f refine coarsen c)
  test_wish-same (Contrast f refine coarsen) c w =
      cells-Contrast n s f refine coarsen c ∙ planes-same (Contrast f refine coarsen) w ∙ sym (cells-Contrast n t f refine coarsen c)

  pub criteria_wish-same : (phase : ℕ) (criteria : List Criterion) (c : Cube) → All (KeepsCriterion fields) criteria → criteria_wish n phase criteria s c ≡ criteria_wish n phase criteria t c
  criteria_wish-same phase [] c w = refl
  criteria_wish-same phase (k ∷ criteria) c w =
      let rest = criteria_wish-same phase criteria c (All-tail (KeepsCriterion fields) k criteria w) in
      let here = test_wish-same k.test c (All-head (KeepsCriterion fields) k criteria w).test in
      λ i. cond (nat_le phase k.until) (greater (here i) (rest i)) (rest i)

-- A block whose ghosts hold the samples of a state wishes what the state's leaf does.
pub wish-wish_of : (s : State) (i : ℕ) (b : BlockState) (phase : ℕ) (criteria : List Criterion) → IsBlock b → All (KeepsCriterion (length b.amounts)) criteria → IsState s → IsLeafOf s i b → HoldsSamples s b → criteria_wish b.edge phase criteria (seen_at b) b.place ≡ wish_of phase criteria s b.place
wish-wish_of s i b phase criteria limits keeps w k samples =
    let fields : length b.amounts ≡ s.fields = w.all_fields i b.amounts k.held in
    let agree : Agree b.edge (length b.amounts) (seen_at b) (samples_beside s b.place) =
    λ f x y z hf hx hy hz.
    seen-samples s w i b k samples f x y z (subst (λ m. f < m) fields hf) (deeper b limits x hx) (deeper b limits y hy) (deeper b limits z hz)
    ∙ (λ j. sample_at s f b.place.level (pos (b.place.x * k.same_edge j) +ℤ x) (pos (b.place.y * k.same_edge j) +ℤ y) (pos (b.place.z * k.same_edge j) +ℤ z)) in
    criteria_wish-same b.edge (length b.amounts) (seen_at b) (samples_beside s b.place) agree phase criteria b.place keeps
    ∙ ap (λ n. criteria_wish n phase criteria (samples_beside s b.place) b.place) k.same_edge
  where
    deeper : (b : BlockState) → IsBlock b → (x : ℤ) → IsAround b.edge 1 x → IsAround b.edge b.depth x
    deeper b limits (pos x) h = omega (arith, limits.shallowest)
    deeper b limits (negsuc x) h = omega (arith, limits.shallowest)
