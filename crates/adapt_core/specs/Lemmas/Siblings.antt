-- Siblings: the test for them, that two of them touch, and what a touching leaf's level asks of a leaf.
use Rattle.std.proofs.Common.{◌≡◌, ℕ, ◌+◌, ◌-◌, ◌*◌, ◌/◌, ◌≤◌, min, max, Bool, true, cond, List, Some, sym, ap, ◌∙◌, arith, inl, inr, mul-le-mul_right}
use Rattle.std.specs.Prelude.{slice_get, ◌==◌, ◌&&◌, nat_le}
use Rattle.std.proofs.lemmas.Bool.{and_parts, and_from, leb-true, le-leb, eqb-true, eq-eqb, cases_Bool}
use Rattle.std.proofs.lemmas.List.Folds.{list_any_at}
use Rattle.std.proofs.lemmas.Map.Views.{any-filter_same}
use Rattle.std.proofs.Math.Bool.{and-true}
use Rattle.std.specs.List.{list_any}
use Rattle.block_index.specs.Places.{Cube, Grid, parent_of}
use Rattle.block_index.specs.Touching.{width, MeetsOnAxis, Touches}
use Rattle.leaf_set.specs.LevelRules.{AreSiblings}
use Rattle.adapt_core.specs.Cells.{LeafPart}
use Rattle.adapt_core.specs.React.{has_sibling_at, asked}
use Rattle.adapt_core.specs.Problem.{are_siblings, has_sibling, IsPartAt}

same_parent : (a c : Cube) → c.level ≡ a.level → c.x / 2 ≡ a.x / 2 → c.y / 2 ≡ a.y / 2 → c.z / 2 ≡ a.z / 2 → parent_of c ≡ parent_of a
same_parent a c l x y z =
    ap (λ n. record { level = n - 1; x = c.x / 2; y = c.y / 2; z = c.z / 2 }) l
    ∙ ap (λ n. record { level = a.level - 1; x = n; y = c.y / 2; z = c.z / 2 }) x
    ∙ ap (λ n. record { level = a.level - 1; x = a.x / 2; y = n; z = c.z / 2 }) y
    ∙ ap (λ n. record { level = a.level - 1; x = a.x / 2; y = a.y / 2; z = n }) z

pub AreSiblings-from_test : (a c : Cube) → are_siblings a c ≡ true → AreSiblings a c
AreSiblings-from_test a c h =
    let fz = and_parts (nat_le 1 a.level && (c.level == a.level) && (c.x / 2 == a.x / 2) && (c.y / 2 == a.y / 2)) (c.z / 2 == a.z / 2) h in
    let fy = and_parts (nat_le 1 a.level && (c.level == a.level) && (c.x / 2 == a.x / 2)) (c.y / 2 == a.y / 2) fz.0 in
    let fx = and_parts (nat_le 1 a.level && (c.level == a.level)) (c.x / 2 == a.x / 2) fy.0 in
    let fl = and_parts (nat_le 1 a.level) (c.level == a.level) fx.0 in
    let l = eqb-true c.level a.level fl.1 in
    record {
      above_root = leb-true 1 a.level fl.0;
      same_level = l;
      same_parent = same_parent a c l (eqb-true (c.x / 2) (a.x / 2) fx.1) (eqb-true (c.y / 2) (a.y / 2) fy.1) (eqb-true (c.z / 2) (a.z / 2) fz.1);
    }

pub AreSiblings-test : (a c : Cube) → AreSiblings a c → are_siblings a c ≡ true
AreSiblings-test a c h =
    let up = h.same_parent in
    let fl = and_from (nat_le 1 a.level) (c.level == a.level) (le-leb 1 a.level h.above_root) (eq-eqb c.level a.level h.same_level) in
    let fx = and_from (nat_le 1 a.level && (c.level == a.level)) (c.x / 2 == a.x / 2) fl (eq-eqb (c.x / 2) (a.x / 2) (ap (λ (q : Cube). q.x) up)) in
    let fy = and_from (nat_le 1 a.level && (c.level == a.level) && (c.x / 2 == a.x / 2)) (c.y / 2 == a.y / 2) fx (eq-eqb (c.y / 2) (a.y / 2) (ap (λ (q : Cube). q.y) up)) in
    and_from (nat_le 1 a.level && (c.level == a.level) && (c.x / 2 == a.x / 2) && (c.y / 2 == a.y / 2)) (c.z / 2 == a.z / 2) fy (eq-eqb (c.z / 2) (a.z / 2) (ap (λ (q : Cube). q.z) up))

-- coordinates with one half are next to each other, or one
halves_meet : (trees : ℕ) (wraps : Bool) (x y l m : ℕ) → m ≡ l → y / 2 ≡ x / 2 → MeetsOnAxis trees wraps (x * width l) (width l) (y * width m) (width m)
halves_meet trees wraps x y l m e h =
    let w : ℕ = width l in
    let same : width m ≡ w = ap width e in
    let there : y * width m ≡ y * w = ap (λ n. y * n) same in
    let up : x * w ≤ (y + 1) * w = mul-le-mul_right w (let near : x ≤ y + 1 = omega arith in near) in
    let down : y * w ≤ (x + 1) * w = mul-le-mul_right w (let near : y ≤ x + 1 = omega arith in near) in
    inl (record { left = omega arith; right = omega arith })

-- siblings share their parent's centre
pub AreSiblings-Touches : (grid : Grid) (a c : Cube) → AreSiblings a c → (a ≡ c → ⊥) → Touches grid a c
AreSiblings-Touches grid a c h n =
    let up = h.same_parent in
    record {
      apart = n;
      on_x = halves_meet grid.trees_x grid.wraps_x a.x c.x a.level c.level h.same_level (ap (λ (q : Cube). q.x) up);
      on_y = halves_meet grid.trees_y grid.wraps_y a.y c.y a.level c.level h.same_level (ap (λ (q : Cube). q.y) up);
      on_z = halves_meet grid.trees_z grid.wraps_z a.z c.z a.level c.level h.same_level (ap (λ (q : Cube). q.z) up);
    }

-- a part, and a leaf q at position `from` that touches it
module _ (grid : Grid) (mesh : List Cube) (i : ℕ) (part : LeafPart) (valid : IsPartAt grid mesh i part) (here : slice_get mesh i ≡ Some part.place) (from : ℕ) (q : Cube) (there : slice_get mesh from ≡ Some q) (touch : Touches grid part.place q) where
  -- it is among the siblings where it is one
  has_sibling_at-tests : has_sibling_at part from ≡ are_siblings part.place q
  has_sibling_at-tests =
      let test : ℕ → Bool = λ j. j == from in
      let is : has_sibling part.place (slice_get mesh from) ≡ are_siblings part.place q = ap (has_sibling part.place) there in
      let same : (j : ℕ) → test j ≡ true → has_sibling part.place (slice_get mesh j) ≡ are_siblings part.place q = λ j e. ap (λ k. has_sibling part.place (slice_get mesh k)) (eqb-true j from e) ∙ is in
      let listed = valid.touching.all from part.place q here there touch in
      let found : list_any test part.neighbours ≡ true = list_any_at test part.neighbours listed.0 from listed.1 (eq-eqb _ from listed.2) in
      ap (list_any test) valid.siblings ∙ (any-filter_same test (λ j. has_sibling part.place (slice_get mesh j)) (are_siblings part.place q) same part.neighbours ∙ (ap (λ b. are_siblings part.place q && b) found ∙ and-true (are_siblings part.place q)))

  -- what is asked is enough ..
  pub asked_jump : (value : ℕ) → value - 1 ≤ asked part from value
  asked_jump value = omega arith

  pub asked_siblings : (value : ℕ) → AreSiblings part.place q → min value part.place.level ≤ asked part from value
  asked_siblings value h =
      let is : asked part from value ≡ max (value - 1) (min value part.place.level) = ap (λ b. max (value - 1) (cond b (min value part.place.level) 0)) (has_sibling_at-tests ∙ AreSiblings-test part.place q h) in
      omega (arith, is)

  -- .. and no more than that
  pub asked_most : (value most : ℕ) → value - 1 ≤ most → (AreSiblings part.place q → min value part.place.level ≤ most) → asked part from value ≤ most
  asked_most value most jump siblings =
      elim (cases_Bool (has_sibling_at part from)) [
        | inl is ↦
            let e : asked part from value ≡ max (value - 1) (min value part.place.level) = ap (λ b. max (value - 1) (cond b (min value part.place.level) 0)) is in
            omega (arith, e, siblings (AreSiblings-from_test part.place q (sym has_sibling_at-tests ∙ is)))
        | inr none ↦
            let e : asked part from value ≡ max (value - 1) 0 = ap (λ b. max (value - 1) (cond b (min value part.place.level) 0)) none in
            omega (arith, e)
      ]
