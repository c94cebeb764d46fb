-- Shapes and criteria of subs that two walks met no fault in.
use Rattle.std.proofs.Common.{◌≡◌, ℕ, ◌+◌, ◌<◌, ◌≤◌, true, not, List, [], ◌∷◌, length, codes, arith, refl, All, inl, inr}
use Rattle.std.proofs.lemmas.Bool.{cases_Bool, cond-true, cond-false, not_from_true, not_from_false}
use Rattle.std.proofs.lemmas.List.Elements.{All-weaker}
use Rattle.params_syntax.specs.declared.tree.Setting.{Setting}
use Rattle.params_syntax.specs.Trees.{Each}
use Rattle.params_check.specs.Bounds.{farthest}
use Rattle.params_check.specs.Keys.{is_among, shape_kind, shape_field, shape_low, shape_high, shape_center, shape_radius, shape_keys, criterion_kind, criterion_field, criterion_low, criterion_high, criterion_level, criterion_refine, criterion_coarsen, criterion_keys}
use Rattle.params_check.specs.Limits.{IsCorner, KeepsForm, KeepsShape, KeepsTest, KeepsCriterion}
use Rattle.params_check.specs.TreeValues.{position_of, value_at, word_at, form_of, shape_of, test_of, criterion_of}
use Rattle.params_check.specs.Values.{same}
use Rattle.params_check.proofs.Fits.{AreThree, KeyFits, keys-fit}
use Rattle.params_check.proofs.Once.{or_other, among-each}
use Rattle.params_check.proofs.WalkedKeys.{KeyKept}

pub position_of-below : (word : List ℕ) (names : List (List ℕ)) → is_among names word ≡ true → position_of word names < length names
position_of-below word [] h = absurd cc
position_of-below word (n ∷ names) h =
    let test = not (same n word) in
    let rest = 1 + position_of word names in
    elim (cases_Bool (same n word)) [
      | inl t ↦ omega (arith, cond-false {A = ℕ} test rest 0 (not_from_true (same n word) t))
      | inr f ↦ omega (arith, cond-true {A = ℕ} test rest 0 (not_from_false (same n word) f), position_of-below word names (or_other (same n word) _ f h))
    ]

pub corner : (low high : ℕ) (xs : List ℕ) → high ≤ farthest → AreThree low high xs → IsCorner xs
corner low high xs near t = record {
  three = t.three;
  limits = All-weaker (λ x. (low ≤ x) × (x ≤ high)) (λ x. x ≤ farthest) (λ x w. omega (arith, near, w.1)) xs t.limits;
}

module _ (names : List (List ℕ)) (sets : List Setting) where
  -- ---- shapes

  -- each key of a shape of a kind fits
  abbrev ShapeFits : List ℕ → Type 0
  ShapeFits kind = Each (KeyFits names kind sets) shape_keys

  -- the form of a kind keeps its limits
  abbrev FormKept : List ℕ → Type 0
  FormKept kind =
      ShapeFits kind → KeepsForm (form_of kind (value_at shape_low sets) (value_at shape_high sets) (value_at shape_center sets) (value_at shape_radius sets))

  box-kept : FormKept (codes "box")
  unfolding shape_keys
  box-kept fits = (corner 0 farthest _ (omega arith) fits.1.1.0, corner 0 farthest _ (omega arith) fits.1.1.1.0)

  ball-kept : FormKept (codes "ball")
  unfolding shape_keys
  ball-kept fits = (corner 0 farthest _ (omega arith) fits.1.1.1.1.0, fits.1.1.1.1.1.0.1)

  shape-fits : (kind : List ℕ) → All (KeyKept names kind sets) shape_keys → ShapeFits kind
  unfolding shape_keys
  shape-fits kind kept = keys-fit names kind sets shape_keys refl kept

  form-kept : (kind : List ℕ) → is_among (codes "box" ∷ codes "ball" ∷ []) kind ≡ true → FormKept kind
  form-kept kind known = among-each FormKept (codes "box" ∷ codes "ball" ∷ []) kind known (box-kept, (ball-kept, tt))

  pub shape-kept : (name : List ℕ) → All (KeyKept names (word_at shape_kind sets) sets) shape_keys
      → KeepsShape (length names) (shape_of names (record { name = name; sets = sets }))
  unfolding shape_keys
  shape-kept name kept =
      let kind = word_at shape_kind sets in
      let fits = shape-fits kind kept in
      record {
        field = position_of-below (word_at shape_field sets) names fits.1.0;
        amount = fits.1.1.1.1.1.1.0.1;
        form = form-kept kind fits.0 fits;
      }

  -- ---- criteria

  abbrev CriterionFits : List ℕ → Type 0
  CriterionFits kind = Each (KeyFits names kind sets) criterion_keys

  -- the test of a kind keeps its limits
  abbrev TestKept : List ℕ → Type 0
  TestKept kind =
      CriterionFits kind
      → KeepsTest (length names) (test_of names kind (value_at criterion_field sets) (value_at criterion_low sets) (value_at criterion_high sets)
      (value_at criterion_level sets) (value_at criterion_refine sets) (value_at criterion_coarsen sets))

  region-kept : TestKept (codes "box")
  unfolding criterion_keys
  region-kept fits = (corner 0 farthest _ (omega arith) fits.1.1.1.0, corner 0 farthest _ (omega arith) fits.1.1.1.1.0, fits.1.1.1.1.1.0.1)

  mass-kept : TestKept (codes "mass")
  unfolding criterion_keys
  mass-kept fits = record {
    known = position_of-below (word_at criterion_field sets) names fits.1.1.0;
    refines = fits.1.1.1.1.1.1.0;
    coarsens = fits.1.1.1.1.1.1.1.0;
  }

  slope-kept : TestKept (codes "slope")
  unfolding criterion_keys
  slope-kept fits = record {
    known = position_of-below (word_at criterion_field sets) names fits.1.1.0;
    refines = fits.1.1.1.1.1.1.0;
    coarsens = fits.1.1.1.1.1.1.1.0;
  }

  contrast-kept : TestKept (codes "contrast")
  unfolding criterion_keys
  contrast-kept fits = record {
    known = position_of-below (word_at criterion_field sets) names fits.1.1.0;
    refines = fits.1.1.1.1.1.1.0;
    coarsens = fits.1.1.1.1.1.1.1.0;
  }

  criterion-fits : (kind : List ℕ) → All (KeyKept names kind sets) criterion_keys → CriterionFits kind
  unfolding criterion_keys
  criterion-fits kind kept = keys-fit names kind sets criterion_keys refl kept

  test-kept : (kind : List ℕ) → is_among (codes "box" ∷ codes "mass" ∷ codes "slope" ∷ codes "contrast" ∷ []) kind ≡ true → TestKept kind
  test-kept kind known =
      among-each TestKept (codes "box" ∷ codes "mass" ∷ codes "slope" ∷ codes "contrast" ∷ []) kind known
      (region-kept, (mass-kept, (slope-kept, (contrast-kept, tt))))

  pub criterion-kept : (name : List ℕ) → All (KeyKept names (word_at criterion_kind sets) sets) criterion_keys
      → KeepsCriterion (length names) (criterion_of names (record { name = name; sets = sets }))
  unfolding criterion_keys
  criterion-kept name kept =
      let kind = word_at criterion_kind sets in
      let fits = criterion-fits kind kept in
      record { some = fits.1.0.0; most = fits.1.0.1; test = test-kept kind fits.0 fits }
