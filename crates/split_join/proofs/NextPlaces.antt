-- What the leaves from a position on leave in the next mesh.
use Rattle.std.proofs.Common.{◌≡◌, ℕ, zero, suc, ◌+◌, ◌-◌, ◌<◌, ◌≤◌, cond, nat_lt, ◌==◌, List, [], ◌∷◌, ◌++◌, Some, length, drop, slice_get, slice_index, refl, sym, ap, ◌∙◌, subst, arith, add-one, inl, inr}
use Rattle.std.proofs.lemmas.Bool.{cond-true, cond-false, lt-ltb, le-ltb, eq-eqb, ne_eqb, cases_order}
use Rattle.std.proofs.lemmas.Option.{same_Some, none-some, slice_get_within}
use Rattle.block_index.specs.Places.{Cube, Grid, IsDomain, child_of, parent_of, child_number}
use Rattle.block_index.specs.declared.wish.Wish.{Wish}
use Rattle.leaf_set.specs.Meshes.{IsMesh}
use Rattle.leaf_set.specs.LevelRules.{IsSolution}
use Rattle.leaf_set.specs.NextMesh.{children_of, leaves_after, next_mesh}
use Rattle.leaf_set.proofs.Containment.{child_number-child_of}
use Rattle.split_join.proofs.Lists.{same_element}
use Rattle.split_join.proofs.FamilyRuns.{Aligned, family_run, Aligned-next, Aligned-family}

-- ---- one leaf

pub leaves_after-rises : (a : Cube) (d : ℕ) → a.level < d → leaves_after a d ≡ children_of a
leaves_after-rises a d h =
    cond-true (nat_lt a.level d) (children_of a) (cond (a.level == d) (a ∷ []) (cond (child_number a == 0) (parent_of a ∷ []) [])) (lt-ltb a.level d h)

pub leaves_after-stays : (a : Cube) (d : ℕ) → a.level ≡ d → leaves_after a d ≡ a ∷ []
leaves_after-stays a d h =
    cond-false (nat_lt a.level d) (children_of a) (cond (a.level == d) (a ∷ []) (cond (child_number a == 0) (parent_of a ∷ []) [])) (le-ltb a.level d (omega arith))
    ∙ cond-true (a.level == d) (a ∷ []) (cond (child_number a == 0) (parent_of a ∷ []) []) (eq-eqb a.level d h)

leaves_after-falls : (a : Cube) (d : ℕ) → d < a.level → leaves_after a d ≡ cond (child_number a == 0) (parent_of a ∷ []) []
leaves_after-falls a d h =
    cond-false (nat_lt a.level d) (children_of a) (cond (a.level == d) (a ∷ []) (cond (child_number a == 0) (parent_of a ∷ []) [])) (le-ltb a.level d (omega arith))
    ∙ cond-false (a.level == d) (a ∷ []) (cond (child_number a == 0) (parent_of a ∷ []) []) (ne_eqb a.level d (omega arith))

pub leaves_after-joins : (a : Cube) (d : ℕ) → d < a.level → child_number a ≡ 0 → leaves_after a d ≡ parent_of a ∷ []
leaves_after-joins a d h n = leaves_after-falls a d h ∙ cond-true (child_number a == 0) (parent_of a ∷ []) [] (eq-eqb (child_number a) 0 n)

pub leaves_after-nothing : (a : Cube) (d : ℕ) → d < a.level → 0 < child_number a → leaves_after a d ≡ []
leaves_after-nothing a d h n = leaves_after-falls a d h ∙ cond-false (child_number a == 0) (parent_of a ∷ []) [] (ne_eqb (child_number a) 0 (omega arith))

-- ---- the leaves from a position on

next_mesh-drop_suc : (mesh : List Cube) (levels : List ℕ) (i : ℕ) (a : Cube) → slice_get mesh i ≡ Some a → i < length levels
    → next_mesh (drop i mesh) (drop i levels) ≡ leaves_after a (slice_index levels i) ++ next_mesh (drop (suc i) mesh) (drop (suc i) levels)
next_mesh-drop_suc [] levels i a s h = absurd (none-some a s)
next_mesh-drop_suc (c ∷ cs) [] i a s h = absurd (omega arith)
next_mesh-drop_suc (c ∷ cs) (d ∷ ds) zero a s h = ap (λ b. leaves_after b d ++ next_mesh cs ds) (same_Some c a s)
next_mesh-drop_suc (c ∷ cs) (d ∷ ds) (suc i) a s h = next_mesh-drop_suc cs ds i a s (omega arith)

next_mesh-drop : (mesh : List Cube) (levels : List ℕ) (i : ℕ) (a : Cube) → slice_get mesh i ≡ Some a → i < length levels
    → next_mesh (drop i mesh) (drop i levels) ≡ leaves_after a (slice_index levels i) ++ next_mesh (drop (i + 1) mesh) (drop (i + 1) levels)
next_mesh-drop mesh levels i a s h =
    subst (λ j. next_mesh (drop i mesh) (drop i levels) ≡ leaves_after a (slice_index levels i) ++ next_mesh (drop j mesh) (drop j levels))
    (sym (add-one i)) (next_mesh-drop_suc mesh levels i a s h)

-- What stands at the front: the old leaf at `at`, of which the first m siblings wait, the old leaf b at `at + m`, and
-- the new leaf p.
pub data Front (mesh : List Cube) (levels : List ℕ) (at m : ℕ) (b p : Cube) : Type 0 where
  front_rises : m ≡ 0 → b.level + 1 ≤ 6 → p ≡ child_of b 0 → next_mesh (drop at mesh) (drop at levels) ≡ children_of b ++ next_mesh (drop (at + 1) mesh) (drop (at + 1) levels) → Aligned mesh levels (at + 1) → Front mesh levels at m b p
  front_stays : m ≡ 0 → p ≡ b → next_mesh (drop at mesh) (drop at levels) ≡ b ∷ next_mesh (drop (at + 1) mesh) (drop (at + 1) levels) → Aligned mesh levels (at + 1) → Front mesh levels at m b p
  front_falls : ((a : Cube) → slice_get mesh at ≡ Some a → slice_index levels at < a.level) → ((k : ℕ) → k < 8 → slice_get mesh (at + k) ≡ Some (child_of p k)) → b ≡ child_of p m → next_mesh (drop at mesh) (drop at levels) ≡ p ∷ next_mesh (drop (at + 8) mesh) (drop (at + 8) levels) → Aligned mesh levels (at + 8) → Front mesh levels at m b p

module _ (grid : Grid) (mesh : List Cube) (g : IsDomain grid) (m : IsMesh grid mesh) (wishes : List Wish) (levels : List ℕ) (s : IsSolution grid mesh wishes levels) where
  -- the seven later siblings leave nothing
  later_siblings : (i : ℕ) (a : Cube) → slice_get mesh i ≡ Some a → slice_index levels i < a.level → child_number a ≡ 0 → (k : ℕ) → k < 8 → next_mesh (drop (i + 1) mesh) (drop (i + 1) levels) ≡ next_mesh (drop (i + 1 + k) mesh) (drop (i + 1 + k) levels)
  later_siblings i a at falls first zero h =
      ap (λ j. next_mesh (drop j mesh) (drop j levels)) (let e : i + 1 ≡ i + 1 + 0 = omega arith in e)
  later_siblings i a at falls first (suc k) h =
      let one : suc k ≡ k + 1 = omega arith in
      let j = i + 1 + k in
      let before = later_siblings i a at falls first k (omega arith) in
      let o = family_run grid mesh g m wishes levels s i a at falls first (k + 1) (omega arith) in
      let c = child_of (parent_of a) (k + 1) in
      let here : j ≡ i + (k + 1) = omega arith in
      let there : slice_get mesh j ≡ Some c = ap (slice_get mesh) here ∙ o.0 in
      let low : slice_index levels j ≡ a.level - 1 = ap (slice_index levels) here ∙ o.1 in
      let within = slice_get_within mesh j c there in
      let number : child_number c ≡ k + 1 = child_number-child_of (parent_of a) (k + 1) (omega arith) in
      before
      ∙ next_mesh-drop mesh levels j c there (omega (arith, s.one_each))
      ∙ ap (λ l. l ++ next_mesh (drop (j + 1) mesh) (drop (j + 1) levels)) (leaves_after-nothing c (slice_index levels j) (omega arith) (omega arith))
      ∙ ap (λ j. next_mesh (drop j mesh) (drop j levels)) (let e : j + 1 ≡ i + 1 + suc k = omega arith in e)

  pub front : (at n : ℕ) (b : Cube) → Aligned mesh levels at → n < 8 → slice_get mesh (at + n) ≡ Some b → (0 < n → (a : Cube) → slice_get mesh at ≡ Some a → slice_index levels at < a.level) → (a : Cube) → slice_get mesh at ≡ Some a → (p : Cube) × Front mesh levels at n b p
  front at n b aligned few here waits a there =
      let d = slice_index levels at in
      let within = slice_get_within mesh at a there in
      let own = next_mesh-drop mesh levels at a there (omega (arith, s.one_each)) in
      let range = s.range at a there in
      elim (cases_order a.level d) [
        | inl same ↦
            let none : n ≡ 0 = alone n (λ w. let f = waits w a there in omega arith) in
            let one : a ≡ b = same_element mesh at (at + n) a b there here (omega arith) in (
              a,
              front_stays none one
                  (own ∙ ap (λ l. l ++ next_mesh (drop (at + 1) mesh) (drop (at + 1) levels)) (leaves_after-stays a d same) ∙ ap (λ a. a ∷ next_mesh (drop (at + 1) mesh) (drop (at + 1) levels)) one)
                  (Aligned-next grid mesh g m wishes levels s at a there (omega arith)),
            )
        | inr r ↦
            elim r [
              | inl less ↦
                  let none : n ≡ 0 = alone n (λ w. let f = waits w a there in omega arith) in
                  let one : a ≡ b = same_element mesh at (at + n) a b there here (omega arith) in (
                    child_of a 0,
                    front_rises none (let l = ap (λ (c : Cube). c.level) one in omega (arith, range.1, g.finest)) (ap (λ a. child_of a 0) one)
                        (own ∙ ap (λ l. l ++ next_mesh (drop (at + 1) mesh) (drop (at + 1) levels)) (leaves_after-rises a d less) ∙ ap (λ a. children_of a ++ next_mesh (drop (at + 1) mesh) (drop (at + 1) levels)) one)
                        (Aligned-next grid mesh g m wishes levels s at a there (omega arith)),
                  )
              | inr more ↦
                  let first = aligned a there more in
                  let run = family_run grid mesh g m wishes levels s at a there more first in
                  let last = later_siblings at a there more first 7 (omega arith) in (
                    parent_of a,
                    front_falls (λ c e. subst (λ (c : Cube). d < c.level) (same_Some a c (sym there ∙ e)) more) (λ k h. (run k h).0)
                        (same_Some b (child_of (parent_of a) n) (sym here ∙ (run n few).0))
                        (own
                        ∙ ap (λ l. l ++ next_mesh (drop (at + 1) mesh) (drop (at + 1) levels)) (leaves_after-joins a d more first)
                        ∙ ap (λ l. parent_of a ∷ l) last
                        ∙ ap (λ j. parent_of a ∷ next_mesh (drop j mesh) (drop j levels)) (let e : at + 1 + 7 ≡ at + 8 = omega arith in e))
                        (Aligned-family grid mesh g m wishes levels s at (parent_of a) (run 7 (omega arith)).0),
                  )
            ]
      ]
    where
      alone : (n : ℕ) → (0 < n → ⊥) → n ≡ 0
      alone zero h = refl
      alone (suc n) h = absurd (h (omega arith))
