-- The list of a block's filed regions.
use Rattle.std.proofs.Common.{◌≡◌, ℕ, zero, suc, ◌*◌, ◌%◌, ◌<◌, ◌≤◌, ◌⊎◌, inl, inr, Bool, true, false, ◌==◌, refl, sym, ap, ◌∙◌, subst, arith, ℤ, pos, negsuc, List, [], ◌∷◌, ◌++◌, Some, get_or, length, map}
use Rattle.std.specs.List.{list_any}
use Rattle.std.proofs.lemmas.Bool.{and_from, and_parts, cases_Bool, cond-true, cond-false, eq-eqb, eqb-true, false≢true}
use Rattle.std.proofs.lemmas.List.Folds.{list_any_at}
use Rattle.std.proofs.lemmas.Option.{same_Some, slice_get_within, slice_get-get_or}
use Rattle.block_index.specs.Axes.{IsUnitStep}
use Rattle.block_index.specs.Beyond.{Offset}
use Rattle.block_index.specs.Places.{Cube, Grid, IsDomain}
use Rattle.block_index.proofs.Beyond.{at_steps}
use Rattle.leaf_set.specs.Meshes.{IsMesh}
use Rattle.cello_neighbours.specs.Directions.{IsDirection}
use Rattle.block_fields.proofs.FilledStates.{at-map}
use Rattle.block_fields.proofs.GhostWrites.{directions-same}
use Rattle.block_fields.proofs.Sums.{any-found}
use Rattle.ghost_pieces.specs.Regions.{Region, IsRegion, Member, Once}
use Rattle.ghost_pieces.specs.Filing.{Source, is_filed, is_same_source, number_of, side_of_step, source_of, with_filed}
use Rattle.ghost_pieces.specs.Shells.{IsSourceOf}
use Rattle.ghost_pieces.specs.Lemmas.OwedLists.{step_at}
use Rattle.ghost_pieces.proofs.Few.{regions_room}
use Rattle.ghost_pieces.proofs.Lists.{member-first, member-rest, member-none, member-cons, member-left, member-right, member-split, member-map, once-none, once-cons, once-append}
use Rattle.ghost_pieces.proofs.Owed.{same_region}

-- ---- directions by number

pub side-three : (s : ℤ) → side_of_step s < 3
side-three (pos zero) = omega arith
side-three (pos (suc k)) = omega arith
side-three (negsuc k) = omega arith

step_back : (s : ℤ) → IsUnitStep s → step_at (side_of_step s) ≡ s
step_back s h = at_steps (λ s. step_at (side_of_step s) ≡ s) refl refl refl s h

pub same_step : (s t : ℤ) → IsUnitStep s → IsUnitStep t → side_of_step s ≡ side_of_step t → s ≡ t
same_step s t h k e = sym (step_back s h) ∙ ap step_at e ∙ step_back t k

pub same_direction : (p q : Offset) → IsDirection p → IsDirection q → number_of p ≡ number_of q → p ≡ q
same_direction p q h k e =
    let o = directions-same (side_of_step p.x) (side_of_step p.y) (side_of_step p.z) (side_of_step q.x) (side_of_step q.y) (side_of_step q.z) (side-three p.x) (side-three p.y) (side-three p.z) (side-three q.x) (side-three q.y) (side-three q.z) e in
    ap (λ u. record { x = u; y = p.y; z = p.z }) (same_step p.x q.x h.x k.x o.0)
    ∙ ap (λ u. record { x = q.x; y = u; z = p.z }) (same_step p.y q.y h.y k.y o.1)
    ∙ ap (λ u. record { x = q.x; y = q.y; z = u }) (same_step p.z q.z h.z k.z o.2)

pub one_source_of : (r q : Region) → IsDirection r.direction → IsDirection q.direction → r.receiver ≡ q.receiver → source_of r ≡ source_of q → r ≡ q
one_source_of r q h k e f =
    same_region r q e (ap (λ (s : Source). s.sender) f) (same_direction r.direction q.direction h k (ap (λ (s : Source). s.direction) f))

-- ---- what stands in the list

source-self : (a : Source) → is_same_source a a ≡ true
source-self a = and_from (a.direction == a.direction) (a.sender == a.sender) (eq-eqb a.direction a.direction refl) (eq-eqb a.sender a.sender refl)

pub source-same : (a c : Source) → is_same_source a c ≡ true → a ≡ c
source-same a c e =
    let p = and_parts (a.direction == c.direction) (a.sender == c.sender) e in
    ap (λ u. record { direction = u; sender = a.sender }) (eqb-true a.direction c.direction p.0)
    ∙ ap (λ u. record { direction = c.direction; sender = u }) (eqb-true a.sender c.sender p.1)

pub filed-member : (filed : List Source) (r : Region) → is_filed filed r ≡ true → Member filed (source_of r)
filed-member filed r e =
    let o = any-found (is_same_source (source_of r)) filed e in
    (o.0, o.2 ∙ ap Some (sym (source-same (source_of r) o.1 o.3)))

pub member-filed : (filed : List Source) (r : Region) → Member filed (source_of r) → is_filed filed r ≡ true
member-filed filed r (p, e) =
    let k = source_of r in
    let l = slice_get_within filed p k e in
    let same : get_or filed p k ≡ k = same_Some (get_or filed p k) k (sym (slice_get-get_or filed p k l) ∙ e) in
    list_any_at (is_same_source k) filed p k l (ap (is_same_source k) same ∙ source-self k)

-- ---- one more

pub more_yes : (filed : List Source) (r : Region) → is_filed filed r ≡ true → with_filed filed r ≡ filed
more_yes filed r e = cond-true (is_filed filed r) filed (filed ++ source_of r ∷ []) e

more_no : (filed : List Source) (r : Region) → is_filed filed r ≡ false → with_filed filed r ≡ filed ++ source_of r ∷ []
more_no filed r e = cond-false (is_filed filed r) filed (filed ++ source_of r ∷ []) e

pub filed-this : (filed : List Source) (r : Region) → is_filed (with_filed filed r) r ≡ true
filed-this filed r =
    elim (cases_Bool (is_filed filed r)) [
      | inl t ↦ ap (λ l. is_filed l r) (more_yes filed r t) ∙ t
      | inr f ↦
          ap (λ l. is_filed l r) (more_no filed r f)
          ∙ member-filed (filed ++ source_of r ∷ []) r (member-right filed (source_of r ∷ []) (source_of r) (zero, refl))
    ]

pub filed-kept : (filed : List Source) (r q : Region) → is_filed filed q ≡ true → is_filed (with_filed filed r) q ≡ true
filed-kept filed r q e =
    elim (cases_Bool (is_filed filed r)) [
      | inl t ↦ ap (λ l. is_filed l q) (more_yes filed r t) ∙ e
      | inr f ↦
          ap (λ l. is_filed l q) (more_no filed r f)
          ∙ member-filed (filed ++ source_of r ∷ []) q (member-left filed (source_of r ∷ []) (source_of q) (filed-member filed q e))
    ]

pub filed-others : (filed : List Source) (r q : Region) → is_filed (with_filed filed r) q ≡ true → (is_filed filed q ≡ true) ⊎ (source_of q ≡ source_of r)
filed-others filed r q e =
    elim (cases_Bool (is_filed filed r)) [
      | inl t ↦ inl (sym (ap (λ l. is_filed l q) (more_yes filed r t)) ∙ e)
      | inr f ↦
          let m = filed-member (filed ++ source_of r ∷ []) q (sym (ap (λ l. is_filed l q) (more_no filed r f)) ∙ e) in
          elim (member-split filed (source_of r ∷ []) (source_of q) m) [
            | inl a ↦ inl (member-filed filed q a)
            | inr b ↦
                elim (member-cons (source_of r) (source_of q) [] b) [
                  | inl g ↦ inr (sym g)
                  | inr none ↦ absurd (member-none (source_of q) none)
                ]
          ]
    ]

pub filed-once : (filed : List Source) (r : Region) → Once filed → Once (with_filed filed r)
filed-once filed r o =
    elim (cases_Bool (is_filed filed r)) [
      | inl t ↦ subst Once (sym (more_yes filed r t)) o
      | inr f ↦
          subst Once (sym (more_no filed r f))
          (once-append filed (source_of r ∷ []) o (once-cons (source_of r) [] (λ m. member-none (source_of r) m) once-none) (λ x m n.
          elim (member-cons (source_of r) x [] n) [
            | inl g ↦ false≢true (sym f ∙ member-filed filed r (subst (Member filed) (sym g) m))
            | inr none ↦ member-none x none
          ]))
    ]

-- ---- room

module _ (grid : Grid) (leaves : List Cube) (n d j : ℕ) where
  abbrev All : List Source → Type 0
  All filed = (k : Source) → Member filed k → IsSourceOf grid n d leaves j k

  rest : (k : Source) (ks : List Source) → All (k ∷ ks) → All ks
  rest k ks f l m = f l (member-rest k l ks m)

  chosen : (filed : List Source) → All filed → List Region
  chosen [] f = []
  chosen (k ∷ ks) f = (f k (member-first k ks)).0 ∷ chosen ks (rest k ks f)

  sources-chosen : (filed : List Source) (f : All filed) → map source_of (chosen filed f) ≡ filed
  unfolding chosen
  sources-chosen [] f = refl
  sources-chosen (k ∷ ks) f =
      ap (λ u. u ∷ map source_of (chosen ks (rest k ks f))) ((f k (member-first k ks)).3)
      ∙ ap (λ us. k ∷ us) (sources-chosen ks (rest k ks f))

  length-chosen : (filed : List Source) (f : All filed) → length (chosen filed f) ≡ length filed
  unfolding chosen
  length-chosen [] f = refl
  length-chosen (k ∷ ks) f = ap suc (length-chosen ks (rest k ks f))

  each-chosen : (filed : List Source) (f : All filed) (r : Region) → Member (chosen filed f) r → (r.receiver ≡ j) × IsRegion grid n d leaves r
  unfolding chosen
  each-chosen [] f r m = absurd (member-none r m)
  each-chosen (k ∷ ks) f r m =
      let o = f k (member-first k ks) in
      elim (member-cons o.0 r (chosen ks (rest k ks f)) m) [
        | inl e ↦ subst (λ (r : Region). (r.receiver ≡ j) × IsRegion grid n d leaves r) e (o.1, o.2)
        | inr t ↦ each-chosen ks (rest k ks f) r t
      ]

  once-unmap : {A B : Type 0} (f : A → B) (xs : List A) → Once (map f xs) → Once xs
  once-unmap f xs o p q x e g = o p q (f x) (at-map f xs p x e) (at-map f xs q x g)

  pub filed-room : (filed : List Source) (q : Region) → IsDomain grid → IsMesh grid leaves → n % 2 ≡ 0 → 2 * d ≤ n → 0 < n → Once filed → All filed → q.receiver ≡ j → IsRegion grid n d leaves q → is_filed filed q ≡ false → length filed < 56
  filed-room filed q dom mesh even deep some o f e x none =
      let rs = chosen filed f in
      let same = sources-chosen filed f in
      let l = length-chosen filed f in
      let w = regions_room grid leaves n d j dom mesh even deep some rs q (once-unmap source_of rs (subst Once (sym same) o)) (each-chosen filed f) e x (λ m.
      false≢true (sym none ∙ member-filed filed q (subst (λ l. Member l (source_of q)) same (member-map source_of rs q m)))) in
      omega arith

-- ---- a search that found nothing

pub none_any : {A : Type 0} (p : A → Bool) (xs : List A) (d : A) → ((k : ℕ) → k < length xs → p (get_or xs k d) ≡ false) → list_any p xs ≡ false
none_any p xs d h =
    elim (cases_Bool (list_any p xs)) [
      | inr none ↦ none
      | inl t ↦
          let o = any-found p xs t in
          let l = slice_get_within xs o.0 o.1 o.2 in
          let e : get_or xs o.0 d ≡ o.1 = same_Some (get_or xs o.0 d) o.1 (sym (slice_get-get_or xs o.0 d l) ∙ o.2) in
          absurd (false≢true (sym (h o.0 l) ∙ ap p e ∙ o.3))
    ]
