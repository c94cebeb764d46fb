-- How often a slot was found held, what was given back, and what a seat's view keeps meanwhile.
use Rattle.std.proofs.Common.{◌≡◌, ◌≢◌, ◌⊎◌, inl, inr, ℕ, zero, suc, ◌+◌, ◌<◌, ◌≤◌, List, [], ◌∷◌, ◌++◌, length, Some, cond, eq-eqb, refl, sym, ◌∙◌, ap, subst, arith}
use Rattle.std.specs.Prelude.{All, slice_get}
use Rattle.std.proofs.lemmas.Bool.{cases_eq, cases_order}
use Rattle.std.proofs.lemmas.List.Elements.{All-nil, All-append, All-weaker, All-head, All-tail}
use Rattle.std.proofs.lemmas.Option.{none-some, same_Some}
use Rattle.phase_core.specs.declared.envelope.Envelope.{Envelope}
use Rattle.quiet_table.specs.declared.view.Hand.{Hand}
use Rattle.quiet_table.specs.declared.view.Find.{Find}
use Rattle.quiet_table.specs.declared.view.View.{View}
use Rattle.quiet_table.specs.Contents.{pool}
use Rattle.post_office.specs.Finds.{finds_of, FoundHeld, GivenBack}
use Rattle.post_office.specs.Shares.{IsFor, Sorted}

-- once more,
pub found_more : (k turn : ℕ) (now before : List Find) → now ≡ record { slot = k; turn = turn } ∷ before → FoundHeld k before now
found_more k turn now before is =
    let e : finds_of k now ≡ suc (finds_of k before) = ap (finds_of k) is ∙ ap (λ b. cond b (suc (finds_of k before)) (finds_of k before)) (eq-eqb k k refl) in
    omega (arith, e)

-- or as often
pub found_same : (now before : List Find) → now ≡ before → (k : ℕ) → finds_of k before ≤ finds_of k now
found_same now before is k = let e = ap (finds_of k) is in omega (arith, e)

pub found_wider : (k : ℕ) (a b d f : List Find) (X : Type 0) → finds_of k a ≤ finds_of k b → finds_of k d ≤ finds_of k f → X ⊎ FoundHeld k b d → X ⊎ FoundHeld k a f
found_wider k a b d f X lo hi (inl x) = inl x
found_wider k a b d f X lo hi (inr h) = inr (omega (arith, lo, hi, h))

get_behind : {X : Type 0} (xs ys : List X) (i : ℕ) (x : X) → slice_get ys i ≡ Some x → slice_get (xs ++ ys) (length xs + i) ≡ Some x
get_behind [] ys i x at = let e : 0 + i ≡ i = omega arith in rw e at
get_behind (y ∷ xs) ys i x at = let e : suc (length xs) + i ≡ suc (length xs + i) = omega arith in rw e (get_behind xs ys i x at)

module _ {R E : Type 0} where
  pub given_behind : (k : ℕ) (xs ys : List (Hand R E)) → GivenBack k ys → GivenBack k (xs ++ ys)
  given_behind k xs ys g = (length xs + g.0, g.1, get_behind xs ys g.0 g.1 g.2, g.3)

  -- the own box was tried, and what else was given back is another box
  pub own_tried : (k : ℕ) (a b d f : List Find) (xs ys : List (Hand R E)) → finds_of k a ≤ finds_of k b → finds_of k d ≤ finds_of k f → FoundHeld k b d ⊎ GivenBack k ys → FoundHeld k a f ⊎ GivenBack k (xs ++ ys)
  own_tried k a b d f xs ys lo hi (inl h) = inl (omega (arith, lo, hi, h))
  own_tried k a b d f xs ys lo hi (inr g) = inr (given_behind k xs ys g)

  pub own_empty_all : (k : ℕ) (xs ys : List (Hand R E)) → All (λ (h : Hand R E). h.slot ≢ k) xs → All (λ (h : Hand R E). h.slot ≡ k → h.parcels ≡ []) ys → All (λ (h : Hand R E). h.slot ≡ k → h.parcels ≡ []) (xs ++ ys)
  own_empty_all k xs ys none empty = All-append (λ (h : Hand R E). h.slot ≡ k → h.parcels ≡ []) xs ys (All-weaker (λ (h : Hand R E). h.slot ≢ k) (λ (h : Hand R E). h.slot ≡ k → h.parcels ≡ []) (λ h n e. absurd (n e)) xs none) empty

  -- of a view, only hands, finds and what was given back changed
  abbrev pub Kept : View R E → View R E → Type 0
  Kept v w = w ≡ record v { hands = w.hands; finds = w.finds; gave = w.gave }

  pub kept_any : (v w : View R E) (hs : List (Hand R E)) (fs : List Find) (gs : List (Hand R E)) → w ≡ record v { hands = hs; finds = fs; gave = gs } → Kept v w
  kept_any v w hs fs gs e = e ∙ (λ i. record v { hands = (sym (ap (λ (z : View R E). z.hands) e)) i; finds = (sym (ap (λ (z : View R E). z.finds) e)) i; gave = (sym (ap (λ (z : View R E). z.gave) e)) i })

  pub kept_then : (u v w : View R E) → Kept u v → Kept v w → Kept u w
  kept_then u v w one two = two ∙ ap (λ (z : View R E). record z { hands = w.hands; finds = w.finds; gave = w.gave }) one

  -- what was handled was counted in between
  pub kept_counted : (u v x w : View R E) (hs : List (Hand R E)) (n : ℕ) → Kept u v → x ≡ record v { hands = hs; handled = v.handled + n } → Kept x w → w ≡ record u { handled = u.handled + n; hands = w.hands; finds = w.finds; gave = w.gave }
  kept_counted u v x w hs n before counted after = after
      ∙ (ap (λ (z : View R E). record z { hands = w.hands; finds = w.finds; gave = w.gave }) counted
      ∙ ap (λ (z : View R E). record z { handled = z.handled + n; hands = w.hands; finds = w.finds; gave = w.gave }) before)

all_at : (P : ℕ → Type 0) (xs : List ℕ) (i x : ℕ) → All P xs → slice_get xs i ≡ Some x → P x
all_at P [] i x all at = absurd (none-some x at)
all_at P (y ∷ ys) zero x all at = subst P (same_Some y x at) (All-head P y ys all)
all_at P (y ∷ ys) (suc i) x all at = all_at P ys i x (All-tail P y ys all) at

module _ {M : Type 0} where
  pub all_pool : (P : Envelope M → Type 0) (mail : List (List (Envelope M))) → ((t : ℕ) (es : List (Envelope M)) → slice_get mail t ≡ Some es → All P es) → All P (pool mail)
  all_pool P [] each = All-nil P
  all_pool P (es ∷ mail) each = All-append P es (pool mail) (each 0 es refl) (all_pool P mail (λ t fs at. each (suc t) fs at))

  -- what is left goes out to shards whose boxes were found held
  pub outgoing : (owners : List ℕ) (shards s : ℕ) (mail : List (List (Envelope M))) (f0 f1 : List Find) → Sorted owners mail → All (λ o. o < shards) owners → slice_get mail s ≡ Some [] → ((t : ℕ) (es : List (Envelope M)) → t < shards → t ≢ s → slice_get mail t ≡ Some es → (es ≡ []) ⊎ FoundHeld (shards + t) f0 f1)
      → All (λ (e : Envelope M). (t : ℕ) × IsFor owners t e × FoundHeld (shards + t) f0 f1) (pool mail)
  outgoing owners shards s mail f0 f1 sorted owned none gone = all_pool Goes mail each
    where
      Goes : Envelope M → Type 0
      Goes e = (t : ℕ) × IsFor owners t e × FoundHeld (shards + t) f0 f1

      far : (t : ℕ) (es : List (Envelope M)) → slice_get mail t ≡ Some es → (t < shards → ⊥) → All Goes es
      far t es at n = All-weaker (λ (e : Envelope M). IsFor owners t e) Goes (λ e for. absurd (n (all_at (λ o. o < shards) owners e.to t owned for))) es (sorted t es at)

      near : (t : ℕ) (es : List (Envelope M)) → slice_get mail t ≡ Some es → (es ≡ []) ⊎ FoundHeld (shards + t) f0 f1 → All Goes es
      near t es at (inl e) = subst (All Goes) (sym e) (All-nil Goes)
      near t es at (inr h) = All-weaker (λ (e : Envelope M). IsFor owners t e) Goes (λ e for. (t, for, h)) es (sorted t es at)

      each : (t : ℕ) (es : List (Envelope M)) → slice_get mail t ≡ Some es → All Goes es
      each t es at = elim (cases_eq t s) [
        | inl e ↦ subst (All Goes) (same_Some [] es (sym none ∙ subst (λ k. slice_get mail k ≡ Some es) e at)) (All-nil Goes)
        | inr n ↦ elim (cases_order t shards) [
          | inl e ↦ far t es at (λ lt. absurd (omega (arith, e, lt)))
          | inr (inl lt) ↦ near t es at (gone t es lt n at)
          | inr (inr gt) ↦ far t es at (λ lt. absurd (omega (arith, gt, lt)))
        ]
      ]
