-- The messages to one position, among some envelopes.
use Rattle.std.proofs.Common.{◌≡◌, ℕ, ◌+◌, cond, List, [], ◌∷◌, Some, refl, sym, ap, ◌∙◌, subst, arith, inl, inr}
use Rattle.std.specs.Prelude.{Contains, sum_by, ◌==◌}
use Rattle.std.proofs.lemmas.Bool.{cases_eq, eq-eqb, ne_eqb, cond-true, cond-false}
use Rattle.std.proofs.lemmas.List.Sums.{sum_by-cons}
use Rattle.phase_core.specs.declared.envelope.Envelope.{Envelope}
use Rattle.phase_core.specs.Lemmas.Lookups.{Contains-at, Contains-cons_cases}
use Rattle.owed_phase.specs.Plans.{inbox}
use Rattle.owed_phase.specs.Lemmas.Moves.{Contains-cons_more}

pub inbox-here : {M : Type 0} (i : ℕ) (e : Envelope M) (es : List (Envelope M)) → e.to ≡ i → inbox i (e ∷ es) ≡ e.msg ∷ inbox i es
inbox-here i e es h = cond-true (e.to == i) (e.msg ∷ inbox i es) (inbox i es) (eq-eqb e.to i h)

pub inbox-other : {M : Type 0} (i : ℕ) (e : Envelope M) (es : List (Envelope M)) → (e.to ≡ i → ⊥) → inbox i (e ∷ es) ≡ inbox i es
inbox-other i e es n = cond-false (e.to == i) (e.msg ∷ inbox i es) (inbox i es) (ne_eqb e.to i n)

pub inbox-has : {M : Type 0} (e : Envelope M) (es : List (Envelope M)) → Contains es e → Contains (inbox e.to es) e.msg
inbox-has e [] h = absurd (omega (arith, h.1))
inbox-has {M} e (x ∷ es) h = elim (Contains-cons_cases x es e h) [
  | inl same ↦
      let at : x.to ≡ e.to = ap (λ (y : Envelope M). y.to) same in
      let is : x.msg ≡ e.msg = ap (λ (y : Envelope M). y.msg) same in
      subst (λ (l : List M). Contains l e.msg) (sym (inbox-here e.to x es at)) (subst (λ (m : M). Contains (m ∷ inbox e.to es) e.msg) (sym is) (Contains-at (e.msg ∷ inbox e.to es) 0 e.msg refl))
  | inr later ↦ elim (cases_eq x.to e.to) [
    | inl at ↦ subst (λ (l : List M). Contains l e.msg) (sym (inbox-here e.to x es at)) (Contains-cons_more x.msg (inbox e.to es) e.msg (inbox-has e es later))
    | inr other ↦ subst (λ (l : List M). Contains l e.msg) (sym (inbox-other e.to x es other)) (inbox-has e es later)
  ]
]

pub inbox-of : {M : Type 0} (i : ℕ) (es : List (Envelope M)) (m : M) → Contains (inbox i es) m → Contains es (record { to = i; msg = m })
inbox-of i [] m h = absurd (omega (arith, h.1))
inbox-of {M} i (x ∷ es) m h = elim (cases_eq x.to i) [
  | inl at ↦
      let there : Contains (x.msg ∷ inbox i es) m = subst (λ (l : List M). Contains l m) (inbox-here i x es at) h in
      elim (Contains-cons_cases x.msg (inbox i es) m there) [
        | inl same ↦ Contains-at (x ∷ es) 0 (record { to = i; msg = m }) (let is : x ≡ record { to = i; msg = m } = ap (λ (t : ℕ). record { to = t; msg = x.msg }) at ∙ ap (λ (k : M). record { to = i; msg = k }) same in ap Some is)
        | inr later ↦ Contains-cons_more x es (record { to = i; msg = m }) (inbox-of i es m later)
      ]
  | inr other ↦ Contains-cons_more x es (record { to = i; msg = m }) (inbox-of i es m (subst (λ (l : List M). Contains l m) (inbox-other i x es other) h))
]

-- a sum over the messages to one position
pub sum-inbox : {M : Type 0} (f : M → ℕ) (i : ℕ) (es : List (Envelope M)) → sum_by f (inbox i es) ≡ sum_by (λ e. cond (e.to == i) (f e.msg) 0) es
sum-inbox f i [] = refl
sum-inbox {M} f i (e ∷ es) =
    let g : Envelope M → ℕ = λ x. cond (x.to == i) (f x.msg) 0 in
    let rest = sum-inbox f i es in
    let whole : sum_by g (e ∷ es) ≡ g e + sum_by g es = sum_by-cons g e es in
    elim (cases_eq e.to i) [
      | inl at ↦
          let one : g e ≡ f e.msg = cond-true (e.to == i) (f e.msg) 0 (eq-eqb e.to i at) in
          let part : sum_by f (inbox i (e ∷ es)) ≡ f e.msg + sum_by f (inbox i es) = ap (sum_by f) (inbox-here i e es at) ∙ sum_by-cons f e.msg (inbox i es) in
          omega (arith, rest, whole, one, part)
      | inr other ↦
          let none : g e ≡ 0 = cond-false (e.to == i) (f e.msg) 0 (ne_eqb e.to i other) in
          let part : sum_by f (inbox i (e ∷ es)) ≡ sum_by f (inbox i es) = ap (sum_by f) (inbox-other i e es other) in
          omega (arith, rest, whole, none, part)
    ]
