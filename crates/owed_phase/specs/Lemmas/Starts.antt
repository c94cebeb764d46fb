-- Starts: a position has one among all messages, and a cell has started where it was handled.
use Rattle.std.proofs.Common.{◌≡◌, ℕ, zero, suc, ◌+◌, ◌*◌, ◌<◌, ◌≤◌, Bool, true, false, cond, List, [], ◌∷◌, ◌++◌, length, refl, sym, ap, ◌∙◌, subst, arith, inl, inr}
use Rattle.std.specs.Prelude.{All, Contains, sum_by, ◌==◌}
use Rattle.std.proofs.lemmas.Bool.{cases_eq, cases_Bool, eq-eqb, ne_eqb}
use Rattle.std.proofs.lemmas.List.Elements.{All-append, All-nil, All-weaker, Contains-append_left, Contains-push}
use Rattle.std.proofs.lemmas.List.Sums.{sum_by_push, sum_by-append, sum_by-cons, sum_by-le}
use Rattle.phase_core.specs.declared.envelope.Envelope.{Envelope}
use Rattle.phase_core.specs.Machine.{start_flight}
use Rattle.phase_core.specs.Lemmas.Starts.{start_flight-suc}
use Rattle.phase_core.specs.Lemmas.Lookups.{Contains-cons_cases}
use Rattle.owed_phase.specs.Plans.{Plan, owed_from, inbox, after, all_of, IsPlan}
use Rattle.owed_phase.specs.States.{start_to}
use Rattle.owed_phase.specs.Lemmas.Inboxes.{inbox-here, inbox-other}

pub has_start_of : {M : Type 0} (start : ℕ → M) (n i : ℕ) → i < n → Contains (start_flight start n) (record { to = i; msg = start i })
has_start_of start zero i h = absurd (omega arith)
has_start_of {M} start (suc n) i h =
    let last : Envelope M = record { to = n; msg = start n } in
    let one : Envelope M = record { to = i; msg = start i } in
    subst (λ (l : List (Envelope M)). Contains l one) (sym (start_flight-suc start n)) (elim (cases_eq i n) [
      | inl is ↦
          let same : last ≡ one = ap (λ (k : ℕ). record { to = k; msg = start k }) (sym is) in
          subst (λ (x : Envelope M). Contains (start_flight start n ++ last ∷ []) x) same (Contains-push (start_flight start n) last)
      | inr other ↦ Contains-append_left (start_flight start n) (last ∷ []) one (has_start_of start n i (omega arith))
    ])

module _ {K C M : Type 0} (plan : Plan K C M) (parts : List K) where
  pub start_to-pieces : (i : ℕ) (es : List (Envelope M)) → All (λ e. plan.is_start e.msg ≡ false) es → sum_by (start_to plan i) es ≡ 0
  start_to-pieces i es all =
      let none : (e : Envelope M) → plan.is_start e.msg ≡ false → start_to plan i e ≤ 0 = λ e h. none_here i e h in
      let bound : sum_by (start_to plan i) es ≤ length es * 0 = sum_by-le (start_to plan i) 0 es (All-weaker (λ e. plan.is_start e.msg ≡ false) (λ e. start_to plan i e ≤ 0) none es all) in
      omega (arith, bound)
    where
      none_here : (i : ℕ) (e : Envelope M) → plan.is_start e.msg ≡ false → start_to plan i e ≤ 0
      none_here i e h = elim (cases_eq e.to i) [
        | inl is ↦ let s : start_to plan i e ≡ 0 = ap (λ (b : Bool). cond (e.to == i) (cond b 1 0) 0) h ∙ ap (λ (b : Bool). cond b 0 0) (eq-eqb e.to i is) in omega (arith, s)
        | inr n ↦ let s : start_to plan i e ≡ 0 = ap (λ (b : Bool). cond b (cond (plan.is_start e.msg) 1 0) 0) (ne_eqb e.to i n) in omega (arith, s)
      ]

  pub start_to-other : (i : ℕ) (e : Envelope M) → (e.to ≡ i → ⊥) → start_to plan i e ≡ 0
  start_to-other i e n = ap (λ (b : Bool). cond b (cond (plan.is_start e.msg) 1 0) 0) (ne_eqb e.to i n)

  pub start_to-here : (i : ℕ) (e : Envelope M) → e.to ≡ i → plan.is_start e.msg ≡ true → start_to plan i e ≡ 1
  start_to-here i e at is = ap (λ (b : Bool). cond b (cond (plan.is_start e.msg) 1 0) 0) (eq-eqb e.to i at) ∙ ap (λ (b : Bool). cond b 1 0) is

  start_to-one : (i : ℕ) (e : Envelope M) → start_to plan i e ≤ 1
  start_to-one i e = elim (cases_Bool (e.to == i)) [
    | inl a ↦ elim (cases_Bool (plan.is_start e.msg)) [
      | inl b ↦ let s : start_to plan i e ≡ 1 = ap (λ (t : Bool). cond t (cond (plan.is_start e.msg) 1 0) 0) a ∙ ap (λ (t : Bool). cond t 1 0) b in omega (arith, s)
      | inr b ↦ let s : start_to plan i e ≡ 0 = ap (λ (t : Bool). cond t (cond (plan.is_start e.msg) 1 0) 0) a ∙ ap (λ (t : Bool). cond t 1 0) b in omega (arith, s)
    ]
    | inr a ↦ let s : start_to plan i e ≡ 0 = ap (λ (t : Bool). cond t (cond (plan.is_start e.msg) 1 0) 0) a in omega (arith, s)
  ]

  -- the start messages hold at most one to each position
  starts_above : (n i : ℕ) → n ≤ i → sum_by (start_to plan i) (start_flight plan.start n) ≡ 0
  starts_above zero i h = refl
  starts_above (suc n) i h =
      let last : Envelope M = record { to = n; msg = plan.start n } in
      let full : sum_by (start_to plan i) (start_flight plan.start (suc n)) ≡ sum_by (start_to plan i) (start_flight plan.start n) + start_to plan i last =
      ap (sum_by (start_to plan i)) (start_flight-suc plan.start n) ∙ sum_by_push (start_to plan i) (start_flight plan.start n) last in
      let none : start_to plan i last ≡ 0 = start_to-other i last (λ (e : n ≡ i). omega arith) in
      let before : sum_by (start_to plan i) (start_flight plan.start n) ≡ 0 = starts_above n i (omega arith) in
      full ∙ omega (arith, none, before)

  starts_once : (n i : ℕ) → sum_by (start_to plan i) (start_flight plan.start n) ≤ 1
  starts_once zero i = omega arith
  starts_once (suc n) i =
      let last : Envelope M = record { to = n; msg = plan.start n } in
      let full : sum_by (start_to plan i) (start_flight plan.start (suc n)) ≡ sum_by (start_to plan i) (start_flight plan.start n) + start_to plan i last =
      ap (sum_by (start_to plan i)) (start_flight-suc plan.start n) ∙ sum_by_push (start_to plan i) (start_flight plan.start n) last in
      elim (cases_eq n i) [
        | inl is ↦ let before : sum_by (start_to plan i) (start_flight plan.start n) ≡ 0 = starts_above n i (omega arith) in omega (arith, full, before, start_to-one i last)
        | inr other ↦ let none : start_to plan i last ≡ 0 = start_to-other i last other in omega (arith, full, none, starts_once n i)
      ]

  module _ (is : IsPlan plan parts) where
    pub owed-pieces : (k : ℕ) (cells : List C) → All (λ e. plan.is_start e.msg ≡ false) (owed_from plan.owed k cells)
    owed-pieces k [] = All-nil (λ e. plan.is_start e.msg ≡ false)
    owed-pieces k (c ∷ cells) = All-append (λ e. plan.is_start e.msg ≡ false) (plan.owed k c) (owed_from plan.owed (suc k) cells) (is.pieces k c) (owed-pieces (suc k) cells)

    pub told-pieces : (k : ℕ) (ks : List K) → All (λ e. plan.is_start e.msg ≡ false) (owed_from plan.tells k ks)
    told-pieces k [] = All-nil (λ e. plan.is_start e.msg ≡ false)
    told-pieces k (a ∷ ks) = All-append (λ e. plan.is_start e.msg ≡ false) (plan.tells k a) (owed_from plan.tells (suc k) ks) (is.pieces_told k a) (told-pieces (suc k) ks)

    pub one_start : (i : ℕ) → sum_by (start_to plan i) (all_of plan parts) ≤ 1
    one_start i =
        let owed = owed_from plan.tells 0 parts in
        let starts = start_flight plan.start (length parts) in
        let full : sum_by (start_to plan i) (owed ++ starts) ≡ sum_by (start_to plan i) owed + sum_by (start_to plan i) starts = sum_by-append (start_to plan i) owed starts in
        let none : sum_by (start_to plan i) owed ≡ 0 = start_to-pieces i owed (told-pieces 0 parts) in
        omega (arith, full, none, starts_once (length parts) i)

    -- a cell at which no start was handled hasn't started
    pub unstarted : (i : ℕ) (k : C) → plan.Fresh k → (handled : List (Envelope M)) → sum_by (start_to plan i) handled ≡ 0 → plan.started (after plan.react i k (inbox i handled)) ≡ false
    unstarted i k fresh [] none = is.fresh k fresh
    unstarted i k fresh (e ∷ handled) none =
        let full : sum_by (start_to plan i) (e ∷ handled) ≡ start_to plan i e + sum_by (start_to plan i) handled = sum_by-cons (start_to plan i) e handled in
        let before = unstarted i k fresh handled (omega (arith, full, none)) in
        elim (cases_eq e.to i) [
          | inl at ↦ elim (cases_Bool (plan.is_start e.msg)) [
            | inl yes' ↦ absurd (omega (arith, full, none, start_to-here i e at yes'))
            | inr no' ↦ subst (λ (l : List M). plan.started (after plan.react i k l) ≡ false) (sym (inbox-here i e handled at)) (is.staying i (after plan.react i k (inbox i handled)) e.msg no' ∙ before)
          ]
          | inr other ↦ subst (λ (l : List M). plan.started (after plan.react i k l) ≡ false) (sym (inbox-other i e handled other)) before
        ]

    stays_started : (i : ℕ) (c : C) (m : M) → plan.started c ≡ true → plan.started (plan.react i c m).cell ≡ true
    stays_started i c m h = elim (cases_Bool (plan.is_start m)) [
      | inl s ↦ is.starting i c m s
      | inr s ↦ is.staying i c m s ∙ h
    ]

    -- and one at which a start was handled has
    pub has_started : (i : ℕ) (k : C) (handled : List (Envelope M)) (m : M) → Contains (inbox i handled) m → plan.is_start m ≡ true → plan.started (after plan.react i k (inbox i handled)) ≡ true
    has_started i k handled m h s = go (inbox i handled) h
      where
        go : (done : List M) → Contains done m → plan.started (after plan.react i k done) ≡ true
        go [] h = absurd (omega (arith, h.1))
        go (d ∷ done) h = elim (Contains-cons_cases d done m h) [
          | inl same ↦ is.starting i (after plan.react i k done) d (ap plan.is_start same ∙ s)
          | inr later ↦ stays_started i (after plan.react i k done) d (go done later)
        ]

    one_at_least : (n i : ℕ) → i < n → 1 ≤ sum_by (start_to plan i) (start_flight plan.start n)
    one_at_least zero i h = absurd (omega arith)
    one_at_least (suc n) i h =
        let last : Envelope M = record { to = n; msg = plan.start n } in
        let full : sum_by (start_to plan i) (start_flight plan.start (suc n)) ≡ sum_by (start_to plan i) (start_flight plan.start n) + start_to plan i last =
        ap (sum_by (start_to plan i)) (start_flight-suc plan.start n) ∙ sum_by_push (start_to plan i) (start_flight plan.start n) last in
        elim (cases_eq n i) [
          | inl at ↦ let one : start_to plan i last ≡ 1 = start_to-here i last at (is.starts n) in omega (arith, full, one)
          | inr other ↦ let before = one_at_least n i (omega arith) in omega (arith, full, before)
        ]

    -- each position has exactly one start among all messages
    pub exactly_one_start : (i : ℕ) → i < length parts → sum_by (start_to plan i) (all_of plan parts) ≡ 1
    exactly_one_start i within =
        let owed = owed_from plan.tells 0 parts in
        let starts = start_flight plan.start (length parts) in
        let full : sum_by (start_to plan i) (owed ++ starts) ≡ sum_by (start_to plan i) owed + sum_by (start_to plan i) starts = sum_by-append (start_to plan i) owed starts in
        omega (arith, full, one_start i, one_at_least (length parts) i within)

    -- a cell to which a start was handled has started
    pub started_by : (i : ℕ) (k : C) (handled : List (Envelope M)) → 0 < sum_by (start_to plan i) handled → plan.started (after plan.react i k (inbox i handled)) ≡ true
    started_by i k [] some = absurd (omega (arith, some))
    started_by i k (e ∷ handled) some =
        let full : sum_by (start_to plan i) (e ∷ handled) ≡ start_to plan i e + sum_by (start_to plan i) handled = sum_by-cons (start_to plan i) e handled in
        elim (cases_eq e.to i) [
          | inl at ↦ subst (λ (l : List M). plan.started (after plan.react i k l) ≡ true) (sym (inbox-here i e handled at)) (elim (cases_Bool (plan.is_start e.msg)) [
            | inl s ↦ is.starting i (after plan.react i k (inbox i handled)) e.msg s
            | inr s ↦
                let none : start_to plan i e ≡ 0 = ap (λ (b : Bool). cond (e.to == i) (cond b 1 0) 0) s ∙ ap (λ (b : Bool). cond b 0 0) (eq-eqb e.to i at) in
                is.staying i (after plan.react i k (inbox i handled)) e.msg s ∙ started_by i k handled (omega (arith, some, full, none))
          ])
          | inr other ↦
              let none : start_to plan i e ≡ 0 = start_to-other i e other in
              subst (λ (l : List M). plan.started (after plan.react i k l) ≡ true) (sym (inbox-other i e handled other)) (started_by i k handled (omega (arith, some, full, none)))
        ]
