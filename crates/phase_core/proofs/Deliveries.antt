-- Lists of events of the core machine, and the plain run.
use Rattle.std.proofs.Common.{◌≡◌, ℕ, suc, zero, ◌+◌, ◌<◌, ◌≤◌, List, [], ◌∷◌, ◌++◌, length, refl, ap, sym, ◌∙◌, subst, inl, inr, arith, length-append, replicate}
use Rattle.std.specs.Prelude.{Some, slice_get, remove}
use Rattle.std.proofs.lemmas.Option.{slice_get_cases, slice_get_within}
use Rattle.std.proofs.lemmas.List.{nil_from_length, length-set}
use Rattle.std.proofs.lemmas.List.Edits.{length-remove}
use Rattle.phase_core.specs.declared.envelope.Envelope.{Envelope}
use Rattle.phase_core.specs.Machine.{Reaction, CoreState, Event, Handle, Handles, Delivers, RunsPlainly}
use Rattle.phase_core.specs.PhaseLaws.{KeepsParts}
use Rattle.phase_core.proofs.Events.{Laws, Handles-once, Handles-holds, Handles-weight, Handles-next}

pub Delivers-append : {C M : Type 0} (react : ℕ → C → M → Reaction C M) (events more : List Event) (s t u : CoreState C M) → Delivers react s events t → Delivers react t more u → Delivers react s (events ++ more) u
Delivers-append {C} {M} react [] more s t u r k = subst (λ (x : CoreState C M). Delivers react x more u) (sym r) k
Delivers-append react (Handle i ∷ events) more s t u r k = (r.0, r.1, Delivers-append react events more r.0 t u r.2 k)

pub Delivers-holds : {C M : Type 0} {react : ℕ → C → M → Reaction C M} {holds : List C → List (Envelope M) → Type 0} {weight : List C → List (Envelope M) → ℕ} → Laws react holds weight → (events : List Event) (s t : CoreState C M) → holds s.cells s.flight → Delivers react s events t → holds t.cells t.flight
Delivers-holds {C} {M} {react} {holds} laws [] s t valid r = subst (λ (x : CoreState C M). holds x.cells x.flight) r valid
Delivers-holds laws (Handle i ∷ events) s t valid r = Delivers-holds laws events r.0 t (Handles-holds laws r.1 valid) r.2

pub Delivers-weight : {C M : Type 0} {react : ℕ → C → M → Reaction C M} {holds : List C → List (Envelope M) → Type 0} {weight : List C → List (Envelope M) → ℕ} → Laws react holds weight → (events : List Event) (s t : CoreState C M) → holds s.cells s.flight → Delivers react s events t → length events + weight t.cells t.flight ≤ weight s.cells s.flight
Delivers-weight {C} {M} {react} {holds} {weight} laws [] s t valid r =
    let same : weight s.cells s.flight ≡ weight t.cells t.flight = ap (λ (x : CoreState C M). weight x.cells x.flight) r in
    omega (arith, same)
Delivers-weight {C} {M} {react} {holds} {weight} laws (Handle i ∷ events) s t valid r =
    let lower : weight r.0.cells r.0.flight < weight s.cells s.flight = Handles-weight laws r.1 valid in
    let after : length events + weight t.cells t.flight ≤ weight r.0.cells r.0.flight = Delivers-weight laws events r.0 t (Handles-holds laws r.1 valid) r.2 in
    omega (arith, lower, after)

-- what no reaction changes of the cells stays over a run
pub Delivers-same : {C M Q : Type 0} (react : ℕ → C → M → Reaction C M) (part : List C → Q) → KeepsParts react part → (events : List Event) (s t : CoreState C M) → Delivers react s events t → part t.cells ≡ part s.cells
Delivers-same {C} {M} react part stays [] s t r = ap (λ (x : CoreState C M). part x.cells) (sym r)
Delivers-same react part stays (Handle i ∷ events) s t r =
    Delivers-same react part stays events r.0 t r.2 ∙ (ap part r.1.cells ∙ stays s.cells r.1.envelope.to r.1.cell r.1.envelope.msg r.1.stands)

-- from a quiet state there is no event
no_event : {C M : Type 0} {react : ℕ → C → M → Reaction C M} {s t : CoreState C M} {i : ℕ} → s.flight ≡ [] → Handles react s i t → ⊥
no_event {C} {M} {react} {s} {t} {i} quiet h =
    let none : slice_get {X = Envelope M} [] i ≡ Some h.envelope = subst (λ (xs : List (Envelope M)). slice_get xs i ≡ Some h.envelope) quiet h.taken in
    cc

-- there is one plain run
pub RunsPlainly-once : {C M : Type 0} {react : ℕ → C → M → Reaction C M} (m n : ℕ) (s t u : CoreState C M) → RunsPlainly react s m t → RunsPlainly react s n u → (m ≡ n) × (t ≡ u)
RunsPlainly-once zero zero s t u a b = (refl, sym a.runs ∙ b.runs)
RunsPlainly-once {C} {M} zero (suc n) s t u a b = absurd (no_event (ap (λ (x : CoreState C M). x.flight) a.runs ∙ a.quiet) b.runs.1)
RunsPlainly-once {C} {M} (suc m) zero s t u a b = absurd (no_event (ap (λ (x : CoreState C M). x.flight) b.runs ∙ b.quiet) a.runs.1)
RunsPlainly-once {C} {M} {react} (suc m) (suc n) s t u a b =
    let next : b.runs.0 ≡ a.runs.0 = Handles-once b.runs.1 a.runs.1 in
    let moved : Delivers react a.runs.0 (replicate n (Handle 0)) u = subst (λ (x : CoreState C M). Delivers react x (replicate n (Handle 0)) u) next b.runs.2 in
    let rest = RunsPlainly-once m n a.runs.0 t u (record { runs = a.runs.2; quiet = a.quiet }) (record { runs = moved; quiet = b.quiet }) in
    (ap suc rest.0, rest.1)

-- the plain run goes on to quiet, in no more events than the weight
pub RunsPlainly-reached : {C M : Type 0} {react : ℕ → C → M → Reaction C M} {holds : List C → List (Envelope M) → Type 0} {weight : List C → List (Envelope M) → ℕ} → Laws react holds weight → (w : ℕ) (s : CoreState C M) → holds s.cells s.flight → weight s.cells s.flight ≤ w → (count : ℕ) × (t : CoreState C M) × RunsPlainly react s count t × (count ≤ weight s.cells s.flight)
RunsPlainly-reached laws zero s valid bound =
    elim (slice_get_cases s.flight 0).1 [
      | inl e ↦
          let next = Handles-next laws s 0 valid e.1 in
          absurd (omega (arith, Handles-weight laws next.1 valid))
      | inr past ↦ (0, s, record { runs = refl; quiet = nil_from_length s.flight (omega (arith, past.0)) }, omega arith)
    ]
RunsPlainly-reached {C} {M} {react} {holds} {weight} laws (suc w) s valid bound =
    elim (slice_get_cases s.flight 0).1 [
      | inl e ↦
          let next = Handles-next laws s 0 valid e.1 in
          let lower : weight next.0.cells next.0.flight < weight s.cells s.flight = Handles-weight laws next.1 valid in
          let rest = RunsPlainly-reached laws w next.0 (Handles-holds laws next.1 valid) (omega arith) in
          let few : rest.0 ≤ weight next.0.cells next.0.flight = rest.3 in
          (suc rest.0, rest.1, record { runs = (next.0, next.1, rest.2.runs); quiet = rest.2.quiet }, omega arith)
      | inr past ↦ (0, s, record { runs = refl; quiet = nil_from_length s.flight (omega (arith, past.0)) }, omega arith)
    ]

-- each envelope in flight is handled once at least, so it weighs something
pub flight_within : {C M : Type 0} {react : ℕ → C → M → Reaction C M} {holds : List C → List (Envelope M) → Type 0} {weight : List C → List (Envelope M) → ℕ} → Laws react holds weight → (w : ℕ) (s : CoreState C M) → holds s.cells s.flight → weight s.cells s.flight ≤ w → length s.flight ≤ weight s.cells s.flight
flight_within laws zero s valid bound =
    elim (slice_get_cases s.flight 0).1 [
      | inl e ↦ absurd (omega (arith, Handles-weight laws (Handles-next laws s 0 valid e.1).1 valid))
      | inr past ↦ omega (arith, past.0)
    ]
flight_within {C} {M} {react} {holds} {weight} laws (suc w) s valid bound =
    elim (slice_get_cases s.flight 0).1 [
      | inl e ↦
          let next = Handles-next laws s 0 valid e.1 in
          let r = react next.1.envelope.to next.1.cell next.1.envelope.msg in
          let lower : weight next.0.cells next.0.flight < weight s.cells s.flight = Handles-weight laws next.1 valid in
          let rest : length next.0.flight ≤ weight next.0.cells next.0.flight = flight_within laws w next.0 (Handles-holds laws next.1 valid) (omega arith) in
          let sent : length next.0.flight ≡ length (remove s.flight 0) + length r.sent = ap length next.1.flight ∙ length-append (remove s.flight 0) r.sent in
          omega (arith, e.1, lower, rest, sent, length-remove s.flight 0 e.1)
      | inr past ↦ omega (arith, past.0)
    ]

-- the cells stay as many as they are
pub Delivers-places : {C M : Type 0} (react : ℕ → C → M → Reaction C M) (events : List Event) (s t : CoreState C M) → Delivers react s events t → length t.cells ≡ length s.cells
Delivers-places {C} react events s t r =
    let stays : KeepsParts react (λ (cells : List C). length cells) = λ cells at cell msg here. length-set cells at (react at cell msg).cell in
    Delivers-same react (λ (cells : List C). length cells) stays events s t r

-- an event takes one envelope out of the flight, so no run ends sooner
pub Delivers-flight : {C M : Type 0} (react : ℕ → C → M → Reaction C M) (events : List Event) (s t : CoreState C M) → Delivers react s events t → length s.flight ≤ length events + length t.flight
Delivers-flight {C} {M} react [] s t r =
    let same : length s.flight ≡ length t.flight = ap (λ (x : CoreState C M). length x.flight) r in
    omega (arith, same)
Delivers-flight {C} {M} react (Handle i ∷ events) s t r =
    let h = r.1 in
    let sent = (react h.envelope.to h.cell h.envelope.msg).sent in
    let after : length r.0.flight ≡ length (remove s.flight i) + length sent = ap length h.flight ∙ length-append (remove s.flight i) sent in
    let one : length (remove s.flight i) + 1 ≡ length s.flight = length-remove s.flight i (slice_get_within s.flight i h.envelope h.taken) in
    let rest : length r.0.flight ≤ length events + length t.flight = Delivers-flight react events r.0 t r.2 in
    omega (arith, after, one, rest)
