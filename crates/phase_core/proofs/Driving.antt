-- What `drive` does to its cells and its flight, as events of the core machine.
use Rattle.std.proofs.Common.{◌≡◌, ℕ, ◌+◌, ◌≤◌, List, [], ◌∷◌, ◌++◌, length, refl, ap, sym, ◌∙◌, subst, arith, replicate}
use Rattle.std.proofs.lemmas.List.{replicate_more, length-replicate}
use Rattle.phase_core.specs.declared.envelope.Envelope.{Envelope}
use Rattle.phase_core.specs.Machine.{Reaction, CoreState, Event, Handle, Handles, Delivers, RunsPlainly, start_flight, start_state}
use Rattle.phase_core.specs.PhaseLaws.{KeepsParts}
use Rattle.phase_core.specs.Lemmas.Starts.{start_flight-more}
use Rattle.phase_core.proofs.Events.{Laws, same_state}
use Rattle.phase_core.proofs.Deliveries.{Delivers-append, Delivers-holds, Delivers-weight, Delivers-same, Delivers-flight}

-- one more start message
pub pushed : {M : Type 0} (start : ℕ → M) (to : ℕ) (msg : M) (before after : List (Envelope M)) → before ≡ start_flight start to → after ≡ before ++ (record { to = to; msg = msg }) ∷ [] → msg ≡ start to → after ≡ start_flight start (to + 1)
pushed {M} start to msg before after b a m =
    let last : M → List (Envelope M) = λ x. before ++ (record { to = to; msg = x }) ∷ [] in
    let full : List (Envelope M) → List (Envelope M) = λ xs. xs ++ (record { to = to; msg = start to }) ∷ [] in
    a ∙ (ap last m ∙ (ap full b ∙ sym (start_flight-more start to)))

-- an invariant at an equal problem and an equal flight
pub valid_at : {Q C M : Type 0} (holds : Q → List C → List (Envelope M) → Type 0) (p q : Q) (cells : List C) (flight other : List (Envelope M)) → q ≡ p → flight ≡ other → holds p cells flight → holds q cells other
valid_at {Q} {C} {M} holds p q cells flight other same is valid =
    let there : holds p cells other = subst (λ (xs : List (Envelope M)). holds p cells xs) is valid in
    subst (λ (x : Q). holds x cells other) (sym same) there

-- an event at an equal problem and an equal flight
pub Handles-at : {Q C M : Type 0} (react : Q → ℕ → C → M → Reaction C M) (p q : Q) (cells : List C) (flight other : List (Envelope M)) (t : CoreState C M) → q ≡ p → flight ≡ other → Handles (react q) (record { cells = cells; flight = other }) 0 t → Handles (react p) (record { cells = cells; flight = flight }) 0 t
Handles-at {Q} {C} {M} react p q cells flight other t same is h =
    let there : Handles (react p) (record { cells = cells; flight = other }) 0 t = subst (λ (x : Q). Handles (react x) (record { cells = cells; flight = other }) 0 t) same h in
    subst (λ (xs : List (Envelope M)). Handles (react p) (record { cells = cells; flight = xs }) 0 t) (sym is) there

-- one more event of the plain run
pub plain_more : {C M : Type 0} (react : ℕ → C → M → Reaction C M) (n : ℕ) (s t u : CoreState C M) → Delivers react s (replicate n (Handle 0)) t → Handles react t 0 u → Delivers react s (replicate (n + 1) (Handle 0)) u
plain_more {C} {M} react n s t u r h =
    subst (λ (events : List Event). Delivers react s events u) (replicate_more n (Handle 0)) (Delivers-append react (replicate n (Handle 0)) (Handle 0 ∷ []) s t u r (u, h, refl))

-- the state at which the start messages are in flight
pub begun : {C M : Type 0} (start : ℕ → M) (cells : List C) (flight : List (Envelope M)) (count : ℕ) → flight ≡ start_flight start count → count ≡ length cells → start_state start cells ≡ record { cells = cells; flight = flight }
begun {C} {M} start cells flight count is all =
    same_state (start_state start cells) (record { cells = cells; flight = flight }) refl (sym (is ∙ ap (λ n. start_flight start n) all))

-- where the plain run has come after n events from a start of this weight
pub record Reached {Q C M : Type 0} (holds : List C → List (Envelope M) → Type 0) (weight : List C → List (Envelope M) → ℕ) (problem : List C → Q) (p : Q) (start : ℕ) (n : ℕ) (cells : List C) (flight : List (Envelope M)) : Type 0 where
  pub valid : holds cells flight
  pub light : n + weight cells flight ≤ start
  pub same : problem cells ≡ p

pub reached : {Q C M : Type 0} {react : ℕ → C → M → Reaction C M} {holds : List C → List (Envelope M) → Type 0} {weight : List C → List (Envelope M) → ℕ} → Laws react holds weight → (problem : List C → Q) → KeepsParts react problem → (start n : ℕ) (s : CoreState C M) (cells : List C) (flight : List (Envelope M)) → holds s.cells s.flight → weight s.cells s.flight ≡ start → Delivers react s (replicate n (Handle 0)) (record { cells = cells; flight = flight }) → Reached holds weight problem (problem s.cells) start n cells flight
reached {Q} {C} {M} {react} {holds} {weight} laws problem stays start n s cells flight valid is r =
    let t : CoreState C M = record { cells = cells; flight = flight } in
    let events : List Event = replicate n (Handle 0) in
    let bound : length events + weight cells flight ≤ weight s.cells s.flight = Delivers-weight laws events s t valid r in
    let count : length events ≡ n = length-replicate n (Handle 0) in
    record { valid = Delivers-holds laws events s t valid r; light = omega (arith, bound, count, is); same = Delivers-same react problem stays events s t r }

-- the plain run that has come to an empty flight
pub plain_end : {C M : Type 0} (react : ℕ → C → M → Reaction C M) (n count : ℕ) (s : CoreState C M) (cells last : List C) (flight : List (Envelope M)) → Delivers react s (replicate n (Handle 0)) (record { cells = cells; flight = flight }) → flight ≡ [] → count ≡ n → last ≡ cells → RunsPlainly react s count (record { cells = last; flight = [] })
plain_end {C} {M} react n count s cells last flight r none same is =
    let end : CoreState C M = record { cells = last; flight = [] } in
    let there : end ≡ record { cells = cells; flight = flight } = same_state end (record { cells = cells; flight = flight }) is (sym none) in
    let here : Delivers react s (replicate n (Handle 0)) end = subst (λ (t : CoreState C M). Delivers react s (replicate n (Handle 0)) t) (sym there) r in
    record { runs = subst (λ m. Delivers react s (replicate m (Handle 0)) end) (sym same) here; quiet = refl }

-- the plain run to an empty flight is no shorter than the flight that it began with
pub plain_least : {C M : Type 0} (react : ℕ → C → M → Reaction C M) (n count : ℕ) (s t : CoreState C M) → Delivers react s (replicate n (Handle 0)) t → t.flight ≡ [] → count ≡ n → length s.flight ≤ count
plain_least {C} {M} react n count s t r none same =
    let events : List Event = replicate n (Handle 0) in
    let least : length s.flight ≤ length events + length t.flight = Delivers-flight react events s t r in
    let many : length events ≡ n = length-replicate n (Handle 0) in
    let empty : length t.flight ≡ 0 = ap (λ (xs : List (Envelope M)). length xs) none in
    omega (arith, least, many, empty, same)
