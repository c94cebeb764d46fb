-- The place one step from a finer place across a side, and the half of it that is a coarser place, along an axis over
-- plain numbers: k places of the coarser level stand along the axis.
use Rattle.std.proofs.Common.{◌≡◌, ℕ, ◌+◌, ◌-◌, ◌*◌, ◌/◌, ◌%◌, ◌<◌, ◌≤◌, ◌⊎◌, Bool, true, false, cond, refl, sym, ap, ◌∙◌, arith, inl, inr, ℤ, pos, negsuc}
use Rattle.std.proofs.lemmas.Bool.{cases_eq}
use Rattle.std.proofs.lemmas.Int.{ints}
use Rattle.block_index.specs.Axes.{IsNext}
use Rattle.grid_fluxes.specs.Axes.{next_coordinate, previous_coordinate}
use Rattle.grid_fluxes.proofs.Coordinates.{next_end, next_on, previous_end, previous_on}

-- the step from a finer place to a coarser one that it lies against, where it lies at the coarser one's end, or at its
-- beginning
abbrev pub step_back : Bool → ℤ
step_back true = negsuc 0
step_back false = pos 1

-- the coordinate beside a coordinate, at its end or at its beginning
abbrev pub beside_coordinate : Bool → Bool → ℕ → ℕ → ℕ
beside_coordinate true w m u = next_coordinate w m u
beside_coordinate false w m u = previous_coordinate w m u

-- ---- from the finer place

-- a step leads out of the half, or within it
pub data Leads (end w : Bool) (k a q : ℕ) : Type 0 where
  within : q / 2 ≡ a / 2 → Leads end w k a q
  out : a % 2 ≡ cond end 0 1 → a / 2 ≡ beside_coordinate end w (k * 1) (q / 2) → Leads end w k a q

down-odd : (w : Bool) (k a q : ℕ) → a < 2 * k → a % 2 ≡ 1 → IsNext (2 * k) w (negsuc 0) a q → q / 2 ≡ a / 2
down-odd w k a q inside odd step = elim step.at [
  | inl on ↦ omega (arith, ints, on, odd)
  | inr round ↦ elim (round.1) [
    | inl far ↦ absurd (let i = step.inside in omega (arith, ints, far, inside, i))
    | inr over ↦ absurd (let i = step.inside in omega (arith, ints, over, i, odd))
  ]
]

down-even : (w : Bool) (k a q : ℕ) → a < 2 * k → a % 2 ≡ 0 → IsNext (2 * k) w (negsuc 0) a q → a / 2 ≡ next_coordinate w (k * 1) (q / 2)
down-even w k a q inside even step = elim step.at [
  | inl on ↦
      let d : q / 2 + 1 ≡ a / 2 = omega (arith, ints, on, even) in
      let i = step.inside in
      sym (next_on w (k * 1) (q / 2) (λ z. omega (arith, z, d, even, inside)) ∙ d)
  | inr round ↦ elim (round.1) [
    | inl far ↦ absurd (let i = step.inside in omega (arith, ints, far, inside, i))
    | inr over ↦
        let i = step.inside in
        let none : a / 2 ≡ 0 = omega (arith, ints, over, i) in
        let d : q / 2 + 1 ≡ k * 1 = omega (arith, ints, over, i, none, even) in
        none ∙ sym (next_end w (k * 1) (q / 2) d ∙ ap (λ (t : Bool). cond {A = ℕ} t 0 (k * 1)) round.0)
  ]
]

up-even : (w : Bool) (k a q : ℕ) → a < 2 * k → a % 2 ≡ 0 → IsNext (2 * k) w (pos 1) a q → q / 2 ≡ a / 2
up-even w k a q inside even step = elim step.at [
  | inl on ↦ omega (arith, ints, on, even)
  | inr round ↦ elim (round.1) [
    | inl far ↦ absurd (let i = step.inside in omega (arith, ints, far, inside, i, even))
    | inr over ↦ absurd (let i = step.inside in omega (arith, ints, over, i))
  ]
]

up-odd : (w : Bool) (k a q : ℕ) → a < 2 * k → a % 2 ≡ 1 → IsNext (2 * k) w (pos 1) a q → a / 2 ≡ previous_coordinate w (k * 1) (q / 2)
up-odd w k a q inside odd step = elim step.at [
  | inl on ↦
      let d : q / 2 - 1 ≡ a / 2 = omega (arith, ints, on, odd) in
      let some : 1 ≤ q / 2 = omega (arith, ints, on, odd) in
      sym (previous_on w (k * 1) (q / 2) (λ z. omega (arith, z, some)) ∙ d)
  | inr round ↦ elim (round.1) [
    | inl far ↦
        let i = step.inside in
        let none : q / 2 ≡ 0 = omega (arith, ints, far, inside, i) in
        let d : k * 1 - 1 ≡ a / 2 = omega (arith, ints, far, inside, i, odd, none) in
        sym (previous_end w (k * 1) (q / 2) none ∙ (ap (λ (t : Bool). cond {A = ℕ} t (k * 1 - 1) (k * 1)) round.0 ∙ d))
    | inr over ↦ absurd (let i = step.inside in omega (arith, ints, over, i))
  ]
]

-- a coordinate is even or odd
pub parity : (a : ℕ) → (a % 2 ≡ 0) ⊎ (a % 2 ≡ 1)
parity a = elim (cases_eq (a % 2) 0) [ inl e ↦ inl e | inr n ↦ inr (omega (arith, n)) ]

pub step-leads : (end w : Bool) (k a q : ℕ) → a < 2 * k → IsNext (2 * k) w (step_back end) a q → Leads end w k a q
step-leads true w k a q inside step = elim (parity a) [
  | inl even ↦ out even (down-even w k a q inside even step)
  | inr odd ↦ within (down-odd w k a q inside odd step)
]
step-leads false w k a q inside step = elim (parity a) [
  | inl even ↦ within (up-even w k a q inside even step)
  | inr odd ↦ out odd (up-odd w k a q inside odd step)
]

-- ---- from the coarser place

down-round : (b : Bool) (k a c : ℕ) → a < 2 * k → c < k → c + 1 ≡ k * 1 → a % 2 ≡ 0 → a / 2 ≡ cond b 0 (k * 1) → IsNext (2 * k) b (negsuc 0) a (2 * c + 1)
down-round true k a c inside small end even is = record { inside = omega (arith, small); at = inr (refl, inr (omega (arith, ints, is, even, end))) }
down-round false k a c inside small end even is = absurd (omega (arith, is, inside))

down-to : (w : Bool) (k a c : ℕ) → a < 2 * k → c < k → a % 2 ≡ 0 → a / 2 ≡ next_coordinate w (k * 1) c → IsNext (2 * k) w (negsuc 0) a (2 * c + 1)
down-to w k a c inside small even is = elim (cases_eq (c + 1) (k * 1)) [
  | inl end ↦ down-round w k a c inside small end even (is ∙ next_end w (k * 1) c end)
  | inr on ↦
      let e : a / 2 ≡ c + 1 = is ∙ next_on w (k * 1) c on in
      record { inside = omega (arith, small); at = inl (omega (arith, ints, e, even)) }
]

up-round : (b : Bool) (k a c : ℕ) → a < 2 * k → c < k → c ≡ 0 → a % 2 ≡ 1 → a / 2 ≡ cond b (k * 1 - 1) (k * 1) → IsNext (2 * k) b (pos 1) a (2 * c)
up-round true k a c inside small begins odd is = record { inside = omega (arith, small); at = inr (refl, inl (omega (arith, ints, is, odd, begins, small))) }
up-round false k a c inside small begins odd is = absurd (omega (arith, is, inside))

up-to : (w : Bool) (k a c : ℕ) → a < 2 * k → c < k → a % 2 ≡ 1 → a / 2 ≡ previous_coordinate w (k * 1) c → IsNext (2 * k) w (pos 1) a (2 * c)
up-to w k a c inside small odd is = elim (cases_eq c 0) [
  | inl begins ↦ up-round w k a c inside small begins odd (is ∙ previous_end w (k * 1) c begins)
  | inr on ↦
      let e : a / 2 ≡ c - 1 = is ∙ previous_on w (k * 1) c on in
      record { inside = omega (arith, small); at = inl (omega (arith, ints, e, odd, on)) }
]

-- the finer place one step back lies in the coarser one
pub steps_into : (end w : Bool) (k a c : ℕ) → a < 2 * k → c < k → a % 2 ≡ cond end 0 1 → a / 2 ≡ beside_coordinate end w (k * 1) c → (q : ℕ) × IsNext (2 * k) w (step_back end) a q × (q / 2 ≡ c)
steps_into true w k a c inside small near is = (2 * c + 1, down-to w k a c inside small near is, (let e : (2 * c + 1) / 2 ≡ c = omega arith in e))
steps_into false w k a c inside small near is = (2 * c, up-to w k a c inside small near is, (let e : 2 * c / 2 ≡ c = omega arith in e))

-- ---- across the axis

pub stays : (n : ℕ) (w : Bool) (a : ℕ) → a < n → IsNext n w (pos 0) a a
stays n w a h = record { inside = h; at = inl (omega (arith, ints)) }
