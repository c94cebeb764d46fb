-- What a post's contents are where nothing is in flight any more.
use Rattle.std.specs.Prelude.{◌≡◌, ◌≤◌, ℕ, List, [], length}
use Rattle.phase_core.specs.declared.envelope.Envelope.{Envelope}
use Rattle.post_office.specs.declared.plain.Part.{Part}
use Rattle.post_office.specs.Posts.{IsLegal}

module _ {P Q C M : Type 0} (problem : P → List C → Q) (holds : Q → List C → List (Envelope M) → Type 0) (weight : Q → List C → List (Envelope M) → ℕ) (bound : Q → ℕ) where
  -- they are legal with no envelope, and of this phase, these owners and the problem of these first cells
  pub record AtRest (phase : P) (first : List C) (owners : List ℕ) (rests : List (Part P Q C)) (handled : ℕ) : Type 0 where
    pub legal : IsLegal problem holds weight bound rests [] handled
    pub of_phase : legal.phase ≡ phase
    pub of_owners : legal.owners ≡ owners
    pub of_problem : problem legal.phase legal.cells ≡ problem phase first

module _ {P Q C M : Type 0} (problem : P → List C → Q) (holds : Q → List C → List (Envelope M) → Type 0) (bound : Q → ℕ) where
  -- these are the cells at rest, after so many envelopes were handled
  pub record Settles (phase : P) (first : List C) (owners : List ℕ) (cells : List C) (handled : ℕ) : Type 0 where
    pub same_problem : problem phase cells ≡ problem phase first
    pub holding : holds (problem phase cells) cells []
    pub bounded : handled ≤ bound (problem phase cells)
    pub count : length cells ≡ length owners
    pub handles_each : length cells ≤ handled
