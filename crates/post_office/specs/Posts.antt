-- What the contents of a post's slots have to be, and what one count may settle.
use Rattle.std.specs.Prelude.{◌≡◌, ℕ, zero, suc, ◌+◌, ◌*◌, ◌<◌, ◌≤◌, List, [], ◌∷◌, ◌++◌, length, Option, Some, None, slice_get, slice_set, IsPermutation}
use Rattle.phase_core.specs.declared.envelope.Envelope.{Envelope}
use Rattle.phase_core.specs.Machine.{Reaction}
use Rattle.post_office.specs.declared.plain.Stood.{Stood}
use Rattle.post_office.specs.declared.plain.About.{About}
use Rattle.post_office.specs.declared.plain.Part.{Part}
use Rattle.post_office.specs.Shares.{IsFor, of_shard, rank}

module _ {P Q C : Type 0} where
  -- what a shard's cell tells of what all is about; a box tells nothing
  abbrev pub about_part : List ℕ → Option (Stood P Q C) → Option (About P Q) → Option (About P Q)
  about_part owners None others = others
  about_part owners (Some st) others = Some (record { phase = st.phase; problem = st.problem; owners = owners })

  -- what the contents are about, by the first that tells it
  abbrev pub about : List (Part P Q C) → Option (About P Q)
  about [] = None
  about (r ∷ rests) = about_part r.owners r.stood (about rests)

  -- the cell of shard k: the phase with its problem, and the cells that the shard owns
  pub record IsCell (phase : P) (problem : Q) (owners : List ℕ) (cells : List C) (k : ℕ) (r : Part P Q C) : Type 0 where
    pub stood : Stood P Q C
    pub is : r.stood ≡ Some stood
    pub of_phase : stood.phase ≡ phase
    pub of_problem : stood.problem ≡ problem
    pub its_cells : stood.cells ≡ of_shard owners k cells
    pub its_owners : r.owners ≡ owners
    pub its_shard : r.shard ≡ k

  -- the box of shard k
  pub record IsBox (owners : List ℕ) (k : ℕ) (r : Part P Q C) : Type 0 where
    pub bare : r.stood ≡ None
    pub its_owners : r.owners ≡ owners
    pub its_shard : r.shard ≡ k

  module _ {M : Type 0} (problem : P → List C → Q) (holds : Q → List C → List (Envelope M) → Type 0) (weight : Q → List C → List (Envelope M) → ℕ) (bound : Q → ℕ) where
    -- Cells of all shards come first, then their boxes. Together the cells and all envelopes meet the phase's
    -- invariant, what was handled and what they weigh is at most the weight at the start, and what was handled and is
    -- in flight is at least the number of cells.
    pub record IsLegal (rests : List (Part P Q C)) (es : List (Envelope M)) (total : ℕ) : Type 0 where
      pub phase : P
      pub cells : List C
      pub owners : List ℕ
      pub shards : ℕ
      pub wide : length rests ≡ 2 * shards
      pub owned : length owners ≡ length cells
      pub each_cell : (k : ℕ) (r : Part P Q C) → k < shards → slice_get rests k ≡ Some r → IsCell phase (problem phase cells) owners cells k r
      pub each_box : (k : ℕ) (r : Part P Q C) → slice_get rests (shards + k) ≡ Some r → IsBox owners k r
      pub holding : holds (problem phase cells) cells es
      pub weighing : total + weight (problem phase cells) cells es ≤ bound (problem phase cells)
      pub counting : length cells ≤ total + length es

module _ {P Q C M : Type 0} (react : Q → ℕ → C → M → Reaction C M) (owners : List ℕ) (shard : ℕ) where
  -- the shard's cells after one of them handled an envelope
  abbrev pub after : Stood P Q C → Envelope M → C → Stood P Q C
  after st e c = record st { cells = slice_set st.cells (rank owners shard e.to) (react st.problem e.to c e.msg).cell }

  -- so many envelopes, which are for cells of the shard, are handled one after another
  abbrev pub Turns : Stood P Q C → List (Envelope M) → ℕ → ℕ → Stood P Q C → List (Envelope M) → Type 0
  Turns st es sent zero st' es' = (sent ≡ 0) × (st' ≡ st) × IsPermutation es es'
  Turns st es sent (suc h) st' es' = (e : Envelope M) × (rest : List (Envelope M)) × (c : C) × (more : ℕ) × IsPermutation es (e ∷ rest) × IsFor owners shard e × (slice_get st.cells (rank owners shard e.to) ≡ Some c)
      × (sent ≡ length (react st.problem e.to c e.msg).sent + more) × Turns (after st e c) (rest ++ (react st.problem e.to c e.msg).sent) more h st' es'

module _ {P Q C M : Type 0} (react : Q → ℕ → C → M → Reaction C M) where
  abbrev pub StoodTurn : List ℕ → ℕ → Option (Stood P Q C) → List (Envelope M) → ℕ → ℕ → Option (Stood P Q C) → List (Envelope M) → Type 0
  StoodTurn owners shard None es sent h r' es' = ⊥
  StoodTurn owners shard (Some st) es sent h None es' = ⊥
  StoodTurn owners shard (Some st) es sent h (Some st') es' = Turns react owners shard st es sent h st' es'

  -- A turn of a shard's cell. The number that waits may change.
  abbrev pub PartTurn : Part P Q C → List (Envelope M) → ℕ → ℕ → Part P Q C → List (Envelope M) → Type 0
  PartTurn r es sent h r' es' = (r'.owners ≡ r.owners) × (r'.shard ≡ r.shard) × StoodTurn r.owners r.shard r.stood es sent h r'.stood es'

module _ {P Q C M : Type 0} (problem : P → List C → Q) (holds : Q → List C → List (Envelope M) → Type 0) (weight : Q → List C → List (Envelope M) → ℕ) (bound : Q → ℕ) where
  -- some legal contents have this cell of a shard, and these envelopes among theirs
  pub record Standing (owners : List ℕ) (shard : ℕ) (st : Stood P Q C) (es : List (Envelope M)) : Type 0 where
    pub rests : List (Part P Q C)
    pub waits : ℕ
    pub others : List (Envelope M)
    pub total : ℕ
    pub legal : IsLegal problem holds weight bound rests (es ++ others) total
    pub within : 2 * shard < length rests
    pub there : slice_get rests shard ≡ Some (record { owners = owners; shard = shard; waits = waits; stood = Some st })

abbrev pub stood : {P Q C : Type 0} → (P → List C → Q) → P → List C → List C → Stood P Q C
stood problem phase first cells = record { phase = phase; problem = problem phase first; cells = cells }
