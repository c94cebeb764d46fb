-- Cells that are dealt out to their shards, one after another, each with its start message.
use Rattle.std.specs.Prelude.{◌≡◌, ℕ, List, [], ◌∷◌, ◌++◌, length, Some, slice_get, IsPermutation}
use Rattle.phase_core.specs.declared.envelope.Envelope.{Envelope}
use Rattle.phase_core.specs.Machine.{start_flight}
use Rattle.quiet_table.specs.Contents.{pool}
use Rattle.post_office.specs.declared.plain.Stood.{Stood}
use Rattle.post_office.specs.declared.plain.Part.{Part}
use Rattle.post_office.specs.Posts.{IsCell, IsBox}

module _ {P Q C M : Type 0} where
  -- a shard's cell got one cell more behind its cells, and an envelope
  pub record Added (r : Part P Q C) (es : List (Envelope M)) (r' : Part P Q C) (es' : List (Envelope M)) (cell : C) (e : Envelope M) : Type 0 where
    pub stood : Stood P Q C
    pub was : r.stood ≡ Some stood
    pub is : r'.stood ≡ Some (record stood { cells = stood.cells ++ cell ∷ [] })
    pub same_owners : r'.owners ≡ r.owners
    pub same_shard : r'.shard ≡ r.shard
    pub more : IsPermutation (e ∷ es) es'

  -- `done` are the cells so far: each shard has those that it owns, and their start messages are all envelopes
  pub record Dealt (phase : P) (problem : Q) (owners : List ℕ) (start : ℕ → M) (shards : ℕ) (done : List C) (rests : List (Part P Q C)) (ess : List (List (Envelope M))) : Type 0 where
    pub count : length rests ≡ shards
    pub counts : length ess ≡ shards
    pub each : (k : ℕ) (r : Part P Q C) → slice_get rests k ≡ Some r → IsCell phase problem owners done k r
    pub flight : IsPermutation (start_flight start (length done)) (pool ess)

  -- boxes by shard, with no envelope
  pub record Bare (owners : List ℕ) (shards : ℕ) (rests : List (Part P Q C)) (ess : List (List (Envelope M))) : Type 0 where
    pub count : length rests ≡ shards
    pub each : (k : ℕ) (r : Part P Q C) → slice_get rests k ≡ Some r → IsBox owners k r
    pub none : pool ess ≡ []
