-- Which shard a cell and an envelope belong to, and where a cell stands among those of its shard.
use Rattle.std.specs.Prelude.{◌≡◌, ℕ, zero, suc, nat_eq, cond, List, [], ◌∷◌, All, Some, slice_get}
use Rattle.phase_core.specs.declared.envelope.Envelope.{Envelope}

-- the envelope is for a cell of this shard
abbrev pub IsFor : {M : Type 0} → List ℕ → ℕ → Envelope M → Type 0
IsFor owners shard e = slice_get owners e.to ≡ Some shard

-- the cells that a shard owns, in their order
abbrev pub of_shard : {C : Type 0} → List ℕ → ℕ → List C → List C
of_shard [] s cells = []
of_shard (o ∷ os) s [] = []
of_shard (o ∷ os) s (c ∷ cs) = cond (nat_eq o s) (c ∷ of_shard os s cs) (of_shard os s cs)

-- how many of the first i cells the shard owns, which is the place of cell i among its cells
abbrev pub rank : List ℕ → ℕ → ℕ → ℕ
rank [] s i = 0
rank (o ∷ os) s zero = 0
rank (o ∷ os) s (suc i) = cond (nat_eq o s) (suc (rank os s i)) (rank os s i)

-- list t has envelopes for shard t alone
abbrev pub Sorted : {M : Type 0} → List ℕ → List (List (Envelope M)) → Type 0
Sorted {M} owners mail = (t : ℕ) (es : List (Envelope M)) → slice_get mail t ≡ Some es → All (λ e. IsFor owners t e) es

-- the place of each cell among those of its shard
abbrev pub Ranked : List ℕ → List ℕ → Type 0
Ranked owners ranks = (i s : ℕ) → slice_get owners i ≡ Some s → slice_get ranks i ≡ Some (rank owners s i)
