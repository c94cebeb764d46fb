-- The words of a board of S shards: the turn of slot k is word k, where cells come before boxes; what shard s sent is
-- word 2S + s, what it handled is word 3S + s, and the verdict is word 4S.
use Rattle.std.specs.Prelude.{◌≡◌, ℕ, ◌+◌, ◌*◌, ◌<◌, List, [], ◌∷◌, take, drop, length, slice_index}

abbrev pub adds : List ℕ → ℕ
adds [] = 0
adds (x ∷ xs) = x + adds xs

-- so many words from this one on, added up
abbrev pub span : List ℕ → ℕ → ℕ → ℕ
span words from count = adds (take count (drop from words))

-- the words before any step, where so many envelopes lie on the board
pub record FirstWords (shards : ℕ) (words : List ℕ) (flight : ℕ) : Type 0 where
  pub wide : length words ≡ 4 * shards + 1
  pub turns : (k : ℕ) → k < 2 * shards → slice_index words k ≡ 0
  pub sent : span words (2 * shards) shards ≡ flight
  pub handled : span words (3 * shards) shards ≡ 0
  pub verdict : slice_index words (4 * shards) ≡ 0
