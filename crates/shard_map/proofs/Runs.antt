-- The leaves of a shard are a run.
use Rattle.std.proofs.Common.{◌≡◌, ℕ, ◌+◌, ◌-◌, ◌*◌, ◌/◌, ◌%◌, ◌<◌, ◌≤◌, arith, ap, ◌∙◌, le_trans}
use Rattle.std.proofs.lemmas.Nat.{div-add-mod', div-mul-add, le-div, div_below, mod_below, mul-le, mul-add-lt}
use Rattle.shard_map.specs.Owners.{owner_of}

-- a quotient, taken back, is within the number
quotient_within : (n k : ℕ) → n / k * k ≤ n
quotient_within n k = let e = div-add-mod' n k in omega (arith, e)

-- owners ascend
pub owner-ascends : (shards leaves i j : ℕ) → 0 < leaves → i ≤ j → owner_of shards leaves i ≤ owner_of shards leaves j
owner-ascends shards leaves i j some within =
    le-div (i * shards / leaves) (j * shards) leaves some
    (le_trans (quotient_within (i * shards) leaves) (mul-le i shards j shards within (omega arith)))

-- what lies between two leaves of a shard is the shard's
pub owner-between : (shards leaves i j k : ℕ) → 0 < leaves → i ≤ j → j ≤ k → owner_of shards leaves i ≡ owner_of shards leaves k → owner_of shards leaves j ≡ owner_of shards leaves i
owner-between shards leaves i j k some low high same =
    let up = owner-ascends shards leaves i j some low in
    let down = owner-ascends shards leaves j k some high in
    omega (arith, up, down, same)

-- the first leaf of a shard, by the remainder of the division that finds it
first_leaf : (shards leaves shard q r : ℕ) → q * shards + r ≡ shard * leaves + (shards - 1) → r < shards → shards ≤ leaves → q * shards / leaves ≡ shard
first_leaf shards leaves shard q r is small enough =
    let at : q * shards ≡ shard * leaves + (shards - 1 - r) = omega arith in
    ap (λ (t : ℕ). t / leaves) at ∙ div-mul-add shard leaves (shards - 1 - r) (omega arith)

-- each shard owns a leaf, where there are as many
pub owner-each : (shards leaves shard : ℕ) → shard < shards → shards ≤ leaves → (i : ℕ) × (i < leaves) × (owner_of shards leaves i ≡ shard)
owner-each shards leaves shard below enough =
    let n = shard * leaves + (shards - 1) in (
      n / shards,
      div_below n shards leaves (omega arith) (mul-add-lt shard leaves (shards - 1) shards below (omega arith)),
      first_leaf shards leaves shard (n / shards) (n % shards) (div-add-mod' n shards) (mod_below n shards (omega arith)) enough,
    )
