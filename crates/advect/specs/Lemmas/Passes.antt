-- Cells of a list that is cut into runs of layers, and what a pass over them moves.
use Rattle.std.specs.Prelude.{ℕ, ◌+◌, ◌-◌, ◌*◌, Bool, ◌&&◌, ◌==◌, cond, List, slice_index}
use Rattle.advect.specs.declared.pass.Pass.{Pass}
use Rattle.advect.specs.Lemmas.Shares.{carried}

-- the number of a cell: runs of n layers of m cells
abbrev pub cell : ℕ → ℕ → ℕ → ℕ → ℕ → ℕ
cell n m r u i = (r * n + u) * m + i

-- the layer to which a pass comes after v others
abbrev pub layer : Bool → ℕ → ℕ → ℕ
layer up n v = cond up v (n - 1 - v)

-- what a cell has from which a pass takes: its amount, or what earlier passes left
abbrev pub base : Bool → List ℕ → List ℕ → ℕ → ℕ
base first amounts next k = cond first (slice_index amounts k) (slice_index next k)

-- what a cell of the layer after v others gives of q; the last one keeps all behind a closed face
abbrev pub gives : Pass → ℕ → ℕ → ℕ → ℕ
gives pass n v q = cond (pass.closed && (v + 1 == n)) 0 (carried pass.share q)

-- what comes into a cell of the layer after v others: what the face holds, or what the layer before gives
abbrev pub comes : Pass → ℕ → ℕ → ℕ → List ℕ → List ℕ → ℕ → ℕ → ℕ
comes pass n m r amounts faces v i =
    cond (v == 0) (slice_index faces (r * m + i)) (gives pass n (v - 1) (slice_index amounts (cell n m r (layer pass.up n (v - 1)) i)))

-- what a cell of the layer after v others holds after a pass
abbrev pub passed : Pass → ℕ → ℕ → ℕ → List ℕ → List ℕ → List ℕ → ℕ → ℕ → ℕ
passed pass n m r amounts next faces v i =
    let k = cell n m r (layer pass.up n v) i in
    base pass.first amounts next k - gives pass n v (slice_index amounts k) + comes pass n m r amounts faces v i
