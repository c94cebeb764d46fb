-- Boxes of lists, written row by row.
use Rattle.std.specs.Prelude.{◌≡◌, ℕ, ◌+◌, ◌*◌, ◌<◌, List, length, slice_index}
use Rattle.ghost_pieces.specs.Boxes.{Box}

abbrev pub box_of_runs : ℕ → ℕ → ℕ → ℕ → ℕ → ℕ → Box
box_of_runs fx cx fy cy fz cz = record { x = record { first = fx; count = cx }; y = record { first = fy; count = cy }; z = record { first = fz; count = cz } }

-- Rows of a plane were written: from `at` on, `wide` apart, with the amounts from `from` on. All else is as before.
pub record IsPlane (at wide from rows count : ℕ) (amounts before after : List ℕ) : Type 0 where
  pub long : length after ≡ length before
  pub cells : (x y : ℕ) → x < count → y < rows → slice_index after (at + y * wide + x) ≡ slice_index amounts (from + y * count + x)
  pub kept : (i : ℕ) → ((x y : ℕ) → x < count → y < rows → i ≡ at + y * wide + x → ⊥) → slice_index after i ≡ slice_index before i

-- the first planes of a box were written
pub record ArePlanes (mx my planes : ℕ) (p : Box) (amounts before after : List ℕ) : Type 0 where
  pub long : length after ≡ length before
  pub cells : (x y z : ℕ) → x < p.x.count → y < p.y.count → z < planes →
      slice_index after (((p.z.first + z) * my + (p.y.first + y)) * mx + (p.x.first + x)) ≡ slice_index amounts ((z * p.y.count + y) * p.x.count + x)
  pub kept : (i : ℕ) → ((x y z : ℕ) → x < p.x.count → y < p.y.count → z < planes →
      i ≡ ((p.z.first + z) * my + (p.y.first + y)) * mx + (p.x.first + x) → ⊥) → slice_index after i ≡ slice_index before i

-- the whole box was
abbrev pub IsPasted : ℕ → ℕ → Box → List ℕ → List ℕ → List ℕ → Type 0
IsPasted mx my p amounts before after = ArePlanes mx my p.z.count p amounts before after

-- the sum of eight cells of which the first has a number
abbrev pub eight_from : ℕ → List ℕ → ℕ → ℕ
eight_from n q at =
    slice_index q at + slice_index q (at + 1) + slice_index q (at + n) + slice_index q (at + n + 1)
    + (slice_index q (at + n * n) + slice_index q (at + n * n + 1) + slice_index q (at + n * n + n) + slice_index q (at + n * n + n + 1))
