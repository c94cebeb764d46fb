-- What is left of the proof of this function.
use Rattle.std.proofs.Common.{◌≡◌, ℕ, ◌+◌, ◌/◌, ◌%◌, ◌<◌, ◌≤◌, ap, ◌∙◌, arith}
use Rattle.block_fields.specs.Shells.{direction, ghost_count, ghost_size, ghost_start}
use Rattle.block_fields.proofs.ShellSizes.{count-cube, cube-most, start-within_count}
use Rattle.block_fields.proofs.shell.stretch_of.Goals as goal

-- the ghosts of a direction end within those of a field
ends_within : (n g d start size : ℕ) → d < 27 → start ≡ ghost_start n g (direction (d % 3) (d / 3 % 3) (d / 9)) → size ≡ ghost_size n g d → start + size ≤ ghost_count n g
ends_within n g d start size h s t =
    let e : start ≡ ghost_start n g d = s ∙ ap (ghost_start n g) (let k : direction (d % 3) (d / 3 % 3) (d / 9) ≡ d = omega arith in k) in
    omega (arith, start-within_count n g d h)

pub overflow_add-result : goal.overflow_add-result
overflow_add-result c =
    let a = c.args in
    let k = ends_within a.n a.depth a.direction c.ghost_start-start.result c.ghost_size.result c.requires.direction c.ghost_start-start.ensures.start c.ghost_size.ensures.size in
    omega (arith, count-cube a.n a.depth, cube-most a.n a.depth c.requires.most c.requires.deepest)

pub returns-clause-within : goal.returns-clause-within
returns-clause-within c =
    let a = c.args in
    ends_within a.n a.depth a.direction c.ghost_start-start.result c.ghost_size.result c.requires.direction c.ghost_start-start.ensures.start c.ghost_size.ensures.size

pub returns-clause-most : goal.returns-clause-most
returns-clause-most c =
    let a = c.args in
    let k = ends_within a.n a.depth a.direction c.ghost_start-start.result c.ghost_size.result c.requires.direction c.ghost_start-start.ensures.start c.ghost_size.ensures.size in
    omega (arith, count-cube a.n a.depth, cube-most a.n a.depth c.requires.most c.requires.deepest)
