-- What is left of the proof of this function.
use Rattle.std.proofs.Common.{◌≡◌, ℕ, ◌*◌, ◌%◌, ◌^◌, ◌≤◌, refl, sym, ap, arith, w8}
use Rattle.std.proofs.lemmas.Int.{to_z-of_z}
use Rattle.std.proofs.lemmas.Option.{none-some}
use Rattle.block_index.proofs.Beyond.{IsNext-at, axis_length-most}
use Rattle.block_index.proofs.domain.Axis.next.Goals as goal

-- the length of the axis as the code reads it
length_read : (r t l : ℕ) → r ≡ t → t ≤ 16 → l ≤ 6 → r * 2 ^ l % 4294967296 ≡ t * 2 ^ l
length_read r t l e h k =
    let most = axis_length-most t l h k in
    let same : r * 2 ^ l ≡ t * 2 ^ l = ap (λ n. n * 2 ^ l) e in
    omega (arith, most, same)

pub returns-in_err-next-clause-every : goal.returns-in_err-next-clause-every
returns-in_err-next-clause-every c q h =
    let n = length_read c.from.result c.args.self.trees c.args.level c.from.ensures c.requires.trees c.requires.level in
    let s = to_z-of_z w8 c.args.step c.ranges.step in
    absurd (none-some q (c.in_err-next.ensures.every q (IsNext-at _ _ _ _ _ _ _ _ _ h (sym n) refl (sym s) (sym c.from-2.ensures))))

pub step_along-requires-clause-inside : goal.step_along-requires-clause-inside
step_along-requires-clause-inside c =
    let n = length_read c.from.result c.args.self.trees c.args.level c.from.ensures c.requires.trees c.requires.level in
    omega (arith, n, c.from-2.ensures, c.requires.inside)

pub overflow_cast-result : goal.overflow_cast-result
overflow_cast-result c =
    let n = length_read c.from.result c.args.self.trees c.args.level c.from.ensures c.requires.trees c.requires.level in
    let l = c.in_ok-next.ensures.found.inside in
    omega (arith, n, l, axis_length-most c.args.self.trees c.args.level c.requires.trees c.requires.level)

pub returns-clause-found : goal.returns-clause-found
returns-clause-found c =
    let n = length_read c.from.result c.args.self.trees c.args.level c.from.ensures c.requires.trees c.requires.level in
    let s = to_z-of_z w8 c.args.step c.ranges.step in
    IsNext-at _ _ _ _ _ _ _ _ _ c.in_ok-next.ensures.found n refl s c.from-2.ensures

pub returns-clause-every : goal.returns-clause-every
returns-clause-every c q h =
    let n = length_read c.from.result c.args.self.trees c.args.level c.from.ensures c.requires.trees c.requires.level in
    let s = to_z-of_z w8 c.args.step c.ranges.step in
    c.in_ok-next.ensures.every q (IsNext-at _ _ _ _ _ _ _ _ _ h (sym n) refl (sym s) (sym c.from-2.ensures))
