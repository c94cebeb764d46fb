-- What is left of the proof of this function.
use Rattle.std.proofs.Common.{◌≡◌, ℕ, ◌*◌, ◌^◌, false, get_or, sym, ap, ◌∙◌, subst, w8}
use Rattle.std.proofs.lemmas.Int.{to_z-of_z}
use Rattle.std.proofs.lemmas.Option.{none-some, same_Some, IfSome_then}
use Rattle.block_index.specs.Places.{Cube}
use Rattle.block_index.specs.Beyond.{IsBeyond}
use Rattle.block_index.specs.declared.domain.Axis.{Axis}
use Rattle.block_index.proofs.Beyond.{IsNext-at, IsInside-IsBeyond, IsPlace-IsInside, made_is, same_cube}
use Rattle.block_index.proofs.next_place.place_beyond.Goals as goal

length_at : (t u l m : ℕ) → t ≡ u → l ≡ m → t * 2 ^ l ≡ u * 2 ^ m
length_at t u l m e f = cc

pub returns-in_err-next-clause-every : goal.returns-in_err-next-clause-every
returns-in_err-next-clause-every c q h =
    let nx = length_at _ _ _ _ (ap (λ l. (get_or {A = Axis} l 0 (record { trees = 0; periodic = false })).trees) c.axes.ensures.axes) c.level-level.ensures.level in
    let wx = ap (λ l. (get_or {A = Axis} l 0 (record { trees = 0; periodic = false })).periodic) c.axes.ensures.axes in
    let sx = to_z-of_z w8 c.args.x c.ranges.x in
    absurd (none-some q.x (c.in_err-next.ensures.every q.x (IsNext-at _ _ _ _ _ _ _ _ _ h.x (sym nx) (sym wx) (sym sx) (sym c.x.ensures.x))))

pub returns-in_err-next-2-clause-every : goal.returns-in_err-next-2-clause-every
returns-in_err-next-2-clause-every c q h =
    let ny = length_at _ _ _ _ (ap (λ l. (get_or {A = Axis} l 1 (record { trees = 0; periodic = false })).trees) c.axes.ensures.axes) c.level-level.ensures.level in
    let wy = ap (λ l. (get_or {A = Axis} l 1 (record { trees = 0; periodic = false })).periodic) c.axes.ensures.axes in
    let sy = to_z-of_z w8 c.args.y c.ranges.y in
    absurd (none-some q.y (c.in_err-next-2.ensures.every q.y (IsNext-at _ _ _ _ _ _ _ _ _ h.y (sym ny) (sym wy) (sym sy) (sym c.y.ensures.y))))

pub returns-in_err-next-3-clause-every : goal.returns-in_err-next-3-clause-every
returns-in_err-next-3-clause-every c q h =
    let nz = length_at _ _ _ _ (ap (λ l. (get_or {A = Axis} l 2 (record { trees = 0; periodic = false })).trees) c.axes.ensures.axes) c.level-level.ensures.level in
    let wz = ap (λ l. (get_or {A = Axis} l 2 (record { trees = 0; periodic = false })).periodic) c.axes.ensures.axes in
    let sz = to_z-of_z w8 c.args.z c.ranges.z in
    absurd (none-some q.z (c.in_err-next-3.ensures.every q.z (IsNext-at _ _ _ _ _ _ _ _ _ h.z (sym nz) (sym wz) (sym sz) (sym c.z.ensures.z))))

pub returns-clause-found : goal.returns-clause-found
returns-clause-found c =
    let nx = length_at _ _ _ _ (ap (λ l. (get_or {A = Axis} l 0 (record { trees = 0; periodic = false })).trees) c.axes.ensures.axes) c.level-level.ensures.level in
    let wx = ap (λ l. (get_or {A = Axis} l 0 (record { trees = 0; periodic = false })).periodic) c.axes.ensures.axes in
    let sx = to_z-of_z w8 c.args.x c.ranges.x in
    let ny = length_at _ _ _ _ (ap (λ l. (get_or {A = Axis} l 1 (record { trees = 0; periodic = false })).trees) c.axes.ensures.axes) c.level-level.ensures.level in
    let wy = ap (λ l. (get_or {A = Axis} l 1 (record { trees = 0; periodic = false })).periodic) c.axes.ensures.axes in
    let sy = to_z-of_z w8 c.args.y c.ranges.y in
    let nz = length_at _ _ _ _ (ap (λ l. (get_or {A = Axis} l 2 (record { trees = 0; periodic = false })).trees) c.axes.ensures.axes) c.level-level.ensures.level in
    let wz = ap (λ l. (get_or {A = Axis} l 2 (record { trees = 0; periodic = false })).periodic) c.axes.ensures.axes in
    let sz = to_z-of_z w8 c.args.z c.ranges.z in
    IfSome_then c.new.result c.new.ensures.value (λ q e.
    subst (IsBeyond c.args.domain.now c.args.place (record { x = c.args.x; y = c.args.y; z = c.args.z })) (sym e)
    (record {
      level = c.level-level.ensures.level;
      x = IsNext-at _ _ _ _ _ _ _ _ _ c.in_ok-next.ensures.found nx wx sx c.x.ensures.x;
      y = IsNext-at _ _ _ _ _ _ _ _ _ c.in_ok-next-2.ensures.found ny wy sy c.y.ensures.y;
      z = IsNext-at _ _ _ _ _ _ _ _ _ c.in_ok-next-3.ensures.found nz wz sz c.z.ensures.z;
    }))

pub returns-clause-every : goal.returns-clause-every
returns-clause-every c q h =
    let nx = length_at _ _ _ _ (ap (λ l. (get_or {A = Axis} l 0 (record { trees = 0; periodic = false })).trees) c.axes.ensures.axes) c.level-level.ensures.level in
    let wx = ap (λ l. (get_or {A = Axis} l 0 (record { trees = 0; periodic = false })).periodic) c.axes.ensures.axes in
    let sx = to_z-of_z w8 c.args.x c.ranges.x in
    let ny = length_at _ _ _ _ (ap (λ l. (get_or {A = Axis} l 1 (record { trees = 0; periodic = false })).trees) c.axes.ensures.axes) c.level-level.ensures.level in
    let wy = ap (λ l. (get_or {A = Axis} l 1 (record { trees = 0; periodic = false })).periodic) c.axes.ensures.axes in
    let sy = to_z-of_z w8 c.args.y c.ranges.y in
    let nz = length_at _ _ _ _ (ap (λ l. (get_or {A = Axis} l 2 (record { trees = 0; periodic = false })).trees) c.axes.ensures.axes) c.level-level.ensures.level in
    let wz = ap (λ l. (get_or {A = Axis} l 2 (record { trees = 0; periodic = false })).periodic) c.axes.ensures.axes in
    let sz = to_z-of_z w8 c.args.z c.ranges.z in
    let x = same_Some c.in_ok-next.field-0 q.x (c.in_ok-next.ensures.every q.x (IsNext-at _ _ _ _ _ _ _ _ _ h.x (sym nx) (sym wx) (sym sx) (sym c.x.ensures.x))) in
    let y = same_Some c.in_ok-next-2.field-0 q.y (c.in_ok-next-2.ensures.every q.y (IsNext-at _ _ _ _ _ _ _ _ _ h.y (sym ny) (sym wy) (sym sy) (sym c.y.ensures.y))) in
    let z = same_Some c.in_ok-next-3.field-0 q.z (c.in_ok-next-3.ensures.every q.z (IsNext-at _ _ _ _ _ _ _ _ _ h.z (sym nz) (sym wz) (sym sz) (sym c.z.ensures.z))) in
    let made : Cube = record { level = c.level-level.result; x = c.in_ok-next.field-0; y = c.in_ok-next-2.field-0; z = c.in_ok-next-3.field-0 } in
    made_is c.new.result made q c.new.ensures.limits c.new.ensures.value (same_cube made q (c.level-level.ensures.level ∙ sym h.level) x y z)
    (IsPlace-IsInside c.args.domain.now q c.axes.ensures.limits (IsInside-IsBeyond c.args.domain.now c.args.place q (record { x = c.args.x; y = c.args.y; z = c.args.z }) c.requires.inside h))
