-- What is left of the proof of this function.
use Rattle.std.proofs.Common.{◌≡◌, ℕ, ◌+◌, ◌*◌, ◌<◌, List, [], get_or, length, map, sym, ap, ◌∙◌, subst, arith, Vec, Global, w16, to_z, of_z}
use Rattle.std.proofs.lemmas.Int.{to_z-of_z}
use Rattle.block_fields.specs.Blocks.{ghosts_of, seen_at}
use Rattle.block_fields.specs.Layout.{laid_out}
use Rattle.block_fields.specs.Shells.{direction_of, ghost_count}
use Rattle.block_fields.proofs.Insides.{amounts-found, amounts-is, ghosts-found, kept-IsBlock}
use Rattle.block_fields.proofs.Layouts.{ghosts-at}
use Rattle.block_fields.proofs.Seen.{seen-own, seen-around}
use Rattle.block_fields.proofs.block.Block.sample_at.Goals as goal

pub bounds-amounts-spot : goal.bounds-amounts-spot
bounds-amounts-spot c =
    let b = c.self.inside in
    let items : Vec ℕ Global → List ℕ = λ v. v.items in
    let v = c.index.result.now in
    let at = amounts-found c.self.inside c.self.invariant c.args.self.now c.self.view_is c.args.field c.requires.field v c.index.ensures in
    let long : length v.items ≡ b.edge * b.edge * b.edge = c.self.invariant.all_cells c.args.field v.items at in
    let l : length c.as_slice-amounts.result.now ≡ length v.items = ap length c.as_slice-amounts.ensures.value in
    subst (λ k. c.spot_at-spot.result.number < k) (sym (l ∙ long)) (c.spot_at-spot.ensures.own c.if-spot-eq13.true)

pub overflow_add-result : goal.overflow_add-result
overflow_add-result c = omega (arith, c.spot_at-spot.ensures.within c.if-spot-eq13.false, c.spot_at-spot.ensures.most)

pub offset_bounds-ghosts-spot : goal.offset_bounds-ghosts-spot
offset_bounds-ghosts-spot c = omega (arith, c.spot_at-spot.ensures.within c.if-spot-eq13.false, c.spot_at-spot.ensures.most)

pub bounds-ghosts-spot : goal.bounds-ghosts-spot
bounds-ghosts-spot c =
    let b = c.self.inside in
    let items : Vec ℕ Global → List ℕ = λ v. v.items in
    let v = c.index-else-spot-eq13.result.now in
    let at = ghosts-found c.self.inside c.self.invariant c.args.self.now c.self.view_is c.args.field c.requires.field v c.index-else-spot-eq13.ensures in
    let long : length v.items ≡ ghost_count b.edge b.depth = c.self.invariant.all_ghosts c.args.field v.items at in
    let l : length c.as_slice-ghosts.result.now ≡ length v.items = ap length c.as_slice-ghosts.ensures.value in
    subst (λ k. c.spot_at-spot.result.start + c.spot_at-spot.result.number < k) (sym (l ∙ long)) (c.spot_at-spot.ensures.within c.if-spot-eq13.false)

pub returns-then-spot-eq13-clause-seen : goal.returns-then-spot-eq13-clause-seen
returns-then-spot-eq13-clause-seen c =
    let b = c.self.inside in
    let items : Vec ℕ Global → List ℕ = λ v. v.items in
    let v = c.index.result.now in
    let x = to_z w16 (of_z w16 c.args.x) in
    let y = to_z w16 (of_z w16 c.args.y) in
    let z = to_z w16 (of_z w16 c.args.z) in
    let s = c.spot_at-spot in
    let state = laid_out b.place b.edge b.depth (map items b.amounts.items) (map items b.before.items) (map items b.ghosts.items) in
    ap (λ q. get_or q s.result.number 0) (c.as_slice-amounts.ensures.value ∙ sym (amounts-is c.self.inside c.self.invariant c.args.self.now c.self.view_is c.args.field c.requires.field v c.index.ensures))
    ∙ ap (λ i. get_or (get_or (map items b.amounts.items) c.args.field []) i 0) s.ensures.number
    ∙ sym (seen-own state c.args.field x y z (sym s.ensures.direction ∙ c.if-spot-eq13.true))
    ∙ (λ i. seen_at (c.self.view_is i) c.args.field (to_z-of_z w16 c.args.x c.ranges.x i) (to_z-of_z w16 c.args.y c.ranges.y i) (to_z-of_z w16 c.args.z c.ranges.z i))

pub returns-then-spot-eq13-clause-limits : goal.returns-then-spot-eq13-clause-limits
returns-then-spot-eq13-clause-limits c = kept-IsBlock c.self.inside c.self.invariant c.args.self.now c.self.view_is

pub returns-else-spot-eq13-clause-seen : goal.returns-else-spot-eq13-clause-seen
returns-else-spot-eq13-clause-seen c =
    let b = c.self.inside in
    let items : Vec ℕ Global → List ℕ = λ v. v.items in
    let v = c.index-else-spot-eq13.result.now in
    let at = ghosts-found c.self.inside c.self.invariant c.args.self.now c.self.view_is c.args.field c.requires.field v c.index-else-spot-eq13.ensures in
    let x = to_z w16 (of_z w16 c.args.x) in
    let y = to_z w16 (of_z w16 c.args.y) in
    let z = to_z w16 (of_z w16 c.args.z) in
    let s = c.spot_at-spot in
    let d = direction_of b.edge x y z in
    let there = s.ensures.ghost_there c.if-spot-eq13.false in
    let state = laid_out b.place b.edge b.depth (map items b.amounts.items) (map items b.before.items) (map items b.ghosts.items) in
    let other : d ≡ 13 → ⊥ = λ e. c.if-spot-eq13.false (s.ensures.direction ∙ e) in
    let below : d < 27 = subst (λ k. k < 27) s.ensures.direction s.ensures.below in
    ap (λ q. get_or q (s.result.start + s.result.number) 0) c.as_slice-ghosts.ensures.value
    ∙ ap (λ i. get_or v.items (i + s.result.number) 0) s.ensures.start
    ∙ sym (ghosts-at b.place b.edge b.depth (map items b.amounts.items) (map items b.before.items) (map items b.ghosts.items) c.args.field v.items at d s.result.number below there)
    ∙ ap (λ i. get_or (ghosts_of state c.args.field d) i 0) s.ensures.number
    ∙ sym (seen-around state c.args.field x y z other)
    ∙ (λ i. seen_at (c.self.view_is i) c.args.field (to_z-of_z w16 c.args.x c.ranges.x i) (to_z-of_z w16 c.args.y c.ranges.y i) (to_z-of_z w16 c.args.z c.ranges.z i))

pub returns-else-spot-eq13-clause-limits : goal.returns-else-spot-eq13-clause-limits
returns-else-spot-eq13-clause-limits c = kept-IsBlock c.self.inside c.self.invariant c.args.self.now c.self.view_is
