-- What is left of the proof of this function.
use Rattle.std.proofs.Common.{◌≡◌, ℕ, ◌+◌, ◌<◌, List, length, map, set, sym, ap, ◌∙◌, subst, Vec, Global, w16, to_z, of_z}
use Rattle.std.proofs.lemmas.Int.{to_z-of_z}
use Rattle.std.proofs.lemmas.List.{length-set}
use Rattle.block_fields.specs.Blocks.{ghosts_of, with_ghost, with_ghosts}
use Rattle.block_fields.specs.Layout.{IsLaidOut, laid_out}
use Rattle.block_fields.specs.Shells.{direction_of, ghost_count}
use Rattle.block_fields.proofs.Fields.{element-set}
use Rattle.block_fields.proofs.Insides.{ghosts-found}
use Rattle.block_fields.proofs.Layouts.{IsLaidOut-shells, ghosts-set}
use Rattle.block_fields.proofs.block.Block.set_ghost.Goals as goal

pub bounds-ghosts-spot : goal.bounds-ghosts-spot
bounds-ghosts-spot c =
    let b = c.self.inside in
    let items : Vec ℕ Global → List ℕ = λ v. v.items in
    let v = c.index_mut.result.now in
    let f = c.args.field in
    let at = ghosts-found c.self.inside c.self.invariant c.args.self.now c.self.view_is f c.requires.field v c.index_mut.ensures.value in
    let s = c.spot_at-spot in
    let x = to_z w16 (of_z w16 c.args.x) in
    let y = to_z w16 (of_z w16 c.args.y) in
    let z = to_z w16 (of_z w16 c.args.z) in
    let d = direction_of b.edge x y z in
    let known : d ≡ direction_of c.args.self.now.edge c.args.x c.args.y c.args.z = λ i. direction_of (c.self.view_is i).edge (to_z-of_z w16 c.args.x c.ranges.x i) (to_z-of_z w16 c.args.y c.ranges.y i) (to_z-of_z w16 c.args.z c.ranges.z i) in
    let other : s.result.direction ≡ 13 → ⊥ = λ e. c.requires.outside (sym known ∙ sym s.ensures.direction ∙ e) in
    let long : length v.items ≡ ghost_count b.edge b.depth = c.self.invariant.all_ghosts f v.items at in
    let l : length c.as_mut_slice-ghosts.result.now ≡ length v.items = ap length c.as_mut_slice-ghosts.ensures.value in
    subst (λ k. s.result.start + s.result.number < k) (sym (l ∙ long)) (s.ensures.within other)

pub invariant_of-self : goal.invariant_of-self
invariant_of-self c =
    let b = c.self.inside in
    let items : Vec ℕ Global → List ℕ = λ v. v.items in
    let v = c.index_mut.result.now in
    let f = c.args.field in
    let at = ghosts-found c.self.inside c.self.invariant c.args.self.now c.self.view_is f c.requires.field v c.index_mut.ensures.value in
    let s = c.spot_at-spot in
    let ws = c.as_mut_slice-ghosts.result.now in
    let i = s.result.start + s.result.number in
    let long : length (set ws i c.args.q) ≡ ghost_count b.edge b.depth = length-set ws i c.args.q ∙ ap length c.as_mut_slice-ghosts.ensures.value ∙ c.self.invariant.all_ghosts f v.items at in
    subst (IsLaidOut b.edge b.depth (map items b.amounts.items) (map items b.before.items)) (sym (element-set b.ghosts.items f i c.args.q v ws c.as_mut_slice-ghosts.ensures.len))
    (IsLaidOut-shells b.edge b.depth (map items b.amounts.items) (map items b.before.items) (map items b.ghosts.items) c.self.invariant f (set ws i c.args.q) long)

pub returns : goal.returns
returns c =
    let b = c.self.inside in
    let items : Vec ℕ Global → List ℕ = λ v. v.items in
    let v = c.index_mut.result.now in
    let f = c.args.field in
    let at = ghosts-found c.self.inside c.self.invariant c.args.self.now c.self.view_is f c.requires.field v c.index_mut.ensures.value in
    let s = c.spot_at-spot in
    let x = to_z w16 (of_z w16 c.args.x) in
    let y = to_z w16 (of_z w16 c.args.y) in
    let z = to_z w16 (of_z w16 c.args.z) in
    let d = direction_of b.edge x y z in
    let known : d ≡ direction_of c.args.self.now.edge c.args.x c.args.y c.args.z = λ i. direction_of (c.self.view_is i).edge (to_z-of_z w16 c.args.x c.ranges.x i) (to_z-of_z w16 c.args.y c.ranges.y i) (to_z-of_z w16 c.args.z c.ranges.z i) in
    let other : s.result.direction ≡ 13 → ⊥ = λ e. c.requires.outside (sym known ∙ sym s.ensures.direction ∙ e) in
    let there = s.ensures.ghost_there other in
    let below : d < 27 = subst (λ k. k < 27) s.ensures.direction s.ensures.below in
    let ws = c.as_mut_slice-ghosts.result.now in
    let q = c.args.q in
    let amounts = map items b.amounts.items in
    let before = map items b.before.items in
    let all = map items b.ghosts.items in
    let state = laid_out b.place b.edge b.depth amounts before all in
    record {
      one_ghost = ap (laid_out b.place b.edge b.depth amounts before)
          (element-set b.ghosts.items f (s.result.start + s.result.number) q v ws c.as_mut_slice-ghosts.ensures.len
          ∙ ap (λ xs. set all f (set xs (s.result.start + s.result.number) q)) c.as_mut_slice-ghosts.ensures.value
          ∙ ap (λ k. set all f (set v.items (k + s.result.number) q)) s.ensures.start)
          ∙ ghosts-set b.place b.edge b.depth amounts before all f v.items at d s.result.number q below there
          ∙ ap (λ k. with_ghosts state f d (set (ghosts_of state f d) k q)) s.ensures.number
          ∙ (λ i. with_ghost (c.self.view_is i) f (to_z-of_z w16 c.args.x c.ranges.x i) (to_z-of_z w16 c.args.y c.ranges.y i) (to_z-of_z w16 c.args.z c.ranges.z i) q);
    }
