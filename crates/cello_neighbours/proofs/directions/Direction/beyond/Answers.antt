-- What is left of the proof of this function.
use Rattle.std.proofs.Common.{refl, sym, ◌∙◌, subst}
use Rattle.block_index.specs.Beyond.{IsBeyond}
use Rattle.block_index.proofs.Beyond.{step_read}
use Rattle.cello_neighbours.proofs.directions.Direction.beyond.Goals as goal

pub returns-clause-every : goal.returns-clause-every
returns-clause-every c q h =
    let s = c.self.inside in
    let x = step_read s.x s.x refl c.self.invariant.x in
    let y = step_read s.y s.y refl c.self.invariant.y in
    let z = step_read s.z s.z refl c.self.invariant.z in
    c.place_beyond.ensures.every q
    (subst (λ d. IsBeyond c.args.domain.now c.args.leaf d q) (sym c.self.view_is ∙ (λ i. record { x = x i; y = y i; z = z i })) h)
