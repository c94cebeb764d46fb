use Rattle.ghost_pieces.proofs.Directions.{none_some, steps_none, steps_read}
use Rattle.ghost_pieces.proofs.owing.direction_of.Goals as goal

pub returns-clause-none : goal.returns-clause-none
returns-clause-none c none =
    let a = c.args in
    steps_none a.x a.y a.z (λ w. none_some c.new.result none (c.new.ensures.limits.1 (steps_read c.step_at.result c.step_at-2.result c.step_at-3.result a.x a.y a.z c.step_at.ensures.step c.step_at-2.ensures.step c.step_at-3.ensures.step w)))
