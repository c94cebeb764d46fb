-- The totals of the blocks as they were kept.
use Rattle.std.proofs.Common.{ℕ, ◌^◌, ◌<◌, ◌≤◌, List, length, subst, sym}
use Rattle.block_fields.specs.Blocks.{BlockState}
use Rattle.block_fields.specs.States.{total}
use Rattle.run_core.specs.Courses.{course_of}
use Rattle.run_core.specs.Runs.{blocks_state}
use Rattle.run_core.proofs.GivenWorks.{kept-refresh}
use Rattle.run_core.proofs.Keeping.{blocks-within}
use Rattle.run_core.proofs.run.Run.give_refresh.Goals as goal

pub begin_refresh-requires-clause-few : goal.begin_refresh-requires-clause-few
begin_refresh-requires-clause-few g c =
    let run = c.self.inside in
    let at = course_of run.params run.ended run.last g.S.Start.start in
    let kept = kept-refresh at run.set run.ledger run.phase (record { blocks = run.blocks.items; wishes = run.wishes.items; faces = run.faces.items }) run.step run.stage c.args.self.now c.self.view_is c.requires.next c.requires.step c.self.invariant in
    let few = (blocks-within at c.self.invariant.limits run.phase run.blocks.items run.step kept.holds.stands).few in
    subst (λ (bs : List BlockState). (f : ℕ) → f < length run.params.fields → total (blocks_state run.params bs) f ≤ 2 ^ 40) (λ i. (sym c.replace-blocks.ensures.value i).items) few
