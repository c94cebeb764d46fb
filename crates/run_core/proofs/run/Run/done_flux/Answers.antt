-- The state after the advance, its ledger, and what is told by then.
use Rattle.run_core.specs.Courses.{course_of}
use Rattle.run_core.proofs.TakenAdvances.{fluxed-few, fluxed-held, fluxed-keeps, fluxed-told}
use Rattle.run_core.proofs.run.Run.done_flux.Goals as goal

pub flux_out-out-requires-clause-few : goal.flux_out-out-requires-clause-few
flux_out-out-requires-clause-few g c =
    let run = c.self.inside in
    let at = course_of run.params run.ended run.last g.S.Start.start in
    fluxed-few at run.set run.ledger run.ledger run.phase (record { blocks = run.blocks.items; wishes = run.wishes.items; faces = run.faces.items })
    (record { blocks = run.blocks.items; wishes = run.wishes.items; faces = run.faces.items }) run.step run.stage c.args.self.now c.self.view_is c.requires.out c.requires.step
    c.self.invariant c.args.quiet.problem c.requires.problem

pub step-requires : goal.step-requires
step-requires g c =
    let run = c.self.inside in
    let at = course_of run.params run.ended run.last g.S.Start.start in
    record {
      held = fluxed-held at run.set run.ledger run.ledger run.phase (record { blocks = run.blocks.items; wishes = run.wishes.items; faces = run.faces.items })
          (record { blocks = run.blocks.items; wishes = run.wishes.items; faces = run.faces.items }) run.step run.stage c.args.self.now c.self.view_is c.requires.out c.requires.step
          c.self.invariant c.args.quiet.problem c.requires.problem c.flux_out-out.result c.flux_out-out.ensures;
    }

pub invariant_of-self-2 : goal.invariant_of-self-2
invariant_of-self-2 g c =
    let run = c.self.inside in
    let at = course_of run.params run.ended run.last g.S.Start.start in
    fluxed-keeps at run.set run.ledger c.step.new.self run.phase (record { blocks = run.blocks.items; wishes = run.wishes.items; faces = run.faces.items })
    (record { blocks = c.in_ok-self-inside.field-0.items; wishes = run.wishes.items; faces = run.faces.items }) run.step run.stage c.args.self.now c.self.view_is c.requires.out c.requires.step
    c.self.invariant c.args.quiet.problem c.requires.problem c.flux_out-out.result
    c.flux_out-out.ensures c.step.ensures.later c.in_ok-self-inside.ensures.blocks c.in_ok-self-inside.ensures.state

pub returns-clause-told : goal.returns-clause-told
returns-clause-told g c =
    let run = c.self.inside in
    let at = course_of run.params run.ended run.last g.S.Start.start in
    fluxed-told at run.set run.ledger c.step.new.self run.phase (record { blocks = run.blocks.items; wishes = run.wishes.items; faces = run.faces.items })
    (record { blocks = c.in_ok-self-inside.field-0.items; wishes = run.wishes.items; faces = run.faces.items }) run.step run.stage c.args.self.now c.self.view_is c.requires.out c.requires.step
    c.self.invariant c.args.quiet.problem c.requires.problem
