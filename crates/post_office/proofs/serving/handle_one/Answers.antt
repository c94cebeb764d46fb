use Rattle.std.proofs.Common.{◌≡◌, ◌<◌, ◌∷◌, ◌++◌, sym, ap, ◌∙◌, refl, subst, length, arith, get_or}
use Rattle.std.specs.Prelude.{slice_set}
use Rattle.std.proofs.lemmas.Option.{slice_get_within}
use Rattle.post_office.specs.Shares.{rank}
use Rattle.post_office.specs.Posts.{stood}
use Rattle.post_office.proofs.Handling.{read_of, cell_is, cell_there, stands_for, problem_is}
use Rattle.post_office.proofs.serving.handle_one.Goals as goal

pub bounds-ranks-envelope : goal.bounds-ranks-envelope
bounds-ranks-envelope g c =
    let e = c.args.envelope.now in
    slice_get_within c.args.ranks.now e.to (rank c.args.owners.now c.args.shard e.to) (c.requires.ranked e.to c.args.shard c.requires.ours)

pub index_mut-cell-requires : goal.index_mut-cell-requires
index_mut-cell-requires g c =
    let ph = g.P.Phase in
    let cells = c.args.cells.now in
    let e = c.args.envelope.now in
    let ranks = c.args.ranks.now in
    let st = stood ph.problem c.args.phase.now c.args._first.now.value.items cells.items in
    let a = rank c.args.owners.now c.args.shard e.to in
    let place : get_or ranks e.to 0 ≡ a = read_of ranks e.to 0 a (c.requires.ranked e.to c.args.shard c.requires.ours) in
    let r = cell_there ph.problem ph.holds ph.weight ph.start_weight c.args.owners.now c.args.shard st e c.requires.stands.0 c.requires.stands.1 c.requires.ours c.args.phase.now refl in
    let within : a < length cells.items = slice_get_within cells.items a r.0 r.2 in
    omega (arith, within, place, cells.ok.0)

pub handle-requires : goal.handle-requires
handle-requires g c =
    let ph = g.P.Phase in
    let cells = c.args.cells.now in
    let e = c.args.envelope.now in
    let ranks = c.args.ranks.now in
    let st = stood ph.problem c.args.phase.now c.args._first.now.value.items cells.items in
    let a = rank c.args.owners.now c.args.shard e.to in
    let place : get_or ranks e.to 0 ≡ a = read_of ranks e.to 0 a (c.requires.ranked e.to c.args.shard c.requires.ours) in
    let s = c.requires.stands.1 in
    let cell = c.index_mut-cell.result.now in
    let read : cell ≡ get_or cells.items a cell = subst (λ z. cell ≡ get_or cells.items z cell) place c.index_mut-cell.ensures.value in
    record { stands = (s.legal.cells, (e ∷ c.requires.stands.0) ++ s.others, stands_for ph.problem ph.holds ph.weight ph.start_weight c.args.owners.now c.args.shard st e c.requires.stands.0 s c.requires.ours c.args.phase.now refl cell read) }

pub returns-clause-done : goal.returns-clause-done
returns-clause-done g c =
    let ph = g.P.Phase in
    let cells = c.args.cells.now in
    let e = c.args.envelope.now in
    let ranks = c.args.ranks.now in
    let st = stood ph.problem c.args.phase.now c.args._first.now.value.items cells.items in
    let a = rank c.args.owners.now c.args.shard e.to in
    let place : get_or ranks e.to 0 ≡ a = read_of ranks e.to 0 a (c.requires.ranked e.to c.args.shard c.requires.ours) in
    let s = c.requires.stands.1 in
    let cell = c.index_mut-cell.result.now in
    let read : cell ≡ get_or cells.items a cell = subst (λ z. cell ≡ get_or cells.items z cell) place c.index_mut-cell.ensures.value in
    let stands = stands_for ph.problem ph.holds ph.weight ph.start_weight c.args.owners.now c.args.shard st e c.requires.stands.0 s c.requires.ours c.args.phase.now refl cell read in
    let same = problem_is ph.problem ph.holds ph.weight ph.start_weight c.args.owners.now c.args.shard st e c.requires.stands.0 s c.requires.ours c.args.phase.now refl in
    let flight = (e ∷ c.requires.stands.0) ++ s.others in (
      cell,
      cell_is ph.problem ph.holds ph.weight ph.start_weight c.args.owners.now c.args.shard st e c.requires.stands.0 s c.requires.ours c.args.phase.now refl cell read,
      ap (λ z. slice_set cells.items z c.handle.new.cell) place ∙ ap (λ x. slice_set cells.items a x) (c.in_ok-handle.ensures.cell s.legal.cells flight stands ∙ ap (λ q. (ph.react q e.to cell e.msg).cell) (sym same)),
      c.in_ok-handle.ensures.sent s.legal.cells flight stands ∙ ap (λ q. c.args.out.now.items ++ (ph.react q e.to cell e.msg).sent) (sym same),
    )
