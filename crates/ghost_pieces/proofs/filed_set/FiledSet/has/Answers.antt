use Rattle.std.proofs.Common.{◌≡◌, ap, ◌∙◌, sym, false, slice_index_or}
use Rattle.std.specs.List.{list_any}
use Rattle.ghost_pieces.specs.Filing.{Source, is_same_source}
use Rattle.ghost_pieces.proofs.NotedDirections.{not_noted}
use Rattle.ghost_pieces.proofs.filed_set.FiledSet.has.Goals as goal

pub returns-then-not-self-source : goal.returns-then-not-self-source
returns-then-not-self-source c =
    let items = c.self.inside.sources.items in
    let not : slice_index_or c.self.inside.noted c.args.source.direction false ≡ false = ap (λ (s : Source). slice_index_or c.self.inside.noted s.direction false) (sym c.source.view_is) ∙ c.if-not-self-source.true in
    let none : list_any (is_same_source c.args.source) items ≡ false = not_noted c.self.inside.noted items c.args.source c.self.invariant not in
    record { filed = sym none ∙ ap (list_any (is_same_source c.args.source)) c.self.view_is }
