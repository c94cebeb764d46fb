-- What is left of the proof of this function.
use Rattle.std.proofs.Common.{◌≡◌, ◌+◌, List, ℕ, ◌++◌, take, drop, Some, sym, ◌∙◌, ap, take-append-drop}
use Rattle.std.proofs.lemmas.List.{drop-drop, take_rest}
use Rattle.cello_io.proofs.memory_source.MemorySourceSource.read_piece.Goals as goal

pub returns-clause-moved : goal.returns-clause-moved
returns-clause-moved c =
    let next = c.args.self.now.next in
    let bytes = c.args.self.now.bytes.items in
    let count = c.copy_front-count.result in
    let copied : take count c.copy_front-count.new.to ≡ take count (drop next bytes) =
    c.copy_front-count.ensures.copied
    ∙ ap (λ (l : List ℕ). take count l) (take_rest c.deref-2.result.now next)
    ∙ ap (λ (l : List ℕ). take count (drop next l)) c.deref-2.ensures.value in
    ap (λ (l : List ℕ). Some l)
    (sym (take-append-drop count (drop next bytes))
    ∙ ap (λ (l : List ℕ). take count (drop next bytes) ++ l) (drop-drop count next bytes)
    ∙ ap (λ (l : List ℕ). l ++ drop (next + count) bytes) (sym copied))
