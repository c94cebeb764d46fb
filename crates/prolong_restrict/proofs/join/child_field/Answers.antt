use Rattle.std.proofs.Common.{◌≡◌, ◌≤◌, Some, slice_get, slice_index, sym, ap, ◌∙◌, subst}
use Rattle.std.proofs.lemmas.Option.{slice_get-get_or}
use Rattle.block_fields.specs.Blocks.{amounts_of}
use Rattle.prolong_restrict.specs.Families.{most_in_field}
use Rattle.prolong_restrict.proofs.JoinNumbers.{element_most}
use Rattle.prolong_restrict.proofs.join.child_field.Goals as goal

pub returns-clause-small : goal.returns-clause-small
returns-clause-small c = λ n i w.
    let b = c.index-children-k.result in
    let there : slice_get c.args.children.now c.args.k ≡ Some b = slice_get-get_or c.args.children.now c.args.k b c.requires.k ∙ ap Some (sym c.index-children-k.is) in
    subst (λ q. slice_index q i ≤ most_in_field) (sym c.field.ensures.amounts)
    (element_most (amounts_of b c.args.field) most_in_field i (w.small c.args.k b there))
