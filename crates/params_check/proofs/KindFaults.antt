-- The faults of a group by its name, and by its kind.
use Rattle.std.proofs.Common.{◌≡◌, ℕ, List, refl, sym, subst}
use Rattle.params_syntax.specs.declared.tree.Item.{Item}
use Rattle.params_check.specs.declared.group_kind.GroupKind.{GroupKind}
use Rattle.params_check.specs.declared.group_kind.GroupKind.TheVariants.{Mesh, Field, Initial, Adapt, Method, Output}
use Rattle.params_check.specs.Lemmas.Groups.{group_name, kind_faults}
use Rattle.params_check.specs.Walks.{items_faults}

by_kind : (kind : GroupKind) (items : List Item) → items_faults (group_name kind) items ≡ kind_faults (group_name kind) kind items
unfolding items_faults
by_kind Mesh items = refl
by_kind Field items = refl
by_kind Initial items = refl
by_kind Adapt items = refl
by_kind Method items = refl
by_kind Output items = refl

pub items_faults_kind : (name : List ℕ) (kind : GroupKind) (items : List Item) → name ≡ group_name kind → items_faults name items ≡ kind_faults name kind items
items_faults_kind name kind items e =
    let P : List ℕ → Type 0 = λ n. items_faults n items ≡ kind_faults n kind items in
    subst P (sym e) (by_kind kind items)
