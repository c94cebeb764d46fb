-- Reading lists of tokens: the tokens of a tree lead to the tree.
use Rattle.std.proofs.Common.{◌≡◌, ℕ, List, [], ◌∷◌, ◌++◌, Option, Some, None, refl, sym, ap, ◌∙◌, append_assoc}
use Rattle.std.proofs.lemmas.List.{append-nil}
use Rattle.std.specs.List.{flat_map}
use Rattle.params_syntax.specs.declared.tree.Atom.{Atom}
use Rattle.params_syntax.specs.declared.tree.Value.{Value}
use Rattle.params_syntax.specs.declared.tree.Value.TheVariants as values
use Rattle.params_syntax.specs.declared.tree.Setting.{Setting}
use Rattle.params_syntax.specs.declared.tree.Item.{Item}
use Rattle.params_syntax.specs.declared.tree.Item.TheVariants.{Set, Sub}
use Rattle.params_syntax.specs.declared.tree.Group.{Group}
use Rattle.params_syntax.specs.declared.state.Frame.{Frame}
use Rattle.params_syntax.specs.declared.state.Frame.TheVariants.{InGroup, InSub}
use Rattle.params_syntax.specs.declared.state.State.{State}
use Rattle.params_syntax.specs.declared.state.State.TheVariants.{Top, Inside, Listed, Element, Separated}
use Rattle.params_syntax.specs.declared.token.Token.{Token}
use Rattle.params_syntax.specs.declared.token.Token.TheVariants as tokens
use Rattle.params_syntax.specs.Grammar.{closes, equals, ends, list_closes, elements, value_tokens, setting_tokens, item_tokens, group_tokens, tree_tokens}
use Rattle.params_syntax.specs.Machine.States.{step, with_setting}

abbrev pub step_on : Option State → Token → Option State
step_on None t = None
step_on (Some s) t = step s t

-- the state after several tokens, where each is allowed
abbrev pub run : List Token → Option State → Option State
run [] o = o
run (t ∷ ts) o = run ts (step_on o t)

pub run-append : (xs ys : List Token) (o : Option State) → run (xs ++ ys) o ≡ run ys (run xs o)
run-append [] ys o = refl
run-append (x ∷ xs) ys o = run-append xs ys (step_on o x)

pub run-None : (ts : List Token) → run ts None ≡ None
run-None [] = refl
run-None (t ∷ ts) = run-None ts

abbrev pub start : Option State
start = Some (Top [])

-- ---- lists

run-elements : (f : Frame) (n : List ℕ) (front : List Atom) (a : Atom) (atoms : List Atom) (rest : List Token)
    → run (elements (a ∷ atoms) ++ rest) (Some (Separated f n front)) ≡ run rest (Some (Element f n (front ++ a ∷ atoms)))
run-elements f n front a [] rest = refl
run-elements f n front a (b ∷ atoms) rest =
    run-elements f n (front ++ a ∷ []) b atoms rest
    ∙ ap (λ (l : List Atom). run rest (Some (Element f n l))) (append_assoc front (a ∷ []) (b ∷ atoms))

run-listed : (f : Frame) (n : List ℕ) (a : Atom) (atoms : List Atom) (rest : List Token)
    → run (elements (a ∷ atoms) ++ rest) (Some (Listed f n)) ≡ run rest (Some (Element f n (a ∷ atoms)))
run-listed f n a [] rest = refl
run-listed f n a (b ∷ atoms) rest = run-elements f n (a ∷ []) b atoms rest

-- ---- settings and items

run-value : (f : Frame) (n : List ℕ) (v : Value) (rest : List Token)
    → run ((tokens.Name n ∷ equals ∷ value_tokens v ++ ends ∷ []) ++ rest) (Some (Inside f)) ≡ run rest (Some (Inside (with_setting f (record { name = n; value = v }))))
run-value f n (values.Atom a) rest = refl
run-value f n (values.List []) rest = refl
run-value f n (values.List (a ∷ atoms)) rest =
    let E = elements (a ∷ atoms) in
    let regroup : ((E ++ list_closes ∷ []) ++ ends ∷ []) ++ rest ≡ E ++ (list_closes ∷ ends ∷ rest) =
    append_assoc (E ++ list_closes ∷ []) (ends ∷ []) rest ∙ append_assoc E (list_closes ∷ []) (ends ∷ rest) in
    ap (λ (ts : List Token). run ts (Some (Listed f n))) regroup ∙ run-listed f n a atoms (list_closes ∷ ends ∷ rest)

run-setting : (f : Frame) (s : Setting) (rest : List Token) → run (setting_tokens s ++ rest) (Some (Inside f)) ≡ run rest (Some (Inside (with_setting f s)))
run-setting f s rest = run-value f s.name s.value rest

run-settings : (gs : List Group) (g : List ℕ) (items : List Item) (sub : List ℕ) (front sets : List Setting) (rest : List Token)
    → run (flat_map setting_tokens sets ++ rest) (Some (Inside (InSub gs g items sub front))) ≡ run rest (Some (Inside (InSub gs g items sub (front ++ sets))))
run-settings gs g items sub front [] rest = ap (λ (l : List Setting). run rest (Some (Inside (InSub gs g items sub l)))) (sym (append-nil front))
run-settings gs g items sub front (s ∷ sets) rest =
    ap (λ (ts : List Token). run ts (Some (Inside (InSub gs g items sub front)))) (append_assoc (setting_tokens s) (flat_map setting_tokens sets) rest)
    ∙ run-setting (InSub gs g items sub front) s (flat_map setting_tokens sets ++ rest)
    ∙ run-settings gs g items sub (front ++ s ∷ []) sets rest
    ∙ ap (λ (l : List Setting). run rest (Some (Inside (InSub gs g items sub l)))) (append_assoc front (s ∷ []) sets)

run-item : (gs : List Group) (g : List ℕ) (items : List Item) (i : Item) (rest : List Token)
    → run (item_tokens i ++ rest) (Some (Inside (InGroup gs g items))) ≡ run rest (Some (Inside (InGroup gs g (items ++ i ∷ []))))
run-item gs g items (Set s) rest = run-setting (InGroup gs g items) s rest
run-item gs g items (Sub name sets) rest =
    ap (λ (ts : List Token). run ts (Some (Inside (InSub gs g items name [])))) (append_assoc (flat_map setting_tokens sets) (closes ∷ []) rest)
    ∙ run-settings gs g items name [] sets (closes ∷ rest)

run-items : (gs : List Group) (g : List ℕ) (front items : List Item) (rest : List Token)
    → run (flat_map item_tokens items ++ rest) (Some (Inside (InGroup gs g front))) ≡ run rest (Some (Inside (InGroup gs g (front ++ items))))
run-items gs g front [] rest = ap (λ (l : List Item). run rest (Some (Inside (InGroup gs g l)))) (sym (append-nil front))
run-items gs g front (i ∷ items) rest =
    ap (λ (ts : List Token). run ts (Some (Inside (InGroup gs g front)))) (append_assoc (item_tokens i) (flat_map item_tokens items) rest)
    ∙ run-item gs g front i (flat_map item_tokens items ++ rest)
    ∙ run-items gs g (front ++ i ∷ []) items rest
    ∙ ap (λ (l : List Item). run rest (Some (Inside (InGroup gs g l)))) (append_assoc front (i ∷ []) items)

-- ---- groups

run-group : (gs : List Group) (g : Group) (rest : List Token) → run (group_tokens g ++ rest) (Some (Top gs)) ≡ run rest (Some (Top (gs ++ g ∷ [])))
run-group gs g rest =
    ap (λ (ts : List Token). run ts (Some (Inside (InGroup gs g.name [])))) (append_assoc (flat_map item_tokens g.items) (closes ∷ []) rest)
    ∙ run-items gs g.name [] g.items (closes ∷ rest)

run-groups : (front groups : List Group) (rest : List Token) → run (tree_tokens groups ++ rest) (Some (Top front)) ≡ run rest (Some (Top (front ++ groups)))
run-groups front [] rest = ap (λ (l : List Group). run rest (Some (Top l))) (sym (append-nil front))
run-groups front (g ∷ groups) rest =
    ap (λ (ts : List Token). run ts (Some (Top front))) (append_assoc (group_tokens g) (tree_tokens groups) rest)
    ∙ run-group front g (tree_tokens groups ++ rest)
    ∙ run-groups (front ++ g ∷ []) groups rest
    ∙ ap (λ (l : List Group). run rest (Some (Top l))) (append_assoc front (g ∷ []) groups)

pub run-tree_tokens : (groups : List Group) → run (tree_tokens groups) start ≡ Some (Top groups)
run-tree_tokens groups = ap (λ (ts : List Token). run ts start) (sym (append-nil (tree_tokens groups))) ∙ run-groups [] groups []
