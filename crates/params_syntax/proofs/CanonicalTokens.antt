-- The tokens of a canonical text are those of its tree, level by level.
use Rattle.std.proofs.Common.{ℕ, ◌≤◌, List, [], ◌∷◌, ◌++◌, length, refl, append_assoc}
use Rattle.std.specs.List.{flat_map}
use Rattle.std.proofs.lemmas.List.{append-nil}
use Rattle.params_syntax.specs.declared.tree.Atom.{Atom}
use Rattle.params_syntax.specs.declared.tree.Value.{Value}
use Rattle.params_syntax.specs.declared.tree.Value.TheVariants as values
use Rattle.params_syntax.specs.declared.tree.Setting.{Setting}
use Rattle.params_syntax.specs.declared.tree.Item.{Item}
use Rattle.params_syntax.specs.declared.tree.Item.TheVariants.{Set, Sub}
use Rattle.params_syntax.specs.declared.tree.Group.{Group}
use Rattle.params_syntax.specs.declared.token.Token.{Token}
use Rattle.params_syntax.specs.declared.token.Token.TheVariants as tokens
use Rattle.params_syntax.specs.Trees.{Each, IsName, IsAtom, IsValue, IsSetting, IsItem, IsGroup, IsTree}
use Rattle.params_syntax.specs.Grammar.{opens, closes, equals, ends, list_opens, list_closes, comma, elements, value_tokens, setting_tokens, item_tokens, group_tokens, tree_tokens}
use Rattle.params_syntax.specs.Limits.{longest}
use Rattle.params_syntax.specs.Reading.{Spells}
use Rattle.params_syntax.specs.Canonical.{atom_text, elements_text, value_text, setting_text, sub_setting_text, item_text, group_text, canonical_text}
use Rattle.params_syntax.proofs.TextTokens.{HasTokens, HasTokens-gap, HasTokens-next, HasTokens-name, HasTokens-atom, flat_map-tokens}

-- up to the `]` behind them
elements-tokens : (atoms : List Atom) (text : List ℕ) (ts : List Token) → Each IsAtom atoms → HasTokens (93 ∷ text) ts
    → HasTokens (elements_text atoms ++ 93 ∷ text) (elements atoms ++ ts)
elements-tokens [] text ts all has = has
elements-tokens (a ∷ []) text ts all has = HasTokens-atom a 93 text ts all.0 refl has
elements-tokens (a ∷ b ∷ atoms) text ts all has =
    let tail = elements_text (b ∷ atoms) ++ 93 ∷ text in
    rw (append_assoc (atom_text a ++ 44 ∷ 32 ∷ []) (elements_text (b ∷ atoms)) (93 ∷ text), append_assoc (atom_text a) (44 ∷ 32 ∷ []) tail)
    (HasTokens-atom a 44 (32 ∷ tail) (comma ∷ elements (b ∷ atoms) ++ ts) all.0 refl
    (HasTokens-next (44 ∷ 32 ∷ tail) comma 44 (32 ∷ tail) (32 ∷ tail) (elements (b ∷ atoms) ++ ts) refl refl
    (HasTokens-gap tail (32 ∷ tail) (elements (b ∷ atoms) ++ ts) refl (elements-tokens (b ∷ atoms) text ts all.1 has))))

-- up to the `;` behind it
value-tokens : (v : Value) (text : List ℕ) (ts : List Token) → IsValue v → HasTokens (59 ∷ text) ts
    → HasTokens (value_text v ++ 59 ∷ text) (value_tokens v ++ ts)
value-tokens (values.Atom a) text ts is has = HasTokens-atom a 59 text ts is refl has
value-tokens (values.List atoms) text ts is has =
    let tail = elements_text atoms ++ 93 ∷ 59 ∷ text in
    rw (append_assoc (elements_text atoms) (93 ∷ []) (59 ∷ text), append_assoc (elements atoms) (list_closes ∷ []) ts)
    (HasTokens-next (91 ∷ tail) list_opens 91 tail tail (elements atoms ++ list_closes ∷ ts) refl refl
    (elements-tokens atoms (59 ∷ text) (list_closes ∷ ts) is.0
    (HasTokens-next (93 ∷ 59 ∷ text) list_closes 93 (59 ∷ text) (59 ∷ text) ts refl refl has)))

setting-tokens : (s : Setting) (text : List ℕ) (ts : List Token) → IsSetting s → HasTokens text ts
    → HasTokens (setting_text s ++ text) (setting_tokens s ++ ts)
setting-tokens s text ts is has =
    let tail = value_text s.value ++ 59 ∷ 10 ∷ text in
    let tail_tokens = value_tokens s.value ++ ends ∷ ts in
    rw (
      append_assoc (s.name ++ 32 ∷ 61 ∷ 32 ∷ [] ++ value_text s.value) (59 ∷ 10 ∷ []) text,
      append_assoc (s.name ++ 32 ∷ 61 ∷ 32 ∷ []) (value_text s.value) (59 ∷ 10 ∷ text),
      append_assoc s.name (32 ∷ 61 ∷ 32 ∷ []) tail,
      append_assoc (value_tokens s.value) (ends ∷ []) ts,
    )
    (HasTokens-name s.name 32 (61 ∷ 32 ∷ tail) (equals ∷ tail_tokens) is.0 refl
    (HasTokens-gap (61 ∷ 32 ∷ tail) (32 ∷ 61 ∷ 32 ∷ tail) (equals ∷ tail_tokens) refl
    (HasTokens-next (61 ∷ 32 ∷ tail) equals 61 (32 ∷ tail) (32 ∷ tail) tail_tokens refl refl
    (HasTokens-gap tail (32 ∷ tail) tail_tokens refl
    (value-tokens s.value (10 ∷ text) (ends ∷ ts) is.1
    (HasTokens-next (59 ∷ 10 ∷ text) ends 59 (10 ∷ text) (10 ∷ text) ts refl refl
    (HasTokens-gap text (10 ∷ text) ts refl has)))))))

sub_setting-tokens : (s : Setting) (text : List ℕ) (ts : List Token) → IsSetting s → HasTokens text ts
    → HasTokens (sub_setting_text s ++ text) (setting_tokens s ++ ts)
sub_setting-tokens s text ts is has =
    let tail = setting_text s ++ text in
    HasTokens-gap tail (32 ∷ 32 ∷ 32 ∷ 32 ∷ tail) (setting_tokens s ++ ts) refl (setting-tokens s text ts is has)

-- a name, ` {` and a line feed, what stands between the braces, and what closes it
block-tokens : (name body closing text : List ℕ) (body_tokens ts : List Token) → IsName name
    → HasTokens (body ++ (closing ++ text)) (body_tokens ++ closes ∷ ts)
    → HasTokens (name ++ 32 ∷ 123 ∷ 10 ∷ [] ++ body ++ closing ++ text) (tokens.Name name ∷ opens ∷ (body_tokens ++ closes ∷ [] ++ ts))
block-tokens name body closing text body_tokens ts is has =
    let tail = body ++ (closing ++ text) in
    let tail_tokens = body_tokens ++ closes ∷ ts in
    rw (
      append_assoc (name ++ 32 ∷ 123 ∷ 10 ∷ [] ++ body) closing text,
      append_assoc (name ++ 32 ∷ 123 ∷ 10 ∷ []) body (closing ++ text),
      append_assoc name (32 ∷ 123 ∷ 10 ∷ []) tail,
      append_assoc body_tokens (closes ∷ []) ts,
    )
    (HasTokens-name name 32 (123 ∷ 10 ∷ tail) (opens ∷ tail_tokens) is refl
    (HasTokens-gap (123 ∷ 10 ∷ tail) (32 ∷ 123 ∷ 10 ∷ tail) (opens ∷ tail_tokens) refl
    (HasTokens-next (123 ∷ 10 ∷ tail) opens 123 (10 ∷ tail) (10 ∷ tail) tail_tokens refl refl
    (HasTokens-gap tail (10 ∷ tail) tail_tokens refl has))))

-- `}` and a line feed
closing-tokens : (text : List ℕ) (ts : List Token) → HasTokens text ts → HasTokens (125 ∷ 10 ∷ text) (closes ∷ ts)
closing-tokens text ts has =
    HasTokens-next (125 ∷ 10 ∷ text) closes 125 (10 ∷ text) (10 ∷ text) ts refl refl (HasTokens-gap text (10 ∷ text) ts refl has)

item-tokens : (item : Item) (text : List ℕ) (ts : List Token) → IsItem item → HasTokens text ts
    → HasTokens (item_text item ++ text) (item_tokens item ++ ts)
item-tokens (Set s) text ts is has =
    HasTokens-gap (setting_text s ++ text) (32 ∷ 32 ∷ (setting_text s ++ text)) (setting_tokens s ++ ts) refl (setting-tokens s text ts is has)
item-tokens (Sub name sets) text ts is has =
    let body = flat_map sub_setting_text sets in
    let block = name ++ 32 ∷ 123 ∷ 10 ∷ [] ++ body ++ 32 ∷ 32 ∷ 125 ∷ 10 ∷ [] ++ text in
    let block_tokens = tokens.Name name ∷ opens ∷ (flat_map setting_tokens sets ++ closes ∷ [] ++ ts) in
    HasTokens-gap block (32 ∷ 32 ∷ block) block_tokens refl
    (block-tokens name body (32 ∷ 32 ∷ 125 ∷ 10 ∷ []) text (flat_map setting_tokens sets) ts is.0
    (flat_map-tokens sub_setting_text setting_tokens IsSetting sub_setting-tokens sets (32 ∷ 32 ∷ 125 ∷ 10 ∷ text) (closes ∷ ts) is.1
    (HasTokens-gap (125 ∷ 10 ∷ text) (32 ∷ 32 ∷ 125 ∷ 10 ∷ text) (closes ∷ ts) refl (closing-tokens text ts has))))

group-tokens : (g : Group) (text : List ℕ) (ts : List Token) → IsGroup g → HasTokens text ts
    → HasTokens (group_text g ++ text) (group_tokens g ++ ts)
group-tokens g text ts is has =
    block-tokens g.name (flat_map item_text g.items) (125 ∷ 10 ∷ []) text (flat_map item_tokens g.items) ts is.0
    (flat_map-tokens item_text item_tokens IsItem item-tokens g.items (125 ∷ 10 ∷ text) (closes ∷ ts) is.1 (closing-tokens text ts has))

canonical-tokens : (groups : List Group) → IsTree groups → HasTokens (canonical_text groups) (tree_tokens groups)
canonical-tokens groups is =
    let none : HasTokens [] [] = record { rest = []; tokens = refl; ended = refl } in
    let all : HasTokens (canonical_text groups ++ []) (tree_tokens groups ++ []) = flat_map-tokens group_text group_tokens IsGroup group-tokens groups [] [] is none in
    rw (append-nil (canonical_text groups), append-nil (tree_tokens groups)) at all

-- a canonical text spells its tree
pub canonical_text-spells : (groups : List Group) → IsTree groups → length (canonical_text groups) ≤ longest → Spells (canonical_text groups) groups
canonical_text-spells groups is short =
    let has = canonical-tokens groups is in
    record { short = short; limits = is; rest = has.rest; tokens = has.tokens; ended = has.ended }
