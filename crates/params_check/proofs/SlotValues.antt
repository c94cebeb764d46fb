-- The slots of subs are the values of their keys.
use Rattle.std.proofs.Common.{◌≡◌, ℕ, ◌<◌, List, None, length, map, get_or, sym, ap, ◌∙◌, All, arith}
use Rattle.std.proofs.lemmas.List.{length-map, get_or-map}
use Rattle.params_syntax.specs.declared.tree.Setting.{Setting}
use Rattle.params_check.specs.declared.slots.Slot.{Slot}
use Rattle.params_check.specs.Keys.{Key}
use Rattle.params_check.specs.Lemmas.Firsts.{first_fault}
use Rattle.params_check.specs.Lemmas.Slots.{given}
use Rattle.params_check.specs.TreeValues.{value_at}
use Rattle.params_check.specs.Walks.{keys_faults}
use Rattle.params_check.proofs.FirstFaults.{no_first_fault}
use Rattle.params_check.proofs.WalkedKeys.{KeyKept, keys-kept}

-- the slot at a position is the value of the key there
pub slot-value : (keys : List Key) (sets : List Setting) (slots : List Slot) (i : ℕ) (d s : Slot) (k : Key) → map given slots ≡ map (λ k. value_at k sets) keys
    → i < length slots → s ≡ get_or slots i d → given s ≡ value_at (get_or keys i k) sets
slot-value keys sets slots i d s k are within is =
    let same : length slots ≡ length keys = sym (length-map slots given) ∙ ap length are ∙ length-map keys (λ k. value_at k sets) in
    ap given is ∙ sym (get_or-map given slots i d None within) ∙ ap (λ l. get_or l i None) are
    ∙ get_or-map (λ k. value_at k sets) keys i k None (omega (arith, same, within))

-- the same faults, by other names
pub keys_faults-same : (group other sub : List ℕ) (names : List (List ℕ)) (kind like : List ℕ) (sets : List Setting) (keys table : List Key)
    → group ≡ other → kind ≡ like → keys ≡ table → keys_faults group sub names kind sets keys ≡ keys_faults other sub names like sets table
keys_faults-same group other sub names kind like sets keys table g k t = λ i. keys_faults (g i) sub names (k i) sets (t i)

-- a walk over keys without a fault
pub kept-keys : (group sub : List ℕ) (names : List (List ℕ)) (kind : List ℕ) (sets : List Setting) (keys : List Key)
    → first_fault (keys_faults group sub names kind sets keys) ≡ None → All (KeyKept names kind sets) keys
kept-keys group sub names kind sets keys none = keys-kept group sub names kind sets keys (no_first_fault (keys_faults group sub names kind sets keys) none)
