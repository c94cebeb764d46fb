-- A walk over the items of a group of subs, one item after another: what was made of the subs so far, and the faults
-- of what is left.
use Rattle.std.proofs.Common.{◌≡◌, ℕ, ◌+◌, ◌<◌, ◌≤◌, List, [], ◌∷◌, ◌++◌, length, get_or, drop, map, flat_map, Some, None, refl, sym, ap, ◌∙◌, append_assoc}
use Rattle.std.proofs.lemmas.List.{drop_more, append-nil, drop_all}
use Rattle.params_syntax.specs.declared.tree.Setting.{Setting}
use Rattle.params_syntax.specs.declared.tree.Item.{Item}
use Rattle.params_syntax.specs.declared.tree.Item.TheVariants.{Set, Sub}
use Rattle.params_check.specs.declared.fault.ParamFault.{ParamFault}
use Rattle.params_check.specs.Lemmas.Firsts.{first_fault}
use Rattle.params_check.specs.Values.{SubGroup, subs_among}
use Rattle.params_check.proofs.FirstFaults.{first_fault-passed, first_fault-found}

abbrev sub_group : List ℕ → List Setting → SubGroup
sub_group name sets = record { name = name; sets = sets }

module _ {Y : Type 0} (make : SubGroup → Y) (faults : SubGroup → List ParamFault) (items : List Item) where
  -- What was made of the first items, and what is left of the full walk.
  pub record HasWalked (i : ℕ) (ys : List Y) : Type 0 where
    pub made : ys ++ map make (subs_among (drop i items)) ≡ map make (subs_among items)
    pub left : first_fault (flat_map faults (subs_among (drop i items))) ≡ first_fault (flat_map faults (subs_among items))

  -- nothing has been made
  pub walked-none : HasWalked 0 []
  walked-none = record { made = refl; left = refl }

  next-is : (i : ℕ) (x y : Item) → i < length items → x ≡ get_or items i x → x ≡ y → subs_among (drop i items) ≡ subs_among (y ∷ drop (i + 1) items)
  next-is i x y within is e =
      ap subs_among (drop_more items i x within) ∙ ap (λ (z : Item). subs_among (z ∷ drop (i + 1) items)) (sym is ∙ e)

  -- the next item is a setting
  pub walked-set : (i : ℕ) (made : List Y) (x : Item) (s : Setting) → HasWalked i made → i < length items → x ≡ get_or items i x → x ≡ Set s → HasWalked (i + 1) made
  walked-set i made x s w within is e =
      let same : subs_among (drop i items) ≡ subs_among (drop (i + 1) items) = next-is i x (Set s) within is e in
      record {
        made = ap (λ (subs : List SubGroup). made ++ map make subs) (sym same) ∙ w.made;
        left = ap (λ (subs : List SubGroup). first_fault (flat_map faults subs)) (sym same) ∙ w.left;
      }

  module _ (i : ℕ) (made : List Y) (x : Item) (name : List ℕ) (sets : List Setting) (w : HasWalked i made) (within : i < length items) (is : x ≡ get_or items i x) (e : x ≡ Sub name sets) where
    next-sub : subs_among (drop i items) ≡ sub_group name sets ∷ subs_among (drop (i + 1) items)
    next-sub = next-is i x (Sub name sets) within is e

    -- the next item is a sub without a fault
    pub walked-sub : (y : Y) → first_fault (faults (sub_group name sets)) ≡ None → y ≡ make (sub_group name sets) → HasWalked (i + 1) (made ++ y ∷ [])
    walked-sub y none made_of =
        let rest = subs_among (drop (i + 1) items) in
        record {
          made =
              append_assoc made (y ∷ []) (map make rest)
              ∙ ap (λ (z : Y). made ++ (z ∷ map make rest)) made_of
              ∙ ap (λ (subs : List SubGroup). made ++ map make subs) (sym next-sub) ∙ w.made;
          left =
              sym (first_fault-passed (faults (sub_group name sets)) (flat_map faults rest) none)
              ∙ ap (λ (subs : List SubGroup). first_fault (flat_map faults subs)) (sym next-sub) ∙ w.left;
        }

    -- the next item is a sub with a fault
    pub found-sub : (f : ParamFault) → first_fault (faults (sub_group name sets)) ≡ Some f → first_fault (flat_map faults (subs_among items)) ≡ Some f
    found-sub f some =
        sym w.left ∙ ap (λ (subs : List SubGroup). first_fault (flat_map faults subs)) next-sub
        ∙ first_fault-found (faults (sub_group name sets)) (flat_map faults (subs_among (drop (i + 1) items))) f some

  -- all items have been walked
  pub walked-made : (i : ℕ) (made : List Y) → HasWalked i made → length items ≤ i → made ≡ map make (subs_among items)
  walked-made i made w ended =
      sym (append-nil made) ∙ ap (λ (rest : List Item). made ++ map make (subs_among rest)) (sym (drop_all i items ended)) ∙ w.made

  pub walked-left : (i : ℕ) (made : List Y) → HasWalked i made → length items ≤ i → first_fault (flat_map faults (subs_among items)) ≡ None
  walked-left i made w ended =
      sym w.left ∙ ap (λ (rest : List Item). first_fault (flat_map faults (subs_among rest))) (drop_all i items ended)
