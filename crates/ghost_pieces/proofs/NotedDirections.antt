-- The directions that are noted beside a list of filed regions.
use Rattle.std.proofs.Common.{◌≡◌, ◌<◌, inl, inr, Bool, true, false, sym, ap, ◌∙◌, subst, arith, List, [], ◌∷◌, ◌++◌, Some, slice_index_or, set, replicate}
use Rattle.std.specs.List.{list_any}
use Rattle.std.proofs.lemmas.Bool.{cases_Bool, cases_eq, false≢true}
use Rattle.std.proofs.lemmas.List.{get_or-set_same, get_or-set_other, length-replicate, length-set}
use Rattle.block_fields.proofs.Sums.{any-found}
use Rattle.ghost_pieces.specs.Filing.{Source, is_same_source}
use Rattle.ghost_pieces.specs.Regions.{Member}
use Rattle.ghost_pieces.specs.Lemmas.Noted.{AreNoted}
use Rattle.ghost_pieces.proofs.FiledLists.{source-same}
use Rattle.ghost_pieces.proofs.Lists.{member-cons, member-none, member-split}

-- none is noted, and the list is empty
pub noted-none : AreNoted (replicate 27 false) []
noted-none = record { long = length-replicate {A = Bool} 27 false; all = λ k m. absurd (member-none k m) }

-- no region of a direction that isn't noted stands in the list
pub not_noted : (noted : List Bool) (filed : List Source) (s : Source) → AreNoted noted filed → slice_index_or noted s.direction false ≡ false → list_any (is_same_source s) filed ≡ false
not_noted noted filed s w none =
    elim (cases_Bool (list_any (is_same_source s) filed)) [
      | inr f ↦ f
      | inl t ↦
          let o = any-found (is_same_source s) filed t in
          let m : Member filed s = (o.0, o.2 ∙ ap Some (sym (source-same s o.1 o.3))) in
          absurd (false≢true (sym none ∙ w.all s m))
    ]

-- one more region, whose direction is noted
module _ (noted : List Bool) (filed : List Source) (s : Source) (w : AreNoted noted filed) (below : s.direction < 27) where
  here : slice_index_or (set noted s.direction true) s.direction false ≡ true
  here = get_or-set_same noted s.direction true false (let l = w.long in omega arith)

  pub noted-more : AreNoted (set noted s.direction true) (filed ++ s ∷ [])
  noted-more = record { long = length-set noted s.direction true ∙ w.long; all = all }
    where
      all : (k : Source) → Member (filed ++ s ∷ []) k → slice_index_or (set noted s.direction true) k.direction false ≡ true
      all k m =
          elim (member-split filed (s ∷ []) k m) [
            | inl a ↦
                elim (cases_eq k.direction s.direction) [
                  | inl same ↦ subst (λ d. slice_index_or (set noted s.direction true) d false ≡ true) (sym same) here
                  | inr other ↦ get_or-set_other noted s.direction k.direction true false other ∙ w.all k a
                ]
            | inr b ↦
                elim (member-cons s k [] b) [
                  | inl same ↦ subst (λ (k : Source). slice_index_or (set noted s.direction true) k.direction false ≡ true) same here
                  | inr none ↦ absurd (member-none k none)
                ]
          ]
