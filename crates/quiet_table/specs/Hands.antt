-- What a seat may do with the slots that it holds, and what holds of their contents.
use Rattle.std.specs.Prelude.{◌≡◌, ℕ, List, [], ◌∷◌, ◌++◌, length, slice_get, Some, IsPermutation}
use mathlib.Core.Option.{some}
use lib.ListN.{get_elem?}
use Rattle.quiet_table.specs.declared.view.Hand.{Hand}
use Rattle.quiet_table.specs.Contents.{Contents}
use Rattle.quiet_table.specs.Views.{hand_pool}

module _ {R E : Type 0} where
  -- there are legal contents of so many slots with this origin in which the held slots have what the hands say, and
  -- the envelopes of the hands are among the envelopes
  pub record InLegal {O : Type 0} (legal : List R → List E → ℕ → Type 0) (origin : List R → O) (slots : ℕ) (from : O) (hands : List (Hand R E)) : Type 0 where
    pub rests : List R
    pub others : List E
    pub total : ℕ
    pub legal_then : legal rests (hand_pool hands ++ others) total
    pub count : length rests ≡ slots
    pub there : (a : ℕ) (h : Hand R E) → get_elem? hands a ≡ some h → slice_get rests h.slot ≡ Some h.rest
    pub same_origin : origin rests ≡ from

  -- the slot that was taken last may be given back with these contents: all but the envelopes is as it was, and the
  -- envelopes are those of all hands, where no other slot is held; among those of all hands, where one is; and those
  -- of its own hand, where more are
  abbrev pub MayGive : List (Hand R E) → Contents R E → Type 0
  MayGive [] c = ⊥
  MayGive (h ∷ []) c = (c.rest ≡ h.rest) × IsPermutation h.parcels c.parcels
  MayGive (h ∷ g ∷ []) c = (c.rest ≡ h.rest) × ((left : List E) × IsPermutation (h.parcels ++ g.parcels) (c.parcels ++ left))
  MayGive (h ∷ g ∷ f ∷ hs) c = (c.rest ≡ h.rest) × IsPermutation h.parcels c.parcels

  -- what the seat goes on holding: the other slots, and in the one other slot the envelopes that are left
  abbrev pub Goes : List (Hand R E) → Contents R E → List (Hand R E) → Type 0
  Goes [] c hs' = ⊥
  Goes (h ∷ []) c hs' = hs' ≡ []
  Goes (h ∷ g ∷ []) c hs' = (left : List E) × IsPermutation (h.parcels ++ g.parcels) (c.parcels ++ left) × (hs' ≡ record g { parcels = left } ∷ [])
  Goes (h ∷ g ∷ f ∷ hs) c hs' = hs' ≡ g ∷ f ∷ hs

  -- the turn leads from what the slot contains that was taken last
  abbrev pub TurnsFrom : (R → List E → ℕ → ℕ → R → List E → Type 0) → List (Hand R E) → ℕ → ℕ → R → List E → Type 0
  TurnsFrom turn [] sent handled r es = ⊥
  TurnsFrom turn (h ∷ hs) sent handled r es = turn h.rest h.parcels sent handled r es
