-- What a seat knows, and what each kind of step changes in it.
use Rattle.std.specs.Prelude.{◌≡◌, ◌≢◌, ℕ, zero, suc, ◌+◌, ◌-◌, true, false, List, [], ◌∷◌, ◌++◌, Option, None}
use mathlib.Core.Option.{some}
use lib.ListN.{get_elem?}
use Rattle.quiet_table.specs.declared.view.Hand.{Hand}
use Rattle.quiet_table.specs.declared.view.View.{View}
use Rattle.quiet_table.specs.declared.item.Item.{Item}
use Rattle.quiet_table.specs.Contents.{Contents}

-- what either of two seats has seen of the verdict
abbrev pub either_seen : ℕ → ℕ → ℕ
either_seen zero n = n
either_seen (suc m) n = suc m

module _ {R E : Type 0} where
  -- the one seat of a new board
  abbrev pub first_view : View R E
  first_view = record { live = true; number = 0; splits = 0; joins = 0; stops = 0; finds = []; hands = []; uncounted = 0; handled = 0; first = []; second = []; seen = 0; gave = [] }

  -- what a split leaves of seat 0
  abbrev pub split_left : View R E → View R E
  split_left v = record v { splits = v.splits + 1 }

  -- the new seat, whose number is the count of splits after this one
  abbrev pub split_right : View R E → View R E
  split_right v = record first_view { number = v.splits + 1 }

  -- the seat with this number on a new board with so many seats
  abbrev pub dealt_view : ℕ → ℕ → View R E
  dealt_view seats zero = record first_view { splits = seats - 1 }
  dealt_view seats (suc n) = record first_view { number = suc n }

  -- a seat that another one took in
  abbrev pub spent_view : View R E
  spent_view = record first_view { live = false }

  -- seat 0 after it took in the second seat
  abbrev pub joined_view : View R E → View R E → View R E
  joined_view v w = record v { joins = v.joins + 1; stops = v.stops + w.stops; handled = v.handled + w.handled; finds = v.finds ++ w.finds; seen = either_seen v.seen w.seen }

  abbrev pub hand_of : ℕ → Contents R E → Hand R E
  hand_of k c = record { slot = k; rest = c.rest; parcels = c.parcels }

  abbrev pub NotHeld : ℕ → List (Hand R E) → Type 0
  NotHeld k hands = (a : ℕ) (h : Hand R E) → get_elem? hands a ≡ some h → h.slot ≢ k

  -- the slot was taken last of those that are held
  abbrev pub FirstIs : ℕ → List (Hand R E) → Type 0
  FirstIs k [] = ⊥
  FirstIs k (h ∷ hs) = h.slot ≡ k

  -- the slot was taken
  abbrev pub took : ℕ → Contents R E → View R E → View R E
  took k c v = record v { hands = hand_of k c ∷ v.hands }

  -- another seat's number plus 1 was found in the slot's turn word
  abbrev pub found : ℕ → ℕ → View R E → View R E
  found k turn v = record v { finds = record { slot = k; turn = turn } ∷ v.finds }

  -- the hand was given back, and these are left
  abbrev pub holding : List (Hand R E) → Hand R E → View R E → View R E
  holding hs g v = record v { hands = hs; gave = g ∷ v.gave }

  -- the envelopes of all hands
  abbrev pub hand_pool : List (Hand R E) → List E
  hand_pool [] = []
  hand_pool (h ∷ hs) = h.parcels ++ hand_pool hs

  -- the first hand with other contents
  abbrev pub recarried : R → List E → List (Hand R E) → List (Hand R E)
  recarried r es [] = []
  recarried r es (h ∷ hs) = record h { rest = r; parcels = es } ∷ hs

  -- the sent step of a turn: what it handled is uncounted until the handled step
  abbrev pub turned : ℕ → R → List E → View R E → View R E
  turned handled r es v = record v { hands = recarried r es v.hands; uncounted = v.uncounted + handled }

-- the slots of the hands, whose values are out
abbrev pub carried_of : {C B R E : Type 0} → List (Hand R E) → List (ℕ × Option (Item C B))
carried_of [] = []
carried_of (h ∷ hs) = (h.slot, None) ∷ carried_of hs
