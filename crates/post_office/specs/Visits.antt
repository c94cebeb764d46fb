-- What a visit of a shard does, as the seat that made it knows.
use Rattle.std.specs.Prelude.{◌≡◌, ◌≢◌, ◌⊎◌, ℕ, ◌+◌, List, [], ◌∷◌, ◌++◌, length, Some, All}
use Rattle.std.specs.declared.result.Result.{Result}
use Rattle.std.specs.declared.result.Result.TheVariants.{Ok, Err}
use Rattle.cello_num.specs.declared.memory.Memory.{Memory}
use Rattle.phase_core.specs.declared.envelope.Envelope.{Envelope}
use Rattle.phase_core.specs.Machine.{Reaction}
use Rattle.quiet_table.specs.declared.view.Hand.{Hand}
use Rattle.quiet_table.specs.declared.view.View.{View}
use Rattle.quiet_table.specs.Views.{hand_of, found}
use Rattle.quiet_table.specs.Waved.{SeesAgain}
use Rattle.post_office.specs.declared.plain.Stood.{Stood}
use Rattle.post_office.specs.declared.plain.Part.{Part}
use Rattle.post_office.specs.declared.visit.Visit.{Visit}
use Rattle.post_office.specs.declared.visit.Visit.TheVariants.{Busy, Done}
use Rattle.post_office.specs.Shares.{IsFor}
use Rattle.post_office.specs.Posts.{Standing, Turns}
use Rattle.post_office.specs.Finds.{FoundHeld, GivenBack}

module _ {P Q C M : Type 0} (problem : P → List C → Q) (holds : Q → List C → List (Envelope M) → Type 0) (weight : Q → List C → List (Envelope M) → ℕ) (bound : Q → ℕ) (react : Q → ℕ → C → M → Reaction C M) (shards : ℕ) where
  -- The cell of shard s was taken. What lay in its box joined what waited, so `waited` were its envelopes. So many of
  -- them were handled one after another and counted, which left `counted`. Then what goes out was put into the boxes of
  -- other shards, and the cell was given back last, with `remain`.
  pub record Served (s : ℕ) (v w : View (Part P Q C) (Envelope M)) (handled sent left : ℕ) : Type 0 where
    pub owners : List ℕ
    pub before : Stood P Q C
    pub waited : List (Envelope M)
    pub after : Stood P Q C
    pub counted : List (Envelope M)
    pub remain : List (Envelope M)
    pub waits : ℕ
    pub boxes : List (Hand (Part P Q C) (Envelope M))
    pub legal_before : Standing problem holds weight bound owners s before waited
    pub turns : Turns react owners s before waited sent handled after counted
    pub legal_after : Standing problem holds weight bound owners s after counted
    pub given : w.gave ≡ hand_of s (record { rest = record { owners = owners; shard = s; waits = waits; stood = Some after }; parcels = remain }) ∷ (boxes ++ v.gave)
    pub left_is : left ≡ length remain
    -- its own box was found held, or given back empty; nothing else was given back in it
    pub own_box : FoundHeld (shards + s) v.finds w.finds ⊎ GivenBack (shards + s) boxes
    pub own_empty : All (λ (h : Hand (Part P Q C) (Envelope M)). h.slot ≡ shards + s → h.parcels ≡ []) boxes
    pub hands : w.hands ≡ v.hands

  -- Busy comes only where another seat's number was found. After Done nothing waits, and each envelope that is left
  -- goes out to a shard whose box this visit found held. After want of memory the verdict has been seen, and the seat
  -- has stopped once more. In both cases what this seat handled has grown by what was handled.
  abbrev pub Visited : ℕ → View (Part P Q C) (Envelope M) → View (Part P Q C) (Envelope M) → Result Visit Memory → Type 0
  Visited s v w (Ok (Busy turn)) = (turn ≢ v.number + 1) × (turn ≢ 0) × (w ≡ found s turn v)
  Visited s v w (Ok (Done handled sent left)) = (served : Served s v w handled sent left) × (served.waits ≡ 0)
      × All (λ (e : Envelope M). (t : ℕ) × IsFor served.owners t e × FoundHeld (shards + t) v.finds w.finds) served.remain
      × (w ≡ record v { handled = v.handled + handled; finds = w.finds; gave = w.gave })
  Visited s v w (Err e) = (handled : ℕ) × (sent : ℕ) × (left : ℕ) × Served s v w handled sent left
      × (w ≡ record v { handled = v.handled + handled; finds = w.finds; gave = w.gave; stops = v.stops + 1; seen = w.seen }) × (w.seen ≢ 0) × SeesAgain v.seen w.seen
