-- A part has one fault at most, and a part that is sound has none.
use Rattle.std.proofs.Common.{◌≡◌, ℕ, ◌+◌, ◌*◌, ◌^◌, ◌<◌, All, List, ◌++◌, length, map, get_or, slice_index, take, drop, inl, inr, take-append-drop, length-take-le, refl, sym, ap, subst, ◌∙◌, arith}
use Rattle.std.specs.Int.{bytes_high_first}
use Rattle.std.proofs.lemmas.Bool.{cases_order}
use Rattle.std.proofs.lemmas.List.{drop_at, drop_more, get_or-map, length-map, take_at}
use Rattle.std.proofs.lemmas.List.Concat.{flat_map-append}
use Rattle.std.proofs.lemmas.List.Elements.{All-get_or}
use Rattle.byteorder.specs.Numbers.{length-bytes_high_first}
use Rattle.block_index.specs.Places.{Cube, Grid, IsDomain, IsPlace, packed}
use Rattle.block_fields.specs.States.{total}
use Rattle.leaf_set.specs.LeafFaults.{IsFirst, IsLeafFault}
use Rattle.leaf_set.specs.Tiling.{IsTiling}
use Rattle.leaf_set.specs.declared.leaf_fault.LeafFault.{LeafFault}
use Rattle.leaf_set.proofs.OneFault.{no_fault, one_fault}
use Rattle.params_syntax.specs.Trees.{Each}
use Rattle.params_check.specs.Parameters.{Parameters, total_of}
use Rattle.checkpoint.specs.Lemmas.Stages.{parts_before, some_place}
use Rattle.checkpoint.specs.Reading.{AreNumber, ArePlacesAtFault, IsBadField, IsNoPlace, IsOffBalance, IsOtherTotal, IsPartFault, IsSound, no_mesh, no_place, state_in}
use Rattle.checkpoint.specs.SavedStates.{SavedState}
use Rattle.checkpoint.specs.Spelling.{numbers_bytes, part_bytes}
use Rattle.checkpoint.specs.declared.part.Part.{Part}
use Rattle.checkpoint.specs.declared.part.Part.TheVariants as parts
use Rattle.checkpoint.specs.declared.fault.CheckFault.{CheckFault}
use Rattle.checkpoint.specs.declared.fault.CheckFault.TheVariants as faults
use Rattle.checkpoint.proofs.OneState.{are-places, places-fit, same-number, same-places, same-words}
use Rattle.checkpoint.proofs.PartFacts.{Agree, few-leaves, limits-of}
use Rattle.checkpoint.proofs.StageParts.{length-numbers_bytes}

-- ---- numbers

same-read : (count n m : ℕ) (bytes : List ℕ) → AreNumber count n bytes → AreNumber count m bytes → n ≡ m
same-read count n m bytes h k = same-number count n m h.fits k.fits (sym h.bytes_are ∙ k.bytes_are)

spelled-number : (count n m : ℕ) → m < 256 ^ count → AreNumber count n (bytes_high_first count m) → n ≡ m
spelled-number count n m fits h = same-number count n m h.fits fits (sym h.bytes_are)

-- ---- places

-- the word at a position
pub word-here : (words : List ℕ) (at : ℕ) → at < length words → take 8 (drop (8 * at) (numbers_bytes words)) ≡ bytes_high_first 8 (get_or words at 0)
word-here words at l =
    let front = numbers_bytes (take at words) in
    let word = get_or words at 0 in
    let rest = numbers_bytes (drop (at + 1) words) in
    let split : numbers_bytes words ≡ front ++ (bytes_high_first 8 word ++ rest) =
    sym (ap numbers_bytes (take-append-drop at words)) ∙ flat_map-append (bytes_high_first 8) (take at words) (drop at words)
    ∙ ap (λ (q : List ℕ). front ++ numbers_bytes q) (drop_more words at 0 l) in
    let long : length front ≡ 8 * at = length-numbers_bytes (take at words) ∙ ap (λ (n : ℕ). 8 * n) (length-take-le at words (omega (arith, l))) in
    ap (λ (q : List ℕ). take 8 (drop (8 * at) q)) split
    ∙ ap (take 8) (drop_at front (bytes_high_first 8 word ++ rest) (8 * at) long)
    ∙ take_at (bytes_high_first 8 word) rest 8 (length-bytes_high_first 8 word)

-- each word of places is one
pub all-places : (places : List Cube) (at : ℕ) → All IsPlace places → IsNoPlace (numbers_bytes (map packed places)) at → ⊥
all-places places at limits h =
    let words = map packed places in
    let long = length-numbers_bytes words in
    let many = length-map places packed in
    let w = h.within in
    let below : at < length places = omega (arith, long, many, w) in
    let below' : at < length words = omega (arith, below, many) in
    h.none (get_or places at some_place) (All-get_or IsPlace places at some_place below limits)
    (ap (bytes_high_first 8) (sym (get_or-map packed places at some_place 0 below)) ∙ sym (word-here words at below'))

-- places are told by their bytes
list-same : (one : (a c : Cube) → IsPlace a → IsPlace c → packed a ≡ packed c → a ≡ c) (xs ys : List Cube) → All IsPlace xs → All IsPlace ys
    → numbers_bytes (map packed xs) ≡ numbers_bytes (map packed ys) → xs ≡ ys
list-same one xs ys h k e = same-places one xs ys h k (same-words (map packed xs) (map packed ys) (places-fit xs h) (places-fit ys k) e)

IsFirst-one : (P Q : ℕ → Type 0) (i j : ℕ) → ((n : ℕ) → P n → Q n) → ((n : ℕ) → Q n → P n) → IsFirst P i → IsFirst Q j → i ≡ j
IsFirst-one P Q i j to from h k =
    elim (cases_order i j) [
      | inl same ↦ same
      | inr r ↦ elim r [ inl less ↦ absurd (k.none_before i less (to i h.here)) | inr more ↦ absurd (h.none_before j more (from j k.here)) ]
    ]

one-place-fault : (one : (a c : Cube) → IsPlace a → IsPlace c → packed a ≡ packed c → a ≡ c) (grid : Grid) (bytes : List ℕ) (f g : CheckFault) → IsDomain grid
    → ArePlacesAtFault grid bytes f → ArePlacesAtFault grid bytes g → f ≡ g
one-place-fault one grid bytes f g d (no_place at first is) (no_place at' first' is') =
    is ∙ ap (λ (n : ℕ). faults.Word n) (IsFirst-one (IsNoPlace bytes) (IsNoPlace bytes) at at' (λ n h. h) (λ n h. h) first first') ∙ sym is'
one-place-fault one grid bytes f g d (no_place at first is) (no_mesh list l limits are bad other is') =
    absurd (all-places list at limits (subst (λ (q : List ℕ). IsNoPlace q at) are first.here))
one-place-fault one grid bytes f g d (no_mesh list l limits are bad other is') (no_place at first is) =
    absurd (all-places list at limits (subst (λ (q : List ℕ). IsNoPlace q at) are first.here))
one-place-fault one grid bytes f g d (no_mesh xs l hx ex bx nx is) (no_mesh ys m hy ey by ny is') =
    let same : xs ≡ ys = list-same one xs ys hx hy (sym ex ∙ ey) in
    is ∙ ap (λ (n : LeafFault). faults.Leaves n) (one_fault grid ys l m d (subst (λ (q : List Cube). IsLeafFault grid q l) same bx) by nx ny) ∙ sym is'

sound-places : (one : (a c : Cube) → IsPlace a → IsPlace c → packed a ≡ packed c → a ≡ c) (grid : Grid) (places : List Cube) (f : CheckFault)
    → ArePlacesAtFault grid (numbers_bytes (map packed places)) f → IsTiling (record { grid = grid; places = places }) → ⊥
sound-places one grid places f (no_place at first is) h = all-places places at (are-places (record { grid = grid; places = places }) h) first.here
sound-places one grid places f (no_mesh xs l hx ex bx nx is) h =
    let same : xs ≡ places = list-same one xs places hx (are-places (record { grid = grid; places = places }) h) (sym ex) in
    no_fault grid places l (subst (λ (q : List Cube). IsLeafFault grid q l) same bx) nx h

-- ---- fields

one-bad-field : (v w bytes : List ℕ) (P Q : ℕ → Type 0) (says says' : ℕ → CheckFault) (f g : CheckFault) → (v ≡ w → (n : ℕ) → P n → Q n) → (v ≡ w → (n : ℕ) → Q n → P n)
    → (v ≡ w → (n : ℕ) → says n ≡ says' n) → IsBadField v bytes P says f → IsBadField w bytes Q says' g → f ≡ g
one-bad-field v w bytes P Q says says' f g to from same h k =
    let e : v ≡ w = same-words v w h.is.fit k.is.fit (sym h.is.bytes_are ∙ k.is.bytes_are) in
    let field : h.field ≡ k.field = IsFirst-one P Q h.field k.field (to e) (from e) h.first k.first in
    h.fault_is ∙ ap says field ∙ same e k.field ∙ sym k.fault_is

total-same : (s t : SavedState) → Agree parts.Totals s t → (f : ℕ) → total (state_in s) f ≡ total (state_in t) f
total-same s t h f =
    ap (λ (p : Parameters). total (record { grid = p.grid; edge = p.block; fields = length p.fields; leaves = s.places; amounts = s.amounts }) f) h.0
    ∙ ap (λ (q : List Cube). total (record { grid = t.params.grid; edge = t.params.block; fields = length t.params.fields; leaves = q; amounts = s.amounts }) f) h.1
    ∙ ap (λ (q : List (List (List ℕ))). total (record { grid = t.params.grid; edge = t.params.block; fields = length t.params.fields; leaves = t.places; amounts = q }) f) h.2

other-total : (s t : SavedState) (v w : List ℕ) → s.params ≡ t.params → ((f : ℕ) → total (state_in s) f ≡ total (state_in t) f) → v ≡ w → (n : ℕ) → IsOtherTotal s v n → IsOtherTotal t w n
other-total s t v w params totals e n h = record {
  field = subst (λ (p : Parameters). n < length p.fields) params h.field;
  other = λ x. h.other (ap (λ (q : List ℕ). slice_index q n) e ∙ x ∙ sym (totals n));
}

off-balance : (s t : SavedState) (v w : List ℕ) → s.params ≡ t.params → s.totals ≡ t.totals → v ≡ w → (n : ℕ) → IsOffBalance s v n → IsOffBalance t w n
off-balance s t v w params totals e n h = record {
  field = subst (λ (p : Parameters). n < length p.fields) params h.field;
  other = λ x. h.other (ap (λ (q : List ℕ). slice_index q n + slice_index v n) totals ∙ ap (λ (q : List ℕ). slice_index t.totals n + slice_index q n) e ∙ x
      ∙ ap (λ (p : Parameters). total_of p n) (sym params));
}

-- ---- one fault

pub one-part-fault : (one : (a c : Cube) → IsPlace a → IsPlace c → packed a ≡ packed c → a ≡ c) (next : Part) (s t : SavedState) (bytes : List ℕ) (f g : CheckFault) → Agree next s t
    → Each (IsSound s) (parts_before next) → IsPartFault s next bytes f → IsPartFault t next bytes g → f ≡ g
one-part-fault one parts.Magic s t bytes f g agree before h k = h.1 ∙ sym k.1
one-part-fault one parts.Version s t bytes f g agree before h k =
    h.fault_is ∙ ap (λ (n : ℕ). faults.Version n) (same-read 2 h.found k.found bytes h.is k.is) ∙ sym k.fault_is
one-part-fault one parts.TextLength s t bytes f g agree before h k = h.fault_is ∙ sym k.fault_is
one-part-fault one parts.Text s t bytes f g agree before h k = h.1 ∙ sym k.1
one-part-fault one parts.Cycle s t bytes f g agree before h k =
    h.fault_is ∙ ap (λ (n : ℕ). faults.Cycle n) (same-read 4 h.found k.found bytes h.is k.is) ∙ sym k.fault_is
one-part-fault one parts.LeafCount s t bytes f g agree before h k =
    h.fault_is
    ∙ ap (λ (n : ℕ). faults.Count n s.params.max_blocks) (same-read 4 h.found k.found bytes h.is k.is)
    ∙ ap (λ (p : Parameters). faults.Count k.found p.max_blocks) agree
    ∙ sym k.fault_is
one-part-fault one parts.Places s t bytes f g agree before h k =
    one-place-fault one s.params.grid bytes f g (limits-of s.params before.1.1.1.0).domain h (subst (λ (p : Parameters). ArePlacesAtFault p.grid bytes g) (sym agree.0) k)
one-part-fault one parts.Amounts s t bytes f g agree before h k = absurd h
one-part-fault one parts.Totals s t bytes f g agree before h k =
    let v = h.0 in
    let w = k.0 in
    let same = total-same s t agree in
    one-bad-field v w bytes (IsOtherTotal s v) (IsOtherTotal t w) (λ n. faults.Total n (slice_index v n) (total (state_in s) n)) (λ n. faults.Total n (slice_index w n) (total (state_in t) n)) f g
    (other-total s t v w agree.0 same) (λ e. other-total t s w v (sym agree.0) (λ n. sym (same n)) (sym e))
    (λ e n. ap (λ (q : List ℕ). faults.Total n (slice_index q n) (total (state_in s) n)) e ∙ ap (λ (m : ℕ). faults.Total n (slice_index w n) m) (same n)) h.1 k.1
one-part-fault one parts.Gone s t bytes f g agree before h k =
    let v = h.0 in
    let w = k.0 in
    one-bad-field v w bytes (IsOffBalance s v) (IsOffBalance t w) (λ n. faults.Balance n (slice_index s.totals n + slice_index v n) (total_of s.params n))
    (λ n. faults.Balance n (slice_index t.totals n + slice_index w n) (total_of t.params n)) f g
    (off-balance s t v w agree.0 agree.3) (λ e. off-balance t s w v (sym agree.0) (sym agree.3) (sym e))
    (λ e n. ap (λ (q : List ℕ). faults.Balance n (slice_index q n + slice_index v n) (total_of s.params n)) agree.3
    ∙ ap (λ (q : List ℕ). faults.Balance n (slice_index t.totals n + slice_index q n) (total_of s.params n)) e
    ∙ ap (λ (p : Parameters). faults.Balance n (slice_index t.totals n + slice_index w n) (total_of p n)) agree.0) h.1 k.1

-- ---- no fault

pub no-part-fault : (one : (a c : Cube) → IsPlace a → IsPlace c → packed a ≡ packed c → a ≡ c) (next : Part) (s t : SavedState) (f : CheckFault) → Agree next s t
    → Each (IsSound t) (parts_before next) → IsSound t next → IsPartFault s next (part_bytes t next) f → ⊥
no-part-fault one parts.Magic s t f agree before sound h = h.0 refl
no-part-fault one parts.Version s t f agree before sound h = h.breaks (spelled-number 2 h.found 1 (omega arith) h.is)
no-part-fault one parts.TextLength s t f agree before sound h =
    let e = spelled-number 4 h.found (length t.params.text) (omega (arith, sound)) h.is in
    let b = h.breaks in
    omega (arith, e, b, sound)
no-part-fault one parts.Text s t f agree before sound h = h.0 t.params sound refl
no-part-fault one parts.Cycle s t f agree before sound h =
    let e = spelled-number 4 h.found t.cycle (omega (arith, sound)) h.is in
    let b = h.breaks in
    omega (arith, e, b, sound)
no-part-fault one parts.LeafCount s t f agree before sound h =
    let e = spelled-number 4 h.found (length t.places) (few-leaves t before.1.1.1.0 sound) h.is in
    let b = h.breaks in
    let same : s.params.max_blocks ≡ t.params.max_blocks = ap (λ (p : Parameters). p.max_blocks) agree in
    omega (arith, e, b, sound, same)
no-part-fault one parts.Places s t f agree before sound h =
    sound-places one t.params.grid t.places f (subst (λ (p : Parameters). ArePlacesAtFault p.grid (numbers_bytes (map packed t.places)) f) agree.0 h) sound
no-part-fault one parts.Amounts s t f agree before sound h = h
no-part-fault one parts.Totals s t f agree before sound h =
    let v = h.0 in
    let e : v ≡ t.totals = same-words v t.totals h.1.is.fit sound.stated.fit (sym h.1.is.bytes_are) in
    let bad = other-total s t v t.totals agree.0 (total-same s t agree) e h.1.field h.1.first.here in
    bad.other (sound.sums h.1.field bad.field)
no-part-fault one parts.Gone s t f agree before sound h =
    let v = h.0 in
    let e : v ≡ t.gone = same-words v t.gone h.1.is.fit sound.stated.fit (sym h.1.is.bytes_are) in
    let bad = off-balance s t v t.gone agree.0 agree.3 e h.1.field h.1.first.here in
    bad.other (sound.sums h.1.field bad.field)
