-- Each face of a cell is replaced by one piece at most.
use Rattle.std.proofs.Common.{◌≡◌, ℕ, zero, suc, ◌+◌, ◌/◌, ◌%◌, ◌≤◌, ◌==◌, ◌&&◌, Bool, true, false, cond, List, [], ◌∷◌, ◌++◌, Some, length, map, refl, sym, ap, ◌∙◌, subst, arith, sum_by, inl, inr}
use Rattle.std.specs.Prelude.{Contains, slice_get}
use Rattle.std.specs.List.{list_any}
use Rattle.std.proofs.lemmas.Bool.{cases_eq, eq-eqb, eqb-true, ne_eqb, false≢true, false_from_ne_true, or_cases}
use Rattle.std.proofs.lemmas.Nat.{div-add-mod'}
use Rattle.std.proofs.lemmas.List.Sums.{sum_by-append, sum_by-cons}
use Rattle.std.proofs.lemmas.Option.{same_Some}
use Rattle.phase_core.specs.declared.envelope.Envelope.{Envelope}
use Rattle.phase_core.specs.Machine.{start_flight}
use Rattle.phase_core.specs.Lemmas.Lookups.{Contains-at}
use Rattle.phase_core.specs.Lemmas.Starts.{start_flight-suc}
use Rattle.owed_phase.specs.Plans.{owed_from, inbox, all_of}
use Rattle.owed_phase.specs.Rest.{IsAmong}
use Rattle.owed_phase.specs.Lemmas.Inboxes.{sum-inbox}
use Rattle.owed_phase.specs.Lemmas.Moves.{Contains-cons_more}
use Rattle.block_index.specs.Places.{Cube, parent_of}
use Rattle.leaf_set.proofs.MeshFacts.{leaves_distinct}
use Rattle.block_fields.specs.Cells.{block_of}
use Rattle.block_fields.specs.States.{State}
use Rattle.grid_fluxes.specs.Axes.{Axis, along_x, along_y, along_z, coordinate, next_cell, previous_cell}
use Rattle.advect.specs.FaceFluxes.{axis_of, is_end}
use Rattle.advect.specs.FluxPieces.{FluxPieceState, is_behind}
use Rattle.flux_register.specs.declared.flux_msg.FluxMsg.{FluxMsg}
use Rattle.flux_register.specs.declared.flux_msg.FluxMsg.TheVariants.{Start, Piece}
use Rattle.flux_register.specs.Faces.{FluxFace, IsFluxFace, on_side, side_number}
use Rattle.flux_register.specs.Cells.{FluxPart, FluxProblem, blank, state_in}
use Rattle.flux_register.specs.React.{flux_start, sent_piece, sent_pieces}
use Rattle.flux_register.specs.Problem.{IsFluxProblem, flux_plan}
use Rattle.flux_register.specs.States.{pieces_in, replaces}
use Rattle.flux_register.proofs.Geometry.{by_axis, first, second}
use Rattle.flux_register.proofs.Messages.{part_place, right_piece}
use Rattle.flux_register.proofs.PieceSums.{Behind}
use Rattle.flux_register.proofs.Replaced.{its_cell, its_side, sided}

-- ---- sums

sum-less : {X : Type 0} (f g : X → ℕ) (xs : List X) → ((x : X) → f x ≤ g x) → sum_by f xs ≤ sum_by g xs
sum-less f g [] less = let e : sum_by f [] ≡ 0 = refl in omega (arith, e)
sum-less f g (x ∷ xs) less =
    let a = sum_by-cons f x xs in let b = sum_by-cons g x xs in let c = less x in let d = sum-less f g xs less in
    omega (arith, a, b, c, d)

sum-has : {X : Type 0} (f : X → ℕ) (xs : List X) → 1 ≤ sum_by f xs → (x : X) × Contains xs x × (1 ≤ f x)
sum-has f [] h = let e : sum_by f [] ≡ 0 = refl in absurd (omega (arith, e, h))
sum-has f (x ∷ xs) h = elim (cases_eq (f x) 0) [
  | inl none ↦
      let rest = sum-has f xs (let a = sum_by-cons f x xs in omega (arith, a, none, h)) in
      (rest.0, Contains-cons_more x xs rest.0 rest.1, rest.2)
  | inr some ↦ (x, Contains-at (x ∷ xs) 0 x refl, omega (arith, some))
]

module _ {K M : Type 0} (g : Envelope M → ℕ) (tells : ℕ → K → List (Envelope M)) where
  none-from : (k : ℕ) (parts : List K) → ((j m : ℕ) (x : K) → j ≡ k + m → slice_get parts m ≡ Some x → sum_by g (tells j x) ≡ 0) → sum_by g (owed_from tells k parts) ≡ 0
  none-from k [] none = refl
  none-from k (x ∷ parts) none =
      let own = none k 0 x (omega arith) refl in
      let rest = none-from (suc k) parts (λ j m y e h. none j (suc m) y (omega (arith, e)) h) in
      let all : sum_by g (tells k x ++ owed_from tells (suc k) parts) ≡ sum_by g (tells k x) + sum_by g (owed_from tells (suc k) parts) = sum_by-append g (tells k x) (owed_from tells (suc k) parts) in
      omega (arith, own, rest, all)

  few-from : (k : ℕ) (parts : List K)
      → ((j m : ℕ) (x : K) → j ≡ k + m → slice_get parts m ≡ Some x → sum_by g (tells j x) ≤ 1)
      → ((j m : ℕ) (x : K) (h l : ℕ) (y : K) → j ≡ k + m → slice_get parts m ≡ Some x → h ≡ k + l → slice_get parts l ≡ Some y → 1 ≤ sum_by g (tells j x) → 1 ≤ sum_by g (tells h y) → j ≡ h)
      → sum_by g (owed_from tells k parts) ≤ 1
  few-from k [] few one = let e : sum_by g [] ≡ 0 = refl in omega (arith, e)
  few-from k (x ∷ parts) few one =
      let all : sum_by g (tells k x ++ owed_from tells (suc k) parts) ≡ sum_by g (tells k x) + sum_by g (owed_from tells (suc k) parts) = sum_by-append g (tells k x) (owed_from tells (suc k) parts) in
      let own = few k 0 x (omega arith) refl in
      elim (cases_eq (sum_by g (tells k x)) 0) [
        | inl none ↦
            let rest = few-from (suc k) parts (λ j m y e h. few j (suc m) y (omega (arith, e)) h) (λ j m y h l z d s e t u w. one j (suc m) y h (suc l) z (omega (arith, d)) s (omega (arith, e)) t u w) in
            omega (arith, none, rest, all)
        | inr some ↦
            let rest = none-from (suc k) parts (λ j m y e h. nothing x parts k some (λ j m y h l z d s e t u w. one j m y h l z d s e t u w) j m y e h) in
            omega (arith, own, rest, all)
      ]
    where
      nothing : (x : K) (parts : List K) (k : ℕ) → (sum_by g (tells k x) ≡ 0 → ⊥)
          → ((j m : ℕ) (y : K) (h l : ℕ) (z : K) → j ≡ k + m → slice_get (x ∷ parts) m ≡ Some y → h ≡ k + l → slice_get (x ∷ parts) l ≡ Some z → 1 ≤ sum_by g (tells j y) → 1 ≤ sum_by g (tells h z) → j ≡ h)
          → (j m : ℕ) (y : K) → j ≡ suc k + m → slice_get parts m ≡ Some y → sum_by g (tells j y) ≡ 0
      nothing x parts k some one j m y e h = elim (cases_eq (sum_by g (tells j y)) 0) [
        | inl none ↦ none
        | inr more ↦ let same = one k 0 x j (suc m) y (omega arith) refl (omega (arith, e)) h (omega (arith, some)) (omega (arith, more)) in absurd (omega (arith, same, e))
      ]

-- ---- one place

parent-coordinate : (a : Axis) (c : Cube) → coordinate a (parent_of c) ≡ coordinate a c / 2
parent-coordinate along_x c = refl
parent-coordinate along_y c = refl
parent-coordinate along_z c = refl

parent-first : (a : Axis) (c : Cube) → first a (parent_of c) ≡ first a c / 2
parent-first along_x c = refl
parent-first along_y c = refl
parent-first along_z c = refl

parent-second : (a : Axis) (c : Cube) → second a (parent_of c) ≡ second a c / 2
parent-second along_x c = refl
parent-second along_y c = refl
parent-second along_z c = refl

by_halves : (u v : ℕ) → u / 2 ≡ v / 2 → u % 2 ≡ v % 2 → u ≡ v
by_halves u v e f = let a = div-add-mod' u 2 in let b = div-add-mod' v 2 in omega (arith, a, b, e, f)

-- a place is told by its parent and its halves
pub one_child : (a : Axis) (c d : Cube) → c.level ≡ d.level → parent_of c ≡ parent_of d → coordinate a c % 2 ≡ coordinate a d % 2 → first a c % 2 ≡ first a d % 2 → second a c % 2 ≡ second a d % 2 → c ≡ d
one_child a c d level parent u v w =
    by_axis a c d level
    (by_halves (coordinate a c) (coordinate a d) (sym (parent-coordinate a c) ∙ (ap (coordinate a) parent ∙ parent-coordinate a d)) u)
    (by_halves (first a c) (first a d) (sym (parent-first a c) ∙ (ap (first a) parent ∙ parent-first a d)) v)
    (by_halves (second a c) (second a d) (sym (parent-second a c) ∙ (ap (second a) parent ∙ parent-second a d)) w)

-- ---- one piece to a face of a cell

module _ (p : FluxProblem) (valid : IsFluxProblem p) (i : ℕ) (k : FluxPart) (here : slice_get p.parts i ≡ Some k) (a : Axis) (end : Bool) (v : Cube) (own : block_of p.setting.edge v ≡ k.before.place) where
  abbrev s : State
  s = state_in p

  abbrev n : ℕ
  n = p.setting.edge

  abbrev pub weigh : FluxMsg → ℕ
  weigh Start = 0
  weigh (Piece q) = cond (replaces p.setting.edge (sided a end) v q) 1 0

  abbrev to_here : Envelope FluxMsg → ℕ
  to_here e = cond (e.to == i) (weigh e.msg) 0

  abbrev of_face : FluxPart → FluxFace → ℕ
  of_face x face = cond (face.to == i) (cond (replaces p.setting.edge (sided a end) v (right_piece p x face)) 1 0) 0

  told-sum : (x : FluxPart) (owes : List FluxFace) → sum_by to_here (sent_pieces x.faces (map (blank p.setting) owes)) ≡ sum_by (of_face x) owes
  told-sum x [] = refl
  told-sum x (face ∷ owes) =
      let one = sum_by-cons to_here (sent_piece x.faces (blank p.setting face)) (sent_pieces x.faces (map (blank p.setting) owes)) in
      let other = sum_by-cons (of_face x) face owes in
      let rest = told-sum x owes in
      omega (arith, one, other, rest)

  at_most_one : (b c : Bool) → cond {A = ℕ} b (cond c 1 0) 0 ≤ 1
  at_most_one true true = omega arith
  at_most_one true false = omega arith
  at_most_one false c = omega arith

  both_of : (b c : Bool) → 1 ≤ cond {A = ℕ} b (cond c 1 0) 0 → (b ≡ true) × (c ≡ true)
  both_of true true h = (refl, refl)
  both_of true false h = absurd (omega (arith, h))
  both_of false c h = absurd (omega (arith, h))

  parts_of : (x : FluxPart) (face : FluxFace) → 1 ≤ of_face x face → (face.to ≡ i) × (replaces p.setting.edge (sided a end) v (right_piece p x face) ≡ true)
  parts_of x face h =
      let t = both_of (face.to == i) (replaces p.setting.edge (sided a end) v (right_piece p x face)) h in
      (eqb-true face.to i t.0, t.1)

  by_side : (x : FluxPart) (face : FluxFace) → of_face x face ≤ on_side (sided a end) face
  by_side x face = elim (cases_eq (side_number face.side) (sided a end)) [
    | inl same ↦
        let one : on_side (sided a end) face ≡ 1 = ap (λ (t : Bool). cond {A = ℕ} t 1 0) (eq-eqb (side_number face.side) (sided a end) same) in
        let most = at_most_one (face.to == i) (replaces p.setting.edge (sided a end) v (right_piece p x face)) in
        omega (arith, one, most)
    | inr other ↦
        let none : of_face x face ≡ 0 =
        ap (λ (t : Bool). cond {A = ℕ} (face.to == i) (cond (t && is_behind (right_piece p x face) (v.x % n) (v.y % n) (v.z % n)) 1 0) 0) (ne_eqb (side_number face.side) (sided a end) other)
        ∙ zero_of (face.to == i) in
        omega (arith, none)
  ]
    where
      zero_of : (b : Bool) → cond {A = ℕ} b 0 0 ≡ 0
      zero_of true = refl
      zero_of false = refl

  abbrev tells : ℕ → FluxPart → List (Envelope FluxMsg)
  tells j x = sent_pieces x.faces (map (blank p.setting) x.owes)

  told-few : (j : ℕ) (x : FluxPart) → slice_get p.parts j ≡ Some x → sum_by to_here (tells j x) ≤ 1
  told-few j x at =
      let once = (valid.leaves j x at).owes.once (sided a end) in
      let less = sum-less (of_face x) (on_side (sided a end)) x.owes (by_side x) in
      let told = told-sum x x.owes in
      omega (arith, once, less, told)

  -- a face that counts is that of one place
  module _ (x : FluxPart) (face : FluxFace) (is : IsFluxFace p.setting.grid (state_in p).leaves face) (sends : slice_get p.parts face.from ≡ Some x) (counts : 1 ≤ of_face x face) where
    receives : face.to ≡ i
    receives = (parts_of x face counts).0

    side : (axis_of face.side ≡ a) × (is_end face.side ≡ end)
    side = its_side p valid i k here face is x sends receives a end v own (parts_of x face counts).1

    cell : Behind (axis_of face.side) (is_end face.side) n face.place v
    cell = its_cell p valid i k here face is x sends receives a end v own (parts_of x face counts).1

    receiver_is : is.receiver ≡ k.before.place
    receiver_is = same_Some is.receiver k.before.place (sym is.receives ∙ (ap (slice_get s.leaves) receives ∙ part_place p i k here))

    pub its_parent : parent_of face.place ≡ cond end (next_cell a p.setting.grid 1 k.before.place) (previous_cell a p.setting.grid 1 k.before.place)
    its_parent =
        is.beside
        ∙ (ap (λ (t : Bool). cond t (next_cell (axis_of face.side) p.setting.grid 1 is.receiver) (previous_cell (axis_of face.side) p.setting.grid 1 is.receiver)) side.1
        ∙ (ap (λ (b : Axis). cond end (next_cell b p.setting.grid 1 is.receiver) (previous_cell b p.setting.grid 1 is.receiver)) side.0
        ∙ ap (λ (c : Cube). cond end (next_cell a p.setting.grid 1 c) (previous_cell a p.setting.grid 1 c)) receiver_is))

    pub its_level : face.place.level ≡ k.before.place.level + 1
    its_level = is.finer ∙ ap (λ (c : Cube). c.level + 1) receiver_is

    pub its_near : coordinate a face.place % 2 ≡ cond end 0 1
    its_near = ap (λ (b : Axis). coordinate b face.place % 2) (sym side.0) ∙ (is.near ∙ ap (λ (t : Bool). cond {A = ℕ} t 0 1) side.1)

    pub its_first : first a face.place % 2 ≡ first a v % n / (n / 2)
    its_first = subst (λ (b : Axis). first b face.place % 2 ≡ first b v % n / (n / 2)) side.0 (sym cell.first)

    pub its_second : second a face.place % 2 ≡ second a v % n / (n / 2)
    its_second = subst (λ (b : Axis). second b face.place % 2 ≡ second b v % n / (n / 2)) side.0 (sym cell.second)

  one_sender : (j : ℕ) (x : FluxPart) (h : ℕ) (y : FluxPart) → slice_get p.parts j ≡ Some x → slice_get p.parts h ≡ Some y → 1 ≤ sum_by to_here (tells j x) → 1 ≤ sum_by to_here (tells h y) → j ≡ h
  one_sender j x h y at there some more =
      let f = sum-has (of_face x) x.owes (let t = told-sum x x.owes in omega (arith, some, t)) in
      let g = sum-has (of_face y) y.owes (let t = told-sum y y.owes in omega (arith, more, t)) in
      let ox = (valid.leaves j x at).owes in
      let oy = (valid.leaves h y there).owes in
      let isf = ox.each f.0 f.1 in
      let isg = oy.each g.0 g.1 in
      let from_f : f.0.from ≡ j = ox.own f.0 f.1 in
      let from_g : g.0.from ≡ h = oy.own g.0 g.1 in
      let sf : slice_get p.parts f.0.from ≡ Some x = subst (λ (t : ℕ). slice_get p.parts t ≡ Some x) (sym from_f) at in
      let sg : slice_get p.parts g.0.from ≡ Some y = subst (λ (t : ℕ). slice_get p.parts t ≡ Some y) (sym from_g) there in
      let place : f.0.place ≡ g.0.place = one_child a f.0.place g.0.place
      (its_level x f.0 isf sf f.2 ∙ sym (its_level y g.0 isg sg g.2))
      (its_parent x f.0 isf sf f.2 ∙ sym (its_parent y g.0 isg sg g.2))
      (its_near x f.0 isf sf f.2 ∙ sym (its_near y g.0 isg sg g.2))
      (its_first x f.0 isf sf f.2 ∙ sym (its_first y g.0 isg sg g.2))
      (its_second x f.0 isf sf f.2 ∙ sym (its_second y g.0 isg sg g.2)) in
      let from : f.0.from ≡ g.0.from = leaves_distinct p.setting.grid s.leaves valid.state.domain valid.state.mesh f.0.from g.0.from g.0.place (isf.sends ∙ ap Some place) isg.sends in
      sym from_f ∙ (from ∙ from_g)

  starts-none : (m : ℕ) → sum_by to_here (start_flight flux_start m) ≡ 0
  starts-none zero = refl
  starts-none (suc m) =
      let last : List (Envelope FluxMsg) = (record { to = m; msg = Start }) ∷ [] in
      let all : sum_by to_here (start_flight flux_start m ++ last) ≡ sum_by to_here (start_flight flux_start m) + sum_by to_here last = sum_by-append to_here (start_flight flux_start m) last in
      let one : sum_by to_here last ≡ to_here (record { to = m; msg = Start }) + sum_by to_here [] = sum_by-cons to_here (record { to = m; msg = Start }) [] in
      let none : to_here (record { to = m; msg = Start }) ≡ 0 = zero_either (m == i) in
      let empty : sum_by to_here [] ≡ 0 = refl in
      ap (sum_by to_here) (start_flight-suc flux_start m) ∙ omega (arith, all, starts-none m, one, none, empty)
    where
      zero_either : (b : Bool) → cond {A = ℕ} b 0 0 ≡ 0
      zero_either true = refl
      zero_either false = refl

  pub one_at_most : sum_by weigh (inbox i (all_of (flux_plan p) p.parts)) ≤ 1
  one_at_most =
      let told = owed_from (flux_plan p).tells 0 p.parts in
      let starts = start_flight flux_start (length p.parts) in
      let all : sum_by to_here (told ++ starts) ≡ sum_by to_here told + sum_by to_here starts = sum_by-append to_here told starts in
      let few : sum_by to_here told ≤ 1 = few-from to_here tells 0 p.parts
      (λ j m x e h. told-few j x (at j m x e h))
      (λ j m x h l y d t e u some more. one_sender j x h y (at j m x d t) (at h l y e u) some more) in
      omega (arith, all, few, starts-none (length p.parts), sum-inbox weigh i (told ++ starts))
    where
      at : (j m : ℕ) (x : FluxPart) → j ≡ 0 + m → slice_get p.parts m ≡ Some x → slice_get p.parts j ≡ Some x
      at j m x e h = let same : m ≡ j = omega (arith, e) in subst (λ (t : ℕ). slice_get p.parts t ≡ Some x) same h

  some-weigh : (ms : List FluxMsg) → list_any (replaces p.setting.edge (sided a end) v) (pieces_in ms) ≡ true → 1 ≤ sum_by weigh ms
  some-weigh [] h = absurd (false≢true h)
  some-weigh (Start ∷ ms) h = let e = sum_by-cons weigh Start ms in let rest = some-weigh ms h in omega (arith, e, rest)
  some-weigh (Piece q ∷ ms) h =
      let e = sum_by-cons weigh (Piece q) ms in
      elim (or_cases (replaces p.setting.edge (sided a end) v q) (list_any (replaces p.setting.edge (sided a end) v) (pieces_in ms)) h) [
        | inl this ↦ let one : weigh (Piece q) ≡ 1 = ap (λ (t : Bool). cond {A = ℕ} t 1 0) this in omega (arith, e, one)
        | inr later ↦ let rest = some-weigh ms later in omega (arith, e, rest)
      ]

  -- a piece that comes is the first one for a face of the cell
  pub first_for : (q : FluxPieceState) (before : List FluxMsg) → IsAmong (Piece q ∷ before) (inbox i (all_of (flux_plan p) p.parts)) → replaces p.setting.edge (sided a end) v q ≡ true → list_any (replaces p.setting.edge (sided a end) v) (pieces_in before) ≡ false
  first_for q before among is =
      false_from_ne_true (list_any (replaces p.setting.edge (sided a end) v) (pieces_in before)) (λ h.
      let one : weigh (Piece q) ≡ 1 = ap (λ (t : Bool). cond {A = ℕ} t 1 0) is in
      let e = sum_by-cons weigh (Piece q) before in
      let some = some-weigh before h in
      let few = among.sums weigh in
      omega (arith, one, e, some, few, one_at_most))

pub pieces-contain : (ms : List FluxMsg) (q : FluxPieceState) → Contains (pieces_in ms) q → Contains ms (Piece q)
pieces-contain [] q h = absurd (omega (arith, h.1))
pieces-contain (Start ∷ ms) q h = Contains-cons_more Start ms (Piece q) (pieces-contain ms q h)
pieces-contain (Piece x ∷ ms) q (zero, within, at) = Contains-at (Piece x ∷ ms) 0 (Piece q) (ap (λ (y : FluxPieceState). Some (Piece y)) at)
pieces-contain (Piece x ∷ ms) q (suc j, within, at) = Contains-cons_more (Piece x) ms (Piece q) (pieces-contain ms q (j, omega (arith, within), at))

pub contain-pieces : (ms : List FluxMsg) (q : FluxPieceState) → Contains ms (Piece q) → Contains (pieces_in ms) q
contain-pieces [] q h = absurd (omega (arith, h.1))
contain-pieces (Start ∷ ms) q (zero, within, at) = absurd (apart q at)
  where
    apart : (q : FluxPieceState) → Start ≡ Piece q → ⊥
    apart q e = cc
contain-pieces (Start ∷ ms) q (suc j, within, at) = contain-pieces ms q (j, omega (arith, within), at)
contain-pieces (Piece x ∷ ms) q (zero, within, at) = Contains-at (x ∷ pieces_in ms) 0 q (ap (λ (y : FluxPieceState). Some y) (same x q at))
  where
    same : (x q : FluxPieceState) → Piece x ≡ Piece q → x ≡ q
    same x q e = cc
contain-pieces (Piece x ∷ ms) q (suc j, within, at) = Contains-cons_more x (pieces_in ms) q (contain-pieces ms q (j, omega (arith, within), at))
