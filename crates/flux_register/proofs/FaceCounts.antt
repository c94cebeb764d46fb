-- The piece of a face is counted once among all messages, and where it was handled, its receiver has used it.
use Rattle.std.proofs.Common.{◌≡◌, ℕ, zero, suc, ◌+◌, ◌≤◌, ◌==◌, ◌&&◌, Bool, true, false, cond, List, [], ◌∷◌, ◌++◌, Some, length, map, refl, sym, ap, ◌∙◌, subst, arith, sum_by, inl, inr}
use Rattle.std.specs.Prelude.{All, Contains, slice_get}
use Rattle.std.proofs.lemmas.Bool.{cases_eq, eq-eqb, ne_eqb}
use Rattle.std.proofs.lemmas.List.Elements.{All-contains}
use Rattle.std.proofs.lemmas.List.Sums.{get_or-le-sum_by, sum_by-append, sum_by-cons}
use Rattle.std.proofs.lemmas.Option.{none-some}
use Rattle.phase_core.specs.declared.envelope.Envelope.{Envelope}
use Rattle.phase_core.specs.Machine.{start_flight}
use Rattle.phase_core.specs.Lemmas.Lookups.{Contains-at}
use Rattle.phase_core.specs.Lemmas.Starts.{start_flight-suc}
use Rattle.owed_phase.specs.Plans.{owed_from, inbox, all_of}
use Rattle.owed_phase.specs.Lemmas.Inboxes.{inbox-here, inbox-other}
use Rattle.owed_phase.specs.Lemmas.Moves.{Contains-cons_more}
use Rattle.advect.specs.FaceFluxes.{FaceFluxState}
use Rattle.advect.specs.FluxPieces.{FluxPieceState}
use Rattle.flux_register.specs.declared.flux_msg.FluxMsg.{FluxMsg}
use Rattle.flux_register.specs.declared.flux_msg.FluxMsg.TheVariants.{Start, Piece}
use Rattle.flux_register.specs.Faces.{FluxFace, IsFluxFace, on_side, side_number}
use Rattle.flux_register.specs.Cells.{FluxPart, FluxState, FluxProblem, blank, state_in}
use Rattle.flux_register.specs.React.{flux_start, sent_piece, sent_pieces}
use Rattle.flux_register.specs.Problem.{IsFluxProblem, flux_plan}
use Rattle.flux_register.specs.States.{IsRightMsg, is_of, piece_of, pieces_in}
use Rattle.flux_register.proofs.Messages.{face_sent}

counted : Bool → ℕ
counted b = cond b 1 0

sum-some : {X : Type 0} (f : X → ℕ) (xs : List X) (x : X) → Contains xs x → f x ≤ sum_by f xs
sum-some f xs x h = subst (λ y. f y ≤ sum_by f xs) h.2 (get_or-le-sum_by f xs h.0 x h.1)

module _ (p : FluxProblem) (face : FluxFace) where
  abbrev of_e : Envelope FluxMsg → ℕ
  of_e e = piece_of face e.msg

  other_to : (q : FluxPieceState) → (q.to ≡ face.to → ⊥) → is_of face q ≡ 0
  other_to q not = ap (λ (b : Bool). cond {A = ℕ} (b && ((q.from == face.from) && (side_number q.side == side_number face.side))) 1 0) (ne_eqb q.to face.to not)

  other_from : (q : FluxPieceState) → (q.from ≡ face.from → ⊥) → is_of face q ≡ 0
  other_from q not = ap (λ (b : Bool). cond {A = ℕ} ((q.to == face.to) && (b && (side_number q.side == side_number face.side))) 1 0) (ne_eqb q.from face.from not) ∙ none (q.to == face.to)
    where
      none : (b : Bool) → cond {A = ℕ} (b && false) 1 0 ≡ 0
      none true = refl
      none false = refl

  of_one : (b c d : Bool) → cond {A = ℕ} (b && (c && d)) 1 0 ≤ cond d 1 0
  of_one true true true = omega arith
  of_one true true false = omega arith
  of_one true false true = omega arith
  of_one true false false = omega arith
  of_one false c true = omega arith
  of_one false c false = omega arith

  module _ where
    of_side : (x : FluxFace) → is_of face (blank p.setting x) ≤ on_side (side_number face.side) x
    of_side x = of_one (x.to == face.to) (x.from == face.from) (side_number x.side == side_number face.side)

    itself : is_of face (blank p.setting face) ≡ 1
    itself =
        ap (λ (b : Bool). cond {A = ℕ} (b && ((face.from == face.from) && (side_number face.side == side_number face.side))) 1 0) (eq-eqb face.to face.to refl)
        ∙ (ap (λ (b : Bool). cond {A = ℕ} (b && (side_number face.side == side_number face.side)) 1 0) (eq-eqb face.from face.from refl)
        ∙ ap (λ (b : Bool). cond {A = ℕ} b 1 0) (eq-eqb (side_number face.side) (side_number face.side) refl))

  handled-each : (handled : List (Envelope FluxMsg)) → ((e : Envelope FluxMsg) → Contains handled e → IsRightMsg p e.to e.msg) → sum_by of_e handled ≡ sum_by (is_of face) (pieces_in (inbox face.to handled))
  handled-each [] right = refl
  handled-each (e ∷ es) right =
      let all = sum_by-cons of_e e es in
      let rest = handled-each es (λ x h. right x (Contains-cons_more e es x h)) in
      elim (cases_eq e.to face.to) [
        | inl same ↦
            let box : inbox face.to (e ∷ es) ≡ e.msg ∷ inbox face.to es = inbox-here face.to e es same in
            all ∙ (here e.msg (inbox face.to es) (sum_by of_e es) rest ∙ ap (λ (l : List FluxMsg). sum_by (is_of face) (pieces_in l)) (sym box))
        | inr other ↦
            let box : inbox face.to (e ∷ es) ≡ inbox face.to es = inbox-other face.to e es other in
            let none : of_e e ≡ 0 = away e.msg e.to other (right e (Contains-at (e ∷ es) 0 e refl)) in
            (let t : sum_by of_e (e ∷ es) ≡ sum_by of_e es = omega (arith, all, none) in t) ∙ (rest ∙ ap (λ (l : List FluxMsg). sum_by (is_of face) (pieces_in l)) (sym box))
      ]
    where
      here : (m : FluxMsg) (ms : List FluxMsg) (s : ℕ) → s ≡ sum_by (is_of face) (pieces_in ms) → piece_of face m + s ≡ sum_by (is_of face) (pieces_in (m ∷ ms))
      here Start ms s e = omega (arith, e)
      here (Piece q) ms s e = let t = sum_by-cons (is_of face) q (pieces_in ms) in omega (arith, e, t)

      away : (m : FluxMsg) (to : ℕ) → (to ≡ face.to → ⊥) → IsRightMsg p to m → piece_of face m ≡ 0
      away Start to not right = refl
      away (Piece q) to not right = other_to q (λ h. not (sym right.receives ∙ (sym (ap (λ (x : FluxPieceState). x.to) right.sums) ∙ h)))

  pub handled-count : (handled : List (Envelope FluxMsg)) → All (λ (e : Envelope FluxMsg). IsRightMsg p e.to e.msg) handled → sum_by of_e handled ≡ sum_by (is_of face) (pieces_in (inbox face.to handled))
  handled-count handled right = handled-each handled (λ e h. All-contains (λ (x : Envelope FluxMsg). IsRightMsg p x.to x.msg) handled e right h)

  sent-count : (faces : FaceFluxState) (qs : List FluxPieceState) → sum_by of_e (sent_pieces faces qs) ≡ sum_by (is_of face) qs
  sent-count faces [] = refl
  sent-count faces (q ∷ qs) =
      let rest = sent-count faces qs in
      let all : sum_by of_e (sent_piece faces q ∷ sent_pieces faces qs) ≡ of_e (sent_piece faces q) + sum_by of_e (sent_pieces faces qs) = sum_by-cons of_e (sent_piece faces q) (sent_pieces faces qs) in
      let pieces = sum_by-cons (is_of face) q qs in
      omega (arith, rest, all, pieces)

  pub owed-count : (k : ℕ) (cells : List FluxState) → sum_by of_e (owed_from (flux_plan p).owed k cells) ≡ sum_by (λ c. sum_by (is_of face) c.owed) cells
  owed-count k [] = refl
  owed-count k (c ∷ cells) =
      let own : List (Envelope FluxMsg) = sent_pieces c.faces c.owed in
      let rest = owed-count (suc k) cells in
      let here = sent-count c.faces c.owed in
      let all : sum_by of_e (own ++ owed_from (flux_plan p).owed (suc k) cells) ≡ sum_by of_e own + sum_by of_e (owed_from (flux_plan p).owed (suc k) cells) = sum_by-append of_e own (owed_from (flux_plan p).owed (suc k) cells) in
      let pieces : sum_by (λ (x : FluxState). sum_by (is_of face) x.owed) (c ∷ cells) ≡ sum_by (is_of face) c.owed + sum_by (λ (x : FluxState). sum_by (is_of face) x.owed) cells = sum_by-cons (λ (x : FluxState). sum_by (is_of face) x.owed) c cells in
      omega (arith, rest, here, all, pieces)

  starts-count : (n : ℕ) → sum_by of_e (start_flight flux_start n) ≡ 0
  starts-count zero = refl
  starts-count (suc n) =
      let last : List (Envelope FluxMsg) = (record { to = n; msg = Start }) ∷ [] in
      let all : sum_by of_e (start_flight flux_start n ++ last) ≡ sum_by of_e (start_flight flux_start n) + sum_by of_e last = sum_by-append of_e (start_flight flux_start n) last in
      let one : sum_by of_e last ≡ 0 + sum_by of_e [] = sum_by-cons of_e (record { to = n; msg = Start }) [] in
      let empty : sum_by of_e [] ≡ 0 = refl in
      ap (sum_by of_e) (start_flight-suc flux_start n) ∙ omega (arith, all, starts-count n, one, empty)

  -- what a part tells of a face
  abbrev told : FluxPart → ℕ
  told k = sum_by of_e (sent_pieces k.faces (map (blank p.setting) k.owes))

  blanks-count : (owes : List FluxFace) → sum_by (is_of face) (map (blank p.setting) owes) ≡ sum_by (λ x. is_of face (blank p.setting x)) owes
  blanks-count [] = refl
  blanks-count (x ∷ owes) =
      let rest = blanks-count owes in
      let one = sum_by-cons (is_of face) (blank p.setting x) (map (blank p.setting) owes) in
      let other : sum_by (λ (y : FluxFace). is_of face (blank p.setting y)) (x ∷ owes) ≡ is_of face (blank p.setting x) + sum_by (λ (y : FluxFace). is_of face (blank p.setting y)) owes = sum_by-cons (λ (y : FluxFace). is_of face (blank p.setting y)) x owes in
      omega (arith, rest, one, other)

  less : (owes : List FluxFace) → sum_by (λ x. is_of face (blank p.setting x)) owes ≤ sum_by (on_side (side_number face.side)) owes
  less [] = omega arith
  less (x ∷ owes) =
      let rest = less owes in
      let one = of_side x in
      let a : sum_by (λ (y : FluxFace). is_of face (blank p.setting y)) (x ∷ owes) ≡ is_of face (blank p.setting x) + sum_by (λ (y : FluxFace). is_of face (blank p.setting y)) owes = sum_by-cons (λ (y : FluxFace). is_of face (blank p.setting y)) x owes in
      let b = sum_by-cons (on_side (side_number face.side)) x owes in
      omega (arith, rest, one, a, b)

  none-of : (owes : List FluxFace) → ((x : FluxFace) → Contains owes x → x.from ≡ face.from → ⊥) → sum_by (λ x. is_of face (blank p.setting x)) owes ≡ 0
  none-of [] apart = refl
  none-of (x ∷ owes) apart =
      let rest = none-of owes (λ y h. apart y (Contains-cons_more x owes y h)) in
      let one = other_from (blank p.setting x) (apart x (Contains-at (x ∷ owes) 0 x refl)) in
      let a : sum_by (λ (y : FluxFace). is_of face (blank p.setting y)) (x ∷ owes) ≡ is_of face (blank p.setting x) + sum_by (λ (y : FluxFace). is_of face (blank p.setting y)) owes = sum_by-cons (λ (y : FluxFace). is_of face (blank p.setting y)) x owes in
      omega (arith, rest, one, a)

  module _ (valid : IsFluxProblem p) (is : IsFluxFace p.setting.grid (state_in p).leaves face) where
    told-sender : (k : FluxPart) → slice_get p.parts face.from ≡ Some k → told k ≡ 1
    told-sender k here =
        let owes = (valid.leaves face.from k here).owes in
        let most = owes.once (side_number face.side) in
        let low = less k.owes in
        let has = sum-some (λ (x : FluxFace). is_of face (blank p.setting x)) k.owes face (owes.all face is refl) in
        omega (arith, sent-count k.faces (map (blank p.setting) k.owes), blanks-count k.owes, most, low, has, itself)

    told-other : (i : ℕ) (k : FluxPart) → slice_get p.parts i ≡ Some k → (i ≡ face.from → ⊥) → told k ≡ 0
    told-other i k here not =
        let owes = (valid.leaves i k here).owes in
        let none = none-of k.owes (λ x h e. not (sym (owes.own x h) ∙ e)) in
        omega (arith, sent-count k.faces (map (blank p.setting) k.owes), blanks-count k.owes, none)

    parts-none : (k : ℕ) (parts : List FluxPart) → ((i j : ℕ) (part : FluxPart) → i ≡ k + j → slice_get parts j ≡ Some part → (slice_get p.parts i ≡ Some part) × (i ≡ face.from → ⊥)) → sum_by of_e (owed_from (flux_plan p).tells k parts) ≡ 0
    parts-none k [] each = refl
    parts-none k (part ∷ parts) each =
        let own : List (Envelope FluxMsg) = sent_pieces part.faces (map (blank p.setting) part.owes) in
        let at = each k 0 part (omega arith) refl in
        let none : told part ≡ 0 = told-other k part at.0 at.1 in
        let rest = parts-none (suc k) parts (λ i j x e h. each i (suc j) x (omega (arith, e)) h) in
        let all : sum_by of_e (own ++ owed_from (flux_plan p).tells (suc k) parts) ≡ sum_by of_e own + sum_by of_e (owed_from (flux_plan p).tells (suc k) parts) = sum_by-append of_e own (owed_from (flux_plan p).tells (suc k) parts) in
        omega (arith, none, rest, all)

    parts-one : (k m : ℕ) (parts : List FluxPart) (s : FluxPart) → face.from ≡ k + m → slice_get parts m ≡ Some s → ((i j : ℕ) (part : FluxPart) → i ≡ k + j → slice_get parts j ≡ Some part → slice_get p.parts i ≡ Some part) → sum_by of_e (owed_from (flux_plan p).tells k parts) ≡ 1
    parts-one k m [] s e here each = absurd (none-some s here)
    parts-one k zero (part ∷ parts) s e here each =
        let own : List (Envelope FluxMsg) = sent_pieces part.faces (map (blank p.setting) part.owes) in
        let sender : face.from ≡ k = omega (arith, e) in
        let there : slice_get p.parts face.from ≡ Some part = each face.from 0 part (omega (arith, e)) refl in
        let one : told part ≡ 1 = told-sender part there in
        let rest = parts-none (suc k) parts (λ i j x f h. (each i (suc j) x (omega (arith, f)) h, λ g. omega (arith, f, g, sender))) in
        let all : sum_by of_e (own ++ owed_from (flux_plan p).tells (suc k) parts) ≡ sum_by of_e own + sum_by of_e (owed_from (flux_plan p).tells (suc k) parts) = sum_by-append of_e own (owed_from (flux_plan p).tells (suc k) parts) in
        omega (arith, one, rest, all)
    parts-one k (suc m) (part ∷ parts) s e here each =
        let own : List (Envelope FluxMsg) = sent_pieces part.faces (map (blank p.setting) part.owes) in
        let none : told part ≡ 0 = told-other k part (each k 0 part (omega arith) refl) (λ g. omega (arith, e, g)) in
        let rest = parts-one (suc k) m parts s (omega (arith, e)) here (λ i j x f h. each i (suc j) x (omega (arith, f)) h) in
        let all : sum_by of_e (own ++ owed_from (flux_plan p).tells (suc k) parts) ≡ sum_by of_e own + sum_by of_e (owed_from (flux_plan p).tells (suc k) parts) = sum_by-append of_e own (owed_from (flux_plan p).tells (suc k) parts) in
        omega (arith, none, rest, all)

    -- each face has one piece among all messages
    pub one-piece : sum_by of_e (all_of (flux_plan p) p.parts) ≡ 1
    one-piece =
        let k = face_sent p valid face is in
        let told' = owed_from (flux_plan p).tells 0 p.parts in
        let starts = start_flight flux_start (length p.parts) in
        let one : sum_by of_e told' ≡ 1 = parts-one 0 face.from p.parts k.0 (omega arith) k.1 (λ i j part e h. let same : i ≡ j = omega (arith, e) in subst (λ (n : ℕ). slice_get p.parts n ≡ Some part) (sym same) h) in
        let all : sum_by of_e (told' ++ starts) ≡ sum_by of_e told' + sum_by of_e starts = sum_by-append of_e told' starts in
        omega (arith, one, all, starts-count (length p.parts))
