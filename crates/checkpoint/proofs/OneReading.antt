-- What the bytes of a file stand for is one.
use Rattle.std.proofs.Common.{◌≡◌, ℕ, ◌<◌, ◌⊎◌, List, [], ◌∷◌, ◌++◌, Result, Ok, Err, append-nil, length, inl, inr, refl, sym, ap, subst, ◌∙◌, arith}
use Rattle.std.specs.List.{flat_map}
use Rattle.std.proofs.lemmas.Bool.{cases_order}
use Rattle.std.proofs.lemmas.List.{length-append}
use Rattle.block_index.specs.Places.{Cube, IsPlace, packed}
use Rattle.checkpoint.specs.Lemmas.Stages.{parts_before}
use Rattle.checkpoint.specs.Parts.{parts_of_version_1}
use Rattle.checkpoint.specs.Reading.{HasFault, IsCheckpoint, IsPartFault, ReadsAs, faulty, short, size, trailing}
use Rattle.checkpoint.specs.SavedStates.{SavedState}
use Rattle.checkpoint.specs.Spelling.{bytes_of, part_bytes}
use Rattle.checkpoint.specs.declared.part.Part.{Part}
use Rattle.checkpoint.specs.declared.fault.CheckFault.{CheckFault}
use Rattle.checkpoint.specs.declared.fault.CheckFault.TheVariants as faults
use Rattle.checkpoint.proofs.Fronts.{Front, agreed, agreed-end, front-back}
use Rattle.checkpoint.proofs.OnePartFault.{no-part-fault, one-part-fault}
use Rattle.checkpoint.proofs.OneState.{one-state, split-same}
use Rattle.checkpoint.proofs.PartFacts.{Agree, length-part, size-same}
use Rattle.checkpoint.proofs.PartOrder.{done-before, later, number, same-part}

-- why a file isn't read beyond a part
data Stop (bytes left : List ℕ) (s : SavedState) (next : Part) (f : CheckFault) : Type 0 where
  cut : length left < size s next → f ≡ faults.Truncated (length bytes) → Stop bytes left s next f
  bad : (here after : List ℕ) → left ≡ here ++ after → length here ≡ size s next → IsPartFault s next here f → Stop bytes left s next f

-- a file isn't read beyond a part
record StopsAt (bytes : List ℕ) (f : CheckFault) : Type 0 where
  state : SavedState
  next : Part
  more : List Part
  left : List ℕ
  in_order : parts_of_version_1 ≡ parts_before next ++ next ∷ more
  front : Front (parts_before next) bytes state left
  stop : Stop bytes left state next f

stops-at : (bytes : List ℕ) (f : CheckFault) (s : SavedState) (done : List Part) (next : Part) (more : List Part) (left : List ℕ) → parts_of_version_1 ≡ done ++ next ∷ more
    → Front done bytes s left → Stop bytes left s next f → StopsAt bytes f
stops-at bytes f s done next more left order front stop =
    let same : done ≡ parts_before next = done-before done next more order in
    record {
      state = s;
      next = next;
      more = more;
      left = left;
      in_order = order ∙ ap (λ (d : List Part). d ++ next ∷ more) same;
      front = subst (λ (d : List Part). Front d bytes s left) same front;
      stop = stop;
    }

module _ (one : (a c : Cube) → IsPlace a → IsPlace c → packed a ≡ packed c → a ≡ c) where
  -- where it stops no sound part stands
  no-stop-before : (bytes : List ℕ) (s t : SavedState) (p : Part) (left rest : List ℕ) (f : CheckFault) → Front (parts_before p) bytes s left → Stop bytes left s p f
      → (parts : Front (parts_before p) bytes t (part_bytes t p ++ rest)) → Agree p s t → left ≡ part_bytes t p ++ rest
      → length (part_bytes t p) ≡ size t p → (IsPartFault s p (part_bytes t p) f → ⊥) → ⊥
  no-stop-before bytes s t p left rest f h (cut less is) k agree same long none =
      let e = size-same p s t agree in
      let all = ap length same ∙ length-append (part_bytes t p) rest in
      omega (arith, e, all, less, long)
  no-stop-before bytes s t p left rest f h (bad here after are whole fault) k agree same long none =
      let e = split-same here after (part_bytes t p) rest (whole ∙ size-same p s t agree ∙ sym long) (sym are ∙ same) in
      none (subst (λ (q : List ℕ). IsPartFault s p q f) e.0 fault)

  -- so a file that stops at a part doesn't go on beyond it
  never-beyond : (bytes : List ℕ) (f : CheckFault) (t : SavedState) (more : List Part) (left : List ℕ) (h : StopsAt bytes f) → Front (parts_before h.next ++ h.next ∷ more) bytes t left → ⊥
  never-beyond bytes f t more left h k =
      let next = h.next in
      let rest = flat_map (part_bytes t) more ++ left in
      let g = front-back (parts_before next) next more bytes t left k in
      let r = agreed one next bytes h.state t h.left (part_bytes t next ++ rest) h.front g.0 in
      no-stop-before bytes h.state t next h.left rest f h.front h.stop g.0 r.0 r.1 (length-part next t g.1) (no-part-fault one next h.state t f r.0 g.0.0 g.1)

  one-stop-here : (bytes : List ℕ) (s t : SavedState) (p : Part) (a b : List ℕ) (f g : CheckFault) → Front (parts_before p) bytes s a → Agree p s t → a ≡ b
      → Stop bytes a s p f → Stop bytes b t p g → f ≡ g
  one-stop-here bytes s t p a b f g front agree same (cut less is) (cut less' is') = is ∙ sym is'
  one-stop-here bytes s t p a b f g front agree same (cut less is) (bad here after are whole fault) =
      let e = size-same p s t agree in
      let all = ap length (same ∙ are) ∙ length-append here after in
      absurd (omega (arith, e, all, less, whole))
  one-stop-here bytes s t p a b f g front agree same (bad here after are whole fault) (cut less is) =
      let e = size-same p s t agree in
      let all = ap length (sym same ∙ are) ∙ length-append here after in
      absurd (omega (arith, e, all, less, whole))
  one-stop-here bytes s t p a b f g front agree same (bad here after are whole fault) (bad here' after' are' whole' fault') =
      let e = split-same here after here' after' (whole ∙ size-same p s t agree ∙ sym whole') (sym are ∙ same ∙ are') in
      one-part-fault one p s t here' f g agree front.0 (subst (λ (q : List ℕ). IsPartFault s p q f) e.0 fault) fault'

  beyond : (bytes : List ℕ) (f g : CheckFault) (h : StopsAt bytes f) (k : StopsAt bytes g) → number h.next < number k.next → ⊥
  beyond bytes f g h k less =
      let l = later h.next k.next less in
      never-beyond bytes f k.state l.0 k.left h (subst (λ (d : List Part). Front d bytes k.state k.left) l.1 k.front)

  together : (bytes : List ℕ) (f g : CheckFault) (s t : SavedState) (p q : Part) (a b : List ℕ) → p ≡ q → Front (parts_before p) bytes s a → Front (parts_before q) bytes t b
      → Stop bytes a s p f → Stop bytes b t q g → f ≡ g
  together bytes f g s t p q a b e h k x y =
      let k' : Front (parts_before p) bytes t b = subst (λ (n : Part). Front (parts_before n) bytes t b) (sym e) k in
      let r = agreed one p bytes s t a b h k' in
      one-stop-here bytes s t p a b f g h r.0 r.1 x (subst (λ (n : Part). Stop bytes b t n g) (sym e) y)

  one-stop : (bytes : List ℕ) (f g : CheckFault) → StopsAt bytes f → StopsAt bytes g → f ≡ g
  one-stop bytes f g h k =
      elim (cases_order (number h.next) (number k.next)) [
        | inl same ↦ together bytes f g h.state k.state h.next k.next h.left k.left (same-part h.next k.next same) h.front k.front h.stop k.stop
        | inr r ↦ elim r [ inl less ↦ absurd (beyond bytes f g h k less) | inr more ↦ absurd (beyond bytes g f k h more) ]
      ]

  stops-or-whole : (bytes : List ℕ) (f : CheckFault) (t : SavedState) (left : List ℕ) → StopsAt bytes f → Front parts_of_version_1 bytes t left → ⊥
  stops-or-whole bytes f t left h k = never-beyond bytes f t h.more left h (subst (λ (d : List Part). Front d bytes t left) h.in_order k)

  -- ---- faults as they are told

  -- a fault is that of a part, or bytes stand after the last
  record Trails (bytes : List ℕ) (f : CheckFault) : Type 0 where
    state : SavedState
    left : List ℕ
    front : Front parts_of_version_1 bytes state left
    some : 0 < length left
    is : f ≡ faults.Trailing (length (bytes_of state))

  kind : (bytes : List ℕ) (f : CheckFault) → HasFault bytes f → StopsAt bytes f ⊎ Trails bytes f
  kind bytes f (short s done next left h less is) = inl (stops-at bytes f s done next h.more left h.in_order (h.sound, h.bytes_are) (cut less is))
  kind bytes f (faulty s done next here after h whole fault) =
      inl (stops-at bytes f s done next h.more (here ++ after) h.in_order (h.sound, h.bytes_are) (bad here after refl whole fault))
  kind bytes f (trailing s left h are some is) = inr (record { state = s; left = left; front = (h, are); some = some; is = is })

  one-trail : (bytes : List ℕ) (f g : CheckFault) → Trails bytes f → Trails bytes g → f ≡ g
  one-trail bytes f g h k =
      let same = ap length (agreed-end one bytes h.state k.state h.left k.left h.front k.front) in
      let a = ap length h.front.1 ∙ length-append (bytes_of h.state) h.left in
      let b = ap length k.front.1 ∙ length-append (bytes_of k.state) k.left in
      let long : length (bytes_of h.state) ≡ length (bytes_of k.state) = omega (arith, same, a, b) in
      h.is ∙ ap (λ (n : ℕ). faults.Trailing n) long ∙ sym k.is

  one-fault-of : (bytes : List ℕ) (f g : CheckFault) → HasFault bytes f → HasFault bytes g → f ≡ g
  one-fault-of bytes f g h k =
      elim (kind bytes f h) [
        | inl x ↦
            elim (kind bytes g k) [
              | inl y ↦ one-stop bytes f g x y
              | inr y ↦ absurd (stops-or-whole bytes f y.state y.left x y.front)
            ]
        | inr x ↦
            elim (kind bytes g k) [
              | inl y ↦ absurd (stops-or-whole bytes g x.state x.left y x.front)
              | inr y ↦ one-trail bytes f g x y
            ]
      ]

  no-fault-of : (bytes : List ℕ) (s : SavedState) (f : CheckFault) → IsCheckpoint s → bytes ≡ bytes_of s → HasFault bytes f → ⊥
  no-fault-of bytes s f sound are h =
      let front : Front parts_of_version_1 bytes s [] = (sound, are ∙ sym (append-nil (bytes_of s))) in
      elim (kind bytes f h) [
        | inl x ↦ stops-or-whole bytes f s [] x front
        | inr x ↦
            let same = ap length (agreed-end one bytes x.state s x.left [] x.front front) in
            let some = x.some in
            omega (arith, same, some)
      ]

  pub one-reading : (bytes : List ℕ) (r q : Result SavedState CheckFault) → ReadsAs bytes r → ReadsAs bytes q → r ≡ q
  one-reading bytes (Ok s) (Ok t) h k = ap (λ (u : SavedState). Ok u) (one-state one s t h.0 k.0 (sym h.1 ∙ k.1))
  one-reading bytes (Ok s) (Err f) h k = absurd (no-fault-of bytes s f h.0 h.1 k)
  one-reading bytes (Err f) (Ok s) h k = absurd (no-fault-of bytes s f k.0 k.1 h)
  one-reading bytes (Err f) (Err g) h k = ap (λ (u : CheckFault). Err u) (one-fault-of bytes f g h k)
