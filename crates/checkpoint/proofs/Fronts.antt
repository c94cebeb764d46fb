-- Two states whose first parts a file begins with are the same up to there.
use Rattle.std.proofs.Common.{◌≡◌, ℕ, List, [], ◌∷◌, ◌++◌, append_assoc, sym, ap, ◌∙◌}
use Rattle.std.specs.List.{flat_map}
use Rattle.std.proofs.lemmas.List.Concat.{flat_map-append}
use Rattle.block_index.specs.Places.{Cube, IsPlace, packed}
use Rattle.params_syntax.specs.Trees.{Each}
use Rattle.checkpoint.specs.Lemmas.Stages.{parts_before}
use Rattle.checkpoint.specs.Parts.{parts_of_version_1}
use Rattle.checkpoint.specs.Reading.{IsSound}
use Rattle.checkpoint.specs.SavedStates.{SavedState}
use Rattle.checkpoint.specs.Spelling.{part_bytes}
use Rattle.checkpoint.specs.declared.part.Part.{Part}
use Rattle.checkpoint.specs.declared.part.Part.TheVariants as parts
use Rattle.checkpoint.proofs.PartFacts.{Agree, peel, tells-amounts, tells-count, tells-length, tells-places, tells-totals}
use Rattle.checkpoint.proofs.Texts.{one-accepted}

-- a file begins with these parts of a state, each sound, and this much is left
abbrev pub Front : List Part → List ℕ → SavedState → List ℕ → Type 0
Front done bytes s left = Each (IsSound s) done × (bytes ≡ flat_map (part_bytes s) done ++ left)

Each-front : (P : Part → Type 0) (done : List Part) (p : Part) (more : List Part) → Each P (done ++ p ∷ more) → Each P done × P p
Each-front P [] p more h = (tt, h.0)
Each-front P (q ∷ done) p more h = let r = Each-front P done p more h.1 in ((h.0, r.0), r.1)

-- it begins with fewer of them
pub front-back : (done : List Part) (next : Part) (more : List Part) (bytes : List ℕ) (s : SavedState) (left : List ℕ) → Front (done ++ next ∷ more) bytes s left
    → Front done bytes s (part_bytes s next ++ (flat_map (part_bytes s) more ++ left)) × IsSound s next
front-back done next more bytes s left h =
    let sound = Each-front (IsSound s) done next more h.0 in
    let first = flat_map (part_bytes s) done in
    let here = part_bytes s next in
    let rest = flat_map (part_bytes s) more in (
      (
        sound.0,
        h.1
            ∙ ap (λ (l : List ℕ). l ++ left) (flat_map-append (part_bytes s) done (next ∷ more))
            ∙ append_assoc first (here ++ rest) left
            ∙ ap (λ (l : List ℕ). first ++ l) (append_assoc here rest left),
      ),
      sound.1,
    )

-- what two states share that a file begins with up to a part
abbrev pub Agreed : Part → Type 0
Agreed next = (bytes : List ℕ) (s t : SavedState) (a b : List ℕ) → Front (parts_before next) bytes s a → Front (parts_before next) bytes t b → Agree next s t × (a ≡ b)

record Step (p : Part) (s t : SavedState) (a b : List ℕ) : Type 0 where
  agree : Agree p s t
  here : part_bytes s p ≡ part_bytes t p
  rest : a ≡ b
  sound : IsSound s p
  sound' : IsSound t p

step : (p : Part) → Agreed p → (bytes : List ℕ) (s t : SavedState) (a b : List ℕ) → Front (parts_before p ++ p ∷ []) bytes s a → Front (parts_before p ++ p ∷ []) bytes t b → Step p s t a b
step p agreed bytes s t a b h k =
    let f = front-back (parts_before p) p [] bytes s a h in
    let g = front-back (parts_before p) p [] bytes t b k in
    let r = agreed bytes s t (part_bytes s p ++ a) (part_bytes t p ++ b) f.0 g.0 in
    let e = peel p s t a b r.0 f.1 g.1 r.1 in
    record { agree = r.0; here = e.0; rest = e.1; sound = f.1; sound' = g.1 }

on-magic : Agreed parts.Magic
on-magic bytes s t a b h k = (tt, sym h.1 ∙ k.1)

on-version : Agreed parts.Version
on-version bytes s t a b h k = (tt, (step parts.Magic on-magic bytes s t a b h k).rest)

on-length : Agreed parts.TextLength
on-length bytes s t a b h k = (tt, (step parts.Version on-version bytes s t a b h k).rest)

on-text : Agreed parts.Text
on-text bytes s t a b h k =
    let r = step parts.TextLength on-length bytes s t a b h k in
    (tells-length s t r.sound r.sound' r.here, r.rest)

on-cycle : Agreed parts.Cycle
on-cycle bytes s t a b h k =
    let r = step parts.Text on-text bytes s t a b h k in
    (one-accepted s.params t.params r.sound r.sound' r.here, r.rest)

on-count : Agreed parts.LeafCount
on-count bytes s t a b h k =
    let r = step parts.Cycle on-cycle bytes s t a b h k in
    (r.agree, r.rest)

on-places : Agreed parts.Places
on-places bytes s t a b h k =
    let r = step parts.LeafCount on-count bytes s t a b h k in
    ((r.agree, tells-count s t h.0.1.1.1.0 k.0.1.1.1.0 r.sound r.sound' r.here), r.rest)

module _ (one : (a c : Cube) → IsPlace a → IsPlace c → packed a ≡ packed c → a ≡ c) where
  on-amounts : Agreed parts.Amounts
  on-amounts bytes s t a b h k =
      let r = step parts.Places on-places bytes s t a b h k in
      ((r.agree.0, tells-places one s t r.sound r.sound' r.here), r.rest)

  on-totals : Agreed parts.Totals
  on-totals bytes s t a b h k =
      let r = step parts.Amounts on-amounts bytes s t a b h k in
      ((r.agree.0, r.agree.1, tells-amounts s t r.agree r.sound r.sound' r.here), r.rest)

  on-gone : Agreed parts.Gone
  on-gone bytes s t a b h k =
      let r = step parts.Totals on-totals bytes s t a b h k in
      ((r.agree.0, r.agree.1, r.agree.2, tells-totals s t r.sound r.sound' r.here), r.rest)

  pub agreed : (next : Part) → Agreed next
  agreed parts.Magic = on-magic
  agreed parts.Version = on-version
  agreed parts.TextLength = on-length
  agreed parts.Text = on-text
  agreed parts.Cycle = on-cycle
  agreed parts.LeafCount = on-count
  agreed parts.Places = on-places
  agreed parts.Amounts = on-amounts
  agreed parts.Totals = on-totals
  agreed parts.Gone = on-gone

  -- what is left after all parts is the same
  pub agreed-end : (bytes : List ℕ) (s t : SavedState) (a b : List ℕ) → Front parts_of_version_1 bytes s a → Front parts_of_version_1 bytes t b → a ≡ b
  agreed-end bytes s t a b h k = (step parts.Gone on-gone bytes s t a b h k).rest
