-- All bytes stand for a state or have a fault: part by part, from the last one back.
use Rattle.std.proofs.Common.{◌≡◌, ℕ, ◌+◌, ◌*◌, ◌<◌, ◌≤◌, ◌⊎◌, inl, inr, All, List, [], ◌∷◌, ◌++◌, Result, Ok, Err, append-nil, codes, length, map, replicate, slice_index, take, drop, take-append-drop, length-take-le, refl, sym, ap, subst, ◌∙◌, arith}
use Rattle.std.specs.Int.{bytes_high_first}
use Rattle.std.specs.List.{range_with_len}
use Rattle.std.proofs.lemmas.Bool.{cases_eq, cases_lt}
use Rattle.std.proofs.lemmas.List.{length-replicate, take_all}
use Rattle.std.proofs.lemmas.List.Elements.{All-drop, All-take}
use Rattle.std.proofs.lemmas.List.FromFn.{get_or-map-range_with_len}
use Rattle.block_index.specs.Places.{Cube, packed}
use Rattle.block_fields.specs.States.{IsState, total}
use Rattle.params_syntax.specs.Limits.{longest}
use Rattle.params_syntax.specs.Reading.{Spells, ReadsAs as TextReadsAs}
use Rattle.params_syntax.specs.declared.tree.Group.{Group}
use Rattle.params_syntax.specs.declared.fault.SyntaxFault.{SyntaxFault}
use Rattle.params_syntax.proofs.EachReads.{each_reads}
use Rattle.params_check.specs.Bounds.{most_cycles}
use Rattle.params_check.specs.declared.fault.ParamFault.{ParamFault}
use Rattle.params_check.specs.Parameters.{Parameters, total_of}
use Rattle.params_check.specs.Walks.{parameters_of}
use Rattle.checkpoint.specs.Lemmas.PartEnds.{IsFirstOff}
use Rattle.checkpoint.specs.Lemmas.Stages.{EndsRead, StandsBefore, only_text, parts_before, some_place, told}
use Rattle.checkpoint.specs.Reading.{AreAccepted, AreWords, BeginsWith, IsCheckpoint, IsPartFault, ReadsAs, faulty, no_mesh, no_place, short, size, state_in, trailing}
use Rattle.checkpoint.specs.SavedStates.{SavedState}
use Rattle.checkpoint.specs.Spelling.{bytes_of, numbers_bytes}
use Rattle.checkpoint.specs.declared.part.Part.{Part}
use Rattle.checkpoint.specs.declared.part.Part.TheVariants as parts
use Rattle.checkpoint.specs.declared.fault.CheckFault.{CheckFault}
use Rattle.checkpoint.specs.declared.fault.CheckFault.TheVariants as faults
use Rattle.checkpoint.proofs.FirstCases.{first-or-none, same-or-not}
use Rattle.checkpoint.proofs.LeafCases.{leaf-cases}
use Rattle.checkpoint.proofs.NumberCases.{number-of, words-of}
use Rattle.checkpoint.proofs.PartFacts.{eight-times, limits-of}
use Rattle.checkpoint.proofs.StageParts.{after-count, after-cycle, after-gone, after-places, after-text, after-text-length, after-totals, gone-faulty, total-faulty}
use Rattle.checkpoint.proofs.Stages.{begins, goes-on}
use Rattle.checkpoint.proofs.Texts.{other-none, refused-none, unread-none}
use Rattle.checkpoint.proofs.WordCases.{amounts-bytes, amounts-fit, amounts-of, block-cells, block-fields, words-cases}

-- what a file stands for
abbrev pub Answer : List ℕ → Type 0
Answer file = (r : Result SavedState CheckFault) × ReadsAs file r

abbrev Bytes : List ℕ → Type 0
Bytes bytes = All (λ b. b < 256) bytes

front-bytes : (k : ℕ) (left : List ℕ) → Bytes left → Bytes (take k left)
front-bytes k left h = All-take (λ b. b < 256) k left h

rest-bytes : (k : ℕ) (left : List ℕ) → Bytes left → Bytes (drop k left)
rest-bytes k left h = All-drop (λ b. b < 256) k left h

ends-short : (next : Part) (file : List ℕ) (s : SavedState) (left : List ℕ) → StandsBefore next file s left → length left < size s next → Answer file
ends-short next file s left h less = (Err (faults.Truncated (length file)), short s (parts_before next) next left h less refl)

ends-faulty : (next : Part) (file : List ℕ) (s : SavedState) (left : List ℕ) (k : ℕ) (fault : CheckFault) → StandsBefore next file s left → k ≤ length left → k ≡ size s next
    → IsPartFault s next (take k left) fault → Answer file
ends-faulty next file s left k fault h within whole bad = (
  Err fault,
  faulty s (parts_before next) next (take k left) (drop k left) (subst (BeginsWith file s (parts_before next) next) (sym (take-append-drop k left)) h)
      (length-take-le k left within ∙ whole) bad,
)

-- reading ends at a fault that isn't want of memory
ends-read : (file : List ℕ) (fault : CheckFault) → (fault ≡ faults.Memory → ⊥) → EndsRead file fault → Answer file
ends-read file fault other h = elim h [ inl e ↦ absurd (other e) | inr bad ↦ (Err fault, bad) ]

-- ---- the end

at-end : (file : List ℕ) (s : SavedState) (left : List ℕ) → IsCheckpoint s × (file ≡ bytes_of s ++ left) → Answer file
at-end file s [] h = (Ok s, (h.0, h.1 ∙ append-nil (bytes_of s)))
at-end file s (b ∷ left) h = (Err (faults.Trailing (length (bytes_of s))), trailing s (b ∷ left) h.0 h.1 (omega arith) refl)

-- ---- fields

-- the first field that breaks a rule, or that there is none
field-cases : (here numbers : List ℕ) (fields : ℕ) (x y : ℕ → ℕ) → AreWords (take fields numbers) here
    → ((f : ℕ) × IsFirstOff here numbers fields (λ g. x g ≡ y g) f) ⊎ ((f : ℕ) → f < fields → x f ≡ y f)
field-cases here numbers fields x y words =
    let P : ℕ → Type 0 = λ f. (f < fields) × (x f ≡ y f → ⊥) in
    let each : (f : ℕ) → P f ⊎ (P f → ⊥) = λ f.
    elim (cases_lt f fields) [
      | inr past ↦ inr (λ p. let l = p.0 in omega (arith, l, past))
      | inl below ↦ elim (cases_eq (x f) (y f)) [ inl e ↦ inr (λ p. p.1 e) | inr not ↦ inl (below, not) ]
    ] in
    let kept : (f : ℕ) → f < fields → (P f → ⊥) → x f ≡ y f = λ f l none. elim (cases_eq (x f) (y f)) [ inl e ↦ e | inr not ↦ absurd (none (l, not)) ] in
    elim (first-or-none P each fields) [
      | inl h ↦
          let l = h.1.here.0 in
          inl (
            h.0,
            record {
              words = words;
              field = l;
              breaks = h.1.here.1;
              kept_before = λ g m. kept g (omega (arith, l, m)) (h.1.none_before g m);
            },
          )
      | inr none ↦ inr (λ f l. kept f l (none f l))
    ]

balance-fault : (f n m : ℕ) → faults.Balance f n m ≡ faults.Memory → ⊥
balance-fault f n m e = cc

total-fault : (f n m : ℕ) → faults.Total f n m ≡ faults.Memory → ⊥
total-fault f n m e = cc

from-gone : (file left : List ℕ) (p : Parameters) (cycle : ℕ) (places : List Cube) (amounts : List (List (List ℕ))) (stated : List ℕ) → Bytes left
    → StandsBefore parts.Gone file (told p cycle places amounts (take (length p.fields) stated) []) left → Answer file
from-gone file left p cycle places amounts stated bytes h =
    let fields = length p.fields in
    let k = 8 * fields in
    let s = told p cycle places amounts (take fields stated) [] in
    elim (cases_lt (length left) k) [
      | inl less ↦ ends-short parts.Gone file s left h less
      | inr within ↦
          let here = take k left in
          let w = words-of fields here (length-take-le k left within) (front-bytes k left bytes) in
          let m = w.many in
          let words : AreWords (take fields w.words) here = subst (λ (q : List ℕ). AreWords q here) (sym (take_all fields w.words (omega (arith, m)))) w.are in
          elim (field-cases here w.words fields (λ f. slice_index stated f + slice_index w.words f) (total_of p) words) [
            | inl off ↦
                let f = off.0 in
                let fault = faults.Balance f (slice_index stated f + slice_index w.words f) (total_of p f) in
                ends-read file fault (balance-fault f (slice_index stated f + slice_index w.words f) (total_of p f))
                (gone-faulty file left here (drop k left) k p cycle places amounts stated w.words f fault h refl refl within refl off.1 refl)
            | inr balance ↦
                at-end file (told p cycle places amounts (take fields stated) (take fields w.words)) (drop k left)
                (after-gone file left here (drop k left) k p cycle places amounts stated w.words h refl refl (omega (arith, m)) words balance)
          ]
    ]

from-totals : (file left : List ℕ) (p : Parameters) (cycle : ℕ) (places : List Cube) (amounts : List (List (List ℕ))) → Bytes left
    → StandsBefore parts.Totals file (told p cycle places amounts [] []) left → Answer file
from-totals file left p cycle places amounts bytes h =
    let fields = length p.fields in
    let k = 8 * fields in
    let s = told p cycle places amounts [] [] in
    elim (cases_lt (length left) k) [
      | inl less ↦ ends-short parts.Totals file s left h less
      | inr within ↦
          let here = take k left in
          let w = words-of fields here (length-take-le k left within) (front-bytes k left bytes) in
          let m = w.many in
          let words : AreWords (take fields w.words) here = subst (λ (q : List ℕ). AreWords q here) (sym (take_all fields w.words (omega (arith, m)))) w.are in
          let sums = map (λ f. total (state_in s) f) (range_with_len 0 fields) in
          let sums_are : (f : ℕ) → f < fields → slice_index sums f ≡ total (state_in s) f = λ f l. get_or-map-range_with_len (λ f. total (state_in s) f) 0 fields f f 0 l (omega arith) in
          elim (field-cases here w.words fields (λ f. slice_index w.words f) (λ f. slice_index sums f) words) [
            | inl off ↦
                let f = off.0 in
                let fault = faults.Total f (slice_index w.words f) (slice_index sums f) in
                ends-read file fault (total-fault f (slice_index w.words f) (slice_index sums f))
                (total-faulty file left here (drop k left) k p cycle places amounts sums w.words f fault h refl refl within refl sums_are off.1 refl)
            | inr same ↦
                from-gone file (drop k left) p cycle places amounts w.words (rest-bytes k left bytes)
                (after-totals file left here (drop k left) k p cycle places amounts w.words h refl refl (omega (arith, m)) words (λ f l. same f l ∙ sums_are f l))
          ]
    ]

-- ---- amounts

from-amounts : (file left : List ℕ) (p : Parameters) (cycle : ℕ) (places : List Cube) → Bytes left → StandsBefore parts.Amounts file (told p cycle places [] [] []) left → Answer file
from-amounts file left p cycle places bytes h =
    let fields = length p.fields in
    let cells = p.block * p.block * p.block in
    let k = length places * (fields * (8 * cells)) in
    let s = told p cycle places [] [] [] in
    elim (cases_lt (length left) k) [
      | inl less ↦ ends-short parts.Amounts file s left h less
      | inr within ↦
          let here = take k left in
          let long : length here ≡ 8 * (length places * (fields * cells)) = length-take-le k left within ∙ sym (eight-times (length places) fields cells) in
          let w = words-of (length places * (fields * cells)) here long (front-bytes k left bytes) in
          let a = amounts-of (length places) fields cells w.words w.many in
          let t = told p cycle places a.blocks [] [] in
          let q = h.sound.1.1.1 in
          let tiles = q.1.1.1.0 in
          let edge = (limits-of p q.0).block.low in
          let state : IsState (state_in t) = record {
            domain = tiles.domain;
            mesh = tiles.mesh;
            balanced = tiles.balanced;
            edge = omega (arith, edge);
            one_each = a.many;
            all_fields = λ i block at. (block-fields fields cells a.blocks a.each i block at).0;
            all_cells = λ i f block amounts at there. block-cells cells block (block-fields fields cells a.blocks a.each i block at).1 f amounts there;
          } in
          from-totals file (drop k left) p cycle places a.blocks (rest-bytes k left bytes)
          (goes-on parts.Amounts parts.Totals (parts.Gone ∷ []) file s t left here (drop k left) k h refl refl refl refl refl h.sound (state, amounts-fit (length places) fields cells w.words a w.are.fit)
          (amounts-bytes (length places) fields cells w.words here a w.are.bytes_are))
    ]

-- ---- places

from-places : (file left : List ℕ) (p : Parameters) (cycle n : ℕ) → Bytes left → StandsBefore parts.Places file (told p cycle (replicate n some_place) [] [] []) left → Answer file
from-places file left p cycle n bytes h =
    let k = 8 * n in
    let s = told p cycle (replicate n some_place) [] [] [] in
    let whole : k ≡ size s parts.Places = ap (λ (m : ℕ). 8 * m) (sym (length-replicate n some_place)) in
    elim (cases_lt (length left) k) [
      | inl less ↦ ends-short parts.Places file s left h (subst (λ (m : ℕ). length left < m) whole less)
      | inr within ↦
          let here = take k left in
          let w = words-of n here (length-take-le k left within) (front-bytes k left bytes) in
          elim (words-cases w.words here w.are) [
            | inr bad ↦ ends-faulty parts.Places file s left k (faults.Word bad.0) h within whole (no_place bad.0 bad.1 refl)
            | inl are ↦
                let spelled : here ≡ numbers_bytes (map packed are.places) = w.are.bytes_are ∙ ap numbers_bytes (sym are.packs) in
                elim (leaf-cases p.grid are.places (limits-of p h.sound.1.1.1.0).domain) [
                  | inr bad ↦ ends-faulty parts.Places file s left k (faults.Leaves bad.fault) h within whole (no_mesh are.places bad.fault are.limits spelled bad.is bad.other refl)
                  | inl tiles ↦
                      from-amounts file (drop k left) p cycle are.places (rest-bytes k left bytes)
                      (after-places file left here (drop k left) p cycle n (record { grid = p.grid; places = are.places }) h refl refl within tiles refl spelled)
                ]
          ]
    ]

-- ---- numbers and the text

from-count : (file left : List ℕ) (p : Parameters) (cycle : ℕ) → Bytes left → StandsBefore parts.LeafCount file (told p cycle [] [] [] []) left → Answer file
from-count file left p cycle bytes h =
    let s = told p cycle [] [] [] [] in
    elim (cases_lt (length left) 4) [
      | inl less ↦ ends-short parts.LeafCount file s left h less
      | inr within ↦
          let here = take 4 left in
          let n = number-of 4 here (length-take-le 4 left within) (front-bytes 4 left bytes) in
          elim (cases_lt p.max_blocks n.0) [
            | inl many ↦
                ends-faulty parts.LeafCount file s left 4 (faults.Count n.0 p.max_blocks) h within refl (record { found = n.0; is = n.1; breaks = many; fault_is = refl })
            | inr few ↦ from-places file (drop 4 left) p cycle n.0 (rest-bytes 4 left bytes) (after-count file left here (drop 4 left) p cycle n.0 h refl refl few n.1)
          ]
    ]

from-cycle : (file left : List ℕ) (p : Parameters) → Bytes left → StandsBefore parts.Cycle file (told p 0 [] [] [] []) left → Answer file
from-cycle file left p bytes h =
    let s = told p 0 [] [] [] [] in
    elim (cases_lt (length left) 4) [
      | inl less ↦ ends-short parts.Cycle file s left h less
      | inr within ↦
          let here = take 4 left in
          let n = number-of 4 here (length-take-le 4 left within) (front-bytes 4 left bytes) in
          elim (cases_lt most_cycles n.0) [
            | inl many ↦ ends-faulty parts.Cycle file s left 4 (faults.Cycle n.0) h within refl (record { found = n.0; is = n.1; breaks = many; fault_is = refl })
            | inr few ↦ from-count file (drop 4 left) p n.0 (rest-bytes 4 left bytes) (after-cycle file left here (drop 4 left) p n.0 h refl refl few n.1)
          ]
    ]

-- a text is that of accepted parameters, or of none
text-cases : (text : List ℕ) → ((p : Parameters) × AreAccepted p × (p.text ≡ text)) ⊎ ((p : Parameters) → AreAccepted p → p.text ≡ text → ⊥)
text-cases text = go (each_reads text).0 (each_reads text).1
  where
    of : (groups : List Group) → Spells text groups → (r : Result Parameters ParamFault) → parameters_of groups ≡ r
        → ((p : Parameters) × AreAccepted p × (p.text ≡ text)) ⊎ ((p : Parameters) → AreAccepted p → p.text ≡ text → ⊥)
    of groups spelled (Ok q) e =
        elim (same-or-not q.text text) [
          | inl same ↦ inl (q, record { groups = groups; limits = spelled.limits; accepted = e }, same)
          | inr other ↦ inr (other-none text groups q spelled e other)
        ]
    of groups spelled (Err f) e = inr (refused-none text groups f spelled e)

    go : (r : Result (List Group) SyntaxFault) → TextReadsAs text r → ((p : Parameters) × AreAccepted p × (p.text ≡ text)) ⊎ ((p : Parameters) → AreAccepted p → p.text ≡ text → ⊥)
    go (Ok groups) spelled = of groups spelled (parameters_of groups) refl
    go (Err f) bad = inr (unread-none text f bad)

from-text : (file left : List ℕ) (n : ℕ) → Bytes left → StandsBefore parts.Text file (told (only_text (replicate n 0)) 0 [] [] [] []) left → Answer file
from-text file left n bytes h =
    let s = told (only_text (replicate n 0)) 0 [] [] [] [] in
    let whole : n ≡ size s parts.Text = sym (length-replicate n 0) in
    elim (cases_lt (length left) n) [
      | inl less ↦ ends-short parts.Text file s left h (subst (λ (m : ℕ). length left < m) whole less)
      | inr within ↦
          let here = take n left in
          elim (text-cases here) [
            | inr none ↦ ends-faulty parts.Text file s left n faults.Params h within whole (none, refl)
            | inl a ↦ from-cycle file (drop n left) a.0 (rest-bytes n left bytes) (after-text file left here (drop n left) n a.0 h refl refl within a.1 a.2)
          ]
    ]

from-length : (file left : List ℕ) → Bytes left → StandsBefore parts.TextLength file (told (only_text []) 0 [] [] [] []) left → Answer file
from-length file left bytes h =
    let s = told (only_text []) 0 [] [] [] [] in
    elim (cases_lt (length left) 4) [
      | inl less ↦ ends-short parts.TextLength file s left h less
      | inr within ↦
          let here = take 4 left in
          let n = number-of 4 here (length-take-le 4 left within) (front-bytes 4 left bytes) in
          elim (cases_lt longest n.0) [
            | inl many ↦ ends-faulty parts.TextLength file s left 4 faults.Params h within refl (record { found = n.0; is = n.1; breaks = many; fault_is = refl })
            | inr few ↦ from-text file (drop 4 left) n.0 (rest-bytes 4 left bytes) (after-text-length file left here (drop 4 left) n.0 h refl refl few n.1)
          ]
    ]

from-version : (file left : List ℕ) → Bytes left → StandsBefore parts.Version file (told (only_text []) 0 [] [] [] []) left → Answer file
from-version file left bytes h =
    let s = told (only_text []) 0 [] [] [] [] in
    elim (cases_lt (length left) 2) [
      | inl less ↦ ends-short parts.Version file s left h less
      | inr within ↦
          let here = take 2 left in
          let n = number-of 2 here (length-take-le 2 left within) (front-bytes 2 left bytes) in
          elim (cases_eq n.0 1) [
            | inr other ↦ ends-faulty parts.Version file s left 2 (faults.Version n.0) h within refl (record { found = n.0; is = n.1; breaks = other; fault_is = refl })
            | inl one ↦
                from-length file (drop 2 left) (rest-bytes 2 left bytes)
                (goes-on parts.Version parts.TextLength (parts.Text ∷ parts.Cycle ∷ parts.LeafCount ∷ parts.Places ∷ parts.Amounts ∷ parts.Totals ∷ parts.Gone ∷ []) file s s left here (drop 2 left) 2 h
                refl refl refl refl refl (tt, tt) tt (n.1.bytes_are ∙ ap (bytes_high_first 2) one))
          ]
    ]

pub each-reads : (file : List ℕ) → Bytes file → Answer file
each-reads file bytes =
    let s = told (only_text []) 0 [] [] [] [] in
    elim (cases_lt (length file) 8) [
      | inl less ↦ ends-short parts.Magic file s file (begins file s) less
      | inr within ↦
          elim (same-or-not (take 8 file) (codes "CELLOAMR")) [
            | inr other ↦ ends-faulty parts.Magic file s file 8 faults.Magic (begins file s) within refl (other, refl)
            | inl same ↦
                from-version file (drop 8 file) (rest-bytes 8 file bytes)
                (goes-on parts.Magic parts.Version (parts.TextLength ∷ parts.Text ∷ parts.Cycle ∷ parts.LeafCount ∷ parts.Places ∷ parts.Amounts ∷ parts.Totals ∷ parts.Gone ∷ []) file s s file (take 8 file)
                (drop 8 file) 8 (begins file s) refl refl refl refl refl tt tt same)
          ]
    ]
