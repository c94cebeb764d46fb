-- The order of the parts of a file.
use Rattle.std.proofs.Common.{◌≡◌, ℕ, ◌+◌, ◌<◌, List, ◌∷◌, ◌++◌, length, get_or, take, drop, map, length-take-le, refl, sym, ap, ◌∙◌, arith}
use Rattle.std.specs.List.{range_with_len}
use Rattle.std.proofs.Math.Seq.{get_or-append_seam}
use Rattle.std.proofs.lemmas.List.{drop_more, get_or-map, get_or-take, length-append, take-append-drop, take-take, take_at}
use Rattle.std.proofs.lemmas.List.FromFn.{get_or-range_with_len}
use Rattle.checkpoint.specs.Lemmas.Stages.{parts_before}
use Rattle.checkpoint.specs.Parts.{parts_of_version_1}
use Rattle.checkpoint.specs.declared.part.Part.{Part}
use Rattle.checkpoint.specs.declared.part.Part.TheVariants as parts

-- which part it is
abbrev pub number : Part → ℕ
number parts.Magic = 0
number parts.Version = 1
number parts.TextLength = 2
number parts.Text = 3
number parts.Cycle = 4
number parts.LeafCount = 5
number parts.Places = 6
number parts.Amounts = 7
number parts.Totals = 8
number parts.Gone = 9

pub number-limit : (p : Part) → number p < 10
number-limit parts.Magic = omega arith
number-limit parts.Version = omega arith
number-limit parts.TextLength = omega arith
number-limit parts.Text = omega arith
number-limit parts.Cycle = omega arith
number-limit parts.LeafCount = omega arith
number-limit parts.Places = omega arith
number-limit parts.Amounts = omega arith
number-limit parts.Totals = omega arith
number-limit parts.Gone = omega arith

before-take : (p : Part) → parts_before p ≡ take (number p) parts_of_version_1
before-take parts.Magic = refl
before-take parts.Version = refl
before-take parts.TextLength = refl
before-take parts.Text = refl
before-take parts.Cycle = refl
before-take parts.LeafCount = refl
before-take parts.Places = refl
before-take parts.Amounts = refl
before-take parts.Totals = refl
before-take parts.Gone = refl

pub at-number : (p : Part) → get_or parts_of_version_1 (number p) parts.Magic ≡ p
at-number parts.Magic = refl
at-number parts.Version = refl
at-number parts.TextLength = refl
at-number parts.Text = refl
at-number parts.Cycle = refl
at-number parts.LeafCount = refl
at-number parts.Places = refl
at-number parts.Amounts = refl
at-number parts.Totals = refl
at-number parts.Gone = refl

number-at : (n : ℕ) → n < 10 → number (get_or parts_of_version_1 n parts.Magic) ≡ n
number-at n l =
    let all : map number parts_of_version_1 ≡ range_with_len 0 10 = refl in
    let at : get_or (range_with_len 0 10) n 0 ≡ 0 + n = get_or-range_with_len 0 10 n 0 l in
    sym (get_or-map number parts_of_version_1 n parts.Magic 0 l) ∙ ap (λ (q : List ℕ). get_or q n 0) all ∙ at ∙ omega arith

-- a part is told by its number
pub same-part : (p q : Part) → number p ≡ number q → p ≡ q
same-part p q e = sym (at-number p) ∙ ap (λ (n : ℕ). get_or parts_of_version_1 n parts.Magic) e ∙ at-number q

-- the parts in front of one are those before it
pub done-before : (done : List Part) (next : Part) (more : List Part) → parts_of_version_1 ≡ done ++ next ∷ more → done ≡ parts_before next
done-before done next more e =
    let n = length done in
    let long : length parts_of_version_1 ≡ n + length (next ∷ more) = ap length e ∙ length-append done (next ∷ more) in
    let at : get_or parts_of_version_1 n parts.Magic ≡ next = ap (λ (q : List Part). get_or q n parts.Magic) e ∙ get_or-append_seam done next more parts.Magic in
    let is : number next ≡ n = sym (ap number at) ∙ number-at n (omega (arith, long)) in
    sym (take_at done (next ∷ more) n refl) ∙ ap (take n) (sym e) ∙ ap (λ (k : ℕ). take k parts_of_version_1) (sym is) ∙ sym (before-take next)

-- a part stands before a later one
pub later : (p q : Part) → number p < number q → (more : List Part) × (parts_before q ≡ parts_before p ++ p ∷ more)
later p q l =
    let all = parts_of_version_1 in
    let n = number p in
    let front = parts_before q in
    let limit = number-limit q in
    let front_is : front ≡ take (number q) all = before-take q in
    let long : length front ≡ number q = ap length front_is ∙ length-take-le (number q) all (omega (arith, limit)) in
    let first : take n front ≡ parts_before p = ap (take n) front_is ∙ take-take n (number q) all (omega (arith, l)) ∙ sym (before-take p) in
    let here : get_or front n parts.Magic ≡ p = ap (λ (k : List Part). get_or k n parts.Magic) front_is ∙ get_or-take (number q) all n parts.Magic l ∙ at-number p in (
      drop (n + 1) front,
      sym (take-append-drop n front)
          ∙ ap (λ (k : List Part). k ++ drop n front) first
          ∙ ap (λ (k : List Part). parts_before p ++ k) (drop_more front n parts.Magic (omega (arith, long, l)) ∙ ap (λ (k : Part). k ∷ drop (n + 1) front) here),
    )
