-- Each region is counted once among all messages: by its one piece.
use Rattle.std.proofs.Common.{◌≡◌, ℕ, zero, suc, ◌+◌, ◌*◌, ◌≤◌, Bool, true, false, cond, List, [], ◌∷◌, ◌++◌, Some, length, map, refl, sym, ap, ◌∙◌, subst, arith, ◌⊎◌, inl, inr}
use Rattle.std.specs.Prelude.{Contains, slice_get, sum_by, ◌==◌, ◌&&◌}
use Rattle.std.proofs.lemmas.Bool.{cases_eq, eq-eqb, ne_eqb}
use Rattle.std.proofs.lemmas.List.Elements.{All-weaker, All-contains_itself}
use Rattle.std.proofs.lemmas.List.Sums.{sum_by-append, sum_by-cons, sum_by-le, get_or-le-sum_by}
use Rattle.std.proofs.lemmas.Option.{none-some, same_Some}
use Rattle.phase_core.specs.declared.envelope.Envelope.{Envelope}
use Rattle.phase_core.specs.Machine.{start_flight}
use Rattle.phase_core.specs.Lemmas.Lookups.{Contains-get, Contains-at}
use Rattle.phase_core.specs.Lemmas.Starts.{start_flight-suc}
use Rattle.owed_phase.specs.Plans.{owed_from, all_of}
use Rattle.owed_phase.specs.Lemmas.Moves.{Contains-cons_more}
use Rattle.block_index.specs.Places.{Grid}
use Rattle.block_fields.specs.Blocks.{BlockState}
use Rattle.ghost_pieces.specs.Filing.{Source, is_same_source, source_of}
use Rattle.ghost_pieces.specs.Pieces.{PieceState}
use Rattle.ghost_pieces.specs.Regions.{Region, IsRegion, Member, Once}
use Rattle.refresh_phase.specs.declared.refresh_msg.RefreshMsg.{RefreshMsg}
use Rattle.refresh_phase.specs.declared.refresh_msg.RefreshMsg.TheVariants.{Start}
use Rattle.refresh_phase.specs.Cells.{LeafPart, LeafState, RefreshProblem, blank, own_cells, state_in}
use Rattle.refresh_phase.specs.React.{refresh_start, sent_piece, sent_pieces}
use Rattle.refresh_phase.specs.Problem.{IsRefreshProblem, refresh_plan}
use Rattle.refresh_phase.specs.States.{same_region, piece_of, owed_pieces_of}
use Rattle.refresh_phase.proofs.GhostFacts.{facts}
use Rattle.refresh_phase.proofs.Messages.{part_of_leaf}

abbrev counted : Bool → ℕ
counted b = cond b 1 0

-- what has no weight in any element has none in sum
pub sum-none : {X : Type 0} (f : X → ℕ) (xs : List X) → ((x : X) → Contains xs x → f x ≡ 0) → sum_by f xs ≡ 0
sum-none {X} f xs none =
    let bound : sum_by f xs ≤ length xs * 0 = sum_by-le f 0 xs (All-weaker (Contains xs) (λ x. f x ≤ 0) (λ x h. omega (arith, none x h)) xs (All-contains_itself xs)) in
    omega (arith, bound)

-- an element weighs at most what all do
pub sum-some : {X : Type 0} (f : X → ℕ) (xs : List X) (x : X) → Contains xs x → f x ≤ sum_by f xs
sum-some f xs x h = subst (λ y. f y ≤ sum_by f xs) h.2 (get_or-le-sum_by f xs h.0 x h.1)

module _ (r : Region) where
  -- whether a region has the receiver, the sender and the direction of r
  abbrev test : Region → Bool
  test q = (r.receiver == q.receiver) && is_same_source (source_of r) (source_of q)

  pub same-cases : (q : Region) → ((same_region r q ≡ 1) × (r.receiver ≡ q.receiver) × (source_of r ≡ source_of q)) ⊎ (same_region r q ≡ 0)
  same-cases q = elim (cases_eq r.receiver q.receiver) [
    | inl to ↦ elim (cases_eq (source_of r).direction (source_of q).direction) [
      | inl along ↦ elim (cases_eq r.sender q.sender) [
        | inl from ↦ inl (one to along from, to, both along from)
        | inr not ↦ inr (ap (λ (b : Bool). counted ((r.receiver == q.receiver) && (((source_of r).direction == (source_of q).direction) && b))) (ne_eqb r.sender q.sender not) ∙ last ((r.receiver == q.receiver)) ((source_of r).direction == (source_of q).direction))
      ]
      | inr not ↦ inr (ap (λ (b : Bool). counted ((r.receiver == q.receiver) && (b && (r.sender == q.sender)))) (ne_eqb (source_of r).direction (source_of q).direction not) ∙ middle (r.receiver == q.receiver))
    ]
    | inr not ↦ inr (ap (λ (b : Bool). counted (b && is_same_source (source_of r) (source_of q))) (ne_eqb r.receiver q.receiver not))
  ]
    where
      last : (a b : Bool) → counted (a && (b && false)) ≡ 0
      last true true = refl
      last true false = refl
      last false b = refl

      middle : (a : Bool) → counted (a && false) ≡ 0
      middle true = refl
      middle false = refl

      one : r.receiver ≡ q.receiver → (source_of r).direction ≡ (source_of q).direction → r.sender ≡ q.sender → same_region r q ≡ 1
      one to along from = ap (λ (b : Bool). counted (b && is_same_source (source_of r) (source_of q))) (eq-eqb r.receiver q.receiver to)
          ∙ (ap (λ (b : Bool). counted (b && (r.sender == q.sender))) (eq-eqb (source_of r).direction (source_of q).direction along)
          ∙ ap (λ (b : Bool). counted b) (eq-eqb r.sender q.sender from))

      both : (source_of r).direction ≡ (source_of q).direction → r.sender ≡ q.sender → source_of r ≡ source_of q
      both along from = ap (λ (n : ℕ). record { direction = n; sender = r.sender }) along ∙ ap (λ (n : ℕ). record { direction = (source_of q).direction; sender = n }) from

-- a region with the receiver and the source of r counts as r
pub same-one : (r q : Region) → r.receiver ≡ q.receiver → source_of r ≡ source_of q → same_region r q ≡ 1
same-one r q to source =
    ap (λ (b : Bool). counted (b && is_same_source (source_of r) (source_of q))) (eq-eqb r.receiver q.receiver to)
    ∙ (ap (λ (b : Bool). counted (b && (r.sender == q.sender))) (eq-eqb (source_of r).direction (source_of q).direction (ap (λ (x : Source). x.direction) source))
    ∙ ap (λ (b : Bool). counted b) (eq-eqb r.sender q.sender (ap (λ (x : Source). x.sender) source)))

-- Regions of a list in which r stands once, and none but r itself counts as r.
module _ (r : Region) where
  none-same : (xs : List Region) → ((q : Region) → Contains xs q → same_region r q ≡ 1 → q ≡ r) → (Contains xs r → ⊥) → sum_by (same_region r) xs ≡ 0
  none-same xs only absent = sum-none (same_region r) xs (λ q h. elim (same-cases r q) [
    | inl same ↦ absurd (absent (subst (λ (x : Region). Contains xs x) (only q h same.0) h))
    | inr other ↦ other
  ])

  pub once-same : (xs : List Region) → Once xs → Member xs r → ((q : Region) → Contains xs q → same_region r q ≡ 1 → q ≡ r) → same_region r r ≡ 1 → sum_by (same_region r) xs ≡ 1
  once-same [] once member only self = absurd (none-some r member.1)
  once-same (x ∷ xs) once member only self =
      let whole : sum_by (same_region r) (x ∷ xs) ≡ same_region r x + sum_by (same_region r) xs = sum_by-cons (same_region r) x xs in
      let later : (q : Region) → Contains xs q → same_region r q ≡ 1 → q ≡ r = λ q h. only q (Contains-cons_more x xs q h) in
      elim (same-cases r x) [
        | inl same ↦
            let is : x ≡ r = only x (Contains-at (x ∷ xs) 0 x refl) same.0 in
            let gone : Contains xs r → ⊥ = λ h.
            let g = Contains-get xs r h in
            zero-suc g.0 (once 0 (suc g.0) r (ap (λ (y : Region). Some y) is) g.1) in
            omega (arith, whole, same.0, none-same xs later gone)
        | inr other ↦ omega (arith, whole, other, once-same xs (λ a b q h j. down a b (once (suc a) (suc b) q h j)) (left x xs other self member) later self)
      ]
    where
      zero-suc : (n : ℕ) → 0 ≡ suc n → ⊥
      zero-suc n e = omega (arith, e)

      down : (a b : ℕ) → suc a ≡ suc b → a ≡ b
      down a b e = omega (arith, e)

      left : (x : Region) (xs : List Region) → same_region r x ≡ 0 → same_region r r ≡ 1 → Member (x ∷ xs) r → Member xs r
      left x xs other self (zero, at) =
          let is : same_region r x ≡ same_region r r = ap (same_region r) (same_Some x r at) in
          absurd (omega (arith, is, other, self))
      left x xs other self (suc m, at) = (m, at)

module _ (p : RefreshProblem) (r : Region) where
  abbrev pub of_r : Envelope RefreshMsg → ℕ
  of_r e = piece_of r e.msg

  abbrev of_piece : PieceState → ℕ
  of_piece q = same_region r q.region

  pub sent-count : (grid : Grid) (b : BlockState) (qs : List PieceState) → sum_by of_r (sent_pieces grid b qs) ≡ sum_by of_piece qs
  sent-count grid b [] = refl
  sent-count grid b (q ∷ qs) =
      let rest = sent-count grid b qs in
      let all : sum_by of_r (sent_piece grid b q ∷ sent_pieces grid b qs) ≡ of_r (sent_piece grid b q) + sum_by of_r (sent_pieces grid b qs) = sum_by-cons of_r (sent_piece grid b q) (sent_pieces grid b qs) in
      let pieces : sum_by of_piece (q ∷ qs) ≡ of_piece q + sum_by of_piece qs = sum_by-cons of_piece q qs in
      omega (arith, rest, all, pieces)

  regions-count : (qs : List PieceState) → sum_by of_piece qs ≡ sum_by (same_region r) (map (λ q. q.region) qs)
  regions-count [] = refl
  regions-count (q ∷ qs) =
      let rest = regions-count qs in
      let pieces : sum_by of_piece (q ∷ qs) ≡ of_piece q + sum_by of_piece qs = sum_by-cons of_piece q qs in
      let all : sum_by (same_region r) (map (λ x. x.region) (q ∷ qs)) ≡ same_region r q.region + sum_by (same_region r) (map (λ x. x.region) qs) = sum_by-cons (same_region r) q.region (map (λ (x : PieceState). x.region) qs) in
      omega (arith, rest, all, pieces)

  -- what the cells still owe of a region
  pub owed-count : (k : ℕ) (cells : List LeafState) → sum_by of_r (owed_from (refresh_plan p).owed k cells) ≡ owed_pieces_of r cells
  owed-count k [] = refl
  owed-count k (c ∷ cells) =
      let own : List (Envelope RefreshMsg) = sent_pieces p.setting.grid (own_cells c.block) c.owed in
      let rest = owed-count (suc k) cells in
      let here = sent-count p.setting.grid (own_cells c.block) c.owed in
      let all : sum_by of_r (own ++ owed_from (refresh_plan p).owed (suc k) cells) ≡ sum_by of_r own + sum_by of_r (owed_from (refresh_plan p).owed (suc k) cells) = sum_by-append of_r own (owed_from (refresh_plan p).owed (suc k) cells) in
      let pieces : owed_pieces_of r (c ∷ cells) ≡ sum_by of_piece c.owed + owed_pieces_of r cells = sum_by-cons (λ (x : LeafState). sum_by of_piece x.owed) c cells in
      omega (arith, rest, here, all, pieces)

  starts-count : (n : ℕ) → sum_by of_r (start_flight refresh_start n) ≡ 0
  starts-count zero = refl
  starts-count (suc n) =
      let last : List (Envelope RefreshMsg) = (record { to = n; msg = Start }) ∷ [] in
      let all : sum_by of_r (start_flight refresh_start n ++ last) ≡ sum_by of_r (start_flight refresh_start n) + sum_by of_r last = sum_by-append of_r (start_flight refresh_start n) last in
      ap (sum_by of_r) (start_flight-suc refresh_start n) ∙ omega (arith, all, starts-count n)

  -- what a part tells of a region: one piece where it is the sender's, else none
  abbrev told : ℕ → LeafPart → ℕ
  told i k = sum_by of_piece (map (blank p.setting) k.owes)

  module _ (valid : IsRefreshProblem p) (is : IsRegion (state_in p).grid (state_in p).edge p.setting.depth (state_in p).leaves r) where
    same-region : (q : Region) → IsRegion (state_in p).grid (state_in p).edge p.setting.depth (state_in p).leaves q → same_region r q ≡ 1 → q ≡ r
    same-region q region one = elim (same-cases r q) [
      | inl same ↦ sym (facts.one r q (facts.direction (state_in p).grid (state_in p).edge p.setting.depth (state_in p).leaves r is) (facts.direction (state_in p).grid (state_in p).edge p.setting.depth (state_in p).leaves q region) same.1 same.2)
      | inr other ↦ absurd (omega (arith, one, other))
    ]

    self : same_region r r ≡ 1
    self = same-one r r refl refl

    abbrev regions_of : LeafPart → List Region
    regions_of k = map (λ q. q.region) (map (blank p.setting) k.owes)

    told-sender : (k : LeafPart) → slice_get p.parts r.sender ≡ Some k → told r.sender k ≡ 1
    told-sender k here =
        let owed = ((valid.leaves r.sender k here).owes).regions in
        let only : (q : Region) → Contains (regions_of k) q → same_region r q ≡ 1 → q ≡ r = λ q h. same-region q (owed.regions q (Contains-get (regions_of k) q h)) in
        regions-count (map (blank p.setting) k.owes) ∙ once-same r (regions_of k) owed.once (owed.all r is refl) only self

    told-other : (i : ℕ) (k : LeafPart) → slice_get p.parts i ≡ Some k → (i ≡ r.sender → ⊥) → told i k ≡ 0
    told-other i k here n =
        let owed = ((valid.leaves i k here).owes).regions in
        regions-count (map (blank p.setting) k.owes) ∙ sum-none (same_region r) (regions_of k) (λ q h. elim (same-cases r q) [
          | inl same ↦
              let m = Contains-get (regions_of k) q h in
              let is' : q ≡ r = same-region q (owed.regions q m) same.0 in
              absurd (n (sym (owed.own q m) ∙ ap (λ (x : Region). x.sender) is'))
          | inr other ↦ other
        ])

    -- over the parts from a position on: one where the sender is among them
    parts-none : (k : ℕ) (parts : List LeafPart) → ((i j : ℕ) (part : LeafPart) → i ≡ k + j → slice_get parts j ≡ Some part → (slice_get p.parts i ≡ Some part) × (i ≡ r.sender → ⊥)) → sum_by of_r (owed_from (refresh_plan p).tells k parts) ≡ 0
    parts-none k [] each = refl
    parts-none k (part ∷ parts) each =
        let own : List (Envelope RefreshMsg) = sent_pieces p.setting.grid part.own (map (blank p.setting) part.owes) in
        let at = each k 0 part (omega arith) refl in
        let none : told k part ≡ 0 = told-other k part at.0 at.1 in
        let here = sent-count p.setting.grid part.own (map (blank p.setting) part.owes) in
        let rest = parts-none (suc k) parts (λ i j x e h. each i (suc j) x (omega (arith, e)) h) in
        let all : sum_by of_r (own ++ owed_from (refresh_plan p).tells (suc k) parts) ≡ sum_by of_r own + sum_by of_r (owed_from (refresh_plan p).tells (suc k) parts) = sum_by-append of_r own (owed_from (refresh_plan p).tells (suc k) parts) in
        omega (arith, none, here, rest, all)

    parts-one : (k m : ℕ) (parts : List LeafPart) (s : LeafPart) → r.sender ≡ k + m → slice_get parts m ≡ Some s → ((i j : ℕ) (part : LeafPart) → i ≡ k + j → slice_get parts j ≡ Some part → slice_get p.parts i ≡ Some part) → sum_by of_r (owed_from (refresh_plan p).tells k parts) ≡ 1
    parts-one k m [] s e here each = absurd (none-some s here)
    parts-one k zero (part ∷ parts) s e here each =
        let own : List (Envelope RefreshMsg) = sent_pieces p.setting.grid part.own (map (blank p.setting) part.owes) in
        let sender : r.sender ≡ k = omega (arith, e) in
        let there : slice_get p.parts r.sender ≡ Some part = each r.sender 0 part (omega (arith, e)) refl in
        let one : told r.sender part ≡ 1 = told-sender part there in
        let count = sent-count p.setting.grid part.own (map (blank p.setting) part.owes) in
        let rest = parts-none (suc k) parts (λ i j x f h. (each i (suc j) x (omega (arith, f)) h, λ g. omega (arith, f, g, sender))) in
        let all : sum_by of_r (own ++ owed_from (refresh_plan p).tells (suc k) parts) ≡ sum_by of_r own + sum_by of_r (owed_from (refresh_plan p).tells (suc k) parts) = sum_by-append of_r own (owed_from (refresh_plan p).tells (suc k) parts) in
        omega (arith, one, count, rest, all)
    parts-one k (suc m) (part ∷ parts) s e here each =
        let own : List (Envelope RefreshMsg) = sent_pieces p.setting.grid part.own (map (blank p.setting) part.owes) in
        let none : told k part ≡ 0 = told-other k part (each k 0 part (omega arith) refl) (λ g. omega (arith, e, g)) in
        let count = sent-count p.setting.grid part.own (map (blank p.setting) part.owes) in
        let rest = parts-one (suc k) m parts s (omega (arith, e)) here (λ i j x f h. each i (suc j) x (omega (arith, f)) h) in
        let all : sum_by of_r (own ++ owed_from (refresh_plan p).tells (suc k) parts) ≡ sum_by of_r own + sum_by of_r (owed_from (refresh_plan p).tells (suc k) parts) = sum_by-append of_r own (owed_from (refresh_plan p).tells (suc k) parts) in
        omega (arith, none, count, rest, all)

    -- each region has one piece among all messages
    pub one-piece : sum_by of_r (all_of (refresh_plan p) p.parts) ≡ 1
    one-piece =
        let k = part_of_leaf p r.sender is.1.source is.1.sends in
        let told' = owed_from (refresh_plan p).tells 0 p.parts in
        let starts = start_flight refresh_start (length p.parts) in
        let one : sum_by of_r told' ≡ 1 = parts-one 0 r.sender p.parts k.0 (omega arith) k.1 (λ i j part e h. let same : i ≡ j = omega (arith, e) in subst (λ (n : ℕ). slice_get p.parts n ≡ Some part) (sym same) h) in
        let all : sum_by of_r (told' ++ starts) ≡ sum_by of_r told' + sum_by of_r starts = sum_by-append of_r told' starts in
        omega (arith, one, all, starts-count (length p.parts))
