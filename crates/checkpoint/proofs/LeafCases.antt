-- A list of places is a balanced mesh of a domain in order, or has a fault.
use Rattle.std.proofs.Common.{◌≡◌, ℕ, zero, suc, ◌+◌, ◌-◌, ◌*◌, ◌^◌, ◌<◌, ◌⊎◌, inl, inr, List, Some, length, get_or, slice_get, refl, sym, ap, subst, ◌∙◌, arith, true≢false}
use Rattle.std.proofs.lemmas.Bool.{cases_Bool, cases_eq, cases_lt, cases_order}
use Rattle.std.proofs.lemmas.Option.{get_or_from_slice_get, same_Some, slice_get-get_or, slice_get_within}
use Rattle.block_index.specs.Order.{rank}
use Rattle.block_index.specs.Places.{Cube, Grid, IsDomain, IsInside, covers}
use Rattle.block_index.specs.Touching.{Touches}
use Rattle.leaf_set.specs.LeafFaults.{BreaksOrder, CoverAll, IsBare, IsFirstBare, IsLeafFault, Jumps, LieInside, LiesOutside, Overlaps, StandInOrder}
use Rattle.leaf_set.specs.Meshes.{IsBalanced, cover_count}
use Rattle.leaf_set.specs.Tiling.{IsTiling}
use Rattle.leaf_set.specs.declared.leaf_fault.LeafFault.{LeafFault}
use Rattle.leaf_set.specs.declared.leaf_fault.LeafFault.TheVariants as leaf_faults
use Rattle.leaf_set.proofs.BarePlaces.{IsMesh-CoverAll}
use Rattle.leaf_set.proofs.Boxes.{Touches-sym}
use Rattle.leaf_set.proofs.Decisions.{touches_cases}
use Rattle.checkpoint.proofs.FirstCases.{first-or-none, first-pair-or-none, some-or-none}

no-place : Cube
no-place = record { level = 0; x = 0; y = 0; z = 0 }

-- the place at a position
at : List Cube → ℕ → Cube
at places i = get_or places i no-place

is-at : (places : List Cube) (i : ℕ) → i < length places → slice_get places i ≡ Some (at places i)
unfolding at
is-at places i l = slice_get-get_or places i no-place l

from-at : (places : List Cube) (i : ℕ) (c : Cube) → slice_get places i ≡ Some c → at places i ≡ c
unfolding at
from-at places i c e = get_or_from_slice_get places i c no-place e

-- ---- order, and places outside

order-cases : (places : List Cube) (i : ℕ) → BreaksOrder places i ⊎ (BreaksOrder places i → ⊥)
order-cases places i =
    elim (cases_lt i 1) [
      | inl first ↦ inr (λ h. let l = h.later in omega (arith, l, first))
      | inr after ↦
          elim (cases_lt i (length places)) [
            | inr past ↦ inr (λ h. let l = slice_get_within places i h.place h.is_place in omega (arith, l, past))
            | inl below ↦
                elim (cases_lt (rank (at places (i - 1))) (rank (at places i))) [
                  | inl less ↦ inr (λ h. h.unordered (subst (λ (c : Cube). rank c < rank h.place) (from-at places (i - 1) h.before h.is_before)
                      (subst (λ (c : Cube). rank (at places (i - 1)) < rank c) (from-at places i h.place h.is_place) less)))
                  | inr more ↦ inl (record {
                    before = at places (i - 1);
                    place = at places i;
                    later = after;
                    is_before = is-at places (i - 1) (omega (arith, below));
                    is_place = is-at places i below;
                    unordered = λ less. omega (arith, less, more);
                  })
                ]
          ]
    ]

inside-cases : (grid : Grid) (c : Cube) → IsInside grid c ⊎ (IsInside grid c → ⊥)
inside-cases grid c =
    elim (cases_lt grid.finest c.level) [
      | inl deep ↦ inr (λ i. let l = i.level in omega (arith, l, deep))
      | inr level ↦
          elim (cases_lt c.x (grid.trees_x * 2 ^ c.level)) [
            | inr past ↦ inr (λ i. let l = i.x in omega (arith, l, past))
            | inl x ↦
                elim (cases_lt c.y (grid.trees_y * 2 ^ c.level)) [
                  | inr past ↦ inr (λ i. let l = i.y in omega (arith, l, past))
                  | inl y ↦
                      elim (cases_lt c.z (grid.trees_z * 2 ^ c.level)) [
                        | inr past ↦ inr (λ i. let l = i.z in omega (arith, l, past))
                        | inl z ↦ inl (record { level = level; x = x; y = y; z = z })
                      ]
                ]
          ]
    ]

outside-cases : (grid : Grid) (places : List Cube) (i : ℕ) → LiesOutside grid places i ⊎ (LiesOutside grid places i → ⊥)
outside-cases grid places i =
    elim (cases_lt i (length places)) [
      | inr past ↦ inr (λ h. let l = slice_get_within places i h.place h.is_place in omega (arith, l, past))
      | inl below ↦
          elim (inside-cases grid (at places i)) [
            | inl inside ↦ inr (λ h. h.outside (subst (IsInside grid) (from-at places i h.place h.is_place) inside))
            | inr outside ↦ inl (record { place = at places i; is_place = is-at places i below; outside = outside })
          ]
    ]

-- ---- overlaps

overlap-cases : (places : List Cube) (a b : ℕ) → Overlaps places a b ⊎ (Overlaps places a b → ⊥)
overlap-cases places a b =
    elim (cases_lt a b) [
      | inr not ↦ inr (λ h. let l = h.later in omega (arith, l, not))
      | inl less ↦
          elim (cases_lt b (length places)) [
            | inr past ↦ inr (λ h. let l = slice_get_within places b h.second h.is_second in omega (arith, l, past))
            | inl below ↦
                let first = is-at places a (omega (arith, less, below)) in
                let second = is-at places b below in
                elim (cases_Bool (covers (at places a) (at places b))) [
                  | inl over ↦ inl (record { first = at places a; second = at places b; later = less; is_first = first; is_second = second; contains = inl over })
                  | inr not_over ↦
                      elim (cases_Bool (covers (at places b) (at places a))) [
                        | inl under ↦ inl (record { first = at places a; second = at places b; later = less; is_first = first; is_second = second; contains = inr under })
                        | inr not_under ↦ inr (λ h.
                            let p = from-at places a h.first h.is_first in
                            let q = from-at places b h.second h.is_second in
                            elim h.contains [
                              | inl e ↦ true≢false (sym e ∙ sym (λ i. covers (p i) (q i)) ∙ not_over)
                              | inr e ↦ true≢false (sym e ∙ sym (λ i. covers (q i) (p i)) ∙ not_under)
                            ])
                      ]
                ]
          ]
    ]

-- ---- bare places

-- a finest place by its coordinates
finest-at : Grid → ℕ → ℕ → ℕ → Cube
finest-at grid x y z = record { level = grid.finest; x = x; y = y; z = z }

is-finest-at : (grid : Grid) (c : Cube) → c.level ≡ grid.finest → finest-at grid c.x c.y c.z ≡ c
unfolding finest-at
is-finest-at grid c e = λ i. record { level = sym e i; x = c.x; y = c.y; z = c.z }

finest-inside : (grid : Grid) (x y z : ℕ) → x < grid.trees_x * 2 ^ grid.finest → y < grid.trees_y * 2 ^ grid.finest → z < grid.trees_z * 2 ^ grid.finest → IsInside grid (finest-at grid x y z)
unfolding finest-at
finest-inside grid x y z hx hy hz = record { level = omega arith; x = hx; y = hy; z = hz }

finest-level : (grid : Grid) (x y z : ℕ) → (finest-at grid x y z).level ≡ grid.finest
unfolding finest-at
finest-level grid x y z = refl

inside-finest : (grid : Grid) (c : Cube) → IsInside grid c → c.level ≡ grid.finest
    → (c.x < grid.trees_x * 2 ^ grid.finest) × (c.y < grid.trees_y * 2 ^ grid.finest) × (c.z < grid.trees_z * 2 ^ grid.finest)
inside-finest grid c h e = (
  subst (λ (l : ℕ). c.x < grid.trees_x * 2 ^ l) e h.x,
  subst (λ (l : ℕ). c.y < grid.trees_y * 2 ^ l) e h.y,
  subst (λ (l : ℕ). c.z < grid.trees_z * 2 ^ l) e h.z,
)

-- a bare place with a property, or that there is none
record Found (grid : Grid) (places : List Cube) (W : Cube → Type 0) : Type 0 where
  place : Cube
  bare : IsBare grid places place
  is : W place

find-bare : (grid : Grid) (places : List Cube) (W : Cube → Type 0) → ((c : Cube) → W c ⊎ (W c → ⊥)) → Found grid places W ⊎ ((c : Cube) → IsBare grid places c → W c → ⊥)
find-bare grid places W each =
    let wide : ℕ → ℕ = λ trees. trees * 2 ^ grid.finest in
    let B : ℕ → ℕ → ℕ → Type 0 = λ x y z. (cover_count places (finest-at grid x y z) ≡ 0) × W (finest-at grid x y z) in
    let Z : ℕ → ℕ → Type 0 = λ x y. (z : ℕ) × (z < wide grid.trees_z) × B x y z in
    let Y : ℕ → Type 0 = λ x. (y : ℕ) × (y < wide grid.trees_y) × Z x y in
    let on_b : (x y z : ℕ) → B x y z ⊎ (B x y z → ⊥) = λ x y z.
    elim (cases_eq (cover_count places (finest-at grid x y z)) 0) [
      | inr not ↦ inr (λ b. not b.0)
      | inl bare ↦ elim (each (finest-at grid x y z)) [ inl w ↦ inl (bare, w) | inr not ↦ inr (λ b. not b.1) ]
    ] in
    let on_z : (x y : ℕ) → Z x y ⊎ (Z x y → ⊥) = λ x y.
    elim (some-or-none (B x y) (on_b x y) (wide grid.trees_z)) [ inl h ↦ inl h | inr none ↦ inr (λ h. none h.0 h.1 h.2) ] in
    let on_y : (x : ℕ) → Y x ⊎ (Y x → ⊥) = λ x.
    elim (some-or-none (Z x) (on_z x) (wide grid.trees_y)) [ inl h ↦ inl h | inr none ↦ inr (λ h. none h.0 h.1 h.2) ] in
    elim (some-or-none Y on_y (wide grid.trees_x)) [
      | inl h ↦
          let x = h.0 in
          let y = h.2.0 in
          let z = h.2.2.0 in
          inl (record {
            place = finest-at grid x y z;
            bare = record { inside = finest-inside grid x y z h.1 h.2.1 h.2.2.1; finest = finest-level grid x y z; bare = h.2.2.2.0 };
            is = h.2.2.2.1;
          })
      | inr none ↦ inr (λ c bare w.
          let e = is-finest-at grid c bare.finest in
          let l = inside-finest grid c bare.inside bare.finest in
          none c.x l.0 (c.y, l.1, (c.z, l.2, (ap (cover_count places) e ∙ bare.bare, subst W (sym e) w))))
    ]

-- where there is one, there is a first
first-bare : (grid : Grid) (places : List Cube) (n : ℕ) (c : Cube) → IsBare grid places c → rank c < n → (q : Cube) × IsFirstBare grid places q
first-bare grid places zero c bare l = absurd (omega (arith, l))
first-bare grid places (suc n) c bare l =
    elim (find-bare grid places (λ q. rank q < rank c) (λ q. elim (cases_lt (rank q) (rank c)) [ inl less ↦ inl less | inr more ↦ inr (λ less. omega (arith, less, more)) ])) [
      | inl h ↦ first-bare grid places n h.place h.bare (let m = h.is in omega (arith, m, l))
      | inr none ↦ (c, record { here = bare; none_before = λ q less b. none q b less })
    ]

bare-cases : (grid : Grid) (places : List Cube) → ((q : Cube) × IsFirstBare grid places q) ⊎ CoverAll grid places
bare-cases grid places =
    elim (find-bare grid places (λ q. Unit {0}) (λ q. inl tt)) [
      | inl h ↦ inl (first-bare grid places (rank h.place + 1) h.place h.bare (omega arith))
      | inr none ↦ inr (λ c bare. none c bare tt)
    ]

-- ---- jumps

jump-cases : (grid : Grid) (places : List Cube) (a b : ℕ) → Jumps grid places a b ⊎ (Jumps grid places a b → ⊥)
jump-cases grid places a b =
    elim (cases_lt a b) [
      | inr not ↦ inr (λ h. let l = h.later in omega (arith, l, not))
      | inl less ↦
          elim (cases_lt b (length places)) [
            | inr past ↦ inr (λ h. let l = slice_get_within places b h.second h.is_second in omega (arith, l, past))
            | inl below ↦
                let p = at places a in
                let q = at places b in
                let first = is-at places a (omega (arith, less, below)) in
                let second = is-at places b below in
                elim (touches_cases grid p q) [
                  | inr not ↦ inr (λ h.
                      let e = from-at places a h.first h.is_first in
                      let d = from-at places b h.second h.is_second in
                      not (subst (λ (c : Cube). Touches grid p c) (sym d) (subst (λ (c : Cube). Touches grid c h.second) (sym e) h.touch)))
                  | inl touch ↦
                      elim (cases_lt (p.level + 1) q.level) [
                        | inl finer ↦ inl (record { first = p; second = q; later = less; is_first = first; is_second = second; touch = touch; apart = inl finer })
                        | inr not_finer ↦
                            elim (cases_lt (q.level + 1) p.level) [
                              | inl coarser ↦ inl (record { first = p; second = q; later = less; is_first = first; is_second = second; touch = touch; apart = inr coarser })
                              | inr not_coarser ↦ inr (λ h.
                                  let e : p.level ≡ h.first.level = ap (λ (c : Cube). c.level) (from-at places a h.first h.is_first) in
                                  let d : q.level ≡ h.second.level = ap (λ (c : Cube). c.level) (from-at places b h.second h.is_second) in
                                  elim h.apart [ inl l ↦ omega (arith, l, e, d, not_finer) | inr l ↦ omega (arith, l, e, d, not_coarser) ])
                            ]
                      ]
                ]
          ]
    ]

balanced : (grid : Grid) (places : List Cube) → ((a b : ℕ) → Jumps grid places a b → ⊥) → IsBalanced grid places
balanced grid places none i j a c s t touch =
    elim (cases_lt (c.level + 1) a.level) [
      | inr fine ↦ fine
      | inl far ↦
          elim (cases_order i j) [
            | inl same ↦
                let e : a.level ≡ c.level = ap (λ (q : Cube). q.level) (same_Some a c (sym s ∙ ap (slice_get places) same ∙ t)) in
                omega (arith, e)
            | inr r ↦
                elim r [
                  | inl less ↦ absurd (none i j (record { first = a; second = c; later = less; is_first = s; is_second = t; touch = touch; apart = inr far }))
                  | inr more ↦ absurd (none j i (record { first = c; second = a; later = more; is_first = t; is_second = s; touch = Touches-sym grid a c touch; apart = inl far }))
                ]
          ]
    ]

-- ---- all five

-- a list of places has a fault that isn't want of memory
pub record HasLeafFault (grid : Grid) (places : List Cube) : Type 0 where
  pub fault : LeafFault
  pub is : IsLeafFault grid places fault
  pub other : fault ≡ leaf_faults.Memory → ⊥

pub leaf-cases : (grid : Grid) (places : List Cube) → IsDomain grid → IsTiling (record { grid = grid; places = places }) ⊎ HasLeafFault grid places
leaf-cases grid places domain =
    let n = length places in
    elim (first-or-none (BreaksOrder places) (order-cases places) n) [
      | inl h ↦ inr (record { fault = leaf_faults.Order h.0; is = h.1; other = λ e. cc })
      | inr none ↦
          let ordered : StandInOrder places = λ i h. none i (slice_get_within places i h.place h.is_place) h in
          elim (first-or-none (LiesOutside grid places) (outside-cases grid places) n) [
            | inl h ↦ inr (record { fault = leaf_faults.Outside h.0; is = (ordered, h.1); other = λ e. cc })
            | inr none_out ↦
                let inside : LieInside grid places = λ i h. none_out i (slice_get_within places i h.place h.is_place) h in
                elim (first-pair-or-none (Overlaps places) n (overlap-cases places) (λ a b h. slice_get_within places a h.first h.is_first) (λ a b h. slice_get_within places b h.second h.is_second)) [
                  | inl h ↦ inr (record { fault = leaf_faults.Overlap h.0 h.1; is = (ordered, inside, h.2); other = λ e. cc })
                  | inr apart ↦
                      elim (bare-cases grid places) [
                        | inl h ↦ inr (record { fault = leaf_faults.Hole h.0; is = (ordered, inside, apart, h.1); other = λ e. cc })
                        | inr all ↦
                            elim (first-pair-or-none (Jumps grid places) n (jump-cases grid places) (λ a b h. slice_get_within places a h.first h.is_first) (λ a b h. slice_get_within places b h.second h.is_second)) [
                              | inl h ↦ inr (record { fault = leaf_faults.Jump h.0 h.1; is = (ordered, inside, apart, all, h.2); other = λ e. cc })
                              | inr none_jump ↦ inl (record {
                                domain = domain;
                                mesh = IsMesh-CoverAll grid places domain ordered inside apart all;
                                balanced = balanced grid places none_jump;
                              })
                            ]
                      ]
                ]
          ]
    ]
