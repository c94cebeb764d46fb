-- One field of a block advanced.
use Rattle.std.proofs.Common.{◌≡◌, ℕ, ◌+◌, ◌-◌, ◌*◌, ◌<◌, ◌≤◌, List, [], length, slice_index, slice_index_or, get_or, set, ap, sym, ◌∙◌, subst, arith, refl, inl, inr, ℤ, pos, negsuc}
use Rattle.std.proofs.lemmas.Bool.{cases_eq, cases_lt}
use Rattle.std.proofs.lemmas.List.{get_or-set_same, get_or-set_other, length-set, get_or_past}
use Rattle.block_fields.specs.Blocks.{BlockState, IsBlock, amount_at, amounts_of, exchanged, number_at, shell_of}
use Rattle.block_fields.specs.Layout.{cut}
use Rattle.block_fields.specs.Lending.{with_before}
use Rattle.block_fields.specs.Shells.{ghost_sizes}
use Rattle.block_fields.proofs.Lendings.{with_before-whole}
use Rattle.grid_fluxes.specs.Axes.{Axis, along_x, along_y, along_z}
use Rattle.advect.specs.Coordinates.{face_number}
use Rattle.advect.specs.Flows.{axis_number}
use Rattle.advect.specs.OwnFluxes.{HoldsAtMost, seen_on}
use Rattle.advect.specs.Lemmas.Rims.{AreSides, NotesField}
use Rattle.advect.proofs.Limits.{axis_number-within}
use Rattle.advect.specs.declared.stream.Streams.{Streams}
use Rattle.advect.specs.Lemmas.Advances.{AdvancesField, AdvancesFields, FieldAtMost, NotesFields, field_in}
use Rattle.advect.specs.Lemmas.Streams.{Field, enters, field_of, goes, seen_along}
use Rattle.advect.proofs.Steps.{by_cells}

pub field-same : (b : BlockState) (f n depth : ℕ) (amounts ghosts : List ℕ) → n ≡ b.edge → depth ≡ b.depth → amounts ≡ amounts_of b f → cut (ghost_sizes b.edge b.depth) ghosts ≡ shell_of b f → field_of n depth amounts ghosts ≡ field_in b f
field-same b f n depth amounts ghosts en ed ea eg =
    (λ t. field_of (en t) (ed t) amounts ghosts) ∙ (λ t. record { edge = b.edge; depth = b.depth; amounts = ea t; shell = eg t })

pub seen-field : (b : BlockState) (f : ℕ) (a : Axis) (u : ℤ) (i j : ℕ) → seen_along (field_in b f) a u i j ≡ seen_on b f a u i j
seen-field b f along_x u i j = refl
seen-field b f along_y u i j = refl
seen-field b f along_z u i j = refl

-- bounds by coordinates are bounds of the list
pub small-list : (b : BlockState) (f n most : ℕ) (amounts : List ℕ) → 0 < b.edge → amounts ≡ amounts_of b f → length amounts ≡ b.edge * b.edge * b.edge →
    ((x y z : ℕ) → x < b.edge → y < b.edge → z < b.edge → amount_at b f x y z ≤ most) → (k : ℕ) → slice_index amounts k ≤ most
small-list b f n most amounts some e long small k =
    elim (cases_lt k (b.edge * b.edge * b.edge)) [
      | inl less ↦ subst (λ (l : List ℕ). slice_index l k ≤ most) (sym e) (by_cells b.edge (λ k. slice_index (amounts_of b f) k ≤ most) some small k less)
      | inr past ↦ let z : slice_index amounts k ≡ 0 = get_or_past amounts k 0 (omega (arith, long, past)) in omega (arith, z)
    ]

module _ (streams : Streams) (b : BlockState) (k : IsBlock b) (f : ℕ) (hf : f < length b.amounts) (w : List ℕ) (long : length w ≡ b.edge * b.edge * b.edge)
    (moved : (x y z : ℕ) → x < b.edge → y < b.edge → z < b.edge → slice_index w (number_at b.edge x y z) ≡ slice_index (amounts_of b f) (number_at b.edge x y z)
    - (goes streams.x (field_in b f) along_x x y z + goes streams.y (field_in b f) along_y y x z + goes streams.z (field_in b f) along_z z x y)
    + (enters streams.x (field_in b f) along_x x y z + enters streams.y (field_in b f) along_y y x z + enters streams.z (field_in b f) along_z z x y)) where
  written : BlockState
  written = record b { before = set b.before f w }

  there : f < length b.before
  there = let e = k.one_before_each in omega arith

  advances-written : AdvancesField streams f b (exchanged (record b { before = set b.before f w }) f)
  advances-written =
      let old = get_or-set_same b.before f w [] there in
      let new : amounts_of (exchanged (record b { before = set b.before f w }) f) f ≡ w = get_or-set_same b.amounts f (get_or (set b.before f w) f []) [] hf ∙ old in
      record {
        place = refl;
        edge = refl;
        depth = refl;
        ghosts = refl;
        fields = length-set b.amounts f (get_or (set b.before f w) f []);
        before_fields = length-set (set b.before f w) f (amounts_of b f) ∙ length-set b.before f w;
        before = get_or-set_same (set b.before f w) f (amounts_of b f) [] (let l = length-set b.before f w in let t = there in omega (arith, l, t));
        other_before = λ g other. get_or-set_other (set b.before f w) f g (amounts_of b f) [] other ∙ get_or-set_other b.before f g w [] other;
        other_amounts = λ g other. get_or-set_other b.amounts f g (get_or (set b.before f w) f []) [] other;
        moved = λ x y z hx hy hz. ap (λ (l : List ℕ). slice_index l (number_at b.edge x y z)) new ∙ moved x y z hx hy hz;
      }

  pub advances : AdvancesField streams f b (exchanged (with_before b f w) f)
  advances = subst (λ (c : BlockState). AdvancesField streams f b (exchanged c f)) (sym (with_before-whole b k f hf w long)) advances-written

-- a field that isn't advanced yet is as it was
pub same-field : (streams : Streams) (f : ℕ) (b c : BlockState) → AdvancesFields streams f b c → (g : ℕ) → f ≤ g → field_in c g ≡ field_in b g
same-field streams f b c w g h = λ t. record { edge = w.edge t; depth = w.depth t; amounts = w.ahead g h t; shell = get_or (w.ghosts t) g [] }

pub still-small : (streams : Streams) (f most : ℕ) (b c : BlockState) → AdvancesFields streams f b c → f < length b.amounts → HoldsAtMost most b → FieldAtMost most c f
still-small streams f most b c w hf small =
    let e = same-field streams f b c w f (omega arith) in
    record {
      amounts = λ x y z hx hy hz. subst (λ (q : Field). slice_index q.amounts (number_at q.edge x y z) ≤ most) (sym e) (small.amounts f x y z hf (subst (λ n. x < n) w.edge hx) (subst (λ n. y < n) w.edge hy) (subst (λ n. z < n) w.edge hz));
      below = λ a i j hi hj. subst (λ t. t ≤ most) (sym (seen-field b f a (negsuc 0) i j) ∙ sym (ap (λ (q : Field). seen_along q a (negsuc 0) i j) e) ∙ seen-field c f a (negsuc 0) i j)
          (small.below f a i j hf (subst (λ n. i < n) w.edge hi) (subst (λ n. j < n) w.edge hj));
      above = λ a i j hi hj. subst (λ t. t ≤ most) (sym (seen-field b f a (pos b.edge) i j) ∙ sym (ap (λ (q : Field). seen_along q a (pos q.edge) i j) e) ∙ seen-field c f a (pos c.edge) i j)
          (small.above f a i j hf (subst (λ n. i < n) w.edge hi) (subst (λ n. j < n) w.edge hj));
    }

pub advances-none : (streams : Streams) (b : BlockState) → AdvancesFields streams 0 b b
advances-none streams b = record {
  place = refl;
  edge = refl;
  depth = refl;
  ghosts = refl;
  fields = refl;
  before_fields = refl;
  before = λ g h. absurd (omega (arith, h));
  ahead = λ g h. refl;
  moved = λ g x y z h hx hy hz. absurd (omega (arith, h));
}

-- one field more
pub advances-more : (streams : Streams) (f : ℕ) (b c d : BlockState) → AdvancesFields streams f b c → AdvancesField streams f c d → AdvancesFields streams (f + 1) b d
advances-more streams f b c d w one =
    let e = same-field streams f b c w f (omega arith) in
    record {
      place = one.place ∙ w.place;
      edge = one.edge ∙ w.edge;
      depth = one.depth ∙ w.depth;
      ghosts = one.ghosts ∙ w.ghosts;
      fields = one.fields ∙ w.fields;
      before_fields = one.before_fields ∙ w.before_fields;
      before = λ g h.
          elim (cases_eq g f) [
            | inl same ↦ ap (λ g. get_or d.before g []) same ∙ one.before ∙ w.ahead f (omega arith) ∙ ap (amounts_of b) (sym same)
            | inr other ↦ one.other_before g other ∙ w.before g (omega (arith, h, other))
          ];
      ahead = λ g h. one.other_amounts g (λ e. omega (arith, e, h)) ∙ w.ahead g (omega (arith, h));
      moved = λ g x y z h hx hy hz.
          let ed = one.edge ∙ w.edge in
          elim (cases_eq g f) [
            | inl same ↦
                (λ t. amount_at d (same t) x y z)
                ∙ one.moved x y z (subst (λ n. x < n) (sym w.edge) hx) (subst (λ n. y < n) (sym w.edge) hy) (subst (λ n. z < n) (sym w.edge) hz)
                ∙ (λ t. slice_index (e t).amounts (number_at (e t).edge x y z)
                - (goes streams.x (e t) along_x x y z + goes streams.y (e t) along_y y x z + goes streams.z (e t) along_z z x y)
                + (enters streams.x (e t) along_x x y z + enters streams.y (e t) along_y y x z + enters streams.z (e t) along_z z x y))
                ∙ (λ t. amount_at b (sym same t) x y z
                - (goes streams.x (field_in b (sym same t)) along_x x y z + goes streams.y (field_in b (sym same t)) along_y y x z + goes streams.z (field_in b (sym same t)) along_z z x y)
                + (enters streams.x (field_in b (sym same t)) along_x x y z + enters streams.y (field_in b (sym same t)) along_y y x z + enters streams.z (field_in b (sym same t)) along_z z x y))
            | inr other ↦
                (λ t. slice_index (one.other_amounts g other t) (number_at (one.edge t) x y z)) ∙ w.moved g x y z (omega (arith, h, other)) hx hy hz
          ];
    }

pub notes-none : (n : ℕ) (flux : ℕ → Axis → ℕ → ℕ → ℕ) (lists : List (List ℕ)) → AreSides n lists → NotesFields n 0 flux lists lists
notes-none n flux lists sides = record { here = λ g a i j h hi hj. absurd (omega (arith, h)); long = refl; sizes = sides }

pub notes-more : (n f : ℕ) (flux : ℕ → Axis → ℕ → ℕ → ℕ) (one : Axis → ℕ → ℕ → ℕ) (a b c : List (List ℕ)) → NotesFields n f flux a b → NotesField n f one b c →
    ((x : Axis) (i j : ℕ) → one x i j ≡ flux f x i j) → NotesFields n (f + 1) flux a c
notes-more n f flux one a b c w s is = record {
  here = λ g x i j h hi hj.
      elim (cases_eq g f) [
        | inl same ↦ ap (λ g. slice_index (slice_index_or c (3 * g + axis_number x) []) (face_number n i j)) same ∙ s.here x i j hi hj ∙ is x i j ∙ ap (λ g. flux g x i j) (sym same)
        | inr other ↦
            let k = axis_number-within x in
            ap (λ (l : List ℕ). slice_index l (face_number n i j)) (s.earlier (3 * g + axis_number x) (omega (arith, h, other, k))) ∙ w.here g x i j (omega (arith, h, other)) hi hj
      ];
  long = s.long ∙ w.long;
  sizes = s.sizes;
}
