-- One ghost is written: what a block holds after it, at each cell in it or around it.
use Rattle.std.proofs.Common.{◌≡◌, ℕ, ◌+◌, ◌*◌, ◌/◌, ◌%◌, ◌<◌, ◌⊎◌, nat_lt, sym, ap, ◌∙◌, subst, arith, List, [], Some, slice_get, get_or, set, length, inl, inr, ℤ, pos, negsuc}
use Rattle.std.proofs.lemmas.Nat.{div-mul-add, mod-mul-add}
use Rattle.std.proofs.lemmas.Bool.{cases_Bool, cases_eq, cond-true, cond-false}
use Rattle.std.proofs.lemmas.Bool.Decides.{nat_tests}
use Rattle.std.proofs.lemmas.List.{get_or-set_same, get_or-set_other}
use Rattle.std.proofs.lemmas.Option.{slice_get-get_or}
use Rattle.block_fields.specs.Blocks.{BlockState, IsBlock, ghosts_of, seen_at, shell_of, with_ghost, with_ghosts}
use Rattle.block_fields.specs.Shells.{IsAround, direction, direction_of, ghost_size, number_around, position_of, side_length, side_of}
use Rattle.block_fields.proofs.Seen.{seen-own, seen-around}
use Rattle.block_fields.proofs.ShellSizes.{box-ghost_size, number-below, sides_apart}

-- ---- one axis

pub side-below : (n : ℕ) (x : ℤ) → side_of n x < 3
side-below n (pos u) =
    elim (cases_Bool (nat_lt u n)) [
      | inl t ↦ let e : side_of n (pos u) ≡ 1 = cond-true (nat_lt u n) 1 2 t in omega arith
      | inr t ↦ let e : side_of n (pos u) ≡ 2 = cond-false (nat_lt u n) 1 2 t in omega arith
    ]
side-below n (negsuc u) = omega arith

pub position-below : (n g : ℕ) (x : ℤ) → IsAround n g x → position_of n g x < side_length n g (side_of n x)
position-below n g (pos u) h =
    elim (cases_Bool (nat_lt u n)) [ inl t ↦ grind (arith, nat_tests) | inr t ↦ grind (arith, nat_tests) ]
position-below n g (negsuc u) h = omega arith

-- side and position determine the coordinate
pub coordinate-same : (n g : ℕ) (x u : ℤ) → IsAround n g x → IsAround n g u → side_of n x ≡ side_of n u → position_of n g x ≡ position_of n g u → x ≡ u
coordinate-same n g (pos a) (pos b) h k s p = ap pos (numbers a b s p)
  where
    numbers : (a b : ℕ) → side_of n (pos a) ≡ side_of n (pos b) → position_of n g (pos a) ≡ position_of n g (pos b) → a ≡ b
    numbers a b s p = grind (arith, nat_tests)
coordinate-same n g (pos a) (negsuc b) h k s p = absurd (grind (arith, nat_tests))
coordinate-same n g (negsuc a) (pos b) h k s p = absurd (grind (arith, nat_tests))
coordinate-same n g (negsuc a) (negsuc b) h k s p = ap negsuc (omega arith)

-- ---- three axes

-- rows of cells: a number gives its parts back
parts-same : (a b p q r u v w : ℕ) → p < a → u < a → q < b → v < b → (r * b + q) * a + p ≡ (w * b + v) * a + u → (p ≡ u) × (q ≡ v) × (r ≡ w)
parts-same a b p q r u v w hp hu hq hv e =
    let row : r * b + q ≡ w * b + v = sym (div-mul-add (r * b + q) a p hp) ∙ ap (λ k. k / a) e ∙ div-mul-add (w * b + v) a u hu in
    (sym (mod-mul-add (r * b + q) a p hp) ∙ ap (λ k. k % a) e ∙ mod-mul-add (w * b + v) a u hu, sym (mod-mul-add r b q hq) ∙ ap (λ k. k % b) row ∙ mod-mul-add w b v hv, sym (div-mul-add r b q hq) ∙ ap (λ k. k / b) row ∙ div-mul-add w b v hv)

pub directions-same : (x y z u v w : ℕ) → x < 3 → y < 3 → z < 3 → u < 3 → v < 3 → w < 3 → direction x y z ≡ direction u v w → (x ≡ u) × (y ≡ v) × (z ≡ w)
directions-same x y z u v w hx hy hz hu hv hw e =
    let a = sides_apart x y z hx hy hz in
    let b = sides_apart u v w hu hv hw in
    (sym a.0 ∙ ap (λ d. d % 3) e ∙ b.0, sym a.1 ∙ ap (λ d. d / 3 % 3) e ∙ b.1, sym a.2 ∙ ap (λ d. d / 9) e ∙ b.2)

module _ (n g : ℕ) (x y z u v w : ℤ) (hx : IsAround n g x) (hy : IsAround n g y) (hz : IsAround n g z) (hu : IsAround n g u) (hv : IsAround n g v) (hw : IsAround n g w) where
  -- direction and number determine the cell
  pub cell-same : direction_of n x y z ≡ direction_of n u v w → number_around n g x y z ≡ number_around n g u v w → (x ≡ u) × (y ≡ v) × (z ≡ w)
  cell-same d e =
      let s = directions-same (side_of n x) (side_of n y) (side_of n z) (side_of n u) (side_of n v) (side_of n w) (side-below n x) (side-below n y) (side-below n z) (side-below n u) (side-below n v) (side-below n w) d in
      let a = side_length n g (side_of n x) in
      let b = side_length n g (side_of n y) in
      let pu : position_of n g u < a = subst (λ k. position_of n g u < side_length n g k) (sym s.0) (position-below n g u hu) in
      let pv : position_of n g v < b = subst (λ k. position_of n g v < side_length n g k) (sym s.1) (position-below n g v hv) in
      let numbers : number_around n g x y z ≡ (position_of n g w * b + position_of n g v) * a + position_of n g u =
      e ∙ (λ i. (position_of n g w * side_length n g (sym s.1 i) + position_of n g v) * side_length n g (sym s.0 i) + position_of n g u) in
      let p = parts-same a b (position_of n g x) (position_of n g y) (position_of n g z) (position_of n g u) (position_of n g v) (position_of n g w) (position-below n g x hx) pu (position-below n g y hy) pv numbers in
      (coordinate-same n g x u hx hu s.0 p.0, coordinate-same n g y v hy hv s.1 p.1, coordinate-same n g z w hz hw s.2 p.2)

module _ (n g : ℕ) (x y z : ℤ) where
  pub direction_of-below : direction_of n x y z < 27
  direction_of-below = omega (arith, side-below n x, side-below n y, side-below n z)

  pub number_around-below : IsAround n g x → IsAround n g y → IsAround n g z → (direction_of n x y z ≡ 13 → ⊥) → number_around n g x y z < ghost_size n g (direction_of n x y z)
  number_around-below hx hy hz other =
      subst (λ k. number_around n g x y z < k) (box-ghost_size n g (side_of n x) (side_of n y) (side_of n z) (side-below n x) (side-below n y) (side-below n z) other)
      (number-below (side_length n g (side_of n x)) (side_length n g (side_of n y)) (side_length n g (side_of n z)) (position_of n g x) (position_of n g y) (position_of n g z) (position-below n g x hx) (position-below n g y hy) (position-below n g z hz))

-- ---- the block

pub shell-stays : (b : BlockState) (f : ℕ) (x y z : ℤ) (q g : ℕ) → (g ≡ f → ⊥) → shell_of (with_ghost b f x y z q) g ≡ shell_of b g
shell-stays b f x y z q g other =
    let d = direction_of b.edge x y z in
    get_or-set_other b.ghosts f g (set (shell_of b f) d (set (ghosts_of b f d) (number_around b.edge b.depth x y z) q)) [] other

module _ (b : BlockState) (k : IsBlock b) (f : ℕ) (x y z : ℤ) (q : ℕ) (hf : f < length b.amounts) (hx : IsAround b.edge b.depth x) (hy : IsAround b.edge b.depth y) (hz : IsAround b.edge b.depth z) (outside : direction_of b.edge x y z ≡ 13 → ⊥) where
  there : slice_get b.ghosts f ≡ Some (shell_of b f)
  there = slice_get-get_or b.ghosts f [] (let e = k.one_shell_each in omega arith)

  list : slice_get (shell_of b f) (direction_of b.edge x y z) ≡ Some (ghosts_of b f (direction_of b.edge x y z))
  list =
      let e = k.all_directions f (shell_of b f) there in
      slice_get-get_or (shell_of b f) (direction_of b.edge x y z) [] (omega (arith, direction_of-below b.edge b.depth x y z))

  ghosts-after : ghosts_of (with_ghost b f x y z q) f (direction_of b.edge x y z) ≡ set (ghosts_of b f (direction_of b.edge x y z)) (number_around b.edge b.depth x y z) q
  ghosts-after =
      let d = direction_of b.edge x y z in
      let p = set (ghosts_of b f d) (number_around b.edge b.depth x y z) q in
      let e = k.all_directions f (shell_of b f) there in
      ap (λ (s : List (List ℕ)). get_or s d []) (get_or-set_same b.ghosts f (set (shell_of b f) d p) [] (let l = k.one_shell_each in omega arith))
      ∙ get_or-set_same (shell_of b f) d p [] (omega (arith, direction_of-below b.edge b.depth x y z))

  pub ghost-written : seen_at (with_ghost b f x y z q) f x y z ≡ q
  ghost-written =
      let d = direction_of b.edge x y z in
      let i = number_around b.edge b.depth x y z in
      let long = k.all_ghosts f d (shell_of b f) (ghosts_of b f d) there list in
      let within = number_around-below b.edge b.depth x y z hx hy hz outside in
      seen-around (with_ghost b f x y z q) f x y z outside
      ∙ ap (λ (l : List ℕ). get_or l i 0) ghosts-after
      ∙ get_or-set_same (ghosts_of b f d) i q 0 (omega arith)

  pub ghost-stays : (u v w : ℤ) → IsAround b.edge b.depth u → IsAround b.edge b.depth v → IsAround b.edge b.depth w → (x ≡ u → y ≡ v → z ≡ w → ⊥) → seen_at (with_ghost b f x y z q) f u v w ≡ seen_at b f u v w
  ghost-stays u v w hu hv hw other =
      let e = direction_of b.edge u v w in
      elim (cases_eq e 13) [
        | inl own ↦ seen-own (with_ghost b f x y z q) f u v w own ∙ sym (seen-own b f u v w own)
        | inr around ↦ seen-around (with_ghost b f x y z q) f u v w around ∙ apart (cases_eq e (direction_of b.edge x y z)) ∙ sym (seen-around b f u v w around)
      ]
    where
      apart : ((direction_of b.edge u v w ≡ direction_of b.edge x y z) ⊎ (direction_of b.edge u v w ≡ direction_of b.edge x y z → ⊥)) → get_or (ghosts_of (with_ghost b f x y z q) f (direction_of b.edge u v w)) (number_around b.edge b.depth u v w) 0 ≡ get_or (ghosts_of b f (direction_of b.edge u v w)) (number_around b.edge b.depth u v w) 0
      apart (inl same) =
          let j = number_around b.edge b.depth u v w in
          ap (λ d. get_or (ghosts_of (with_ghost b f x y z q) f d) j 0) same
          ∙ ap (λ (l : List ℕ). get_or l j 0) ghosts-after
          ∙ get_or-set_other (ghosts_of b f (direction_of b.edge x y z)) (number_around b.edge b.depth x y z) j q 0 (λ e.
          let o = cell-same b.edge b.depth x y z u v w hx hy hz hu hv hw (sym same) (sym e) in
          other o.0 o.1 o.2)
          ∙ ap (λ d. get_or (ghosts_of b f d) j 0) (sym same)
      apart (inr unlike) =
          let d = direction_of b.edge x y z in
          let p = set (ghosts_of b f d) (number_around b.edge b.depth x y z) q in
          ap (λ (l : List ℕ). get_or l (number_around b.edge b.depth u v w) 0)
          (ap (λ (s : List (List ℕ)). get_or s (direction_of b.edge u v w) []) (get_or-set_same b.ghosts f (set (shell_of b f) d p) [] (let l = k.one_shell_each in omega arith))
          ∙ get_or-set_other (shell_of b f) d (direction_of b.edge u v w) p [] unlike)

-- ---- a direction's ghosts in place of others

module _ (b : BlockState) (f d : ℕ) (w : List ℕ) (k : IsBlock b) (hf : f < length b.amounts) (x y z : ℤ) where
  written : shell_of (with_ghosts b f d w) f ≡ set (shell_of b f) d w
  written = get_or-set_same b.ghosts f (set (shell_of b f) d w) [] (let e = k.one_shell_each in omega arith)

  pub seen-written : direction_of b.edge x y z ≡ d → (d ≡ 13 → ⊥) → seen_at (with_ghosts b f d w) f x y z ≡ get_or w (number_around b.edge b.depth x y z) 0
  seen-written here outside =
      let e = direction_of b.edge x y z in
      let at = slice_get-get_or b.ghosts f [] (let l = k.one_shell_each in omega arith) in
      let many = k.all_directions f (shell_of b f) at in
      let low = direction_of-below b.edge b.depth x y z in
      seen-around (with_ghosts b f d w) f x y z (λ o. outside (sym here ∙ o))
      ∙ ap (λ (l : List ℕ). get_or l (number_around b.edge b.depth x y z) 0)
      (ap (λ (s : List (List ℕ)). get_or s e []) written
      ∙ ap (λ n. get_or (set (shell_of b f) d w) n []) here
      ∙ get_or-set_same (shell_of b f) d w [] (omega arith))

  pub seen-elsewhere : (g : ℕ) → ((g ≡ f → ⊥) ⊎ (direction_of b.edge x y z ≡ d → ⊥)) → seen_at (with_ghosts b f d w) g x y z ≡ seen_at b g x y z
  seen-elsewhere g other =
      elim (cases_eq (direction_of b.edge x y z) 13) [
        | inl own ↦ seen-own (with_ghosts b f d w) g x y z own ∙ sym (seen-own b g x y z own)
        | inr around ↦
            seen-around (with_ghosts b f d w) g x y z around
            ∙ ap (λ (l : List ℕ). get_or l (number_around b.edge b.depth x y z) 0) (same (cases_eq g f) other)
            ∙ sym (seen-around b g x y z around)
      ]
    where
      same : ((g ≡ f) ⊎ (g ≡ f → ⊥)) → ((g ≡ f → ⊥) ⊎ (direction_of b.edge x y z ≡ d → ⊥)) → ghosts_of (with_ghosts b f d w) g (direction_of b.edge x y z) ≡ ghosts_of b g (direction_of b.edge x y z)
      same (inr unlike) o = ap (λ (s : List (List ℕ)). get_or s (direction_of b.edge x y z) []) (get_or-set_other b.ghosts f g (set (shell_of b f) d w) [] unlike)
      same (inl e) (inl unlike) = absurd (unlike e)
      same (inl e) (inr apart) =
          let n = direction_of b.edge x y z in
          ap (λ g. ghosts_of (with_ghosts b f d w) g n) e
          ∙ ap (λ (s : List (List ℕ)). get_or s n []) written
          ∙ get_or-set_other (shell_of b f) d n w [] apart
          ∙ ap (λ g. ghosts_of b g n) (sym e)
