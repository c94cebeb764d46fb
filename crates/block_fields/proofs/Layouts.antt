-- Blocks as they lie in memory are blocks, and stay so where a list of the same length takes the place of another.
use Rattle.std.proofs.Common.{◌≡◌, ℕ, ◌+◌, ◌*◌, ◌<◌, ◌≤◌, sym, ap, ◌∙◌, arith, List, [], Some, slice_get, get_or, set, length, map, take, drop, length-drop, length-take-le}
use Rattle.std.specs.List.{flat_map}
use Rattle.std.proofs.lemmas.List.{length-map, length-set, map-set, get_or-take, get_or-drop}
use Rattle.std.proofs.lemmas.Option.{slice_get_within, get_or_from_slice_get}
use Rattle.block_index.specs.Places.{Cube}
use Rattle.block_fields.specs.Blocks.{IsBlock, ghosts_of, shell_of, with_ghosts}
use Rattle.block_fields.specs.Layout.{IsLaidOut, cut, laid_out}
use Rattle.block_fields.specs.Shells.{ghost_count, ghost_size, ghost_sizes, ghost_start}
use Rattle.block_fields.proofs.Cuts.{length-cut, length-piece, get_or-cut, flat_map-cut, cut-set}
use Rattle.block_fields.proofs.Fields.{HaveLength-set}
use Rattle.block_fields.proofs.FilledStates.{map-at, at-map}
use Rattle.block_fields.proofs.ShellSizes.{length-ghost_sizes, get_or-ghost_sizes, start-within_count}

pub IsLaidOut-IsBlock : (place : Cube) (n g : ℕ) (amounts before shells : List (List ℕ)) → IsLaidOut n g amounts before shells → IsBlock (laid_out place n g amounts before shells)
IsLaidOut-IsBlock place n g amounts before shells w = record {
  even = w.even;
  least = w.least;
  most = w.most;
  shallowest = w.shallowest;
  deepest = w.deepest;
  few = w.few;
  one_before_each = w.one_before_each;
  one_shell_each = length-map shells (cut (ghost_sizes n g)) ∙ w.one_shell_each;
  all_cells = w.all_cells;
  all_before = w.all_before;
  all_directions = λ f shell e. directions f shell (map-at (cut (ghost_sizes n g)) shells f shell e);
  all_ghosts = λ f d shell q e t. ghosts f d shell q (map-at (cut (ghost_sizes n g)) shells f shell e) t;
}
  where
    directions : (f : ℕ) (shell : List (List ℕ)) → ((q : List ℕ) × (slice_get shells f ≡ Some q) × (shell ≡ cut (ghost_sizes n g) q)) → length shell ≡ 27
    directions f shell o = ap length o.2 ∙ length-cut (ghost_sizes n g) o.0 ∙ length-ghost_sizes n g

    ghosts : (f d : ℕ) (shell : List (List ℕ)) (q : List ℕ) → ((p : List ℕ) × (slice_get shells f ≡ Some p) × (shell ≡ cut (ghost_sizes n g) p)) → slice_get shell d ≡ Some q → length q ≡ ghost_size n g d
    ghosts f d shell q o t =
        let there = slice_get_within shell d q t in
        let long = directions f shell o in
        let whole : length o.0 ≡ ghost_count n g = w.all_ghosts f o.0 o.1 in
        let piece : slice_get (cut (ghost_sizes n g) o.0) d ≡ Some q = ap (λ s. slice_get s d) (sym o.2) ∙ t in
        length-piece (ghost_sizes n g) o.0 d q (let k : ghost_count n g ≤ length o.0 = omega arith in k) piece ∙ get_or-ghost_sizes n g d (omega arith)

-- ---- one list in place of another

module _ (n g : ℕ) (amounts before shells : List (List ℕ)) (w : IsLaidOut n g amounts before shells) (f : ℕ) (q : List ℕ) where
  pub IsLaidOut-amounts : length q ≡ n * n * n → IsLaidOut n g (set amounts f q) before shells
  IsLaidOut-amounts l =
      let same = length-set amounts f q in
      record {
        even = w.even;
        least = w.least;
        most = w.most;
        shallowest = w.shallowest;
        deepest = w.deepest;
        few = (let h = w.few in omega arith);
        one_before_each = w.one_before_each ∙ sym same;
        one_shell_each = w.one_shell_each ∙ sym same;
        all_cells = HaveLength-set (n * n * n) amounts f q w.all_cells l;
        all_before = w.all_before;
        all_ghosts = w.all_ghosts;
      }

  pub IsLaidOut-before : length q ≡ n * n * n → IsLaidOut n g amounts (set before f q) shells
  IsLaidOut-before l = record {
    even = w.even;
    least = w.least;
    most = w.most;
    shallowest = w.shallowest;
    deepest = w.deepest;
    few = w.few;
    one_before_each = length-set before f q ∙ w.one_before_each;
    one_shell_each = w.one_shell_each;
    all_cells = w.all_cells;
    all_before = HaveLength-set (n * n * n) before f q w.all_before l;
    all_ghosts = w.all_ghosts;
  }

  pub IsLaidOut-shells : length q ≡ ghost_count n g → IsLaidOut n g amounts before (set shells f q)
  IsLaidOut-shells l = record {
    even = w.even;
    least = w.least;
    most = w.most;
    shallowest = w.shallowest;
    deepest = w.deepest;
    few = w.few;
    one_before_each = w.one_before_each;
    one_shell_each = length-set shells f q ∙ w.one_shell_each;
    all_cells = w.all_cells;
    all_before = w.all_before;
    all_ghosts = HaveLength-set (ghost_count n g) shells f q w.all_ghosts l;
  }

-- ---- one ghost

-- a ghost of a field in the list of all its ghosts
pub ghost-at : (n g d j : ℕ) (q : List ℕ) → d < 27 → j < ghost_size n g d → get_or (get_or (cut (ghost_sizes n g) q) d []) j 0 ≡ get_or q (ghost_start n g d + j) 0
ghost-at n g d j q h k =
    let size = get_or-ghost_sizes n g d h in
    let l = length-ghost_sizes n g in
    ap (λ p. get_or p j 0) (get_or-cut (ghost_sizes n g) q d (omega arith) ∙ ap (λ s. take s (drop (ghost_start n g d) q)) size)
    ∙ get_or-take (ghost_size n g d) (drop (ghost_start n g d) q) j 0 k
    ∙ get_or-drop (ghost_start n g d) q j 0

pub ghost-set : (n g d j v : ℕ) (q : List ℕ) → d < 27 → j < ghost_size n g d → cut (ghost_sizes n g) (set q (ghost_start n g d + j) v) ≡ set (cut (ghost_sizes n g) q) d (set (get_or (cut (ghost_sizes n g) q) d []) j v)
ghost-set n g d j v q h k =
    let size = get_or-ghost_sizes n g d h in
    let l = length-ghost_sizes n g in
    cut-set (ghost_sizes n g) q d j v (omega arith) (let m : j < get_or (ghost_sizes n g) d 0 = omega arith in m)

-- a direction's ghosts in the list of all
pub piece-stretch : (n g d : ℕ) (q : List ℕ) → d < 27 → get_or (cut (ghost_sizes n g) q) d [] ≡ take (ghost_size n g d) (drop (ghost_start n g d) q)
piece-stretch n g d q h =
    let l = length-ghost_sizes n g in
    get_or-cut (ghost_sizes n g) q d (omega arith)
    ∙ ap (λ s. take s (drop (ghost_start n g d) q)) (get_or-ghost_sizes n g d h)

pub length-stretch : (n g d : ℕ) (q : List ℕ) → d < 27 → length q ≡ ghost_count n g → length (take (ghost_size n g d) (drop (ghost_start n g d) q)) ≡ ghost_size n g d
length-stretch n g d q h long =
    let w = start-within_count n g d h in
    length-take-le (ghost_size n g d) (drop (ghost_start n g d) q) (let l = length-drop (ghost_start n g d) q in omega arith)

-- ---- the ghosts of a field

module _ (place : Cube) (n g : ℕ) (amounts before shells : List (List ℕ)) (f : ℕ) (q : List ℕ) (at : slice_get shells f ≡ Some q) where
  pub shell-is : shell_of (laid_out place n g amounts before shells) f ≡ cut (ghost_sizes n g) q
  shell-is = get_or_from_slice_get (map (cut (ghost_sizes n g)) shells) f (cut (ghost_sizes n g) q) [] (at-map (cut (ghost_sizes n g)) shells f q at)

  pub ghosts-at : (d j : ℕ) → d < 27 → j < ghost_size n g d → get_or (ghosts_of (laid_out place n g amounts before shells) f d) j 0 ≡ get_or q (ghost_start n g d + j) 0
  ghosts-at d j h k = ap (λ s. get_or (get_or s d []) j 0) shell-is ∙ ghost-at n g d j q h k

  pub ghosts-set : (d j v : ℕ) → d < 27 → j < ghost_size n g d
      → laid_out place n g amounts before (set shells f (set q (ghost_start n g d + j) v))
      ≡ with_ghosts (laid_out place n g amounts before shells) f d (set (ghosts_of (laid_out place n g amounts before shells) f d) j v)
  ghosts-set d j v h k =
      let b = laid_out place n g amounts before shells in
      let old = map (cut (ghost_sizes n g)) shells in
      ap (λ l. record { place = place; edge = n; depth = g; amounts = amounts; before = before; ghosts = l })
      (map-set (cut (ghost_sizes n g)) shells f (set q (ghost_start n g d + j) v)
      ∙ ap (set old f) (ghost-set n g d j v q h k)
      ∙ ap (λ s. set old f (set s d (set (get_or s d []) j v))) (sym shell-is))

  -- all ghosts of the field, and those of a direction
  pub shell-flat : length q ≡ ghost_count n g → flat_map (λ p. p) (shell_of (laid_out place n g amounts before shells) f) ≡ q
  shell-flat long = ap (flat_map (λ p. p)) shell-is ∙ flat_map-cut (ghost_sizes n g) q long

  pub ghosts-stretch : (d : ℕ) → d < 27 → ghosts_of (laid_out place n g amounts before shells) f d ≡ take (ghost_size n g d) (drop (ghost_start n g d) q)
  ghosts-stretch d h = ap (λ s. get_or s d []) shell-is ∙ piece-stretch n g d q h

  pub length-ghosts : (d : ℕ) → d < 27 → length q ≡ ghost_count n g → length (ghosts_of (laid_out place n g amounts before shells) f d) ≡ ghost_size n g d
  length-ghosts d h long = ap length (ghosts-stretch d h) ∙ length-stretch n g d q h long
