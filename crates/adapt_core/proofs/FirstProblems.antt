-- There is a problem for each balanced mesh and a wish for each of its leaves, and its plain run comes to quiet.
use Rattle.std.proofs.Common.{◌≡◌, ℕ, ◌+◌, ◌-◌, ◌<◌, ◌≤◌, min, List, Some, map, length, get_or, refl, sym, ◌∙◌, subst, arith, ◌⊎◌, inl, inr}
use Rattle.std.specs.Prelude.{slice_get, slice_index}
use Rattle.std.proofs.lemmas.Bool.{cases_lt}
use Rattle.std.proofs.lemmas.Option.{same_Some, slice_get-get_or}
use Rattle.block_index.specs.Places.{Cube, Grid, IsDomain, child_of, parent_of}
use Rattle.block_index.specs.declared.wish.Wish.{Wish}
use Rattle.block_index.specs.declared.wish.Wish.TheVariants.{Coarsen, Stay, Refine}
use Rattle.leaf_set.specs.Meshes.{IsLeaf, IsMesh, IsBalanced}
use Rattle.leaf_set.specs.LevelRules.{wished_level}
use Rattle.leaf_set.specs.Opening.{IsOpening}
use Rattle.leaf_set.proofs.Leaves.{find_leaf}
use Rattle.leaf_set.proofs.Decisions.{each_below_or}
use Rattle.sibling_rule.specs.Lemmas.OwnLevel.{IsLone, OpensAt}
use Rattle.sibling_rule.proofs.OpeningSteps.{IsOpening-AreOpening}
use Rattle.phase_core.specs.Machine.{CoreState, RunsPlainly, start_state}
use Rattle.phase_core.proofs.Deliveries.{RunsPlainly-reached}
use Rattle.adapt_core.specs.declared.adapt_msg.AdaptMsg.{AdaptMsg}
use Rattle.adapt_core.specs.Cells.{LeafPart, LeafState, AdaptProblem}
use Rattle.adapt_core.specs.React.{adapt_react, adapt_start}
use Rattle.adapt_core.specs.Problem.{mesh_of, wishes_of, siblings_among, IsAdaptProblem, AdaptBegins, unopened}
use Rattle.adapt_core.specs.Holds.{adapt_weight}
use Rattle.adapt_core.specs.Lemmas.AdaptLaws.{start_holds}
use Rattle.phase_core.specs.Lemmas.ListsByPlaces.{list_exists}
use Rattle.adapt_core.specs.Lemmas.FirstCells.{IsPartOf}
use Rattle.adapt_core.proofs.EveryRun.{adapt_laws}
use Rattle.adapt_core.proofs.PartsOfLeaves.{IsAdaptProblem-parts, parts_mesh, parts_wishes}
use Rattle.leaf_set.specs.Tiling.{IsTiling}
use Rattle.cello_neighbours.proofs.TouchingLists.{touching_list}

-- ---- opening levels

lone_cases : (mesh : List Cube) (a : Cube) → IsLone mesh a ⊎ (IsLone mesh a → ⊥)
lone_cases mesh a =
    elim (cases_lt a.level 1) [
      | inl root ↦ inr (λ h. let above = h.0 in omega arith)
      | inr above ↦
          elim (each_below_or (IsLone mesh a) 8 (λ k. IsLeaf mesh (child_of (parent_of a) k)) (λ k within.
          elim (find_leaf mesh (child_of (parent_of a) k)) [
            | inl leaf ↦ inl leaf
            | inr none ↦ inr (above, (k, within, none))
          ])) [
            | inr lone ↦ inl lone
            | inl all ↦ inr (λ h. h.1.2 (all h.1.0 h.1.1))
          ]
    ]

wished_near : (w : Wish) (l : ℕ) → (l - 1 ≤ wished_level w l) × (wished_level w l ≤ l + 1)
wished_near Coarsen l = (omega arith, omega arith)
wished_near Stay l = (omega arith, omega arith)
wished_near Refine l = (omega arith, omega arith)

own_level : (grid : Grid) (mesh : List Cube) (a : Cube) (w : Wish) → a.level ≤ grid.finest → (level : ℕ) × OpensAt grid mesh a w level
own_level grid mesh a w within =
    let near = wished_near w a.level in
    let wished : ℕ = min (wished_level w a.level) grid.finest in
    elim (lone_cases mesh a) [
      | inr shared ↦ (
        wished,
        record {
          low = omega (arith, near.0, within);
          high = omega (arith, near.1, within);
          wish = omega arith;
          lone = λ lone. absurd (shared lone);
          least = λ other asks lone. asks;
        },
      )
      | inl lone ↦
          elim (cases_lt wished a.level) [
            | inl less ↦ (
              a.level,
              record {
                low = omega arith;
                high = omega (arith, within);
                wish = omega (arith, less);
                lone = λ h. omega arith;
                least = λ other asks rule. rule lone;
              },
            )
            | inr enough ↦ (
              wished,
              record {
                low = omega (arith, near.0, within);
                high = omega (arith, near.1, within);
                wish = omega arith;
                lone = λ h. enough;
                least = λ other asks rule. asks;
              },
            )
          ]
    ]

pub opening_exists : (grid : Grid) (mesh : List Cube) (wishes : List Wish) → IsMesh grid mesh → length wishes ≡ length mesh → (levels : List ℕ) × IsOpening grid mesh wishes levels
opening_exists grid mesh wishes m long =
    let Opens : ℕ → ℕ → Type 0 = λ i level. (a : Cube) (w : Wish) → slice_get mesh i ≡ Some a → slice_get wishes i ≡ Some w → OpensAt grid mesh a w level in
    let own = list_exists Opens (length mesh) (λ i within.
    let a : Cube = get_or mesh i (record { level = 0; x = 0; y = 0; z = 0 }) in
    let w : Wish = get_or wishes i Stay in
    let at : slice_get mesh i ≡ Some a = slice_get-get_or mesh i (record { level = 0; x = 0; y = 0; z = 0 }) within in
    let wished : slice_get wishes i ≡ Some w = slice_get-get_or wishes i Stay (omega (arith, long)) in
    let opens = own_level grid mesh a w (m.inside i a at).level in
    (opens.0, λ b v s t. subst (λ q. OpensAt grid mesh q v opens.0) (same_Some a b (sym at ∙ s)) (subst (λ u. OpensAt grid mesh a u opens.0) (same_Some w v (sym wished ∙ t)) opens.1))) in (
      own.0,
      IsOpening-AreOpening grid mesh wishes own.0 own.1.many long (record {
        opens = λ i a w s t within. own.1.each i (slice_index own.0 i) (slice_get-get_or own.0 i 0 within) a w s t;
      }),
    )

-- ---- parts

part_exists : (grid : Grid) (mesh : List Cube) (wishes : List Wish) (levels : List ℕ) → IsDomain grid → IsMesh grid mesh → IsBalanced grid mesh → length wishes ≡ length mesh → length levels ≡ length mesh → (i : ℕ) → i < length mesh → (part : LeafPart) × IsPartOf grid mesh wishes levels i part
part_exists grid mesh wishes levels g m balanced long tall i within =
    let a : Cube = get_or mesh i (record { level = 0; x = 0; y = 0; z = 0 }) in
    let at : slice_get mesh i ≡ Some a = slice_get-get_or mesh i (record { level = 0; x = 0; y = 0; z = 0 }) within in
    let js = touching_list grid mesh g m i a at balanced in (
      record { index = i; place = a; wish = get_or wishes i Stay; opening = get_or levels i 0; neighbours = js.0; siblings = siblings_among mesh a js.0 },
      record {
        is = record { index = refl; touching = js.1; siblings = refl };
        place = at;
        wish = slice_get-get_or wishes i Stay (omega (arith, long));
        opening = slice_get-get_or levels i 0 (omega (arith, tall));
      },
    )

-- ---- problems

pub record HasProblem (grid : Grid) (mesh : List Cube) (wishes : List Wish) : Type 0 where
  pub problem : AdaptProblem
  pub is : IsAdaptProblem problem
  pub same_grid : problem.grid ≡ grid
  pub same_mesh : mesh_of problem ≡ mesh
  pub same_wishes : wishes_of problem ≡ wishes

pub problem_exists : (grid : Grid) (mesh : List Cube) (wishes : List Wish) → IsDomain grid → IsMesh grid mesh → IsBalanced grid mesh → length wishes ≡ length mesh → HasProblem grid mesh wishes
problem_exists grid mesh wishes g m balanced long =
    let levels = opening_exists grid mesh wishes m long in
    let parts = list_exists (IsPartOf grid mesh wishes levels.0) (length mesh) (part_exists grid mesh wishes levels.0 g m balanced long levels.1.one_each) in
    let tiles : IsTiling (record { grid = grid; places = mesh }) = record { domain = g; mesh = m; balanced = balanced } in
    record {
      problem = record { grid = grid; parts = parts.0 };
      is = IsAdaptProblem-parts grid mesh wishes levels.0 tiles long levels.1 parts.0 parts.1;
      same_grid = refl;
      same_mesh = parts_mesh grid mesh wishes levels.0 tiles long levels.1 parts.0 parts.1;
      same_wishes = parts_wishes grid mesh wishes levels.0 tiles long levels.1 parts.0 parts.1;
    }

pub begins_exists : (p : AdaptProblem) → IsAdaptProblem p → AdaptBegins p (map unopened p.parts)
begins_exists p is = record { problem = is; begun = refl }

pub plain_run_exists : (p : AdaptProblem) (cells : List LeafState) → AdaptBegins p cells → (count : ℕ) × (t : CoreState LeafState AdaptMsg) × RunsPlainly (adapt_react p) (start_state adapt_start cells) count t
plain_run_exists p cells begins =
    let s = start_state adapt_start cells in
    let run = RunsPlainly-reached (adapt_laws p) (adapt_weight p s.cells s.flight) s (start_holds p cells begins) (omega arith) in
    (run.0, run.1, run.2)
