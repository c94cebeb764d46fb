-- The adapt phase keeps the laws of phases.
use Rattle.std.proofs.Common.{◌≡◌, ℕ, ◌*◌, ◌^◌, ◌<◌, ◌≤◌, true, cond, List, Some, length, get_or, refl, ap, ◌∙◌, subst, arith, inl, inr}
use Rattle.std.specs.Prelude.{All, IsPermutation, slice_get, slice_set, ◌&&◌}
use Rattle.std.proofs.lemmas.Bool.{eq-eqb}
use Rattle.std.proofs.lemmas.List.{length-map}
use Rattle.std.proofs.lemmas.List.Sorted.{All-permutation, Contains-permutation, sum_by-IsPermutation}
use Rattle.std.proofs.lemmas.List.Sums.{sum_by-le, get_or-le-sum_by}
use Rattle.std.proofs.lemmas.Option.{slice_get_cases, slice_get_within, slice_get-get_or}
use Rattle.phase_core.specs.declared.envelope.Envelope.{Envelope}
use Rattle.phase_core.specs.Lemmas.Lookups.{map-slice_set_same}
use Rattle.block_index.specs.Places.{Grid}
use Rattle.leaf_set.specs.Meshes.{most_leaves}
use Rattle.leaf_set.specs.TouchingLeaves.{most_touching}
use Rattle.leaf_set.proofs.LeafCounts.{length-IsMesh_limit}
use Rattle.adapt_core.specs.declared.adapt_msg.AdaptMsg.{AdaptMsg}
use Rattle.adapt_core.specs.declared.adapt_msg.AdaptMsg.TheVariants.{Start, Level}
use Rattle.adapt_core.specs.Cells.{LeafPart, LeafState, AdaptProblem}
use Rattle.adapt_core.specs.React.{adapt_react}
use Rattle.adapt_core.specs.Problem.{mesh_of, problem_of, IsAdaptProblem}
use Rattle.adapt_core.specs.Holds.{is_start, starts_to, starts_due, IsTold, AdaptHolds, degree, adapt_start_weight, touching_pairs}
use Rattle.adapt_core.specs.Lemmas.Leaves.{length_cells}
use Rattle.adapt_core.specs.Lemmas.Beginning.{start_weight_most}
use Rattle.adapt_core.specs.Lemmas.Keeping.{start_at}
pub use Rattle.adapt_core.specs.Lemmas.Keeping.{keeps}
pub use Rattle.adapt_core.specs.Lemmas.Weighing.{lowers, weighs_in_any_order}
pub use Rattle.adapt_core.specs.Lemmas.Beginning.{start_holds, start_weighs}

pub holds_in_any_order : (p : AdaptProblem) (cells : List LeafState) (flight other : List (Envelope AdaptMsg)) → IsPermutation flight other → AdaptHolds p cells flight → AdaptHolds p cells other
holds_in_any_order p cells flight other moved holds =
    record {
      problem = holds.problem;
      parts = holds.parts;
      low = holds.low;
      high = holds.high;
      starts = λ i. sum_by-IsPermutation (start_at i) flight other moved ∙ holds.starts i;
      opening = holds.opening;
      messages = All-permutation (λ (e : Envelope AdaptMsg). IsTold p cells e.to e.msg) flight other moved holds.messages;
      told = λ i j b c at there started touch.
          elim (holds.told i j b c at there started touch) [
            | inl has ↦ inl has
            | inr flies ↦ inr (Contains-permutation flight other (record { to = j; msg = Level i b.level }) moved flies)
          ];
    }

react_part : (p : AdaptProblem) (at : ℕ) (c : LeafState) (msg : AdaptMsg) → (adapt_react p at c msg).cell.part ≡ c.part
react_part p at c Start = refl
react_part p at c (Level from value) = refl

pub same_problem : (grid : Grid) (cells : List LeafState) (p : AdaptProblem) (at : ℕ) (c : LeafState) (msg : AdaptMsg) → slice_get cells at ≡ Some c → problem_of grid (slice_set cells at (adapt_react p at c msg).cell) ≡ problem_of grid cells
same_problem grid cells p at c msg here =
    let with_parts : List LeafPart → AdaptProblem = λ parts. record { grid = grid; parts = parts } in
    ap with_parts (map-slice_set_same (λ (x : LeafState). x.part) cells at c (adapt_react p at c msg).cell here (react_part p at c msg))

pub few_leaves : (p : AdaptProblem) → IsAdaptProblem p → length p.parts ≤ most_leaves
few_leaves p valid = omega (arith, length-IsMesh_limit p.grid (mesh_of p) valid.domain valid.mesh, length-map p.parts (λ (x : LeafPart). x.place))

pub few_cells : (p : AdaptProblem) (cells : List LeafState) (flight : List (Envelope AdaptMsg)) → AdaptHolds p cells flight → length cells < 2 ^ 32
few_cells p cells flight holds =
    omega (arith, length-IsMesh_limit p.grid (mesh_of p) holds.problem.domain holds.problem.mesh, length_cells p cells holds.problem holds.parts)

-- a start message in flight is for a cell
start_within : (p : AdaptProblem) (cells : List LeafState) (flight : List (Envelope AdaptMsg)) → AdaptHolds p cells flight → (k : ℕ) (d : Envelope AdaptMsg) → k < length flight → is_start (get_or flight k d).msg ≡ true → (get_or flight k d).to < length cells
start_within p cells flight holds k d within is =
    let e : Envelope AdaptMsg = get_or flight k d in
    elim ((slice_get_cases cells e.to).1) [
      | inl there ↦ there.1
      | inr past ↦
          let one : start_at e.to e ≡ 1 = ap (λ b. cond (b && is_start e.msg) 1 0) (eq-eqb e.to e.to refl) ∙ ap (λ b. cond b 1 0) is in
          let some : start_at e.to e ≤ starts_to e.to flight = get_or-le-sum_by (start_at e.to) flight k d within in
          let none : starts_to e.to flight ≡ 0 = holds.starts e.to ∙ ap starts_due past.1 in
          absurd (omega (arith, one, some, none))
    ]

pub addressed : (p : AdaptProblem) (cells : List LeafState) (flight : List (Envelope AdaptMsg)) → AdaptHolds p cells flight → All (λ e. e.to < length cells) flight
addressed p cells flight holds k d within = go (get_or flight k d).msg refl
  where
    go : (msg : AdaptMsg) → (get_or flight k d).msg ≡ msg → (get_or flight k d).to < length cells
    go Start is = start_within p cells flight holds k d within (ap is_start is)
    go (Level from value) is =
        let told = subst (IsTold p cells (get_or flight k d).to) is (holds.messages k d within) in
        slice_get_within cells (get_or flight k d).to told.1 told.3

-- a leaf has at most 56 that touch it, and a mesh has at most 2 ^ 30 leaves
pub start_weight_few : (p : AdaptProblem) → IsAdaptProblem p → adapt_start_weight p ≤ 2 ^ 38
start_weight_few p valid =
    let few : All (λ part. degree part ≤ most_touching) p.parts = λ k d within. (valid.parts k (get_or p.parts k d) (slice_get-get_or p.parts k d within)).touching.few in
    let pairs : touching_pairs p ≤ length p.parts * most_touching = sum_by-le degree most_touching p.parts few in
    omega (arith, start_weight_most p, pairs, few_leaves p valid)

pub start_weight_fits : (p : AdaptProblem) (cells : List LeafState) (flight : List (Envelope AdaptMsg)) → AdaptHolds p cells flight → adapt_start_weight p < 2 ^ 62
start_weight_fits p cells flight holds = omega (arith, start_weight_few p holds.problem)
