-- What is left of the proof of this function.
use Rattle.std.proofs.Common.{pos, [], ◌∷◌, get_or, ◌∙◌, rules, w32, w64, to_z, of_z, FitsSigned}
use Rattle.std.proofs.lemmas.Int.{to_z-of_z}
use Rattle.std.proofs.lemmas.List.{map-id}
use Rattle.params_check.proofs.Threes.{map-three}
use Rattle.params_check.proofs.params.narrow.Goals as goal

pub returns : goal.returns
returns c =
    let t = c.args.velocity in
    let wide_x : FitsSigned w64 (get_or t 0 (pos 0)) = search rules in
    let wide_y : FitsSigned w64 (get_or t 1 (pos 0)) = search rules in
    let wide_z : FitsSigned w64 (get_or t 2 (pos 0)) = search rules in
    let x : FitsSigned w32 (get_or t 0 (pos 0)) = search rules in
    let y : FitsSigned w32 (get_or t 1 (pos 0)) = search rules in
    let z : FitsSigned w32 (get_or t 2 (pos 0)) = search rules in
    record {
      same =
          (λ i. to_z w32 (of_z w32 (to_z-of_z w64 (get_or t 0 (pos 0)) wide_x i)) ∷ to_z w32 (of_z w32 (to_z-of_z w64 (get_or t 1 (pos 0)) wide_y i)) ∷ to_z w32 (of_z w32 (to_z-of_z w64 (get_or t 2 (pos 0)) wide_z i)) ∷ [])
          ∙ (λ i. to_z-of_z w32 (get_or t 0 (pos 0)) x i ∷ to_z-of_z w32 (get_or t 1 (pos 0)) y i ∷ to_z-of_z w32 (get_or t 2 (pos 0)) z i ∷ [])
          ∙ map-three (λ z. z) t (search rules) ∙ map-id t;
    }
