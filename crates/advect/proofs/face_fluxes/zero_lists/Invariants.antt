use Rattle.std.proofs.Common.{◌≡◌, ℕ, map, replicate, Vec, Global}
use Rattle.advect.proofs.face_fluxes.zero_lists.Given as goal

abbrev pub invariant-loop : goal.invariant-loop
invariant-loop l = map (λ (v : Vec ℕ Global). v.items) l.lists.items ≡ replicate l.counter (replicate l.length 0)
