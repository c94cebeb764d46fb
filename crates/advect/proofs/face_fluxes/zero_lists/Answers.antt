use Rattle.std.proofs.Common.{◌≡◌, ℕ, List, [], ◌∷◌, ◌++◌, map, replicate, ap, ◌∙◌, arith, Vec, Global}
use Rattle.std.proofs.lemmas.List.{map-append, replicate-append-replicate}
use Rattle.advect.proofs.face_fluxes.zero_lists.Goals as goal

pub returns : goal.returns
returns c =
    record { lists = c.loop.invariant ∙ ap (λ n. replicate n (replicate c.args.length 0)) (let e : c.loop.counter ≡ c.args.count = omega arith in e) }

pub loop-preserved : goal.loop-preserved
loop-preserved c =
    let items : Vec ℕ Global → List ℕ = λ v. v.items in
    let zeros : List ℕ = replicate c.args.length 0 in
    ap (map items) c.in_ok-push.ensures.items
    ∙ map-append items c.loop.lists.items (c.in_ok-zeros.field-0 ∷ [])
    ∙ (λ i. c.loop.invariant i ++ (c.in_ok-zeros.ensures.zeros i ∷ []))
    ∙ replicate-append-replicate c.loop.counter 1 zeros
