use Rattle.std.proofs.Common.{◌+◌, ◌*◌, ◌<◌, sym, subst}
use Rattle.std.proofs.lemmas.Nat.{mul-add-lt}
use Rattle.advect.specs.Coordinates.{across_first, across_second}
use Rattle.advect.proofs.Corrected.{first-within, second-within}
use Rattle.advect.specs.Lemmas.Lines.{axis_named}
use Rattle.advect.proofs.correcting.corrected_amount.Goals as goal

pub bounds-on_side-second : goal.bounds-on_side-second
bounds-on_side-second c =
    let s = c.args.spot in
    let n = c.args.faces.now.edge in
    let a = axis_named c.line_of-line.result in
    let i = first-within a n s.x s.y s.z c.requires.x c.requires.y c.requires.z in
    let j = second-within a n s.x s.y s.z c.requires.x c.requires.y c.requires.z in
    let k : across_second a s.x s.y s.z * n + across_first a s.x s.y s.z < n * n = mul-add-lt (across_second a s.x s.y s.z) n (across_first a s.x s.y s.z) n j i in
    subst (λ t. c.second.result * c.edge-n.result + c.first.result < t) (sym c.on_side.ensures.faces.0)
    (subst (λ t. t < n * n) ((λ t. sym c.second.ensures.second t * sym c.edge-n.ensures.edge t + sym c.first.ensures.first t)) k)
