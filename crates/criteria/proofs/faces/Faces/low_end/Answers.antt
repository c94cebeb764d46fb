-- The cell lies within the list of its side.
use Rattle.std.proofs.Common.{◌+◌, ◌-◌, ◌*◌, ◌<◌, length, sym, subst}
use Rattle.criteria.proofs.FaceRows.{low_end-seen, low_x-within}
use Rattle.criteria.proofs.faces.Faces.low_end.Goals as goal

pub bounds-self-z : goal.bounds-self-z
bounds-self-z c =
    let b = c.args.block.now in
    let edge = c.edge-n.ensures.edge in
    let depth = c.depth-depth.ensures.depth in
    subst (λ k. k < length c.args.self.now.low_x.now) (λ i. (c.args.z * sym edge i + c.args.y) * sym depth i + (sym depth i - 1))
    (subst (λ k. (c.args.z * b.edge + c.args.y) * b.depth + (b.depth - 1) < k) (sym c.requires.faces.low_x.size)
    (low_x-within b.edge b.depth c.args.y c.args.z c.requires.y c.requires.z c.edge-n.ensures.limits.shallowest))

pub returns : goal.returns
returns c =
    let b = c.args.block.now in
    let edge = c.edge-n.ensures.edge in
    let depth = c.depth-depth.ensures.depth in
    record {
      seen = low_end-seen b c.args.field c.args.y c.args.z ((c.args.z * c.edge-n.result + c.args.y) * c.depth-depth.result + (c.depth-depth.result - 1)) c.args.self.now.low_x.now
          c.requires.y c.requires.z c.requires.faces.low_x (λ i. (c.args.z * edge i + c.args.y) * depth i + (depth i - 1));
    }
