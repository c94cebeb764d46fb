use Rattle.std.proofs.Common.{◌≤◌, length, ap, sym, ◌∙◌, subst}
use Rattle.block_index.specs.Places.{Cube}
use Rattle.grid_fluxes.specs.Axes.{along_x, along_y, along_z}
use Rattle.advect.specs.FaceFluxes.{FaceFluxState}
use Rattle.advect.specs.Flows.{flow_of}
use Rattle.advect.specs.declared.stream.Streams.{Streams}
use Rattle.advect.proofs.Insides.{elements, seen_as}
use Rattle.advect.proofs.Links.{stream-at, streams-at}
use Rattle.advect.proofs.Provisional.{holds-fluxes, keeps-limits, provisional-is}
use Rattle.advect.proofs.Speeds.{held-by}
use Rattle.advect.proofs.advancing.advance.Goals as goal

pub advance_fields-requires-clause-held : goal.advance_fields-requires-clause-held
advance_fields-requires-clause-held c =
    let p = c.args.params.now in
    let x = c.stream_along in
    let y = c.stream_along-2 in
    let z = c.stream_along-3 in
    held-by p x.ensures.limits c.place-place.result.level (subst (λ (q : Cube). q.level ≤ p.grid.finest) (sym c.place-place.ensures.place) c.requires.place.level)
    x.result.share y.result.share z.result.share x.ensures.share y.ensures.share z.ensures.share x.ensures.den y.ensures.den z.ensures.den

pub returns-clause-provisional : goal.returns-clause-provisional
returns-clause-provisional c =
    let p = c.args.params.now in
    let b = c.args.block.now in
    let x = c.stream_along in
    let y = c.stream_along-2 in
    let z = c.stream_along-3 in
    let e = c.place-place.ensures.place in
    let s : Streams = record { x = x.result; y = y.result; z = z.result } in
    let is = streams-at (flow_of p) p.grid b s
    (stream-at (flow_of p) p.grid b along_x x.result c.place-place.result e x.ensures.share x.ensures.den x.ensures.up x.ensures.low x.ensures.high)
    (stream-at (flow_of p) p.grid b along_y y.result c.place-place.result e y.ensures.share y.ensures.den y.ensures.up y.ensures.low y.ensures.high)
    (stream-at (flow_of p) p.grid b along_z z.result c.place-place.result e z.ensures.share z.ensures.den z.ensures.up z.ensures.low z.ensures.high) in
    provisional-is (flow_of p) p.grid b c.advance_fields.ensures.limits s is c.advance_fields.new.block c.advance_fields.ensures.advances

pub invariant_of-faces : goal.invariant_of-faces
invariant_of-faces c =
    let p = c.args.params.now in
    let b = c.args.block.now in
    let x = c.stream_along in
    let y = c.stream_along-2 in
    let z = c.stream_along-3 in
    let e = c.place-place.ensures.place in
    let s : Streams = record { x = x.result; y = y.result; z = z.result } in
    let is = streams-at (flow_of p) p.grid b s
    (stream-at (flow_of p) p.grid b along_x x.result c.place-place.result e x.ensures.share x.ensures.den x.ensures.up x.ensures.low x.ensures.high)
    (stream-at (flow_of p) p.grid b along_y y.result c.place-place.result e y.ensures.share y.ensures.den y.ensures.up y.ensures.low y.ensures.high)
    (stream-at (flow_of p) p.grid b along_z z.result c.place-place.result e z.ensures.share z.ensures.den z.ensures.up z.ensures.low z.ensures.high) in
    let v = c.velocity-faces-inside in
    keeps-limits (flow_of p) p.grid b c.advance_fields.ensures.limits s is c.requires.small (seen_as c.faces.inside) c.faces.invariant
    (ap (λ (t : FaceFluxState). t.edge) c.faces.view_is ∙ c.requires.edge) (ap (λ (t : FaceFluxState). t.fields) c.faces.view_is ∙ c.requires.fields)
    v.result (ap length v.ensures.velocity ∙ v.ensures.limits.three_speeds) c.den-faces-inside.result
    (elements c.advance_fields.new.low.items) (elements c.advance_fields.new.high.items) c.advance_fields.ensures.low c.advance_fields.ensures.high

pub returns-clause-faces : goal.returns-clause-faces
returns-clause-faces c =
    let p = c.args.params.now in
    let b = c.args.block.now in
    let x = c.stream_along in
    let y = c.stream_along-2 in
    let z = c.stream_along-3 in
    let e = c.place-place.ensures.place in
    let s : Streams = record { x = x.result; y = y.result; z = z.result } in
    let is = streams-at (flow_of p) p.grid b s
    (stream-at (flow_of p) p.grid b along_x x.result c.place-place.result e x.ensures.share x.ensures.den x.ensures.up x.ensures.low x.ensures.high)
    (stream-at (flow_of p) p.grid b along_y y.result c.place-place.result e y.ensures.share y.ensures.den y.ensures.up y.ensures.low y.ensures.high)
    (stream-at (flow_of p) p.grid b along_z z.result c.place-place.result e z.ensures.share z.ensures.den z.ensures.up z.ensures.low z.ensures.high) in
    holds-fluxes (flow_of p) p.grid b c.advance_fields.ensures.limits s is c.faces.inside.edge c.faces.inside.fields
    (ap (λ (t : FaceFluxState). t.edge) c.faces.view_is ∙ c.requires.edge) (ap (λ (t : FaceFluxState). t.fields) c.faces.view_is ∙ c.requires.fields)
    c.velocity-faces-inside.result c.den-faces-inside.result (elements c.faces.inside.low.items) (elements c.faces.inside.high.items)
    (elements c.advance_fields.new.low.items) (elements c.advance_fields.new.high.items) c.advance_fields.ensures.low c.advance_fields.ensures.high
