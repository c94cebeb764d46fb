-- The fluxes of streams are a block's own fluxes.
use Rattle.std.proofs.Common.{◌≡◌, ℕ, ◌+◌, ◌*◌, ◌/◌, ◌^◌, ◌<◌, Bool, true, false, ◌&&◌, ◌||◌, ◌==◌, cond, arith, ap, ◌∙◌, refl, inl, inr}
use Rattle.std.proofs.lemmas.Bool.{cases_eq}
use Rattle.std.proofs.lemmas.Bool.Decides.{nat_tests}
use Rattle.block_index.specs.Places.{Cube, Grid}
use Rattle.block_fields.specs.Blocks.{BlockState}
use Rattle.grid_fluxes.specs.Axes.{Axis, along_x, along_y, along_z, coordinate, trees_along, wraps_along}
use Rattle.grid_fluxes.specs.Upwind.{Flow}
use Rattle.advect.specs.OwnFluxes.{is_barred, own_flux, seen_on, upwind_side}
use Rattle.advect.specs.declared.stream.Stream.{Stream}
use Rattle.advect.specs.declared.stream.Streams.{Streams}
use Rattle.advect.specs.Lemmas.Advances.{field_in}
use Rattle.advect.specs.Lemmas.Streams.{bars, seen_along, stream_flux, stream_on}
use Rattle.advect.proofs.Advanced.{seen-field}

-- what a stream is of a flow
pub record IsStream (flow : Flow) (grid : Grid) (b : BlockState) (a : Axis) (s : Stream) : Type 0 where
  pub share : s.share.parts ≡ flow.speed a * 2 ^ b.place.level
  pub den : s.share.den ≡ flow.den
  pub way : s.up ≡ flow.goes_up a
  pub low : s.low_barred ≡ (cond (wraps_along a grid) false (coordinate a b.place == 0) && (flow.closed a || flow.goes_up a))
  pub high : s.high_barred ≡ (cond (wraps_along a grid) false (coordinate a b.place + 1 == trees_along a grid * 2 ^ b.place.level) && (flow.closed a || cond (flow.goes_up a) false true))

bars-same : (w a b c up u v : Bool) → (u && v) ≡ false →
    ((u && (cond w false a && (c || up))) || (v && (cond w false b && (c || cond up false true)))) ≡ (cond w false ((u && a) || (v && b)) && (c || cond up u v))
bars-same true a b c up true true e = refl
bars-same true a b c up true false e = refl
bars-same true a b c up false true e = refl
bars-same true a b c up false false e = refl
bars-same false a b c up true true e = absurd (cc)
bars-same false true b true up true false e = refl
bars-same false true b false true true false e = refl
bars-same false true b false false true false e = refl
bars-same false false b c up true false e = refl
bars-same false a b c up false true e = refl
bars-same false a b c up false false e = refl

apart : (u n : ℕ) → 0 < n → ((u == 0) && (u == n)) ≡ false
apart u n h =
    elim (cases_eq u 0) [
      | inl none ↦ ap (λ t. (u == 0) && t) (let e : (u == n) ≡ false = grind (arith, nat_tests) in e) ∙ ends (u == 0)
      | inr some ↦ ap (λ t. t && (u == n)) (let e : (u == 0) ≡ false = grind (arith, nat_tests) in e)
    ]
  where
    ends : (b : Bool) → (b && false) ≡ false
    ends true = refl
    ends false = refl

module _ (flow : Flow) (grid : Grid) (b : BlockState) (a : Axis) (s : Stream) (w : IsStream flow grid b a s) (some : 0 < b.edge) where
  barred : (u : ℕ) → bars s b.edge u ≡ is_barred flow grid b a u
  barred u =
      (λ t. ((u == 0) && w.low t) || ((u == b.edge) && w.high t))
      ∙ bars-same (wraps_along a grid) (coordinate a b.place == 0) (coordinate a b.place + 1 == trees_along a grid * 2 ^ b.place.level) (flow.closed a) (flow.goes_up a) (u == 0) (u == b.edge) (apart u b.edge some)

  pub own-stream : (f u i j : ℕ) → stream_flux s (field_in b f) a u i j ≡ own_flux flow grid b f a u i j
  own-stream f u i j =
      let q = seen_on b f a (upwind_side (flow.goes_up a) u) i j in
      let seen : seen_along (field_in b f) a (upwind_side s.up u) i j ≡ q =
      seen-field b f a (upwind_side s.up u) i j ∙ ap (λ t. seen_on b f a (upwind_side t u) i j) w.way in
      (λ t. cond (barred u t) 0 (seen t * w.share t / w.den t))
      ∙ ap (λ t. cond (is_barred flow grid b a u) 0 (t / flow.den)) (let e : q * (flow.speed a * 2 ^ b.place.level) ≡ q * flow.speed a * 2 ^ b.place.level = omega arith in e)

-- a stream by the place of the block
pub stream-at : (flow : Flow) (grid : Grid) (b : BlockState) (a : Axis) (s : Stream) (place : Cube) → place ≡ b.place →
    s.share.parts ≡ flow.speed a * 2 ^ place.level → s.share.den ≡ flow.den → s.up ≡ flow.goes_up a →
    s.low_barred ≡ (cond (wraps_along a grid) false (coordinate a place == 0) && (flow.closed a || flow.goes_up a)) →
    s.high_barred ≡ (cond (wraps_along a grid) false (coordinate a place + 1 == trees_along a grid * 2 ^ place.level) && (flow.closed a || cond (flow.goes_up a) false true)) →
    IsStream flow grid b a s
stream-at flow grid b a s place e share den way low high = record {
  share = share ∙ ap (λ (c : Cube). flow.speed a * 2 ^ c.level) e;
  den = den;
  way = way;
  low = low ∙ ap (λ (c : Cube). cond (wraps_along a grid) false (coordinate a c == 0) && (flow.closed a || flow.goes_up a)) e;
  high = high ∙ ap (λ (c : Cube). cond (wraps_along a grid) false (coordinate a c + 1 == trees_along a grid * 2 ^ c.level) && (flow.closed a || cond (flow.goes_up a) false true)) e;
}

-- all three of a block
pub streams-at : (flow : Flow) (grid : Grid) (b : BlockState) (streams : Streams) → IsStream flow grid b along_x streams.x → IsStream flow grid b along_y streams.y → IsStream flow grid b along_z streams.z →
    (a : Axis) → IsStream flow grid b a (stream_on streams a)
streams-at flow grid b streams x y z along_x = x
streams-at flow grid b streams x y z along_y = y
streams-at flow grid b streams x y z along_z = z
