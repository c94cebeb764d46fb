-- Which blocks can be advanced, and what an advance makes of one.
use Rattle.std.specs.Prelude.{◌≡◌, ◌^◌, IfSome, Option, length}
use Rattle.block_index.specs.Places.{IsInside}
use Rattle.block_fields.specs.Blocks.{BlockState, IsBlock}
use Rattle.params_check.specs.Parameters.{Parameters}
use Rattle.advect.specs.FaceFluxes.{FaceFluxState, HoldsFluxes, IsFaceFluxes}
use Rattle.advect.specs.Flows.{flow_of}
use Rattle.advect.specs.OwnFluxes.{HoldsAtMost, IsProvisional, own_flux}

-- a block of the sizes of the parameters, inside their domain, with amounts small enough for the fluxes
pub record CanAdvance (p : Parameters) (b : BlockState) : Type 0 where
  pub inside : IsInside p.grid b.place
  pub edge : b.edge ≡ p.block
  pub fields : length b.amounts ≡ length p.fields
  pub small : HoldsAtMost (2 ^ 42) b

-- what an advance made of a block, and the fluxes of its faces
pub record IsAdvanced (p : Parameters) (b new : BlockState) (q : FaceFluxState) : Type 0 where
  pub provisional : IsProvisional (own_flux (flow_of p) p.grid b) (flow_of p).goes_up b new
  pub noted : HoldsFluxes (own_flux (flow_of p) p.grid b) q
  pub velocity : q.velocity ≡ p.velocity
  pub den : q.den ≡ p.den
  pub faces : IsFaceFluxes q
  pub edge : q.edge ≡ p.block
  pub fields : q.fields ≡ length p.fields
  pub block : IsBlock new

-- the same, where there are fluxes
abbrev pub WasAdvanced : Parameters → BlockState → BlockState → Option FaceFluxState → Type 0
WasAdvanced p b new faces = IfSome faces (λ q. IsAdvanced p b new q)
