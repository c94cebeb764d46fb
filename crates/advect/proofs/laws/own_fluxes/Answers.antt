-- The laws, from their lemmas.
use Rattle.std.proofs.Common.{◌∙◌, arith}
use Rattle.advect.proofs.NotedFluxes.{noted-after, noted-before}
use Rattle.advect.proofs.StateFluxes.{own-after, own-before}
use Rattle.advect.specs.OwnFluxes.{own_flux}
use Rattle.advect.proofs.laws.own_fluxes.Goals as goal

pub returns-clause-before : goal.returns-clause-before
returns-clause-before d s flow i b f a c w limits k samples hf e = own-before s w i b limits k samples f hf c e a flow

pub returns-clause-after : goal.returns-clause-after
returns-clause-after d s flow i b f a c w limits k samples hf e = own-after s w i b limits k samples f hf c e a flow

pub returns-clause-noted_before : goal.returns-clause-noted_before
returns-clause-noted_before d s flow i b faces f a c w limits k samples hf e edge fields notes low =
    let h = w.edge in
    let l = w.all_fields i b.amounts k.held in
    noted-before (own_flux flow s.grid b) faces notes s.edge (omega (arith, h)) (edge ∙ k.same_edge) f (omega (arith, hf, fields, l)) a c low
    ∙ own-before s w i b limits k samples f hf c e a flow

pub returns-clause-noted_after : goal.returns-clause-noted_after
returns-clause-noted_after d s flow i b faces f a c w limits k samples hf e edge fields notes high =
    let h = w.edge in
    let l = w.all_fields i b.amounts k.held in
    noted-after (own_flux flow s.grid b) faces notes s.edge (omega (arith, h)) (edge ∙ k.same_edge) f (omega (arith, hf, fields, l)) a c high
    ∙ own-after s w i b limits k samples f hf c e a flow
