-- Definitions by subject.
pub mod Flows
pub mod Coordinates
pub mod OwnFluxes
pub mod FaceFluxes
pub mod FluxPieces
pub mod CellFluxes
pub mod CorrectedStates
pub mod Examples
pub mod Lemmas
