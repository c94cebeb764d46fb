-- The laws, from their lemmas.
use Rattle.grid_fluxes.specs.Axes.{next_cell, previous_cell}
use Rattle.grid_fluxes.proofs.NearCells.{cell_stepped-none, cell_stepped-up, cell_stepped-down}
use Rattle.grid_fluxes.proofs.Outside.{inside_from, leaf_cell-not_outside}
use Rattle.grid_fluxes.proofs.Steps.{previous_cell-next, next_cell-previous}
use Rattle.grid_fluxes.proofs.laws.cells_beside.Goals as goal

pub returns-clause-previous_of_next : goal.returns-clause-previous_of_next
returns-clause-previous_of_next c a grid n d = previous_cell-next a grid n d

pub returns-clause-next_of_previous : goal.returns-clause-next_of_previous
returns-clause-next_of_previous c a grid n d h k = next_cell-previous a grid n d (inside_from a grid n d h) (inside_from a grid n (previous_cell a grid n d) k)

pub returns-clause-leaf_inside : goal.returns-clause-leaf_inside
returns-clause-leaf_inside c s a d w leaf = leaf_cell-not_outside s w d leaf a

pub returns-clause-itself : goal.returns-clause-itself
returns-clause-itself c grid a n d h = cell_stepped-none grid n d (λ b. inside_from b grid n d (h b)) a

pub returns-clause-next : goal.returns-clause-next
returns-clause-next c grid a n d h k = cell_stepped-up grid n d (λ b. inside_from b grid n d (h b)) a (inside_from a grid n (next_cell a grid n d) k)

pub returns-clause-previous : goal.returns-clause-previous
returns-clause-previous c grid a n d h k = cell_stepped-down grid n d (λ b. inside_from b grid n d (h b)) a (inside_from a grid n (previous_cell a grid n d) k)
