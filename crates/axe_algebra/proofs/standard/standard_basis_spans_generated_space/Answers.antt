use Rattle.axe_algebra.specs.Bridge.{field_of}
use Rattle.axe_algebra.proofs.Duality.{standard_basis_spans_generated}
use Rattle.axe_algebra.proofs.Isomorphisms.{standard_basis_is_square}
use Rattle.axe_algebra.proofs.standard.standard_basis_spans_generated_space.Goals as goal

pub returns-clause-spans : goal.returns-clause-spans
returns-clause-spans c K = standard_basis_spans_generated (field_of K)

pub returns-clause-square : goal.returns-clause-square
returns-clause-square c K = standard_basis_is_square (field_of K)
