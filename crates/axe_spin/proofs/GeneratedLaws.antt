-- The reduced basis of the space that a seed generates.
use Rattle.axe_algebra.specs.SpansOfLists.{IsReducedBasis}
use Rattle.axe_algebra.proofs.ListGenerated.{generated_basis}
use Rattle.axe_field.specs.NumberFields.{number_field}
use Rattle.axe_matrix.specs.Matrices.{MatrixValue}
use Rattle.axe_echelon.specs.Echelons.{EchelonValue, IsReducedMatrix}
use Rattle.axe_spin.specs.Modules.{ModuleValue}
use Rattle.axe_spin.specs.Spinning.{IsGeneratedSpace, IsGeneratedMatrix}
use Rattle.axe_spin.proofs.SpaceLaws.{space_over}
use mathlib.Core.Path.{◌∙◌, subst}

-- the reduced basis of the space that a seed generates
pub generated_matrix : (m : ModuleValue) (seed basis : MatrixValue) (space : EchelonValue) → IsGeneratedSpace m seed.rows space → IsReducedMatrix space basis →
    IsGeneratedMatrix m seed basis
generated_matrix m seed basis space is reduced = record {
  field = reduced.field ∙ is.field;
  columns = reduced.columns ∙ is.columns;
  basis_of_generated = generated_basis (number_field m.order) m.dim m.generators seed.rows space.rows basis.rows
      (space_over m space is.field is.columns is.well_formed) is.generated
      (subst (λ o. IsReducedBasis (number_field o) space.rows basis.rows) is.field reduced.basis);
}
