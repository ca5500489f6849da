-- Matrices that are tested, each with its null space (Parker 1984).
use Rattle.axe_matrix.specs.Matrices.{MatrixValue, IsMatrix}
use Rattle.axe_echelon.specs.Echelons.{IsNullSpaceMatrix}
use Rattle.axe_poly.specs.Polys.{PolyValue, IsValueAt}
use Rattle.axe_spin.specs.Modules.{ModuleValue}
use Rattle.axe_word.specs.declared.tested.Tested.{Tested}
use Rattle.axe_word.specs.Words.{WordValue, IsValueOf}

-- the matrix, and the reduced basis of its null space
pub record IsTested (t : Tested) : Type 0 where
  pub null_space : IsNullSpaceMatrix t.matrix t.null_space
  pub well_formed : IsMatrix t.null_space

-- the value of the word on the module, and the reduced basis of its null space
pub record IsTestedBy (m : ModuleValue) (word : WordValue) (t : Tested) : Type 0 where
  pub value : IsValueOf m word t.matrix
  pub tested : IsTested t

-- the value p(x) of a polynomial p at the square matrix x, and the reduced basis of its null space
pub record IsTestedAt (p : PolyValue) (x : MatrixValue) (t : Tested) : Type 0 where
  pub value : IsValueAt p.coefficients x t.matrix
  pub tested : IsTested t

-- that at the word's value x on the module (Holt and Rees 1994)
pub record IsTestedByPoly (m : ModuleValue) (word : WordValue) (p : PolyValue) (t : Tested) : Type 0 where
  pub argument : MatrixValue
  pub is_value : IsValueOf m word argument
  pub tested_at : IsTestedAt p argument t
