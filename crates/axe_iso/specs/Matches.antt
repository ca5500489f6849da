-- What a module is matched with: the form of another, by the points of the null space of the form's deciding matrix
-- (Parker 1984).
use Rattle.std.specs.Prelude.{ℕ, ◌<◌, List, [], length, get_or, Option, Some, None}
use Rattle.axe_algebra.specs.Standard.{AreStandardMatrices}
use Rattle.axe_algebra.specs.Bridge.{vector_of, module_of}
use Rattle.axe_algebra.specs.ModulesOfLists.{AreIsomorphic}
use Rattle.axe_field.specs.NumberFields.{number_field, gf}
use Rattle.axe_row.specs.Rows.{RowValue}
use Rattle.axe_matrix.specs.Matrices.{MatrixValue, IsMatrix}
use Rattle.axe_spin.specs.Modules.{ModuleValue}
use Rattle.axe_spin.specs.Spinning.{IsStandardMatrix}
use Rattle.axe_spin.specs.SpinLaws.{IsIsomorphismMatrix}
use Rattle.axe_word.specs.PointsOfMatrix.{points_of}
use Rattle.axe_iso.specs.Forms.{FormValue, IsNullSpaceOf}

-- the matrices are the standard matrices of v in the module
abbrev pub HasStandardMatrices : ModuleValue → List ℕ → ModuleValue → Type 0
HasStandardMatrices m v matrices =
    AreStandardMatrices (gf m.order) (module_of (number_field m.order) m.dim m.generators)
    (vector_of (number_field m.order) v) (module_of (number_field m.order) matrices.dim matrices.generators)

-- point number j of the space, as a row
abbrev pub point_row : MatrixValue → ℕ → RowValue
point_row space j = record { order = space.order; entries = get_or (points_of space) j [] }

-- t is the standard basis of the first point, of the null space of the form's deciding matrix in the module, that has
-- the form's matrices as its standard matrices; and it is an isomorphism: invertible, and t g' = g t for each of the
-- module's generators g' and of the form's matrices g
pub record IsFirstMatch (form : FormValue) (m : ModuleValue) (t : MatrixValue) : Type 0 where
  pub well_formed : IsMatrix t
  pub isomorphism : IsIsomorphismMatrix form.matrices m t
  pub space : MatrixValue
  pub is_space : IsNullSpaceOf m form.seed form.word form.poly space
  pub place : ℕ
  pub inside : place < length (points_of space)
  pub standard : IsStandardMatrix m (point_row space place) t
  pub matches : HasStandardMatrices m (point_row space place).entries form.matrices
  pub first : (j : ℕ) → j < place → ¬ (HasStandardMatrices m (point_row space j).entries form.matrices)

-- the answer for a module over the form's field with as many generators: the first match, or none, where the form's
-- matrices are no module isomorphic to it
abbrev pub IsMatch : FormValue → ModuleValue → Option MatrixValue → Type 0
IsMatch form m (Some t) = IsFirstMatch form m t
IsMatch form m None =
    ¬ (AreIsomorphic (number_field form.matrices.order) form.matrices.dim form.matrices.generators m.dim m.generators)
