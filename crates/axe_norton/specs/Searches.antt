-- What the steps of the test find: proper spaces that points generate, or none.
use Rattle.std.specs.Prelude.{◌≡◌, ◌≢◌, ℕ, ◌<◌, ◌≤◌, List, [], ◌∷◌, length, get_or, Option, Some, None, ⊤}
use Rattle.axe_algebra.specs.Vectors.{Vector, zero_vector, transposed}
use Rattle.axe_algebra.specs.Spans.{IsNullVector}
use Rattle.axe_algebra.specs.Bridge.{matrix_of}
use Rattle.axe_algebra.specs.Lists.{IsSquareOver}
use Rattle.axe_polynomial_algebra.specs.PolynomialsOfLists.{IsFactorOfDegree, polynomial_number, Fits}
use Rattle.axe_field.specs.Order.{order_number}
use Rattle.axe_field.specs.NumberFields.{number_field, gf}
use Rattle.axe_row.specs.Rows.{RowValue}
use Rattle.axe_matrix.specs.Matrices.{MatrixValue, IsMatrix}
use Rattle.axe_echelon.specs.Echelons.{EchelonValue}
use Rattle.axe_poly.specs.Polys.{PolyValue, coefficients_of}
use Rattle.axe_spin.specs.Modules.{ModuleValue}
use Rattle.axe_spin.specs.Spinning.{IsGeneratedSpace}
use Rattle.axe_action.specs.Actions.{dual_module, IsAnnihilatorMatrix}
use Rattle.axe_word.specs.declared.tested.Tested.{Tested}
use Rattle.axe_word.specs.Tested.{IsTested, IsTestedAt, IsTestedBy, IsTestedByPoly}
use Rattle.axe_word.specs.Words.{WordValue, IsWordIn, IsValueOf}
use Rattle.axe_word.specs.PointsOfMatrix.{IsReduced}
use Rattle.axe_norton.specs.declared.factors.Fitted.{Fitted}
use Rattle.axe_norton.specs.declared.spaces.Tried
use Rattle.axe_norton.specs.declared.value_spaces.ValueSpaces.{ValueSpaces}
use Rattle.axe_norton.specs.declared.verdicts.At.{At}
use Rattle.axe_norton.specs.declared.verdicts.At.TheVariants.{Irreducible, Reducible, Left}
use Rattle.axe_norton.specs.Spaces.{HasFewPoints, GeneratesModule, GeneratesProper, TriedGenerate, IsFirstProperSpace}
use Rattle.axe_norton.specs.Spaces.{point_of, TransposedPoint}
use Rattle.axe_norton.specs.SmallFactors.{IsFirstFitting, NoneFits}
use Rattle.axe_norton.specs.OneVector.{FitsWord, TellsByOne}
use Rattle.axe_norton.specs.ValueSpaces.{AreSpacesOf, AreSpacesAt, FitsWithSpaces}
use Rattle.axe_norton.specs.Verdicts.{TellsByPoints}

-- the matrix has as rows the reduced basis of a space of vectors of the module
pub record IsReducedIn (m : ModuleValue) (basis : MatrixValue) : Type 0 where
  pub field : basis.order ≡ m.order
  pub columns : basis.cols ≡ m.dim
  pub reduced : IsReduced basis

-- the matrix is square over the module's field, with as many rows as its dimension
pub record IsSquareIn (m : ModuleValue) (matrix : MatrixValue) : Type 0 where
  pub field : matrix.order ≡ m.order
  pub columns : matrix.cols ≡ m.dim
  pub square : IsSquareOver (number_field m.order) m.dim matrix.rows

-- whether a vector generates a proper space: nothing where it generates everything, and else the space
abbrev pub FindsProper : ModuleValue → List ℕ → Option MatrixValue → Type 0
FindsProper m v None = GeneratesModule m v
FindsProper m v (Some space) = GeneratesProper m v space

-- the vector generates a proper space, and this is an echelon form of it
pub record IsProperSpaceOf (m : ModuleValue) (v : List ℕ) (space : EchelonValue) : Type 0 where
  pub generated : IsGeneratedSpace m (v ∷ []) space
  pub proper : ¬ (GeneratesModule m v)

-- the same question, answered by an echelon form of the space
abbrev pub FindsProperSpace : ModuleValue → List ℕ → Option EchelonValue → Type 0
FindsProperSpace m v None = GeneratesModule m v
FindsProperSpace m v (Some space) = IsProperSpaceOf m v space

-- the space is what the first of the vectors that generates a proper space generates
pub record IsFirstProperOf (m : ModuleValue) (vectors : List (List ℕ)) (space : MatrixValue) : Type 0 where
  pub number : ℕ
  pub below : number < length vectors
  pub before : (i : ℕ) → i < number → GeneratesModule m (get_or vectors i [])
  pub proper : GeneratesProper m (get_or vectors number []) space

-- whether one of the vectors generates a proper space: nothing where each generates everything
abbrev pub FindsFirstOf : ModuleValue → List (List ℕ) → Option MatrixValue → Type 0
FindsFirstOf m vectors None = (i : ℕ) → i < length vectors → GeneratesModule m (get_or vectors i [])
FindsFirstOf m vectors (Some space) = IsFirstProperOf m vectors space

-- whether a tried point of a space does
abbrev pub FindsFirst : ModuleValue → MatrixValue → Option MatrixValue → Type 0
FindsFirst m basis None = TriedGenerate m basis
FindsFirst m basis (Some space) = IsFirstProperSpace m basis space

-- something other than zero is orthogonal to the rows: a null vector of their transpose
pub record HasOrthogonalVector (rows : MatrixValue) : Type 0 where
  pub vector : Vector (gf rows.order)
  pub nonzero : vector ≢ zero_vector (gf rows.order)
  pub orthogonal : IsNullVector (gf rows.order) rows.cols
      (transposed (gf rows.order) (matrix_of (number_field rows.order) rows.rows)) vector

-- the row is the first point of the null space of the transpose of a matrix; there is one where it is singular
pub record IsTransposedPointRow (matrix : MatrixValue) (v : RowValue) : Type 0 where
  pub point : TransposedPoint matrix
  pub field : v.order ≡ matrix.order
  pub first : v.entries ≡ point_of point.null_space 0

-- what came of trying the points of the null space of a matrix: what the first that generates a proper space generates,
-- or, where each tried point generates everything, the first point of the null space of the transpose
abbrev pub FindsTried : ModuleValue → MatrixValue → MatrixValue → Tried.Tried → Type 0
FindsTried m matrix null_space (Tried.TheVariants.Proper space) = FindsFirst m null_space (Some space)
FindsTried m matrix null_space (Tried.TheVariants.Generate v) =
    FindsFirst m null_space None × IsTransposedPointRow matrix v

-- the vector generates a proper space under the transposes, and this is the annihilator of that space
pub record IsAnnihilatorOf (m : ModuleValue) (v : List ℕ) (space : MatrixValue) : Type 0 where
  pub generated : MatrixValue
  pub proper : GeneratesProper (dual_module m) v generated
  pub annihilator : IsAnnihilatorMatrix generated space
  pub well_formed : IsMatrix space

-- whether a vector generates a proper space under the transposes: nothing where it generates everything, and else the
-- annihilator of that space
abbrev pub FindsTransposed : ModuleValue → List ℕ → Option MatrixValue → Type 0
FindsTransposed m v None = GeneratesModule (dual_module m) v
FindsTransposed m v (Some space) = IsAnnihilatorOf m v space

-- the transposed module, where it is kept
abbrev pub IsKeptTranspose : ModuleValue → Option ModuleValue → Type 0
IsKeptTranspose m None = ⊤
IsKeptTranspose m (Some transposed) = transposed ≡ dual_module m

-- the matrix, with its null space, is the value of a word of the module
pub record IsTestedWord (m : ModuleValue) (t : Tested) : Type 0 where
  pub word : WordValue
  pub is_word : IsWordIn m word
  pub is_tested : IsTestedBy m word t

-- the matrix is the value of a word of the module
pub record IsValueOfWord (m : ModuleValue) (matrix : MatrixValue) : Type 0 where
  pub word : WordValue
  pub is_word : IsWordIn m word
  pub is_value : IsValueOf m word matrix

-- the row is the first point of the null space of the value of a word, which has more than few points
pub record IsFirstOfMany (m : ModuleValue) (matrix : MatrixValue) (point : RowValue) : Type 0 where
  pub null_space : MatrixValue
  pub value : IsTestedWord m (record { matrix = matrix; null_space = null_space })
  pub some_row : 0 < length null_space.rows
  pub many : ¬ (HasFewPoints null_space)
  pub first : point ≡ record { order = null_space.order; entries = point_of null_space 0 }

-- the points of the null space of the matrix, and of its transpose's, tell this of the module
pub record TellsByNullSpace (m : ModuleValue) (matrix : MatrixValue) (answer : At) : Type 0 where
  pub null_space : MatrixValue
  pub is_tested : IsTested (record { matrix = matrix; null_space = null_space })
  pub tells : TellsByPoints m matrix null_space answer

-- ---- the first small factor that fits a square matrix

-- the spaces are those of a singular matrix, which is square over the module's field
pub record AreSingularSpaces (m : ModuleValue) (t : Tested) (spaces : ValueSpaces) : Type 0 where
  pub square : IsSquareIn m t.matrix
  pub tested : IsTested t
  pub some_row : 0 < length t.null_space.rows
  pub of_tested : AreSpacesOf t spaces

-- whether p fits the square matrix x: the spaces of p(x) where it does
abbrev pub FindsFits : MatrixValue → PolyValue → Option ValueSpaces → Type 0
FindsFits x p None = ¬ (Fits (number_field x.order) x.rows p.coefficients)
FindsFits x p (Some spaces) = FitsWithSpaces x p spaces

-- whether p is irreducible and fits the value x of a word: p(x) with its null space where it does
abbrev pub FindsFitsWord : ModuleValue → WordValue → PolyValue → Option Tested → Type 0
FindsFitsWord m word p None = ¬ (FitsWord m word p)
FindsFitsWord m word p (Some t) = FitsWord m word p × IsTestedByPoly m word p t

-- the first of some polynomials that fits x
pub record IsFirstIn (x : MatrixValue) (polys : List PolyValue) (found : Fitted) : Type 0 where
  pub number : ℕ
  pub below : number < length polys
  pub before : (i : ℕ) → i < number → ¬ (Fits (number_field x.order) x.rows (get_or (coefficients_of polys) i []))
  pub is : found.poly.coefficients ≡ get_or (coefficients_of polys) number []
  pub field : found.poly.order ≡ x.order
  pub fits : Fits (number_field x.order) x.rows found.poly.coefficients
  pub spaces : AreSpacesAt x found.poly found.spaces

-- whether one of them does
abbrev pub FindsFittingIn : MatrixValue → List PolyValue → Option Fitted → Type 0
FindsFittingIn x polys None =
    (i : ℕ) → i < length polys → ¬ (Fits (number_field x.order) x.rows (get_or (coefficients_of polys) i []))
FindsFittingIn x polys (Some found) = IsFirstIn x polys found

-- p is an irreducible divisor of f, of degree d, and fits x
pub record IsFittingOfDegree (x : MatrixValue) (f : PolyValue) (d : ℕ) (p : List ℕ) : Type 0 where
  pub factor : IsFactorOfDegree (number_field x.order) f.coefficients d p
  pub fits : Fits (number_field x.order) x.rows p

-- the first of these, by their coefficients read as a number
pub record IsFirstOfDegree (x : MatrixValue) (f : PolyValue) (d : ℕ) (found : Fitted) : Type 0 where
  pub field : found.poly.order ≡ x.order
  pub fitting : IsFittingOfDegree x f d found.poly.coefficients
  pub first : (other : List ℕ) → IsFittingOfDegree x f d other →
      polynomial_number (order_number x.order) found.poly.coefficients ≤ polynomial_number (order_number x.order) other
  pub spaces : AreSpacesAt x found.poly found.spaces

-- whether there is one
abbrev pub FindsFittingOf : MatrixValue → PolyValue → ℕ → Option Fitted → Type 0
FindsFittingOf x f d None = (p : List ℕ) → ¬ (IsFittingOfDegree x f d p)
FindsFittingOf x f d (Some found) = IsFirstOfDegree x f d found

-- the first small factor that fits x, if one does
abbrev pub FindsFitting : MatrixValue → Option Fitted → Type 0
FindsFitting x None = NoneFits x
FindsFitting x (Some found) = IsFirstFitting x found.poly × AreSpacesAt x found.poly found.spaces

-- the first small factor that fits x tells this of the module by one vector
pub record IsToldByFirst (m : ModuleValue) (x : MatrixValue) (answer : At) : Type 0 where
  pub poly : PolyValue
  pub first : IsFirstFitting x poly
  pub tested : Tested
  pub is_tested : IsTestedAt poly x tested
  pub tells : TellsByOne m poly tested.matrix tested.null_space answer

-- what it tells, or that none fits
abbrev pub TellsByFirst : ModuleValue → MatrixValue → At → Type 0
TellsByFirst m x Left = NoneFits x
TellsByFirst m x (Irreducible p v) = IsToldByFirst m x (Irreducible p v)
TellsByFirst m x (Reducible space) = IsToldByFirst m x (Reducible space)
