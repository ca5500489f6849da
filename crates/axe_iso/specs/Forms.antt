-- Standard forms of modules: the standard matrices of a null vector of a word's value (Parker 1984).
use Rattle.std.specs.Prelude.{◌≡◌, ℕ, ◌≤◌, List, length, Option, Some, None}
use Rattle.axe_algebra.specs.Vectors.{Matrix, unit_vector}
use Rattle.axe_algebra.specs.Spans.{IsIndependent, IsNullVector, IsInvertible}
use Rattle.axe_algebra.specs.Standard.{AreStandardMatrices}
use Rattle.axe_algebra.specs.Words.{word_value}
use Rattle.axe_algebra.specs.NortonTheorems.{SpansNullSpace}
use Rattle.axe_algebra.specs.Bridge.{vector_of, matrix_of, module_of, word_of}
use Rattle.axe_polynomial_algebra.specs.PolynomialValues.{polynomial_value, Fits}
use Rattle.axe_polynomial_algebra.specs.PolynomialsOfLists.{degree_of, IsIrreduciblePolynomial}
use Rattle.axe_field.specs.Order.{Order, order_number}
use Rattle.axe_field.specs.NumberFields.{number_field, gf}
use Rattle.axe_row.specs.Rows.{RowValue}
use Rattle.axe_matrix.specs.Matrices.{MatrixValue, IsMatrix}
use Rattle.axe_poly.specs.Limits.{greatest_degree}
use Rattle.axe_poly.specs.Polys.{PolyValue}
use Rattle.axe_spin.specs.Modules.{ModuleValue, IsModule}
use Rattle.axe_spin.specs.Spinning.{IsStandardMatrix}
use Rattle.axe_action.specs.Actions.{IsBasisAction}
use Rattle.axe_word.specs.declared.tested.Tested.{Tested}
use Rattle.axe_word.specs.Tested.{IsTestedBy, IsTestedByPoly}
use Rattle.axe_word.specs.Words.{WordValue}
use Rattle.axe_word.specs.Drawing.{drawn_word}
use Rattle.axe_word.specs.PointsOfMatrix.{point_count, most_points}

-- a standard form: the standard matrices, the standard basis that they came from, the number of the word and its seed,
-- and the polynomial that decided by it, where one did
pub record FormValue : Type 0 where
  pub matrices : ModuleValue
  pub basis : MatrixValue
  pub word : ℕ
  pub poly : Option PolyValue
  pub seed : ℕ

-- ---- the null space of a square matrix of a dimension over the field of an order

-- it is the span of so many independent rows
pub record HasNullity (o : Order) (dim : ℕ) (x : Matrix (gf o)) (nullity : ℕ) : Type 0 where
  pub basis : Matrix (gf o)
  pub spans : SpansNullSpace (gf o) dim x nullity basis
  pub independent : IsIndependent (gf o) nullity basis

-- it has few points
pub record HasFewNullPoints (o : Order) (dim : ℕ) (x : Matrix (gf o)) : Type 0 where
  pub nullity : ℕ
  pub is_nullity : HasNullity o dim x nullity
  pub few : point_count (order_number o) nullity ≤ most_points

-- p is irreducible, of no more than the greatest degree, and fits x: its degree is the dimension of the null space of
-- p(x) (Holt and Rees 1994)
pub record FitsMatrix (o : Order) (dim : ℕ) (x : Matrix (gf o)) (p : PolyValue) : Type 0 where
  pub field : p.order ≡ o
  pub irreducible : IsIrreduciblePolynomial (number_field o) p.coefficients
  pub small : degree_of p.coefficients ≤ greatest_degree o
  pub fits : Fits (gf o) dim x (degree_of p.coefficients) (vector_of (number_field o) p.coefficients)

-- ---- the value of a word of a seed, in generators of a dimension over the field of an order

-- the value of the word that a seed draws by this number (Parker 1984)
abbrev pub drawn_value : (o : Order) → ℕ → List (List (List ℕ)) → ℕ → ℕ → Matrix (gf o)
drawn_value o dim generators seed number =
    word_value (gf o) (module_of (number_field o) dim generators)
    (word_of (number_field o) (drawn_word seed number (order_number o) (length generators)))

-- the deciding matrix: that value x, or p(x) where a polynomial p decided by the word
abbrev pub deciding_matrix : (o : Order) → ℕ → List (List (List ℕ)) → ℕ → ℕ → Option PolyValue → Matrix (gf o)
deciding_matrix o dim generators seed number None = drawn_value o dim generators seed number
deciding_matrix o dim generators seed number (Some p) =
    polynomial_value (gf o) dim (length p.coefficients) (vector_of (number_field o) p.coefficients)
    (drawn_value o dim generators seed number)

-- its null space is small: it has few points; or p is irreducible, of no more than the greatest degree, and fits x
abbrev pub HasSmallNullSpace : (o : Order) → ℕ → List (List (List ℕ)) → ℕ → ℕ → Option PolyValue → Type 0
HasSmallNullSpace o dim generators seed number None =
    HasFewNullPoints o dim (drawn_value o dim generators seed number)
HasSmallNullSpace o dim generators seed number (Some p) =
    FitsMatrix o dim (drawn_value o dim generators seed number) p

-- that of a module
abbrev pub HasSmallNullSpaceOf : ModuleValue → ℕ → ℕ → Option PolyValue → Type 0
HasSmallNullSpaceOf m seed number poly = HasSmallNullSpace m.order m.dim m.generators seed number poly

-- v is a null vector of the deciding matrix
abbrev pub IsNullVectorOf : ModuleValue → ℕ → ℕ → Option PolyValue → List ℕ → Type 0
IsNullVectorOf m seed number poly v =
    IsNullVector (gf m.order) m.dim (deciding_matrix m.order m.dim m.generators seed number poly)
    (vector_of (number_field m.order) v)

-- the deciding matrix of a word, and the reduced basis of its null space
abbrev pub IsTestedWith : ModuleValue → WordValue → Option PolyValue → Tested → Type 0
IsTestedWith m word None t = IsTestedBy m word t
IsTestedWith m word (Some p) t = IsTestedByPoly m word p t

-- the matrix has as its rows the reduced basis of the null space of the deciding matrix
pub record IsNullSpaceOf (m : ModuleValue) (seed number : ℕ) (poly : Option PolyValue) (space : MatrixValue) :
    Type 0 where
  pub matrix : MatrixValue
  pub is_tested : IsTestedWith m (drawn_word seed number (order_number m.order) (length m.generators)) poly
      (record { matrix = matrix; null_space = space })

-- ---- forms

-- the generators are the standard matrices of the first unit vector, which is a null vector of the deciding matrix, and
-- the null space of that is small
pub record IsFormOver (o : Order) (dim : ℕ) (generators : List (List (List ℕ))) (seed number : ℕ)
    (poly : Option PolyValue) : Type 0 where
  pub standard : AreStandardMatrices (gf o) (module_of (number_field o) dim generators) (unit_vector (gf o) 0)
      (module_of (number_field o) dim generators)
  pub null : IsNullVector (gf o) dim (deciding_matrix o dim generators seed number poly) (unit_vector (gf o) 0)
  pub small : HasSmallNullSpace o dim generators seed number poly

-- a standard form: its matrices make a module, and are standard ones over the word, and the polynomial, that it names
pub record IsForm (form : FormValue) : Type 0 where
  pub well_formed : IsModule form.matrices
  pub over : IsFormOver form.matrices.order form.matrices.dim form.matrices.generators form.seed form.word form.poly

-- the form of the module from v: the basis is the standard basis of v, and invertible, and the matrices are the action
-- on it; there is no more than one such form (Parker 1984)
pub record IsFormFrom (m : ModuleValue) (seed number : ℕ) (poly : Option PolyValue) (v : RowValue) (form : FormValue) :
    Type 0 where
  pub standard : IsStandardMatrix m v form.basis
  pub well_formed : IsMatrix form.basis
  pub square : length form.basis.rows ≡ m.dim
  pub invertible : IsInvertible (gf m.order) m.dim (matrix_of (number_field m.order) form.basis.rows)
  pub acts : IsBasisAction m form.basis form.matrices
  pub matrices_well_formed : IsModule form.matrices
  pub word_is : form.word ≡ number
  pub poly_is : form.poly ≡ poly
  pub seed_is : form.seed ≡ seed
