-- What a polynomial at the value of a word says of a module: the one-vector rule (Holt and Rees 1994).
use Rattle.std.specs.Prelude.{◌≡◌, ◌<◌, ◌⊎◌, length, Option, Some, None}
use Rattle.axe_polynomial_algebra.specs.PolynomialsOfLists.{IsIrreduciblePolynomial, Fits}
use Rattle.axe_field.specs.NumberFields.{number_field}
use Rattle.axe_row.specs.Rows.{RowValue}
use Rattle.axe_matrix.specs.Matrices.{MatrixValue}
use Rattle.axe_poly.specs.Polys.{PolyValue}
use Rattle.axe_spin.specs.Modules.{ModuleValue}
use Rattle.axe_word.specs.declared.tested.Tested.{Tested}
use Rattle.axe_word.specs.Tested.{IsTestedByPoly}
use Rattle.axe_word.specs.Words.{WordValue, IsValueOf}
use Rattle.axe_word.specs.PointsOfMatrix.{points_of}
use Rattle.axe_norton.specs.declared.verdicts.At.{At}
use Rattle.axe_norton.specs.declared.verdicts.At.TheVariants.{Irreducible, Reducible, Left}
use Rattle.axe_norton.specs.Spaces.{GeneratesModule, GeneratesProper, point_of, TransposeGenerates, IsTransposedSpace}

-- p is irreducible, and fits the word's value x on the module: its degree is the dimension of the null space of p(x)
pub record FitsWord (m : ModuleValue) (word : WordValue) (p : PolyValue) : Type 0 where
  pub field : p.order ≡ m.order
  pub irreducible : IsIrreduciblePolynomial (number_field m.order) p.coefficients
  pub fits : (x : MatrixValue) → IsValueOf m word x → Fits (number_field m.order) x.rows p.coefficients

-- the first point v of the null space generates everything, and so does the first point of the null space of the
-- transpose under the transposes
pub record ShowsIrreducibleByOne (m : ModuleValue) (matrix null_space : MatrixValue) (v : RowValue) : Type 0 where
  pub some_point : 0 < length (points_of null_space)
  pub field : v.order ≡ m.order
  pub first : v.entries ≡ point_of null_space 0
  pub generates : GeneratesModule m (point_of null_space 0)
  pub transpose : TransposeGenerates m matrix

-- `space` is what the first point of the null space generates, which is proper; or that is everything, and `space` is
-- the annihilator of what the first point of the null space of the transpose generates under the transposes, which is
-- proper
abbrev pub ShowsReducibleByOne : ModuleValue → MatrixValue → MatrixValue → MatrixValue → Type 0
ShowsReducibleByOne m matrix null_space space =
    GeneratesProper m (point_of null_space 0) space ⊎
    (GeneratesModule m (point_of null_space 0) × IsTransposedSpace m matrix space)

-- what the tested matrix p(x), with its null space, tells of the module by one vector: that p shows it to be irreducible,
-- or a submodule; it never leaves it open
abbrev pub TellsByOne : ModuleValue → PolyValue → MatrixValue → MatrixValue → At → Type 0
TellsByOne m p matrix null_space (Irreducible (Some by) v) = (by ≡ p) × ShowsIrreducibleByOne m matrix null_space v
TellsByOne m p matrix null_space (Irreducible None v) = ⊥
TellsByOne m p matrix null_space (Reducible space) = ShowsReducibleByOne m matrix null_space space
TellsByOne m p matrix null_space Left = ⊥

-- what p says of a module by a word: what p(x) tells, where x is the word's value
pub record SaysByPoly (m : ModuleValue) (word : WordValue) (p : PolyValue) (answer : At) : Type 0 where
  pub tested : Tested
  pub is_tested : IsTestedByPoly m word p tested
  pub tells : TellsByOne m p tested.matrix tested.null_space answer

-- what p says of a module by a word where it fits the word's value; nothing exactly where it doesn't
abbrev pub SaysWhereFits : ModuleValue → WordValue → PolyValue → Option At → Type 0
SaysWhereFits m word p None = ¬ (FitsWord m word p)
SaysWhereFits m word p (Some answer) = FitsWord m word p × SaysByPoly m word p answer
