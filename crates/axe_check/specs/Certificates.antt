-- What certifies a composition series: the report, a basis, and the matrices of each constituent (Parker 1984; Holt and
-- Rees 1994).
use Rattle.std.specs.Prelude.{◌≡◌, ◌⊎◌, ℕ, ◌<◌, List, [], length, map, get_or, slice_get, Option, Some, None}
use Rattle.std.specs.List.{All}
use Rattle.std.specs.declared.alloc.Global.{Global}
use Rattle.std.specs.declared.vec.Vec.{Vec}
use Rattle.axe_algebra.specs.Lists.{listed}
use Rattle.axe_algebra.specs.BlocksOfLists.{IsBlockLowerTriangular}
use Rattle.axe_field.specs.Order.{Order}
use Rattle.axe_field.specs.NumberFields.{number_field}
use Rattle.axe_matrix.specs.Matrices.{MatrixValue}
use Rattle.axe_reduction.specs.Solutions.{IsInvertibleMatrix}
use Rattle.axe_poly.specs.Polys.{PolyValue, poly_with}
use Rattle.axe_spin.specs.Modules.{ModuleValue, rows_of_each}
use Rattle.axe_word.specs.Words.{WordValue}
use Rattle.axe_action.specs.Actions.{IsConjugateModule}
use Rattle.axe_norton.specs.declared.verdicts.At.{At}
use Rattle.axe_norton.specs.declared.verdicts.At.TheVariants.{Left}
use Rattle.axe_norton.specs.OneVector.{FitsWord, SaysByPoly}
use Rattle.axe_norton.specs.Verdicts.{Says, word_of_seed}
use Rattle.axe_series.specs.Series.{IsBlockOf, IsPlaceOf, IsSeries, sizes_of_places}
use Rattle.axe_report.specs.Reports.{FactorValue, ReportValue, WitnessValue, dims}
use Rattle.axe_report.specs.declared.report.ReportHeader.{ReportHeader}

-- a report on a composition series, the module that it is to be one of, the basis, and each constituent's matrices
pub record Certificate : Type 0 where
  pub report : ReportValue
  pub m : ModuleValue
  pub basis : MatrixValue
  pub factors : List (List MatrixValue)

-- the members of each of the lists that the code has
abbrev pub lists_of : List (Vec MatrixValue Global) → List (List MatrixValue)
lists_of lists = map (λ (list : Vec MatrixValue Global). list.items) lists

-- the certificate with lists of matrices as the code has them
abbrev pub certificate : ReportValue → ModuleValue → MatrixValue → List (Vec MatrixValue Global) → Certificate
certificate report m basis factors = record { report = report; m = m; basis = basis; factors = lists_of factors }

-- the report is of a module with this field and dimension, and with as many generators
pub record HasHeader (header : ReportHeader) (m : ModuleValue) : Type 0 where
  pub field : header.field ≡ m.order
  pub dimension : header.dim ≡ m.dim
  pub count : header.gens ≡ length m.generators

-- the rows of the matrix are a basis of the module: it is over the module's field, square of its dimension, and
-- invertible
pub record IsBasisOf (m : ModuleValue) (basis : MatrixValue) : Type 0 where
  pub field : basis.order ≡ m.order
  pub rows : length basis.rows ≡ m.dim
  pub columns : basis.cols ≡ m.dim
  pub invertible : IsInvertibleMatrix basis

-- ---- the constituents' matrices

-- the matrix is over the field of this order, and square of so many rows
pub record IsSquareOfSize (order : Order) (dim : ℕ) (matrix : MatrixValue) : Type 0 where
  pub field : matrix.order ≡ order
  pub rows : length matrix.rows ≡ dim
  pub columns : matrix.cols ≡ dim

-- the matrices are as many as the module's generators, over its field, and square of this dimension
pub record HasShape (m : ModuleValue) (dim : ℕ) (matrices : List MatrixValue) : Type 0 where
  pub count : length matrices ≡ length m.generators
  pub squares : All (IsSquareOfSize m.order dim) matrices

-- the module of this dimension whose generators are these matrices over the field of this order
abbrev pub module_with : Order → ℕ → List MatrixValue → ModuleValue
module_with order dim matrices = record { order = order; dim = dim; generators = rows_of_each matrices }

-- how many constituents there are
abbrev pub factor_count : Certificate → ℕ
factor_count c = length c.factors

-- the dimension that the report gives constituent `number`
abbrev pub dim_of : Certificate → ℕ → ℕ
dim_of c number = get_or (dims c.report.factors) number 0

-- the matrices of constituent `number`
abbrev pub matrices_of : Certificate → ℕ → List MatrixValue
matrices_of c number = get_or c.factors number []

-- constituent `number` as a module
abbrev pub factor_of : Certificate → ℕ → ModuleValue
factor_of c number = module_with c.m.order (dim_of c number) (matrices_of c number)

-- the constituents as modules
abbrev pub factors_of : Certificate → List ModuleValue
factors_of c = listed (factor_count c) (factor_of c)

-- the matrices of constituent `number` have the shape that the report gives them
abbrev pub IsShaped : Certificate → ℕ → Type 0
IsShaped c number = HasShape c.m (dim_of c number) (matrices_of c number)

-- ---- blocks

-- conjugated by the basis the generators of m are block lower triangular with the factors, by their places, on the
-- diagonal
pub record HasBlocks (m : ModuleValue) (basis : MatrixValue) (factors : List ModuleValue) (places : List ℕ) :
    Type 0 where
  pub conjugates : ModuleValue
  pub conjugate : IsConjugateModule m basis conjugates
  pub triangular : All (IsBlockLowerTriangular (number_field m.order) (sizes_of_places factors places))
      conjugates.generators
  pub diagonal : (a number : ℕ) (factor : ModuleValue) → IsPlaceOf places a number →
      slice_get factors number ≡ Some factor → IsBlockOf conjugates (sizes_of_places factors places) a factor

-- conjugated by the certificate's basis the generators are block lower triangular by the report's series, with the
-- constituents' matrices on the diagonal
abbrev pub AreBlocked : Certificate → Type 0
AreBlocked c = HasBlocks c.m c.basis (factors_of c) c.report.series

-- ---- words

-- what a word says of a module where a polynomial may be named beside it: what the polynomial says by the word, where
-- it is irreducible and fits the word's value, and else what the word says (Holt and Rees 1994)
abbrev pub SaysWith : ModuleValue → WordValue → Option PolyValue → At → Type 0
SaysWith m word None answer = Says m word answer
SaysWith m word (Some p) answer =
    (FitsWord m word p × SaysByPoly m word p answer) ⊎ ((¬ (FitsWord m word p)) × Says m word answer)

-- the polynomial with the digits that are named over the field of this order, where there are any
abbrev pub named_poly : Order → Option (List ℕ) → Option PolyValue
named_poly order None = None
named_poly order (Some digits) = Some (poly_with order digits)

-- by what the report says that each constituent was seen to be irreducible
abbrev pub witnesses : List FactorValue → List (Option WitnessValue)
witnesses factors = map (λ (factor : FactorValue). factor.witness) factors

-- what a witness says of a module by the words of a seed
abbrev pub WitnessSays : ModuleValue → ℕ → WitnessValue → At → Type 0
WitnessSays m seed witness answer =
    SaysWith m (word_of_seed m seed witness.word) (named_poly m.order witness.poly) answer

-- it leaves the module open
abbrev pub WitnessLeavesOpen : ModuleValue → ℕ → WitnessValue → Type 0
WitnessLeavesOpen m seed witness = WitnessSays m seed witness Left

-- the report names a word for constituent `number`, and this is what it says of it, with the polynomial if one is named
pub record SaysOfFactor (c : Certificate) (number : ℕ) (answer : At) : Type 0 where
  pub witness : WitnessValue
  pub named : get_or (witnesses c.report.factors) number None ≡ Some witness
  pub says : WitnessSays (factor_of c number) c.report.header.seed witness answer

-- the word that the report names for constituent `number` leaves it open
abbrev pub IsLeftOpen : Certificate → ℕ → Type 0
IsLeftOpen c number = SaysOfFactor c number Left

-- ---- the whole

-- the certificate is right: the report is of the module, the matrices have their shapes, with them and the basis the
-- report's series is a composition series of the module, and no word leaves its constituent open
pub record IsCertified (c : Certificate) : Type 0 where
  pub header : HasHeader c.report.header c.m
  pub shapes : (number : ℕ) → number < factor_count c → IsShaped c number
  pub series : IsSeries c.m c.basis (factors_of c) c.report.series
  pub decided : (number : ℕ) → number < factor_count c → ¬ (IsLeftOpen c number)
