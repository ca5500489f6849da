-- How the steps of a check end, and what they find.
use Rattle.std.specs.Prelude.{◌≡◌, ◌⊎◌, ◌+◌, ⊤, ℕ, ◌<◌, ◌≤◌, List, [], length, get_or, slice_get}
use Rattle.std.specs.Prelude.{Option, Some, None, Result, Ok, Err, String, string_bytes}
use Rattle.std.specs.declared.alloc.Global.{Global}
use Rattle.axe_algebra.specs.Blocks.{block_start}
use Rattle.axe_algebra.specs.Lists.{entry, listed}
use Rattle.axe_polynomial_algebra.specs.PolynomialsOfLists.{degree_of}
use Rattle.axe_field.specs.Order.{Order}
use Rattle.axe_row.specs.Rows.{RowValue}
use Rattle.axe_matrix.specs.Matrices.{MatrixValue}
use Rattle.axe_poly.specs.Limits.{greatest_degree}
use Rattle.axe_poly.specs.Polys.{PolyValue, IsPoly, poly_with}
use Rattle.axe_spin.specs.Modules.{ModuleValue, generator_of}
use Rattle.axe_norton.specs.declared.verdicts.At.TheVariants.{Left}
use Rattle.axe_norton.specs.Spaces.{IsIrreducibleModule}
use Rattle.axe_norton.specs.Verdicts.{last_word}
use Rattle.axe_iso.specs.Forms.{FormValue, IsForm, IsFormFrom}
use Rattle.axe_series.specs.Series.{IsIsomorphicTo, IsPlaceOf, sizes_of_places}
use Rattle.axe_report.specs.Reports.{FactorValue, WitnessValue, names, dims}
use Rattle.axe_report.specs.declared.report.ReportHeader.{ReportHeader}
use Rattle.axe_check.specs.Certificates.{HasHeader, IsBasisOf, HasShape, module_with, witnesses, WitnessSays}
use Rattle.axe_report.specs.declared.reasons.Reason.{Reason}
use Rattle.axe_report.specs.declared.reasons.Reason.TheVariants.{Header, Basis, Shape, Blocks, Open, Reducible, Same}
use Rattle.axe_check.specs.declared.reasons.Stop.{Stop}
use Rattle.axe_check.specs.declared.reasons.Stop.TheVariants.{Because, Memory}

-- a step passes with a value that has the property P, or stops for a reason with the property Q, or for want of memory
abbrev pub Passes : {T : Type 0} → (T → Type 0) → (Reason → Type 0) → Result T Stop → Type 0
Passes P Q (Ok value) = P value
Passes P Q (Err (Because reason)) = Q reason
Passes P Q (Err Memory) = ⊤

-- the bytes are the name of the constituent of this number
abbrev pub IsNameAt : List FactorValue → ℕ → String Global → Type 0
IsNameAt reported number name = string_bytes name ≡ get_or (names reported) number []

-- ---- the header and the basis

-- the reason is the header, which is not that of the module
abbrev pub IsHeaderReason : ReportHeader → ModuleValue → Reason → Type 0
IsHeaderReason header m reason = (reason ≡ Header) × (¬ (HasHeader header m))

-- the reason is the basis, which is none of the module
abbrev pub IsBasisReason : ModuleValue → MatrixValue → Reason → Type 0
IsBasisReason m basis reason = (reason ≡ Basis) × (¬ (IsBasisOf m basis))

-- ---- shapes

-- the matrices have their shape, and make this module
pub record IsShapedAs (m : ModuleValue) (dim : ℕ) (matrices : List MatrixValue) (made : ModuleValue) : Type 0 where
  pub shape : HasShape m dim matrices
  pub is : made ≡ module_with m.order dim matrices

-- the reason is the shape of this constituent's matrices, which is another
pub record IsShapeReason (m : ModuleValue) (reported : FactorValue) (matrices : List MatrixValue) (reason : Reason) :
    Type 0 where
  pub name : String Global
  pub is : reason ≡ Shape name
  pub named : string_bytes name ≡ reported.name
  pub wrong : ¬ (HasShape m reported.dim matrices)

-- the matrices of the constituent of a number have the shape that is reported
abbrev pub HasShapeAt : ModuleValue → List FactorValue → List (List MatrixValue) → ℕ → Type 0
HasShapeAt m reported lists number = HasShape m (get_or (dims reported) number 0) (get_or lists number [])

-- the first so many constituents have their shapes, and make these modules
pub record AreShapedTo (m : ModuleValue) (reported : List FactorValue) (lists : List (List MatrixValue)) (count : ℕ)
    (modules : List ModuleValue) : Type 0 where
  pub shapes : (number : ℕ) → number < count → HasShapeAt m reported lists number
  pub are : modules ≡ listed count (λ number.
      module_with m.order (get_or (dims reported) number 0) (get_or lists number []))

-- all of them
abbrev pub AreShapedAs : ModuleValue → List FactorValue → List (List MatrixValue) → List ModuleValue → Type 0
AreShapedAs m reported lists modules = AreShapedTo m reported lists (length lists) modules

-- the reason is the shape of the first that has it not
pub record IsFirstShapeReason (m : ModuleValue) (reported : List FactorValue) (lists : List (List MatrixValue))
    (reason : Reason) : Type 0 where
  pub name : String Global
  pub is : reason ≡ Shape name
  pub number : ℕ
  pub below : number < length lists
  pub named : IsNameAt reported number name
  pub earlier : (i : ℕ) → i < number → HasShapeAt m reported lists i
  pub wrong : ¬ (HasShapeAt m reported lists number)

-- ---- blocks

-- the factor is over the module's field, and has as many generators
pub record IsLikeModule (m factor : ModuleValue) : Type 0 where
  pub field : factor.order ≡ m.order
  pub count : length factor.generators ≡ length m.generators

-- so many rows of a matrix from row `start` on have zeros from column `start + size` on
abbrev pub HasZerosAt : MatrixValue → ℕ → ℕ → Type 0
HasZerosAt matrix start size = (i j : ℕ) → i < size → start + size ≤ j → j < matrix.cols →
    entry matrix.rows (start + i) j ≡ 0

-- the rows of a matrix from row `start` on have the block's entries from column `start` on, and zeros after these
pub record HasBlockAt (matrix : MatrixValue) (start : ℕ) (block : MatrixValue) : Type 0 where
  pub entries : (i j : ℕ) → i < length block.rows → j < length block.rows →
      entry matrix.rows (start + i) (start + j) ≡ entry block.rows i j
  pub zeros : HasZerosAt matrix start (length block.rows)

-- each generator of m has the factor's there
abbrev pub HasBlocksAt : ModuleValue → ℕ → ModuleValue → Type 0
HasBlocksAt m start factor =
    (i : ℕ) → i < length m.generators → HasBlockAt (generator_of m i) start (generator_of factor i)

-- they have those of all factors by their places, one after the other
abbrev pub HasAllBlocks : ModuleValue → List ModuleValue → List ℕ → Type 0
HasAllBlocks m factors places = (a number : ℕ) (factor : ModuleValue) → IsPlaceOf places a number →
    slice_get factors number ≡ Some factor → HasBlocksAt m (block_start (sizes_of_places factors places) a) factor

-- the reason is the blocks, which they have not
abbrev pub IsBlockReason : ModuleValue → List ModuleValue → List ℕ → Reason → Type 0
IsBlockReason m factors places reason = (reason ≡ Blocks) × (¬ (HasAllBlocks m factors places))

-- ---- words

-- the polynomial is monic, and of no more than the greatest degree
pub record IsSmallPoly (p : PolyValue) : Type 0 where
  pub is_poly : IsPoly p
  pub small : degree_of p.coefficients ≤ greatest_degree p.order

-- where digits are named they are those of such a polynomial over the field of this order
abbrev pub AreDigitsOver : Order → Option (List ℕ) → Type 0
AreDigitsOver order None = ⊤
AreDigitsOver order (Some digits) = IsSmallPoly (poly_with order digits)

-- there is a witness, over the field of this order, and its word is one that may be tried
pub record IsWitnessOver (order : Order) (witness : Option WitnessValue) : Type 0 where
  pub value : WitnessValue
  pub is : witness ≡ Some value
  pub word : value.word ≤ last_word
  pub digits : AreDigitsOver order value.poly

-- the witness leaves the module open
abbrev pub LeavesOpenBy : ModuleValue → ℕ → Option WitnessValue → Type 0
LeavesOpenBy m seed witness = (value : WitnessValue) × (witness ≡ Some value) × WitnessSays m seed value Left

-- it does not, and the module is irreducible
pub record IsSeenBy (m : ModuleValue) (seed : ℕ) (witness : Option WitnessValue) : Type 0 where
  pub decided : ¬ (LeavesOpenBy m seed witness)
  pub irreducible : IsIrreducibleModule m

-- the form is one of the module
pub record IsFormOf (m : ModuleValue) (form : FormValue) : Type 0 where
  pub poly : Option PolyValue
  pub vector : RowValue
  pub is_form : IsForm form
  pub from : IsFormFrom m form.seed form.word poly vector form

-- the reason is that the witness of this constituent leaves it open
pub record IsOpenReason (m : ModuleValue) (seed : ℕ) (reported : FactorValue) (reason : Reason) : Type 0 where
  pub name : String Global
  pub is : reason ≡ Open name
  pub named : string_bytes name ≡ reported.name
  pub wrong : LeavesOpenBy m seed reported.witness

-- the reason is that it does not, and that this constituent is reducible
pub record IsReducibleReason (m : ModuleValue) (seed : ℕ) (reported : FactorValue) (reason : Reason) : Type 0 where
  pub name : String Global
  pub is : reason ≡ Reducible name
  pub named : string_bytes name ≡ reported.name
  pub decided : ¬ (LeavesOpenBy m seed reported.witness)
  pub wrong : ¬ (IsIrreducibleModule m)

-- one of the two
abbrev pub IsUnseenReason : ModuleValue → ℕ → FactorValue → Reason → Type 0
IsUnseenReason m seed reported reason = IsOpenReason m seed reported reason ⊎ IsReducibleReason m seed reported reason

-- the first so many factors are seen to be irreducible by their witnesses
abbrev pub AreSeenTo : List ModuleValue → ℕ → List FactorValue → ℕ → Type 0
AreSeenTo factors seed reported count = (i : ℕ) (d : ModuleValue) → i < count →
    IsSeenBy (get_or factors i d) seed (get_or (witnesses reported) i None)

-- the forms are those of the first factors
pub record AreFormsOf (factors : List ModuleValue) (forms : List FormValue) : Type 0 where
  pub no_more : length forms ≤ length factors
  pub each : (i : ℕ) (d : ModuleValue) (e : FormValue) → i < length forms →
      IsFormOf (get_or factors i d) (get_or forms i e)

-- all are seen to be irreducible, and have these forms
pub record AreSeenAs (factors : List ModuleValue) (seed : ℕ) (reported : List FactorValue) (forms : List FormValue) :
    Type 0 where
  pub seen : AreSeenTo factors seed reported (length factors)
  pub forms_are : AreFormsOf factors forms
  pub all : length forms ≡ length factors

-- the reason is the first that is not
pub record IsFirstUnseenReason (factors : List ModuleValue) (seed : ℕ) (reported : List FactorValue) (reason : Reason) :
    Type 0 where
  pub number : ℕ
  pub below : number < length factors
  pub earlier : AreSeenTo factors seed reported number
  pub wrong : (d : ModuleValue) (e : FactorValue) →
      IsUnseenReason (get_or factors number d) seed (get_or reported number e) reason

-- ---- pairs

-- the factors of two numbers are isomorphic
abbrev pub AreIsomorphicAt : List ModuleValue → ℕ → ℕ → Type 0
AreIsomorphicAt factors i j = (d e : ModuleValue) → IsIsomorphicTo (get_or factors i d) (get_or factors j e)

-- no later factor is isomorphic to that of number i, up to number j
abbrev pub IsApartTo : List ModuleValue → ℕ → ℕ → Type 0
IsApartTo factors i j = (k : ℕ) → i < k → k < j → ¬ (AreIsomorphicAt factors i k)

-- no two are isomorphic of which the first has a number below this one
abbrev pub AreApartTo : List ModuleValue → ℕ → Type 0
AreApartTo factors count = (i : ℕ) → i < count → IsApartTo factors i (length factors)

-- the reason is the pair of these numbers, with which the factor of the first is isomorphic to a later one for the
-- first time
pub record IsSameReason (factors : List ModuleValue) (reported : List FactorValue) (first : ℕ) (reason : Reason) :
    Type 0 where
  pub a : String Global
  pub b : String Global
  pub is : reason ≡ Same a b
  pub second : ℕ
  pub ascending : first < second
  pub below : second < length factors
  pub first_named : IsNameAt reported first a
  pub second_named : IsNameAt reported second b
  pub apart : IsApartTo factors first second
  pub same : AreIsomorphicAt factors first second

-- the reason is the first pair
pub record IsFirstSameReason (factors : List ModuleValue) (reported : List FactorValue) (reason : Reason) : Type 0 where
  pub first : ℕ
  pub earlier : AreApartTo factors first
  pub pair : IsSameReason factors reported first reason
