-- A word says one thing of a module, and the words of a seed decide one thing.
use Rattle.std.specs.Prelude.{◌≡◌, ◌≢◌, ℕ, ◌<◌, ◌≤◌, ◌⊎◌, List, length, Option, Some, None}
use Rattle.axe_algebra.specs.Vectors.{Vector, Matrix}
use Rattle.axe_algebra.specs.Spans
use Rattle.axe_algebra.specs.Reduced
use Rattle.axe_algebra.specs.Modules
use Rattle.axe_algebra.specs.Irreducible
use Rattle.axe_algebra.specs.Bridge.{matrix_of, module_of}
use Rattle.axe_algebra.specs.Lists.{IsSquareOver}
use Rattle.axe_algebra.specs.ListArithmetic.{transpose}
use Rattle.axe_algebra.specs.PointsOfLists.{point_coordinates}
use Rattle.axe_algebra.proofs.SquareMatrices.{transpose_criterion}
use Rattle.axe_algebra.proofs.ListLaws.{inverse_of_lists}
use Rattle.axe_algebra.proofs.ListProducts.{matrix_of_transpose}
use Rattle.axe_algebra.proofs.NortonLists.{transpose_square, no_null_rows_of_invertible}
use Rattle.axe_algebra.proofs.PointLists.{no_coordinates}
use Rattle.axe_algebra.proofs.PointSpans.{points_length}
use Rattle.axe_algebra.proofs.ListReduced.{space_basis_list_is_unique}
use Rattle.axe_polynomial_algebra.specs.PolynomialsOfLists.{polynomial_number}
use Rattle.axe_polynomial_algebra.proofs.PolynomialNumbers.{number_tells}
use Rattle.axe_polynomial_algebra.proofs.ValueLists.{list_value_is_unique}
use Rattle.axe_field.specs.Order.{Order, order_number}
use Rattle.axe_field.specs.NumberFields.{number_field, gf}
use Rattle.axe_field.proofs.NumberFields.{number_field-order}
use Rattle.axe_row.specs.Rows.{RowValue}
use Rattle.axe_matrix.specs.Matrices.{MatrixValue, IsMatrix, transposed_matrix}
use Rattle.axe_matrix.proofs.MatrixLaws.{same_matrix}
use Rattle.axe_reduction.specs.Solutions.{IsInvertibleMatrix}
use Rattle.axe_echelon.specs.Echelons.{IsNullSpaceMatrix}
use Rattle.axe_poly.specs.Polys.{PolyValue}
use Rattle.axe_spin.specs.Modules.{ModuleValue}
use Rattle.axe_spin.specs.Spinning.{IsGeneratedMatrix}
use Rattle.axe_action.specs.Actions.{dual_module, IsAnnihilatorMatrix}
use Rattle.axe_word.specs.Words.{WordValue}
use Rattle.axe_word.specs.declared.tested.Tested.{Tested}
use Rattle.axe_word.specs.Tested.{IsTested, IsTestedAt}
use Rattle.axe_word.specs.PointsOfMatrix.{points_of}
use Rattle.axe_word.proofs.ValueLaws.{value-is_unique}
use Rattle.axe_norton.specs.declared.verdicts.Verdict
use Rattle.axe_norton.specs.declared.verdicts.At.{At}
use Rattle.axe_norton.specs.declared.verdicts.At.TheVariants.{Irreducible, Reducible, Left}
use Rattle.axe_norton.specs.Spaces.{HasFewPoints, GeneratesModule, GeneratesProper, one_row, point_of, TriedGenerate, IsFirstProperSpace, TransposedPoint, TransposeGenerates, IsTransposedSpace}
use Rattle.axe_norton.specs.SmallFactors.{IsFirstFitting, NoneFits}
use Rattle.axe_norton.specs.OneVector.{ShowsIrreducibleByOne, ShowsReducibleByOne, TellsByOne, SaysByPoly}
use Rattle.axe_norton.specs.Verdicts.{ShowsIrreducible, ShowsReducible, IsLeftByPoints, TellsByPoints, TellsByFactor, Tells, SaysByPoints, Says, LeavesOpen}
use Rattle.axe_norton.specs.Verdicts.{LeaveOpenBefore, DecidesAt, Decides, word_of_seed}
use Rattle.axe_norton.proofs.OpenLaws.{own_square, no_rows_of_invertible}
use Rattle.axe_norton.proofs.TestedLaws.{value_square}
use Rattle.axe_norton.proofs.TruthLaws.{rows_over_field}
use mathlib.Core.Logic.{inl, inr}
use mathlib.Core.Path.{refl, sym, ◌∙◌, ap, subst}
use native.Mathlib.Omega.{arith}
use native.Mathlib.Decide.{dec_lt, ℕ_discrete}

-- a space has one reduced basis, as a matrix
unique_basis : (o : Order) (n : ℕ) (P : Vector (gf o) → Type 0) (a b : MatrixValue) → a.order ≡ o → b.order ≡ o → a.cols ≡ n → b.cols ≡ n →
    IsMatrix a → IsMatrix b → Reduced.IsReducedBasisOf (gf o) P (length a.rows) (matrix_of (number_field o) a.rows) →
    Reduced.IsReducedBasisOf (gf o) P (length b.rows) (matrix_of (number_field o) b.rows) → a ≡ b
unique_basis o n P a b field_a field_b columns_a columns_b formed_a formed_b first second =
    let fields : a.order ≡ b.order = field_a ∙ sym field_b in
    let columns : a.cols ≡ b.cols = columns_a ∙ sym columns_b in
    let rows : a.rows ≡ b.rows =
    space_basis_list_is_unique (number_field o) P n a.rows b.rows (rows_over_field o n a field_a columns_a formed_a)
    (rows_over_field o n b field_b columns_b formed_b) first second in
    λ i. record { order = fields i; cols = columns i; rows = rows i }

unique_null : (x a b : MatrixValue) → IsNullSpaceMatrix x a → IsNullSpaceMatrix x b → IsMatrix a → IsMatrix b → a ≡ b
unique_null x a b first second formed_a formed_b =
    unique_basis x.order (length x.rows) (Spans.IsNullVector (gf x.order) (length x.rows) (matrix_of (number_field x.order) x.rows)) a b
    first.field second.field first.columns second.columns formed_a formed_b first.basis_of_null_space second.basis_of_null_space

unique_generated : (m : ModuleValue) (seed a b : MatrixValue) → IsGeneratedMatrix m seed a → IsGeneratedMatrix m seed b → IsMatrix a → IsMatrix b → a ≡ b
unique_generated m seed a b first second formed_a formed_b =
    unique_basis m.order m.dim
    (Modules.InGenerated (gf m.order) (module_of (number_field m.order) m.dim m.generators) (length seed.rows) (matrix_of (number_field m.order) seed.rows))
    a b first.field second.field first.columns second.columns formed_a formed_b first.basis_of_generated second.basis_of_generated

unique_annihilator : (rows a b : MatrixValue) → IsAnnihilatorMatrix rows a → IsAnnihilatorMatrix rows b → IsMatrix a → IsMatrix b → a ≡ b
unique_annihilator rows a b first second formed_a formed_b =
    unique_basis rows.order rows.cols
    (Irreducible.InAnnihilator (gf rows.order) rows.cols (length rows.rows) (matrix_of (number_field rows.order) rows.rows))
    a b first.field second.field first.columns second.columns formed_a formed_b first.basis_of_annihilator second.basis_of_annihilator

unique_proper : (m : ModuleValue) (v : List ℕ) (a b : MatrixValue) → GeneratesProper m v a → GeneratesProper m v b → a ≡ b
unique_proper m v a b first second = unique_generated m (one_row m v) a b first.generated second.generated first.well_formed second.well_formed

-- a tested matrix has one null space
same_tested : (s t : Tested) → s.matrix ≡ t.matrix → IsTested s → IsTested t → s ≡ t
same_tested s t matrices first second =
    let nulls : s.null_space ≡ t.null_space =
    unique_null t.matrix s.null_space t.null_space (subst (λ (x : MatrixValue). IsNullSpaceMatrix x s.null_space) matrices first.null_space) second.null_space
    first.well_formed second.well_formed in
    λ i. record { matrix = matrices i; null_space = nulls i }

-- the first points of the null space of the transpose are the same
same_transposed_point : (x : MatrixValue) (p q : TransposedPoint x) → point_of p.null_space 0 ≡ point_of q.null_space 0
same_transposed_point x p q =
    ap (λ (null : MatrixValue). point_of null 0) (unique_null (transposed_matrix x) p.null_space q.null_space p.is_null_space q.is_null_space p.well_formed q.well_formed)

module _ (m : ModuleValue) (x null : MatrixValue) where
  -- the transposed point generates everything or not
  not_both_transposed : (space : MatrixValue) → TransposeGenerates m x → IsTransposedSpace m x space → ⊥
  not_both_transposed space all found =
      found.proper.proper (subst (GeneratesModule (dual_module m)) (same_transposed_point x all.point found.point) all.generates)

  same_transposed_space : (a b : MatrixValue) → IsTransposedSpace m x a → IsTransposedSpace m x b → a ≡ b
  same_transposed_space a b first second =
      let generated : first.generated ≡ second.generated =
      unique_proper (dual_module m) (point_of second.point.null_space 0) first.generated second.generated
      (subst (λ (v : List ℕ). GeneratesProper (dual_module m) v first.generated) (same_transposed_point x first.point second.point) first.proper)
      second.proper in
      unique_annihilator second.generated a b (subst (λ (g : MatrixValue). IsAnnihilatorMatrix g a) generated first.annihilator) second.annihilator
      first.well_formed second.well_formed

  -- all tried points generate everything or one of them does not
  not_both_tried : (space : MatrixValue) → TriedGenerate m null → IsFirstProperSpace m null space → ⊥
  not_both_tried space all found = found.proper.proper (all found.number found.tried)

  same_first_space : (a b : MatrixValue) → IsFirstProperSpace m null a → IsFirstProperSpace m null b → a ≡ b
  same_first_space a b first second = by_number (ℕ_discrete first.number second.number) (dec_lt first.number second.number)
    where
      by_number : Dec (first.number ≡ second.number) → Dec (first.number < second.number) → a ≡ b
      by_number (yes same) _ =
          unique_proper m (point_of null second.number) a b (subst (λ k. GeneratesProper m (point_of null k) a) same first.proper) second.proper
      by_number (no other) (yes early) = absurd (first.proper.proper (second.before first.number early))
      by_number (no other) (no late) = absurd (second.proper.proper (first.before second.number (omega arith)))

  same_reducible : (a b : MatrixValue) → ShowsReducible m x null a → ShowsReducible m x null b → a ≡ b
  same_reducible a b (inl first) (inl second) = same_first_space a b first second
  same_reducible a b (inl first) (inr second) = absurd (not_both_tried a second.0 first)
  same_reducible a b (inr first) (inl second) = absurd (not_both_tried b first.0 second)
  same_reducible a b (inr first) (inr second) = same_transposed_space a b first.1 second.1

  -- irreducible and reducible are not both shown
  irreducible_or_reducible : (v : RowValue) (space : MatrixValue) → ShowsIrreducible m x null v → ShowsReducible m x null space → ⊥
  irreducible_or_reducible v space shows (inl found) = not_both_tried space shows.generate found
  irreducible_or_reducible v space shows (inr found) = not_both_transposed space shows.transpose found.1

  same_irreducible : (v w : RowValue) → ShowsIrreducible m x null v → ShowsIrreducible m x null w → v ≡ w
  same_irreducible v w first second =
      let fields : v.order ≡ w.order = first.field ∙ sym second.field in
      let entries : v.entries ≡ w.entries = first.first ∙ sym second.first in
      λ i. record { order = fields i; entries = entries i }

  module _ (some_rows : 0 < length (points_of null) → ¬ (IsInvertibleMatrix x)) (transposed_rows : TransposedPoint x → ¬ (IsInvertibleMatrix x)) where
    irreducible_or_left : (v : RowValue) → ShowsIrreducible m x null v → IsLeftByPoints m x null → ⊥
    irreducible_or_left v shows (inl invertible) = some_rows shows.some_point invertible
    irreducible_or_left v shows (inr left) = omega (arith, shows.few, left.many)

    reducible_or_left : (space : MatrixValue) → ShowsReducible m x null space → IsLeftByPoints m x null → ⊥
    reducible_or_left space (inl found) (inl invertible) = some_rows (let below = found.tried.below in omega arith) invertible
    reducible_or_left space (inr found) (inl invertible) = transposed_rows found.1.point invertible
    reducible_or_left space (inl found) (inr left) = by_reason found.tried.first_or_few
      where
        by_reason : (found.number ≡ 0) ⊎ HasFewPoints null → ⊥
        by_reason (inl first) = found.proper.proper (subst (λ k. GeneratesModule m (point_of null k)) (sym first) left.first)
        by_reason (inr few) = omega (arith, few, left.many)
    reducible_or_left space (inr found) (inr left) = not_both_transposed space left.transpose found.1

    -- points tell one thing
    points_tell_one : (a b : At) → TellsByPoints m x null a → TellsByPoints m x null b → a ≡ b
    points_tell_one (Irreducible (Some p) v) b first second = absurd first
    points_tell_one (Irreducible None v) (Irreducible (Some p) w) first second = absurd second
    points_tell_one (Irreducible None v) (Irreducible None w) first second = ap (Irreducible None) (same_irreducible v w first second)
    points_tell_one (Irreducible None v) (Reducible space) first second = absurd (irreducible_or_reducible v space first second)
    points_tell_one (Irreducible None v) Left first second = absurd (irreducible_or_left v first second)
    points_tell_one (Reducible space) (Irreducible (Some p) v) first second = absurd second
    points_tell_one (Reducible space) (Irreducible None v) first second = absurd (irreducible_or_reducible v space second first)
    points_tell_one (Reducible a) (Reducible b) first second = ap Reducible (same_reducible a b first second)
    points_tell_one (Reducible space) Left first second = absurd (reducible_or_left space first second)
    points_tell_one Left (Irreducible (Some p) v) first second = absurd second
    points_tell_one Left (Irreducible None v) first second = absurd (irreducible_or_left v second first)
    points_tell_one Left (Reducible space) first second = absurd (reducible_or_left space second first)
    points_tell_one Left Left first second = refl

-- ---- one vector

module _ (m : ModuleValue) (p : PolyValue) (x null : MatrixValue) where
  irreducible_or_reducible_by_one : (v : RowValue) (space : MatrixValue) → ShowsIrreducibleByOne m x null v → ShowsReducibleByOne m x null space → ⊥
  irreducible_or_reducible_by_one v space shows (inl proper) = proper.proper shows.generates
  irreducible_or_reducible_by_one v space shows (inr found) = not_both_transposed m x null space shows.transpose found.1

  same_reducible_by_one : (a b : MatrixValue) → ShowsReducibleByOne m x null a → ShowsReducibleByOne m x null b → a ≡ b
  same_reducible_by_one a b (inl first) (inl second) = unique_proper m (point_of null 0) a b first second
  same_reducible_by_one a b (inl first) (inr second) = absurd (first.proper second.0)
  same_reducible_by_one a b (inr first) (inl second) = absurd (second.proper first.0)
  same_reducible_by_one a b (inr first) (inr second) = same_transposed_space m x null a b first.1 second.1

  same_irreducible_by_one : (q r : PolyValue) (v w : RowValue) → (q ≡ p) × ShowsIrreducibleByOne m x null v → (r ≡ p) × ShowsIrreducibleByOne m x null w →
      Irreducible (Some q) v ≡ Irreducible (Some r) w
  same_irreducible_by_one q r v w first second =
      let polys : q ≡ r = first.0 ∙ sym second.0 in
      let fields : v.order ≡ w.order = first.1.field ∙ sym second.1.field in
      let entries : v.entries ≡ w.entries = first.1.first ∙ sym second.1.first in
      λ i. Irreducible (Some (polys i)) (record { order = fields i; entries = entries i })

  -- p tells one thing by one vector
  one_tells_one : (a b : At) → TellsByOne m p x null a → TellsByOne m p x null b → a ≡ b
  one_tells_one (Irreducible None v) b first second = absurd first
  one_tells_one (Irreducible (Some q) v) (Irreducible None w) first second = absurd second
  one_tells_one (Irreducible (Some q) v) (Irreducible (Some r) w) first second = same_irreducible_by_one q r v w first second
  one_tells_one (Irreducible (Some q) v) (Reducible space) first second = absurd (irreducible_or_reducible_by_one v space first.1 second)
  one_tells_one (Irreducible (Some q) v) Left first second = absurd second
  one_tells_one (Reducible space) (Irreducible None v) first second = absurd second
  one_tells_one (Reducible space) (Irreducible (Some q) v) first second = absurd (irreducible_or_reducible_by_one v space second.1 first)
  one_tells_one (Reducible a) (Reducible b) first second = ap Reducible (same_reducible_by_one a b first second)
  one_tells_one (Reducible space) Left first second = absurd second
  one_tells_one Left b first second = absurd first

-- ---- the first small factor that fits

-- there is no more than one
pub first_fitting_is_unique : (x : MatrixValue) (p q : PolyValue) → IsFirstFitting x p → IsFirstFitting x q → p ≡ q
first_fitting_is_unique x p q first second =
    let fields : p.order ≡ q.order = first.fitting.factor.field ∙ sym second.fitting.factor.field in
    let numbers : polynomial_number (order_number x.order) p.coefficients ≡ polynomial_number (order_number x.order) q.coefficients =
    omega (arith, first.first q second.fitting, second.first p first.fitting) in
    let coefficients : p.coefficients ≡ q.coefficients =
    number_tells (number_field x.order) p.coefficients q.coefficients first.fitting.factor.factor.irreducible.over second.fitting.factor.factor.irreducible.over
    (subst (λ n. polynomial_number n p.coefficients ≡ polynomial_number n q.coefficients) (sym (number_field-order x.order)) numbers) in
    λ i. record { order = fields i; coefficients = coefficients i }

-- a polynomial has one value at a matrix, with one null space
pub tested_at_is_unique : (p : PolyValue) (x : MatrixValue) (s t : Tested) → IsTestedAt p x s → IsTestedAt p x t → s ≡ t
tested_at_is_unique p x s t first second =
    same_tested s t
    (same_matrix s.matrix t.matrix (first.value.field ∙ sym second.value.field) (first.value.columns ∙ sym second.value.columns)
    (list_value_is_unique (number_field x.order) p.coefficients x.rows s.matrix.rows t.matrix.rows first.value.value_is second.value.value_is))
    first.tested second.tested

-- so it tells one thing
factor_tells_one : (m : ModuleValue) (x null : MatrixValue) (a b : At) → TellsByFactor m x null a → TellsByFactor m x null b → a ≡ b
factor_tells_one m x null a b first second =
    one_tells_one m second.poly second.tested.matrix second.tested.null_space a b
    (subst (λ (t : Tested). TellsByOne m second.poly t.matrix t.null_space a) tests
    (subst (λ (p : PolyValue). TellsByOne m p first.tested.matrix first.tested.null_space a) polys first.tells))
    second.tells
  where
    polys : first.poly ≡ second.poly
    polys = first_fitting_is_unique x first.poly second.poly first.first second.first

    tests : first.tested ≡ second.tested
    tests = tested_at_is_unique second.poly x first.tested second.tested (subst (λ (p : PolyValue). IsTestedAt p x first.tested) polys first.is_tested)
        second.is_tested

-- ---- what a tested matrix tells

irreducible_is_said : (p : Option PolyValue) (v : RowValue) → Irreducible p v ≢ Left
irreducible_is_said p v same = cc

reducible_is_said : (space : MatrixValue) → Reducible space ≢ Left
reducible_is_said space same = cc

-- it tells by points; or, where these leave the module open, by the first small factor that fits; or nothing, where none
-- does
data ToldBy (m : ModuleValue) (x null : MatrixValue) (a : At) : Type 0 where
  points : a ≢ Left → TellsByPoints m x null a → ToldBy m x null a
  factor : TellsByFactor m x null a → ToldBy m x null a
  nothing : a ≡ Left → IsLeftByPoints m x null → NoneFits x → ToldBy m x null a

module _ (m : ModuleValue) (x null : MatrixValue) where
  told_by : (a : At) → Tells m x null a → ToldBy m x null a
  told_by (Irreducible None v) tells = points (irreducible_is_said None v) tells
  told_by (Irreducible (Some p) v) tells = factor tells
  told_by (Reducible space) tells = by_reason tells
    where
      by_reason : ShowsReducible m x null space ⊎ TellsByFactor m x null (Reducible space) → ToldBy m x null (Reducible space)
      by_reason (inl shows) = points (reducible_is_said space) shows
      by_reason (inr found) = factor found
  told_by Left tells = nothing refl tells.0 tells.1

  -- what points tell of it other than that they leave the module open
  pub points_tell : (a : At) → a ≢ Left → TellsByPoints m x null a → Tells m x null a
  points_tell (Irreducible None v) decides tells = tells
  points_tell (Irreducible (Some p) v) decides tells = absurd tells
  points_tell (Reducible space) decides tells = inl tells
  points_tell Left decides tells = absurd (decides refl)

  module _ (some_rows : 0 < length (points_of null) → ¬ (IsInvertibleMatrix x)) (transposed_rows : TransposedPoint x → ¬ (IsInvertibleMatrix x)) where
    -- points do not both tell something and leave the module open
    points_or_left : (a : At) → a ≢ Left → TellsByPoints m x null a → IsLeftByPoints m x null → ⊥
    points_or_left a decides tells left = decides (points_tell_one m x null some_rows transposed_rows a Left tells left)

    one_by_reasons : (a b : At) → ToldBy m x null a → ToldBy m x null b → a ≡ b
    one_by_reasons a b (points decides first) (points also second) = points_tell_one m x null some_rows transposed_rows a b first second
    one_by_reasons a b (points decides first) (factor second) = absurd (points_or_left a decides first second.left)
    one_by_reasons a b (points decides first) (nothing open_ left none) = absurd (points_or_left a decides first left)
    one_by_reasons a b (factor first) (points decides second) = absurd (points_or_left b decides second first.left)
    one_by_reasons a b (factor first) (factor second) = factor_tells_one m x null a b first second
    one_by_reasons a b (factor first) (nothing open_ left none) = absurd (none first.poly first.first.fitting)
    one_by_reasons a b (nothing open_ left none) (points decides second) = absurd (points_or_left b decides second left)
    one_by_reasons a b (nothing open_ left none) (factor second) = absurd (none second.poly second.first.fitting)
    one_by_reasons a b (nothing open_ left none) (nothing also others all) = open_ ∙ sym also

    -- a matrix tells one thing
    tells_one : (a b : At) → Tells m x null a → Tells m x null b → a ≡ b
    tells_one a b first second = one_by_reasons a b (told_by a first) (told_by b second)

-- a space without rows has no points
no_points : (null : MatrixValue) → length null.rows ≡ 0 → ¬ (0 < length (points_of null))
no_points null none some =
    let counted : length (points_of null) ≡ length (point_coordinates (number_field null.order).order (length null.rows)) =
    points_length (number_field null.order) null.cols null.rows in
    let zero : length (point_coordinates (number_field null.order).order (length null.rows)) ≡ 0 =
    ap (λ k. length (point_coordinates (number_field null.order).order k)) none ∙ ap length (no_coordinates (number_field null.order).order) in
    omega (arith, counted, zero)

-- where a matrix is invertible the null space of its transpose has no rows
transposed_no_rows : (x null : MatrixValue) → IsSquareOver (number_field x.order) x.cols x.rows → IsInvertibleMatrix x → IsNullSpaceMatrix (transposed_matrix x) null →
    length null.rows ≡ 0
transposed_no_rows x null square (inverse, inverts) is =
    no_null_rows_of_invertible (number_field x.order) x.cols (transpose x.cols x.rows) null.rows (transpose_square (number_field x.order) x.cols x.rows square)
    is.basis_of_null_space
    (subst (λ (a : Matrix (gf x.order)). Spans.IsInvertible (gf x.order) x.cols a)
    (sym (matrix_of_transpose (number_field x.order) x.cols x.rows square.matrix))
    ((transpose_criterion (gf x.order) x.cols (matrix_of (number_field x.order) x.rows)).0
    (record {
      inverse = matrix_of (number_field x.order) inverse.rows;
      inverts = inverse_of_lists (number_field x.order) x.cols x.rows inverse.rows square inverts.square inverts.inverts;
    })))

-- ---- what a word says

-- a word says one thing of a module
pub says_one : (m : ModuleValue) (word : WordValue) (a b : At) → Says m word a → Says m word b → a ≡ b
says_one m word a b first second =
    tells_one m second.tested.matrix second.tested.null_space some_rows transposed_rows a b
    (subst (λ (t : Tested). Tells m t.matrix t.null_space a) tests first.tells) second.tells
  where
    tests : first.tested ≡ second.tested
    tests = same_tested first.tested second.tested
        (value-is_unique m word first.tested.matrix second.tested.matrix first.is_tested.value second.is_tested.value)
        first.is_tested.tested second.is_tested.tested

    square : IsSquareOver (number_field second.tested.matrix.order) second.tested.matrix.cols second.tested.matrix.rows
    square = own_square m second.tested.matrix (value_square m word second.tested.matrix second.is_tested.value)

    some_rows : 0 < length (points_of second.tested.null_space) → ¬ (IsInvertibleMatrix second.tested.matrix)
    some_rows some invertible =
        no_points second.tested.null_space (no_rows_of_invertible second.tested.matrix second.tested.null_space square second.is_tested.tested.null_space invertible) some

    transposed_rows : TransposedPoint second.tested.matrix → ¬ (IsInvertibleMatrix second.tested.matrix)
    transposed_rows point invertible =
        no_points point.null_space (transposed_no_rows second.tested.matrix point.null_space square invertible point.is_null_space) point.some_point

-- by points it says nothing else
pub says_by_points : (m : ModuleValue) (word : WordValue) (a : At) → a ≢ Left → SaysByPoints m word a → Says m word a
says_by_points m word a decides says = record {
  tested = says.tested;
  is_tested = says.is_tested;
  tells = points_tell m says.tested.matrix says.tested.null_space a decides says.tells;
}

-- a polynomial says one thing of a module by a word
pub poly_says_one : (m : ModuleValue) (word : WordValue) (p : PolyValue) (a b : At) → SaysByPoly m word p a → SaysByPoly m word p b → a ≡ b
poly_says_one m word p a b first second =
    one_tells_one m p second.tested.matrix second.tested.null_space a b
    (subst (λ (t : Tested). TellsByOne m p t.matrix t.null_space a) tests first.tells) second.tells
  where
    arguments : first.is_tested.argument ≡ second.is_tested.argument
    arguments = value-is_unique m word first.is_tested.argument second.is_tested.argument first.is_tested.is_value second.is_tested.is_value

    tests : first.tested ≡ second.tested
    tests = tested_at_is_unique p second.is_tested.argument first.tested second.tested
        (subst (λ (x : MatrixValue). IsTestedAt p x first.tested) arguments first.is_tested.tested_at) second.is_tested.tested_at

-- ---- what the words of a seed decide

-- where points alone decide by a word, no later word is needed
pub points_decide : (m : ModuleValue) (seed j k : ℕ) (a : At) → a ≢ Left → SaysByPoints m (word_of_seed m seed j) a → LeaveOpenBefore m seed k → k ≤ j
points_decide m seed j k a decides says before = by_number (dec_lt j k)
  where
    by_number : Dec (j < k) → k ≤ j
    by_number (yes early) =
        absurd (decides (says_one m (word_of_seed m seed j) a Left (says_by_points m (word_of_seed m seed j) a decides says) (before j early)))
    by_number (no late) = omega arith

-- the first word that does not leave the module open is one, and says one thing
module _ (m : ModuleValue) (seed words : ℕ) where
  decided_at_one : (j k : ℕ) (a b : At) → a ≢ Left → b ≢ Left → DecidesAt m seed words j a → DecidesAt m seed words k b → (j ≡ k) × (a ≡ b)
  decided_at_one j k a b decides_a decides_b first second = by_number (ℕ_discrete j k) (dec_lt j k)
    where
      by_number : Dec (j ≡ k) → Dec (j < k) → (j ≡ k) × (a ≡ b)
      by_number (yes same) _ =
          (same, says_one m (word_of_seed m seed k) a b (subst (λ i. Says m (word_of_seed m seed i) a) same first.says) second.says)
      by_number (no other) (yes early) = absurd (decides_a (says_one m (word_of_seed m seed j) a Left first.says (second.before j early)))
      by_number (no other) (no late) = absurd (decides_b (says_one m (word_of_seed m seed k) b Left second.says (first.before k (omega arith))))

  decided_or_open : (j : ℕ) (a : At) → a ≢ Left → DecidesAt m seed words j a → ¬ ((i : ℕ) → i ≤ words → LeavesOpen m (word_of_seed m seed i))
  decided_or_open j a decides at each = decides (says_one m (word_of_seed m seed j) a Left at.says (each j at.within))

  irreducible_and_reducible : (p : Option PolyValue) (v : RowValue) (space : MatrixValue) → Irreducible p v ≢ Reducible space
  irreducible_and_reducible p v space same = cc

  same_shown : (j k : ℕ) (p q : Option PolyValue) (v w : RowValue) → (j ≡ k) × (Irreducible p v ≡ Irreducible q w) →
      Verdict.TheVariants.Irreducible j p v ≡ Verdict.TheVariants.Irreducible k q w
  same_shown j k p q v w (number, same) =
      let polys : p ≡ q = cc in
      let rows : v ≡ w = cc in
      λ i. Verdict.TheVariants.Irreducible (number i) (polys i) (rows i)

  same_space : (a b : MatrixValue) → Reducible a ≡ Reducible b → Verdict.TheVariants.Reducible a ≡ Verdict.TheVariants.Reducible b
  same_space a b same = let spaces : a ≡ b = cc in ap Verdict.TheVariants.Reducible spaces

  -- the words of a seed decide one thing
  pub decides_one : (a b : Verdict.Verdict) → Decides m seed words a → Decides m seed words b → a ≡ b
  decides_one (Verdict.TheVariants.Irreducible j p v) (Verdict.TheVariants.Irreducible k q w) first second =
      same_shown j k p q v w (decided_at_one j k (Irreducible p v) (Irreducible q w) (irreducible_is_said p v) (irreducible_is_said q w) first second)
  decides_one (Verdict.TheVariants.Irreducible j p v) (Verdict.TheVariants.Reducible space) first (k, second) =
      absurd (irreducible_and_reducible p v space
      (decided_at_one j k (Irreducible p v) (Reducible space) (irreducible_is_said p v) (reducible_is_said space) first second).1)
  decides_one (Verdict.TheVariants.Irreducible j p v) Verdict.TheVariants.Undecided first second =
      absurd (decided_or_open j (Irreducible p v) (irreducible_is_said p v) first second)
  decides_one (Verdict.TheVariants.Reducible space) (Verdict.TheVariants.Irreducible k p v) (j, first) second =
      absurd (irreducible_and_reducible p v space
      (decided_at_one k j (Irreducible p v) (Reducible space) (irreducible_is_said p v) (reducible_is_said space) second first).1)
  decides_one (Verdict.TheVariants.Reducible a) (Verdict.TheVariants.Reducible b) (j, first) (k, second) =
      same_space a b (decided_at_one j k (Reducible a) (Reducible b) (reducible_is_said a) (reducible_is_said b) first second).1
  decides_one (Verdict.TheVariants.Reducible space) Verdict.TheVariants.Undecided (j, first) second =
      absurd (decided_or_open j (Reducible space) (reducible_is_said space) first second)
  decides_one Verdict.TheVariants.Undecided (Verdict.TheVariants.Irreducible k p v) first second =
      absurd (decided_or_open k (Irreducible p v) (irreducible_is_said p v) second first)
  decides_one Verdict.TheVariants.Undecided (Verdict.TheVariants.Reducible space) first (k, second) =
      absurd (decided_or_open k (Reducible space) (reducible_is_said space) second first)
  decides_one Verdict.TheVariants.Undecided Verdict.TheVariants.Undecided first second = refl
