-- The null space of the value of a word by its points: which spaces have few, and what the first of many tells.
use Rattle.std.specs.Prelude.{◌≡◌, ◌≢◌, ℕ, zero, suc, ◌+◌, ◌-◌, ◌*◌, ◌<◌, ◌≤◌, ◌↔◌, length, Some, None, Result, Ok}
use Rattle.std.proofs.lemmas.Bool.{ne_eqb}
use Rattle.axe_algebra.specs.Lists.{IsMatrixOver}
use Rattle.axe_algebra.proofs.PointLists.{count_next, count_grows}
use Rattle.axe_field.specs.Order.{order_number}
use Rattle.axe_field.specs.NumberFields.{number_field}
use Rattle.axe_row.specs.Rows.{RowValue}
use Rattle.axe_row.specs.Operations.{IsZeroVector}
use Rattle.axe_row.specs.Refusals.{Answers}
use Rattle.axe_row.specs.declared.refusals.Refusal.{Refusal}
use Rattle.axe_matrix.specs.Matrices.{MatrixValue}
use Rattle.axe_echelon.specs.Echelons.{null_space_refusal}
use Rattle.axe_echelon.specs.NullPoints.{IsSmallNullSpace, IsFirstNullPoint, IsNullPoints}
use Rattle.axe_echelon.specs.declared.first_points.NullPoints.{NullPoints}
use Rattle.axe_echelon.proofs.Exits.{answers_more}
use Rattle.axe_spin.specs.Modules.{ModuleValue, IsModule}
use Rattle.axe_action.specs.Actions.{dual_module}
use Rattle.axe_word.specs.Words.{WordValue, IsValueOf}
use Rattle.axe_word.specs.PointsOfMatrix.{point_count, most_points}
use Rattle.axe_word.proofs.PointSums.{last_row_is_first_point}
use Rattle.axe_norton.specs.declared.verdicts.At.{At}
use Rattle.axe_norton.specs.declared.verdicts.At.TheVariants.{Irreducible, Reducible, Left}
use Rattle.axe_norton.specs.Spaces.{GeneratesModule, GeneratesProper, HasFewPoints}
use Rattle.axe_norton.specs.Searches.{HasOrthogonalVector, IsSquareIn, FindsFirst, IsValueOfWord, IsTestedWord, IsFirstOfMany, IsTransposedPointRow, IsAnnihilatorOf, TellsByNullSpace, TellsByFirst}
use Rattle.axe_norton.specs.Verdicts.{TellsByPoints, Tells, Says}
use Rattle.axe_norton.proofs.SearchLaws.{none_of_first, transpose_generates, transposed_space_is}
use Rattle.axe_norton.proofs.DecisionLaws.{left_told, told_where_left, said_by}
use Rattle.axe_norton.proofs.TriedLaws.{square_in, rows_over, has_orthogonal, first_field, first_fits, first_nonzero, first_generates, first_found}
use mathlib.Core.Logic.{inl, inr}
use mathlib.Core.Path.{refl, sym, ◌∙◌, ap, subst}
use native.Mathlib.Nat.{le-mul_of_pos_right}
use native.Mathlib.Omega.{arith}
use native.Mathlib.Decide.{dec_le}

-- ---- few points

module _ (q : ℕ) (large : 2 ≤ q) where
  -- there are no fewer points than dimensions
  pub dimensions_within : (m : ℕ) → m ≤ point_count q m
  dimensions_within zero = omega arith
  dimensions_within (suc m) =
      let more : point_count q (suc m) ≡ point_count q m * q + 1 = count_next q m large in
      let positive : 0 < q = omega arith in
      let at_least : point_count q m ≤ point_count q m * q = le-mul_of_pos_right (point_count q m) positive in
      omega (arith, dimensions_within m)

  -- a space has few points exactly up to the last dimension of which that is so
  pub few_up_to : (most : ℕ) → point_count q most ≤ most_points → ¬ (point_count q (most + 1) ≤ most_points) →
      (d : ℕ) → (d ≤ most) ↔ (point_count q d ≤ most_points)
  few_up_to most few many d = (
    λ within. (let grows : point_count q d ≤ point_count q most = count_grows q d most large within in omega arith),
    λ d_few. by_size d_few (dec_le d most),
  )
    where
      by_size : point_count q d ≤ most_points → Dec (d ≤ most) → d ≤ most
      by_size d_few (yes within) = within
      by_size d_few (no above) =
          absurd (many (let grows : point_count q (most + 1) ≤ point_count q d = count_grows q (most + 1) d large (omega arith) in omega arith))

-- ---- the null space of the value of a word

module _ (m : ModuleValue) (matrix : MatrixValue) (value : IsValueOfWord m matrix) where
  -- it is not refused
  pub value_accepted : IsModule m → null_space_refusal matrix ≡ None
  value_accepted is =
      let rows : length matrix.rows ≡ m.dim = value.is_value.value.square.length_is in
      rw (ne_eqb (length matrix.rows) 0 (λ none. omega (arith, none, is.over.positive))) refl

  pub null_points_are : IsModule m → (most : ℕ) (points : NullPoints) → Answers (null_space_refusal matrix) (IsNullPoints matrix most) (Ok points) → IsNullPoints matrix most points
  null_points_are is most points answered = subst (λ why. Answers why (IsNullPoints matrix most) (Ok points)) (value_accepted is) answered

  pub small_is_tested : (most : ℕ) (basis : MatrixValue) → IsSmallNullSpace matrix most basis → IsTestedWord m (record { matrix = matrix; null_space = basis })
  small_is_tested most basis small = record {
    word = value.word;
    is_word = value.is_word;
    is_tested = record {
      value = value.is_value;
      tested = record { null_space = small.is_basis; well_formed = small.well_formed };
    };
  }

  -- a null space of no more dimensions has few points
  pub small_has_few : (most q : ℕ) (basis : MatrixValue) → q ≡ order_number m.order → ((d : ℕ) → (d ≤ most) ↔ (point_count q d ≤ most_points)) →
      IsSmallNullSpace matrix most basis → HasFewPoints basis
  small_has_few most q basis order up_to small =
      subst (λ p. point_count p (length basis.rows) ≤ most_points) (order ∙ sym (ap order_number (small.is_basis.field ∙ value.is_value.field)))
      ((up_to (length basis.rows)).0 small.small)

  -- the first point of a null space of more dimensions than have few points
  pub first_of_many : (most q : ℕ) (point : RowValue) → q ≡ order_number m.order → ((d : ℕ) → (d ≤ most) ↔ (point_count q d ≤ most_points)) →
      IsFirstNullPoint matrix most point → IsFirstOfMany m matrix point
  first_of_many most q point order up_to first = record {
    null_space = first.basis;
    value = record {
      word = value.word;
      is_word = value.is_word;
      is_tested = record {
        value = value.is_value;
        tested = record { null_space = first.is_basis; well_formed = first.well_formed };
      };
    };
    some_row = omega (arith, first.large);
    many = λ few.
        (let within : length first.basis.rows ≤ most =
        (up_to (length first.basis.rows)).1
        (subst (λ p. point_count p (length first.basis.rows) ≤ most_points)
        (ap order_number (first.is_basis.field ∙ value.is_value.field) ∙ sym order) few) in
        omega (arith, first.large));
    first = first.first ∙ last_row_is_first_point first.basis (length first.basis.rows - 1) first.well_formed (omega (arith, first.large)) refl;
  }

-- ---- what the first of many points tells

module _ (m : ModuleValue) (matrix : MatrixValue) (point : RowValue) (is : IsFirstOfMany m matrix point) where
  pub many_square : IsSquareIn m matrix
  many_square = square_in m matrix is.null_space is.value

  pub many_over : IsMatrixOver (number_field matrix.order) matrix.cols matrix.rows
  many_over = rows_over m matrix is.null_space is.value is.some_row

  pub many_orthogonal : HasOrthogonalVector matrix
  many_orthogonal = has_orthogonal m matrix is.null_space is.value is.some_row

  pub many_field : point.order ≡ m.order
  many_field = first_field m matrix is.null_space is.value is.some_row point is.first

  pub many_fits : length point.entries ≡ m.dim
  many_fits = first_fits m matrix is.null_space is.value is.some_row point is.first

  pub many_nonzero : ¬ (IsZeroVector point.entries)
  many_nonzero = first_nonzero m matrix is.null_space is.value is.some_row point is.first

  told : (answer : At) → TellsByPoints m matrix is.null_space answer → TellsByNullSpace m matrix answer
  told answer tells = record { null_space = is.null_space; is_tested = is.value.is_tested.tested; tells = tells }

  -- it generates a proper space
  pub many_proper : (space : MatrixValue) → GeneratesProper m point.entries space → TellsByNullSpace m matrix (Reducible space)
  many_proper space proper =
      told (Reducible space) (inl (first_found m matrix is.null_space is.value is.some_row point is.first space proper))

  -- it generates everything
  module _ (generates : GeneratesModule m point.entries) (v : RowValue) (found : IsTransposedPointRow matrix v) where
    none_tried : FindsFirst m is.null_space None
    none_tried =
        none_of_first m is.null_space is.many (first_generates m matrix is.null_space is.value is.some_row point is.first generates)

    pub many_transposed : (space : MatrixValue) → IsAnnihilatorOf m v.entries space → TellsByNullSpace m matrix (Reducible space)
    many_transposed space of_point =
        told (Reducible space) (inr (none_tried, transposed_space_is m matrix many_square v found space of_point))

    pub many_left : GeneratesModule (dual_module m) v.entries → TellsByNullSpace m matrix Left
    many_left transpose =
        let tested = is.value.is_tested.tested in
        told Left
        (left_told m matrix is.null_space many_square tested.null_space tested.well_formed is.some_row is.many none_tried
        (transpose_generates m matrix many_square v found transpose))

-- ---- a word

-- what the points of a null space tell
pub told_by_points : (m : ModuleValue) (matrix null : MatrixValue) (result : Result At Refusal) → IsTestedWord m (record { matrix = matrix; null_space = null }) →
    Answers None (TellsByPoints m matrix null) result → Answers None (TellsByNullSpace m matrix) result
told_by_points m matrix null result value told = answers_more result (TellsByPoints m matrix null) (TellsByNullSpace m matrix) told
    (λ answer tells. record { null_space = null; is_tested = value.is_tested.tested; tells = tells })

module _ (m : ModuleValue) (word : WordValue) (matrix : MatrixValue) (is_value : IsValueOf m word matrix) where
  -- the word says so where they don't leave the module open
  pub said_by_points : (answer : At) → answer ≢ Left → TellsByNullSpace m matrix answer → Says m word answer
  said_by_points answer not_left told = record {
    tested = record { matrix = matrix; null_space = told.null_space };
    is_tested = record { value = is_value; tested = told.is_tested };
    tells = at answer not_left told.tells;
  }
    where
      at : (answer : At) → answer ≢ Left → TellsByPoints m matrix told.null_space answer → Tells m matrix told.null_space answer
      at (Irreducible None v) not_left by_points = by_points
      at (Irreducible (Some p) v) not_left by_points = absurd by_points
      at (Reducible space) not_left by_points = inl by_points
      at Left not_left by_points = absurd (not_left refl)

  -- and else what the first small factor that fits tells
  pub said_where_left : (result : Result At Refusal) → TellsByNullSpace m matrix Left → Answers None (TellsByFirst m matrix) result → Answers None (Says m word) result
  said_where_left result told found =
      said_by m word (record { matrix = matrix; null_space = told.null_space }) result (record { value = is_value; tested = told.is_tested })
      (told_where_left m matrix told.null_space result told.tells found)
