-- Word 0 of a module with more than few points: its value is zero, its first point and the transpose's are the last unit
-- vector, and no small factor fits.
use Rattle.std.specs.Prelude.{◌≡◌, ℕ, ◌+◌, ◌-◌, ◌*◌, ◌<◌, ◌≤◌, List, [], length, get_or, All, Ok}
use Rattle.std.proofs.lemmas.List.Elements.{All-nil, All-get_or, All-from_get_or}
use Rattle.axe_algebra.specs.NumberField.{NumberField}
use Rattle.axe_algebra.specs.Lists.{listed, unit_row}
use Rattle.axe_algebra.specs.ListArithmetic.{identity}
use Rattle.axe_algebra.proofs.ListEntries.{listed_at, listed_length, table_length, table_row}
use Rattle.axe_algebra.proofs.ListProducts.{identity_over, identity_length}
use Rattle.axe_algebra.proofs.PointLists.{count_grows}
use Rattle.axe_field.specs.Order.{Order, order_number}
use Rattle.axe_field.specs.NumberFields.{number_field}
use Rattle.axe_field.proofs.Orders.{order_number-at_least}
use Rattle.axe_row.specs.Rows.{RowValue}
use Rattle.axe_row.specs.Operations.{IsZeroVector}
use Rattle.axe_matrix.specs.Matrices.{MatrixValue, IsMatrix, zero_matrix, identity_matrix}
use Rattle.axe_echelon.specs.Echelons.{IsNullSpaceMatrix}
use Rattle.axe_echelon.proofs.EliminationLaws.{vector_of_zero_row}
use Rattle.axe_echelon.proofs.SomeMatrix.{matrix_of_rows_over}
use Rattle.axe_echelon.proofs.ZeroMatrices.{identity_is_null_space, point_of_zeros}
use Rattle.axe_spin.specs.Modules.{ModuleValue, IsModule}
use Rattle.axe_action.specs.Actions.{dual_module}
use Rattle.axe_word.specs.Tested.{IsTestedBy}
use Rattle.axe_word.specs.Words.{IsWordIn, IsValueOf}
use Rattle.axe_word.specs.PointsOfMatrix.{most_points, point_count}
use Rattle.axe_word.proofs.PointSums.{count_at_start, count_after}
use Rattle.axe_word.proofs.ValueLaws.{value-none}
use Rattle.axe_norton.specs.declared.verdicts.At.TheVariants.{Reducible, Left}
use Rattle.axe_norton.specs.Spaces.{GeneratesModule, GeneratesProper, LastGenerates}
use Rattle.axe_norton.specs.SmallFactors.{NoneFits}
use Rattle.axe_norton.specs.Searches.{IsFirstOfMany, IsTransposedPointRow, IsAnnihilatorOf, TellsByNullSpace}
use Rattle.axe_norton.specs.Verdicts.{Says}
use Rattle.axe_norton.proofs.SearchLaws.{orthogonal_point_is}
use Rattle.axe_norton.proofs.FirstLaws.{many_over, many_orthogonal, many_fits, many_nonzero, many_proper, many_transposed, many_left, said_by_points, said_where_left}
use Rattle.axe_norton.proofs.LastLaws.{first_is_last_unit}
use Rattle.axe_norton.proofs.ZeroFactors.{none_fits_zero}
use mathlib.Core.Path.{refl, sym, ◌∙◌, ap, subst}
use native.Mathlib.Omega.{arith}
use native.Mathlib.Decide.{dec_lt}

-- a list of zeros, and a table of them
zero_row : (n : ℕ) → IsZeroVector (listed n (λ j. 0))
zero_row n = All-from_get_or (λ number. number ≡ 0) (listed n (λ j. 0)) 0 (λ j below.
    listed_at n (λ j. 0) j 0 (omega (arith, below, listed_length {A = ℕ} n (λ j. 0))))

zero_rows : (o : Order) (n : ℕ) → All IsZeroVector (zero_matrix o n n).rows
zero_rows o n = All-from_get_or IsZeroVector (zero_matrix o n n).rows [] (λ i below.
    subst IsZeroVector (sym (table_row n n (λ i j. 0) i (omega (arith, below, table_length n n (λ i j. 0))))) (zero_row n))

-- the word without terms is one of each module
pub no_terms_in : (m : ModuleValue) → IsWordIn m []
no_terms_in m = record {
  over = record {
    coefficients = All-nil (λ (term : ℕ × List ℕ). term.0 < (number_field m.order).order);
    generators = All-nil (λ (term : ℕ × List ℕ). All (λ number. number < length m.generators) term.1);
  };
}

-- the last unit vector as a row
abbrev pub last_row : ModuleValue → RowValue
last_row m = record { order = m.order; entries = unit_row m.dim (m.dim - 1) }

module _ (m : ModuleValue) (is : IsModule m) (large : most_points < point_count (order_number m.order) m.dim) where
  abbrev K : NumberField
  K = number_field m.order

  -- the value of the word without terms, and its null space
  abbrev value : MatrixValue
  value = zero_matrix m.order m.dim m.dim

  abbrev null : MatrixValue
  null = identity_matrix m.order m.dim

  count : length value.rows ≡ m.dim
  count = table_length m.dim m.dim (λ i j. 0)

  value_is : IsValueOf m [] value
  value_is = value-none m m.order m.dim m.dim value refl refl refl refl

  null_is : IsNullSpaceMatrix value null
  null_is =
      identity_is_null_space value null m.order m.dim (omega (arith, count, is.over.positive)) (omega (arith, count, is.dim_fits))
      (zero_rows m.order m.dim) refl (sym count) refl

  well_formed : IsMatrix null
  well_formed =
      matrix_of_rows_over m.order m.dim (identity m.dim) is.over.positive is.dim_fits (omega (arith, identity_length K m.dim, is.dim_fits))
      (identity_over K m.dim)

  tested : IsTestedBy m [] (record { matrix = value; null_space = null })
  tested = record { value = value_is; tested = record { null_space = null_is; well_formed = well_formed } }

  first_of_many : IsFirstOfMany m value (last_row m)
  first_of_many = record {
    null_space = null;
    value = record { word = []; is_word = no_terms_in m; is_tested = tested };
    some_row = omega (arith, identity_length K m.dim, is.over.positive);
    many = λ few.
        (let same : point_count (order_number m.order) (length (identity m.dim)) ≡ point_count (order_number m.order) m.dim =
        ap (point_count (order_number m.order)) (identity_length K m.dim) in
        omega (arith, few, same, large));
    first = ap (λ (entries : List ℕ). record { order = m.order; entries = entries })
        (sym (first_is_last_unit m is (record { matrix = value; null_space = null }) tested));
  }

  value_well_formed : IsMatrix value
  value_well_formed =
      matrix_of_rows_over m.order m.dim value.rows is.over.positive is.dim_fits (omega (arith, count, is.dim_fits)) value_is.value.square.matrix

  more_than_one : 1 < m.dim
  more_than_one = by_size (dec_lt 1 m.dim)
    where
      by_size : Dec (1 < m.dim) → 1 < m.dim
      by_size (yes more) = more
      by_size (no not_more) =
          let least : 2 ≤ order_number m.order = order_number-at_least m.order in
          let grows : point_count (order_number m.order) m.dim ≤ point_count (order_number m.order) (0 + 1) =
          count_grows (order_number m.order) m.dim (0 + 1) least (omega arith) in
          let one : point_count (order_number m.order) (0 + 1) ≡ 0 * order_number m.order + 1 =
          count_after (order_number m.order) 0 least
          ∙ ap (λ k. k * order_number m.order + 1) (sym (count_at_start (order_number m.order))) in
          absurd (omega (arith, large, grows, one))

  none_fits_value : NoneFits value
  none_fits_value = none_fits_zero value value_is.value.square
      (λ t below. vector_of_zero_row K (get_or value.rows t []) (All-get_or IsZeroVector value.rows t [] below (zero_rows m.order m.dim)))
      more_than_one

  transposed_point : (w : RowValue) → w ≡ last_row m → IsTransposedPointRow value w
  transposed_point w same =
      orthogonal_point_is value (many_over m value (last_row m) first_of_many) (many_orthogonal m value (last_row m) first_of_many) w
      (point_of_zeros value m.order m.dim (m.dim - 1) w value_well_formed (zero_rows m.order m.dim) refl refl refl same)

  module _ (v : RowValue) (same : v ≡ last_row m) where
    first_point : IsFirstOfMany m value v
    first_point = subst (IsFirstOfMany m value) (sym same) first_of_many

    pub last_fits : length v.entries ≡ m.dim
    last_fits = many_fits m value v first_point

    pub last_nonzero : ¬ (IsZeroVector v.entries)
    last_nonzero = many_nonzero m value v first_point

    pub row_generates : LastGenerates m → GeneratesModule m v.entries
    row_generates last = subst (λ (r : RowValue). GeneratesModule m r.entries) (sym same) last

    said : (space : MatrixValue) → TellsByNullSpace m value (Reducible space) → Says m [] (Reducible space)
    said space told = said_by_points m [] value value_is (Reducible space) (λ left. (let e : Reducible space ≡ Left = left in cc)) told

    -- it generates a proper space
    pub proper_said : (space : MatrixValue) → GeneratesProper m v.entries space → Says m [] (Reducible space)
    proper_said space proper = said space (many_proper m value v first_point space proper)

    -- it generates everything
    module _ (generates : GeneratesModule m v.entries) (w : RowValue) (same_w : w ≡ last_row m) where
      pub transposed_said : (space : MatrixValue) → IsAnnihilatorOf m w.entries space → Says m [] (Reducible space)
      transposed_said space of_point = said space (many_transposed m value v first_point generates w (transposed_point w same_w) space of_point)

      pub left_said : GeneratesModule (dual_module m) w.entries → Says m [] Left
      left_said transpose =
          said_where_left m [] value value_is (Ok Left) (many_left m value v first_point generates w (transposed_point w same_w) transpose) none_fits_value

-- the last unit vector as it is made
pub is_last_row : (m : ModuleValue) (o : Order) (n : ℕ) (v : RowValue) → o ≡ m.order → n ≡ m.dim → v ≡ record { order = o; entries = unit_row n (n - 1) } → v ≡ last_row m
is_last_row m o n v field dim is = is ∙ (λ i. record { order = field i; entries = unit_row (dim i) (dim i - 1) })
