-- Vectors that are orthogonal to rows: rows with one span have the same ones, and so one null space of their transposes.
use Rattle.std.specs.Prelude.{◌≡◌, ℕ, ◌<◌, ◌≤◌, List, length}
use Rattle.axe_algebra.specs.NumberField.{NumberField}
use Rattle.axe_algebra.specs.Field.{Field}
use Rattle.axe_algebra.specs.Vectors.{Vector, Matrix, zero_vector, transposed, times, dot}
use Rattle.axe_algebra.specs.Spans.{InSpan, SpanWithin, IsNullVector}
use Rattle.axe_algebra.specs.Bridge.{matrix_of}
use Rattle.axe_algebra.specs.Lists.{IsMatrixOver}
use Rattle.axe_algebra.specs.ListArithmetic.{transpose}
use Rattle.axe_algebra.specs.SpansOfLists.{HaveSameSpan, IsNullSpaceBasis}
use Rattle.axe_algebra.proofs.Annihilators.{dot-zero, null_of_transpose_is_orthogonal}
use Rattle.axe_algebra.proofs.ListEntries.{row_past}
use Rattle.axe_algebra.proofs.ListIrreducible.{transpose_length}
use Rattle.axe_algebra.proofs.ListProducts.{matrix_of_transpose}
use Rattle.axe_algebra.proofs.ProductLaws.{times-at, times_none, dot-at, dot_comm}
use Rattle.axe_field.specs.Order.{Order}
use Rattle.axe_field.specs.NumberFields.{number_field, gf}
use Rattle.axe_row.specs.Rows.{RowValue}
use Rattle.axe_matrix.specs.Matrices.{MatrixValue, transposed_matrix}
use Rattle.axe_echelon.specs.Echelons.{IsNullSpaceMatrix}
use Rattle.axe_norton.specs.Searches.{HasOrthogonalVector, IsTransposedPointRow}
use mathlib.Core.Path.{sym, ◌∙◌, ap, subst, fun_ext}
use native.Mathlib.Omega.{arith}
use native.Mathlib.Decide.{dec_lt}

-- what is orthogonal to rows is so to all that they span
pub orthogonal_within : (F : Field) (n k : ℕ) (a : Matrix F) (m : ℕ) (b : Matrix F) (w : Vector F) →
    ((t j : ℕ) → m ≤ t → b t j ≡ F.zero) → SpanWithin F m b k a → IsNullVector F n (transposed F a) w →
    IsNullVector F n (transposed F b) w
orthogonal_within F n k a m b w past within null = record {
  length = null.length;
  vanishes = fun_ext λ t. at t (dec_lt t m);
}
  where
    dot_with : (t : ℕ) → times F n w (transposed F b) t ≡ dot F n (b t) w
    dot_with t = times-at F n w (transposed F b) t ∙ sym (dot-at F n w (b t)) ∙ dot_comm F n w (b t)

    at : (t : ℕ) → Dec (t < m) → times F n w (transposed F b) t ≡ F.zero
    at t (yes below) =
        let spanned : InSpan F k a (b t) = within t below in
        dot_with t ∙ ap (λ (y : Vector F). dot F n y w) spanned.combines
        ∙ null_of_transpose_is_orthogonal F k n a w null.vanishes spanned.coefficients
    at t (no above) =
        dot_with t ∙ ap (λ (y : Vector F). dot F n y w) (fun_ext λ j. past t j (omega (arith, above)))
        ∙ dot_comm F n (zero_vector F) w ∙ dot-zero F n w

module _ (o : Order) (n : ℕ) where
  abbrev K : NumberField
  K = number_field o

  abbrev F : Field
  F = gf o

  -- null vectors of the transpose of rows
  module _ (rows : List (List ℕ)) (over : IsMatrixOver K n rows) (w : Vector F) where
    null_of_list : IsNullVector F n (transposed F (matrix_of K rows)) w →
        IsNullVector F (length (transpose n rows)) (matrix_of K (transpose n rows)) w
    null_of_list null =
        subst (λ k. IsNullVector F k (matrix_of K (transpose n rows)) w) (sym (transpose_length n rows))
        (subst (λ (a : Matrix F). IsNullVector F n a w) (sym (matrix_of_transpose K n rows over)) null)

    list_of_null : IsNullVector F (length (transpose n rows)) (matrix_of K (transpose n rows)) w →
        IsNullVector F n (transposed F (matrix_of K rows)) w
    list_of_null null =
        subst (λ (a : Matrix F). IsNullVector F n a w) (matrix_of_transpose K n rows over)
        (subst (λ k. IsNullVector F k (matrix_of K (transpose n rows)) w) (transpose_length n rows) null)

  -- rows that are spanned by others: what is orthogonal to these is so to them
  pub orthogonal_to_spanned : (rows others : List (List ℕ)) (w : Vector F) →
      SpanWithin F (length others) (matrix_of K others) (length rows) (matrix_of K rows) →
      IsNullVector F n (transposed F (matrix_of K rows)) w → IsNullVector F n (transposed F (matrix_of K others)) w
  orthogonal_to_spanned rows others w =
      orthogonal_within F n (length rows) (matrix_of K rows) (length others) (matrix_of K others) w
      (λ t j past. row_past K others t past j)

  -- rows with one span have one null space of the transposes
  null_space_carried : (rows others basis : List (List ℕ)) → IsMatrixOver K n rows → IsMatrixOver K n others →
      HaveSameSpan K rows others →
      IsNullSpaceBasis K (transpose n rows) basis → IsNullSpaceBasis K (transpose n others) basis
  null_space_carried rows others basis over over_others same is = record {
    forth = λ x in_span. null_of_list others over_others x
        (orthogonal_to_spanned rows others x same.back (list_of_null rows over x (is.forth x in_span)));
    back = λ x null. is.back x (null_of_list rows over x
        (orthogonal_to_spanned others rows x same.forth (list_of_null others over_others x null)));
    reduced = is.reduced;
  }

-- the null space of the transpose has a row where something other than zero is orthogonal to the rows
pub orthogonal_rows : (rows null : MatrixValue) → IsMatrixOver (number_field rows.order) rows.cols rows.rows →
    HasOrthogonalVector rows →
    IsNullSpaceMatrix (transposed_matrix rows) null → 0 < length null.rows
orthogonal_rows rows null over has is = by_size (dec_lt 0 (length null.rows))
  where
    F : Field
    F = gf rows.order

    spanned : InSpan F (length null.rows) (matrix_of (number_field rows.order) null.rows) has.vector
    spanned = is.basis_of_null_space.back has.vector
        (null_of_list rows.order rows.cols rows.rows over has.vector has.orthogonal)

    by_size : Dec (0 < length null.rows) → 0 < length null.rows
    by_size (yes some) = some
    by_size (no none) =
        let no_row : length null.rows ≡ 0 = omega (arith, none) in
        absurd (has.nonzero (spanned.combines
        ∙ ap (λ k. times F k spanned.coefficients (matrix_of (number_field rows.order) null.rows)) no_row
        ∙ times_none F spanned.coefficients (matrix_of (number_field rows.order) null.rows)))

-- ---- rows that span what those of a matrix span

module _ (rows matrix : MatrixValue) (field : rows.order ≡ matrix.order) (columns : rows.cols ≡ matrix.cols)
    (same : HaveSameSpan (number_field matrix.order) rows.rows matrix.rows) where
  -- the rows over the matrix's field
  here : rows ≡ record { order = matrix.order; cols = matrix.cols; rows = rows.rows }
  here = λ i. record { order = field i; cols = columns i; rows = rows.rows }

  -- something is orthogonal to them where it is so to the matrix's
  pub orthogonal_is_carried : HasOrthogonalVector matrix → HasOrthogonalVector rows
  orthogonal_is_carried has = subst HasOrthogonalVector (sym here) (record {
    vector = has.vector;
    nonzero = has.nonzero;
    orthogonal = orthogonal_to_spanned matrix.order matrix.cols matrix.rows rows.rows has.vector same.forth has.orthogonal;
  })

  -- and the first point of the null space of their transpose is the matrix's
  module _ (over_rows : IsMatrixOver (number_field rows.order) rows.cols rows.rows)
      (over : IsMatrixOver (number_field matrix.order) matrix.cols matrix.rows) where
    null_space_is_carried : (basis : MatrixValue) → IsNullSpaceMatrix (transposed_matrix rows) basis →
        IsNullSpaceMatrix (transposed_matrix matrix) basis
    null_space_is_carried basis is = record {
      field = is.field ∙ field;
      columns = is.columns ∙ transpose_length rows.cols rows.rows ∙ columns ∙ sym (transpose_length matrix.cols matrix.rows);
      basis_of_null_space =
          null_space_carried matrix.order matrix.cols rows.rows matrix.rows basis.rows over_here over same by_columns;
    }
      where
        over_here : IsMatrixOver (number_field matrix.order) matrix.cols rows.rows
        over_here = subst (λ k. IsMatrixOver (number_field matrix.order) k rows.rows) columns
            (subst (λ o. IsMatrixOver (number_field o) rows.cols rows.rows) field over_rows)

        by_columns : IsNullSpaceBasis (number_field matrix.order) (transpose matrix.cols rows.rows) basis.rows
        by_columns = subst (λ k. IsNullSpaceBasis (number_field matrix.order) (transpose k rows.rows) basis.rows) columns
            (subst (λ o. IsNullSpaceBasis (number_field o) (transpose rows.cols rows.rows) basis.rows) field
            is.basis_of_null_space)

    pub point_is_carried : (v : RowValue) → IsTransposedPointRow rows v → IsTransposedPointRow matrix v
    point_is_carried v found = record {
      point = record {
        null_space = found.point.null_space;
        is_null_space = null_space_is_carried found.point.null_space found.point.is_null_space;
        well_formed = found.point.well_formed;
        some_point = found.point.some_point;
      };
      field = found.field ∙ field;
      first = found.first;
    }
