-- Vectors modulo a span: their combinations are combinations, and which are zero.
use Rattle.std.specs.Prelude.{◌≡◌, ℕ, ◌<◌, List, [], length, get_or}
use Rattle.std.proofs.lemmas.List.Elements.{All-from_get_or}
use Rattle.axe_algebra.specs.NumberField.{NumberField}
use Rattle.axe_algebra.specs.Field.{Field}
use Rattle.axe_algebra.specs.Vectors.{Vector, Matrix, HasLength, subtract, times, multiply}
use Rattle.axe_algebra.specs.Spans.{InSpan}
use Rattle.axe_algebra.specs.Reduced.{IsPivot, IsZeroAtPivots}
use Rattle.axe_algebra.specs.Actions.{unit_vectors}
use Rattle.axe_algebra.specs.Bridge.{vector_of, matrix_of, element}
use Rattle.axe_algebra.specs.Lists.{IsVectorOver, IsMatrixOver, entries_of}
use Rattle.axe_algebra.specs.ListArithmetic.{combination}
use Rattle.axe_algebra.specs.SpansOfLists.{IsSpanned}
use Rattle.axe_algebra.proofs.FieldLaws.{neg-zero}
use Rattle.axe_algebra.proofs.ProductLaws.{times_same, times_times, times_zero}
use Rattle.axe_algebra.proofs.Spanning.{span_same, span_times}
use Rattle.axe_algebra.proofs.Sections.{times-subtracted_rows}
use Rattle.axe_algebra.proofs.Quotients.{unit_combination_at, unit_combination_off}
use Rattle.axe_algebra.proofs.FreeColumns.{by_free_columns}
use Rattle.axe_algebra.proofs.ElementNumbers.{same_number, entry-below}
use Rattle.axe_algebra.proofs.ListEntries.{rows_length, vector_length, vector_of_entries, entries_over}
use Rattle.axe_algebra.proofs.ListProducts.{vector_of_combination, combination_over}
use Rattle.axe_field.specs.NumberFields.{number_field, gf}
use Rattle.axe_row.specs.Operations.{IsZeroVector}
use Rattle.axe_echelon.specs.Echelons.{EchelonValue}
use Rattle.axe_echelon.proofs.EliminationLaws.{vector_of_zero_row}
use Rattle.axe_action.specs.FreeColumns.{IsFreeColumn, AreFreeColumns, IsRowModulo}
use Rattle.axe_action.proofs.QuotientSpans.{zero_of_spanned}
use mathlib.Core.Path.{refl, sym, ◌∙◌, ap, ap₂, subst, fun_ext}
use native.Mathlib.Omega.{arith}

module _ (e : EchelonValue) (columns : List ℕ) (over : IsMatrixOver (number_field e.order) e.cols e.rows) (free : AreFreeColumns e columns) where
  abbrev K : NumberField
  K = number_field e.order

  abbrev F : Field
  F = gf e.order

  abbrev place : ℕ → ℕ
  place = λ s. get_or columns s 0

  -- the combination of the unit vectors of the columns with a row's entries
  abbrev spread : Vector F → Vector F
  spread x = times F (length columns) x (unit_vectors F place)

  abbrev IsCongruent : Vector F → Vector F → Type 0
  IsCongruent x r = InSpan F (length e.rows) (matrix_of K e.rows) (subtract F x (spread r))

  -- a row modulo the span combines the unit vectors to its representative
  congruent_of_modulo : (v row : List ℕ) → IsRowModulo e columns v row → IsCongruent (vector_of K v) (vector_of K row)
  congruent_of_modulo v row is =
      span_same F (length e.rows) (matrix_of K e.rows) _ (subtract F (vector_of K v) (vector_of K is.representative)) (ap (subtract F (vector_of K v)) combines)
      is.represents.in_coset
    where
      combines : spread (vector_of K row) ≡ vector_of K is.representative
      combines =
          times_same F (length columns) (vector_of K row) (λ s. vector_of K is.representative (place s)) (unit_vectors F place) (unit_vectors F place)
          (λ s small. ap (element K) (is.entries s small)) (λ s small. refl)
          ∙ sym (by_free_columns F e.cols (length e.rows) (matrix_of K e.rows) (rows_length K e.cols e.rows over) (length columns) place free
          (vector_of K is.representative) (vector_length K e.cols is.representative is.over.length_is) is.represents.at_pivots)

  modulo_of_congruent : (v row : List ℕ) → IsVectorOver K (length columns) row → IsCongruent (vector_of K v) (vector_of K row) → IsRowModulo e columns v row
  modulo_of_congruent v row row_over congruent = record {
    fits = row_over.length_is;
    representative = entries_of K e.cols y;
    over = entries_over K e.cols y;
    represents = record {
      in_coset = subst (λ (z : Vector F). InSpan F (length e.rows) (matrix_of K e.rows) (subtract F (vector_of K v) z)) (sym entries) congruent;
      at_pivots = subst (IsZeroAtPivots F (length e.rows) (matrix_of K e.rows)) (sym entries) at_pivots;
    };
    entries = λ s below. same_number K (get_or row s 0) (get_or (entries_of K e.cols y) (place s) 0) (entry-below K row s row_over.elements)
        (entry-below K (entries_of K e.cols y) (place s) (entries_over K e.cols y).elements)
        (sym (unit_combination_at F (IsFreeColumn e) (length columns) place free (vector_of K row) s below)
        ∙ ap (λ (z : Vector F). z (place s)) (sym entries));
  }
    where
      y : Vector F
      y = spread (vector_of K row)

      long : HasLength F e.cols y
      long j past = unit_combination_off F (length columns) place (vector_of K row) j (λ t below same.
          let inside : place t < e.cols = (free.each t below).below in absurd (omega (arith, same)))

      entries : vector_of K (entries_of K e.cols y) ≡ y
      entries = vector_of_entries K e.cols y long

      at_pivots : IsZeroAtPivots F (length e.rows) (matrix_of K e.rows) y
      at_pivots j pivot = unit_combination_off F (length columns) place (vector_of K row) j
          (λ t below same. (free.each t below).no_pivot (subst (IsPivot F (length e.rows) (matrix_of K e.rows)) (sym same) pivot))

  -- a combination modulo the span is the combination of the rows modulo the span
  pub row_combines : (n : ℕ) (c : List ℕ) (vectors : ℕ → List ℕ) (matrix : List (List ℕ)) (v : List ℕ) → IsVectorOver K n c →
      IsMatrixOver K (length columns) matrix → length matrix ≡ n → ((t : ℕ) → t < n → IsRowModulo e columns (vectors t) (get_or matrix t [])) →
      vector_of K v ≡ times F n (vector_of K c) (λ t. vector_of K (vectors t)) → IsRowModulo e columns v (combination K (length columns) c matrix)
  row_combines n c vectors matrix v c_over matrix_is_over many each is =
      modulo_of_congruent v (combination K (length columns) c matrix) (combination_over K (length columns) c matrix c_fits matrix_is_over)
      (span_same F (length e.rows) (matrix_of K e.rows) _ (times F n (vector_of K c) differences) same
      (span_times F (length e.rows) (matrix_of K e.rows) n (vector_of K c) differences
      (λ t below. congruent_of_modulo (vectors t) (get_or matrix t []) (each t below))))
    where
      differences : Matrix F
      differences = λ t. subtract F (vector_of K (vectors t)) (spread (matrix_of K matrix t))

      c_fits : IsVectorOver K (length matrix) c
      c_fits = subst (λ k. IsVectorOver K k c) (sym many) c_over

      row_is : vector_of K (combination K (length columns) c matrix) ≡ times F n (vector_of K c) (matrix_of K matrix)
      row_is = vector_of_combination K (length columns) c matrix c_fits matrix_is_over ∙ ap (λ k. times F k (vector_of K c) (matrix_of K matrix)) many

      same : subtract F (vector_of K v) (spread (vector_of K (combination K (length columns) c matrix))) ≡ times F n (vector_of K c) differences
      same =
          ap₂ (subtract F) is
          (ap spread row_is ∙ times_times F (length columns) n (vector_of K c) (matrix_of K matrix) (unit_vectors F place))
          ∙ sym (times-subtracted_rows F n (vector_of K c) (λ t. vector_of K (vectors t)) (multiply F (length columns) (matrix_of K matrix) (unit_vectors F place)))

  -- the row is zero exactly where the vector is in the span
  pub spanned_if_zero : (v row : List ℕ) → IsRowModulo e columns v row → IsZeroVector row → IsSpanned K e.rows v
  spanned_if_zero v row is zeros =
      span_same F (length e.rows) (matrix_of K e.rows) (vector_of K v) (subtract F (vector_of K v) (spread (vector_of K row)))
      (fun_ext λ j. sym (ap (λ (y : Vector F). F.add (vector_of K v j) (F.neg (y j))) nothing
      ∙ ap (F.add (vector_of K v j)) (neg-zero F) ∙ F.add-zero (vector_of K v j)))
      (congruent_of_modulo v row is)
    where
      nothing : spread (vector_of K row) ≡ λ j. F.zero
      nothing = ap spread (vector_of_zero_row K row zeros) ∙ times_zero F (length columns) (unit_vectors F place)

  pub zero_if_spanned : (v row : List ℕ) → IsRowModulo e columns v row → IsSpanned K e.rows v → IsZeroVector row
  zero_if_spanned v row is spanned = All-from_get_or (λ number. number ≡ 0) row 0 (λ s below.
      let inside : s < length columns = omega (arith, below, is.fits) in
      let small : place s < length is.representative = omega (arith, (free.each s inside).below, is.over.length_is) in
      is.entries s inside ∙ zero_of_spanned K e.cols e.rows v is.representative over is.over is.represents spanned (place s) 0 small)
