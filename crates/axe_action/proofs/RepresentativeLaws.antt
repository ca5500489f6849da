-- The representative of a vector modulo a span, by the span's reduced basis: the vector without the combination of the
-- basis with its entries at the pivots.
use Rattle.std.specs.Prelude.{◌≡◌, ℕ, ◌<◌, List, length, get_or}
use Rattle.std.proofs.lemmas.List.{get_or-map}
use Rattle.axe_algebra.specs.NumberField.{NumberField}
use Rattle.axe_algebra.specs.Field.{Field}
use Rattle.axe_algebra.specs.Vectors.{Vector, Matrix, HasLength, subtract, times}
use Rattle.axe_algebra.specs.Reduced
use Rattle.axe_algebra.specs.Bridge.{vector_of, matrix_of, element}
use Rattle.axe_algebra.specs.Lists.{IsVectorOver, IsMatrixOver, entries_of}
use Rattle.axe_algebra.specs.SpansOfLists.{IsPivot}
use Rattle.axe_algebra.proofs.FieldLaws.{zero-add, neg-neg, neg-sum_of_two, difference_of_same}
use Rattle.axe_algebra.proofs.ProductLaws.{times_same, times_length}
use Rattle.axe_algebra.proofs.Spanning.{span_same, span_times}
use Rattle.axe_algebra.proofs.Reducing.{coefficient_at_pivot}
use Rattle.axe_algebra.proofs.ReducedBases.{same_size, same_places}
use Rattle.axe_algebra.proofs.ElementNumbers.{same_number, entry-below}
use Rattle.axe_algebra.proofs.ListEntries.{rows_length, vector_length, vector_of_entries, entries_over}
use Rattle.axe_field.specs.NumberFields.{number_field, gf}
use Rattle.axe_matrix.specs.Matrices.{MatrixValue, entries_at}
use Rattle.axe_echelon.specs.Echelons.{EchelonValue, IsReducedMatrix}
use Rattle.axe_action.specs.Coordinates.{ArePivotColumns}
use Rattle.axe_action.specs.FreeColumns.{AreFreeColumns, IsRowModulo}
use mathlib.Core.Path.{refl, sym, ◌∙◌, ap, subst, fun_ext}
use native.Mathlib.Omega.{arith}

-- a vector without its part at the pivots is its representative
pub representative_by_basis : (F : Field) (k : ℕ) (v : Matrix F) (r : ℕ) (w : Matrix F) (x : Vector F) → (basis : Reduced.IsReducedBasis F k v r w) →
    Reduced.IsRepresentative F k v x (subtract F x (times F r (λ t. x (basis.pivots t)) w))
representative_by_basis F k v r w x basis = record {
  in_coset = span_same F k v (subtract F x (subtract F x part)) part (fun_ext λ j. back (x j) (part j))
      (span_times F k v r (λ t. x (basis.pivots t)) w basis.in_span);
  at_pivots = λ j pivot. at j (basis.are_pivots.all j pivot);
}
  where
    part : Vector F
    part = times F r (λ t. x (basis.pivots t)) w

    back : (a b : F.Element) → F.add a (F.neg (F.add a (F.neg b))) ≡ b
    back a b =
        ap (F.add a) (neg-sum_of_two F a (F.neg b) ∙ ap (F.add (F.neg a)) (neg-neg F b)) ∙ sym (F.add_assoc a (F.neg a) b)
        ∙ ap (λ (y : F.Element). F.add y b) (F.add-neg a) ∙ zero-add F b

    at : (j : ℕ) → (t : ℕ) × (t < r) × (basis.pivots t ≡ j) → F.add (x j) (F.neg (part j)) ≡ F.zero
    at j (t, below, e) =
        difference_of_same F (x j) (part j)
        (ap x (sym e) ∙ sym (coefficient_at_pivot F r w basis.pivots (λ s. x (basis.pivots s)) t below basis.one basis.zero) ∙ ap part e)

-- so are its entries at the columns that are no pivots, where the pivots are listed
pub row_by_basis : (e : EchelonValue) (basis : MatrixValue) (pivots columns v row : List ℕ) → IsMatrixOver (number_field e.order) e.cols basis.rows →
    IsReducedMatrix e basis → ArePivotColumns e pivots → AreFreeColumns e columns → IsVectorOver (number_field e.order) e.cols v →
    IsVectorOver (number_field e.order) (length columns) row →
    ((s : ℕ) → s < length columns → vector_of (number_field e.order) row s ≡ subtract (gf e.order) (vector_of (number_field e.order) v)
    (times (gf e.order) (length basis.rows) (vector_of (number_field e.order) (entries_at pivots v)) (matrix_of (number_field e.order) basis.rows))
    (get_or columns s 0)) → IsRowModulo e columns v row
row_by_basis e basis pivots columns v row over reduced are_pivots free v_over row_over is = record {
  fits = row_over.length_is;
  representative = entries_of K e.cols y;
  over = entries_over K e.cols y;
  represents = subst (Reduced.IsRepresentative F (length e.rows) (matrix_of K e.rows) (vector_of K v)) (sym entries)
      (representative_by_basis F (length e.rows) (matrix_of K e.rows) r w (vector_of K v) is_reduced);
  entries = λ s below. same_number K (get_or row s 0) (get_or (entries_of K e.cols y) (get_or columns s 0) 0) (entry-below K row s row_over.elements)
      (entry-below K (entries_of K e.cols y) (get_or columns s 0) (entries_over K e.cols y).elements)
      (is s below ∙ ap (λ (part : Vector F). subtract F (vector_of K v) part (get_or columns s 0)) parts
      ∙ ap (λ (z : Vector F). z (get_or columns s 0)) (sym entries));
}
  where
    K : NumberField
    K = number_field e.order

    F : Field
    F = gf e.order

    r : ℕ
    r = length basis.rows

    w : Matrix F
    w = matrix_of K basis.rows

    is_reduced : Reduced.IsReducedBasis F (length e.rows) (matrix_of K e.rows) r w
    is_reduced = reduced.basis

    part : Vector F
    part = times F r (λ t. vector_of K v (is_reduced.pivots t)) w

    y : Vector F
    y = subtract F (vector_of K v) part

    long : HasLength F e.cols y
    long j past =
        difference_of_same F (vector_of K v j) (part j)
        (vector_length K e.cols v v_over.length_is j past
        ∙ sym (times_length F r e.cols (λ t. vector_of K v (is_reduced.pivots t)) w (rows_length K e.cols basis.rows over) j past))

    entries : vector_of K (entries_of K e.cols y) ≡ y
    entries = vector_of_entries K e.cols y long

    count : length pivots ≡ r
    count = same_size (IsPivot K e.rows) (length pivots) (λ t. get_or pivots t 0) r is_reduced.pivots are_pivots is_reduced.are_pivots

    entry_at : (t : ℕ) → t < r → vector_of K (entries_at pivots v) t ≡ vector_of K v (is_reduced.pivots t)
    entry_at t below =
        ap (element K) (get_or-map (λ column. get_or v column 0) pivots t 0 0 (omega (arith, below, count)))
        ∙ ap (vector_of K v) (same_places (IsPivot K e.rows) (length pivots) (λ t. get_or pivots t 0) r is_reduced.pivots are_pivots is_reduced.are_pivots
        t (omega (arith, below, count)))

    parts : times F r (vector_of K (entries_at pivots v)) w ≡ part
    parts = times_same F r (vector_of K (entries_at pivots v)) (λ t. vector_of K v (is_reduced.pivots t)) w w entry_at (λ t below. refl)
