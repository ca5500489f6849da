-- The whole space: its reduced basis are the unit vectors.
use Rattle.std.specs.Prelude.{◌≡◌, ℕ, ◌<◌, List, [], length}
use Rattle.axe_algebra.specs.NumberField.{NumberField}
use Rattle.axe_algebra.specs.Field.{Field}
use Rattle.axe_algebra.specs.Vectors.{unit_vector}
use Rattle.axe_algebra.specs.Bridge.{vector_of, matrix_of}
use Rattle.axe_algebra.specs.Lists.{listed, unit_row}
use Rattle.axe_algebra.specs.Spans.{InSpan}
use Rattle.axe_algebra.specs.SpansOfLists.{IsPivot}
use Rattle.axe_algebra.proofs.ProductLaws.{unit_at, unit_off, unit_length}
use Rattle.axe_algebra.proofs.Spanning.{span_same}
use Rattle.axe_algebra.proofs.ListEntries.{listed_at, listed_length}
use Rattle.axe_algebra.proofs.ListSpans.{enough_rows_span}
use Rattle.axe_algebra.proofs.ListVectors.{vector_of_unit_row}
use Rattle.axe_field.specs.Order.{Order}
use Rattle.axe_field.specs.NumberFields.{number_field, gf}
use Rattle.axe_matrix.specs.Matrices.{MatrixValue, identity_matrix}
use Rattle.axe_matrix.proofs.TransposeLaws.{identity_matrix-rows}
use Rattle.axe_echelon.specs.Echelons.{EchelonValue, IsEchelon, IsReducedMatrix}
use Rattle.axe_echelon.proofs.ReducedLaws.{pivot-below}
use mathlib.Core.Path.{refl, sym, ◌∙◌, ap, ap₂, subst}
use native.Mathlib.Omega.{arith}

-- as many independent rows as columns have the unit vectors as the reduced basis of their span
module _ (e : EchelonValue) (h : IsEchelon e) (full : length e.rows ≡ e.cols) where
  abbrev K : NumberField
  K = number_field e.order

  abbrev F : Field
  F = gf e.order

  abbrev units : List (List ℕ)
  units = listed e.cols (unit_row e.cols)

  count : (t : ℕ) → t < length units → t < e.cols
  count t below = omega (arith, below, listed_length e.cols (unit_row e.cols))

  row_is : (t : ℕ) → t < e.cols → matrix_of K units t ≡ unit_vector F t
  row_is t below = ap (vector_of K) (listed_at e.cols (unit_row e.cols) t [] below) ∙ vector_of_unit_row K e.cols t below

  unit_in_span : (t : ℕ) → t < e.cols → InSpan F (length e.rows) (matrix_of K e.rows) (unit_vector F t)
  unit_in_span t below = enough_rows_span K e.cols e.rows h.over h.independent full (unit_vector F t) (unit_length F e.cols t below)

  each_is_pivot : (t : ℕ) → t < e.cols → IsPivot K e.rows t
  each_is_pivot t below = record {
    vector = unit_vector F t;
    in_span = unit_in_span t below;
    leads = record {
      nonzero = λ zero. F.one-not-zero (sym (unit_at F t) ∙ zero);
      before = λ i ahead. unit_off F t i (λ same. omega (arith, same, ahead));
    };
  }

  pub units_are_reduced : IsReducedMatrix e (record { order = e.order; cols = e.cols; rows = units })
  units_are_reduced = record {
    field = refl;
    columns = refl;
    basis = record {
      pivots = λ t. t;
      are_pivots = record {
        ascending = λ s t first below. first;
        each = λ t below. each_is_pivot t (count t below);
        all = λ j pivot. (j, (let inside = pivot-below e h j pivot in omega (arith, inside, listed_length e.cols (unit_row e.cols))), refl);
      };
      in_span = λ t below. span_same F (length e.rows) (matrix_of K e.rows) (matrix_of K units t) (unit_vector F t) (row_is t (count t below))
          (unit_in_span t (count t below));
      one = λ t below. ap (λ x. x t) (row_is t (count t below)) ∙ unit_at F t;
      zero = λ s t first below other. ap (λ x. x s) (row_is t (count t below)) ∙ unit_off F t s (λ same. other (sym same));
    };
  }

pub identity_is_reduced : (e : EchelonValue) (m : MatrixValue) (o : Order) (n : ℕ) → IsEchelon e → o ≡ e.order → n ≡ e.cols → length e.rows ≡ e.cols →
    m ≡ identity_matrix o n → IsReducedMatrix e m
identity_is_reduced e m o n h same_field same_columns full is =
    subst (IsReducedMatrix e) (sym (is ∙ ap₂ identity_matrix same_field same_columns ∙ sym (identity_matrix-rows e.order e.cols))) (units_are_reduced e h full)
