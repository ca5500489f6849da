-- Matrices whose rows are read from the last entry to the first, row by row.
use Rattle.std.specs.Prelude.{◌≡◌, ℕ, ◌+◌, ◌-◌, ◌<◌, [], ◌∷◌, ◌++◌, length, get_or, reverse}
use Rattle.std.proofs.lemmas.Bool.{cases_eq}
use Rattle.std.proofs.lemmas.List.{get_or_append_left, get_or_push, length_push}
use Rattle.axe_algebra.specs.Bridge.{vector_of, matrix_of}
use Rattle.axe_algebra.specs.NumberField.{NumberField}
use Rattle.axe_algebra.proofs.ListEntries.{row_past}
use Rattle.axe_field.specs.NumberFields.{number_field, gf}
use Rattle.axe_field.specs.Order.{Order}
use Rattle.axe_row.specs.Rows.{RowValue}
use Rattle.axe_matrix.specs.Matrices.{MatrixValue, IsMatrix, row_of}
use Rattle.axe_matrix.proofs.MatrixLaws.{length-row_of}
use Rattle.axe_echelon.specs.Mirrored.{mirrored, mirrored_row, IsMirrored}
use Rattle.axe_echelon.proofs.MirroredLaws.{same_as_mirrored}
use Rattle.axe_echelon.proofs.MirroredLists.{vector_of_reverse}
use mathlib.Core.Logic.{inl, inr}
use mathlib.Core.Path.{sym, ◌∙◌, ap, fun_ext}
use native.Mathlib.Decide.{dec_lt}
use native.Mathlib.Omega.{arith}

-- a matrix over the field of m and of its width, with its first n rows, each read from the last entry to the first
pub record HasMirroredRows (n : ℕ) (m other : MatrixValue) : Type 0 where
  pub field : other.order ≡ m.order
  pub columns : other.cols ≡ m.cols
  pub count : length other.rows ≡ n
  pub done : (t : ℕ) → t < n → get_or other.rows t [] ≡ reverse (get_or m.rows t [])
  pub well_formed : IsMatrix other

pub mirrored_rows_none : (m other : MatrixValue) (o : Order) (cols : ℕ) → other ≡ record { order = o; cols = cols; rows = [] } → o ≡ m.order → cols ≡ m.cols →
    IsMatrix other → HasMirroredRows 0 m other
mirrored_rows_none m other o cols is order width well_formed = record {
  field = ap (λ (x : MatrixValue). x.order) is ∙ order;
  columns = ap (λ (x : MatrixValue). x.cols) is ∙ width;
  count = ap (λ (x : MatrixValue). length x.rows) is;
  done = λ t below. absurd (omega (arith, below));
  well_formed = well_formed;
}

pub mirrored_rows_more : (n : ℕ) (m other next : MatrixValue) (row : RowValue) → HasMirroredRows n m other → row ≡ mirrored_row (row_of m n) →
    next ≡ record { order = other.order; cols = other.cols; rows = other.rows ++ row.entries ∷ [] } → IsMatrix next → HasMirroredRows (n + 1) m next
mirrored_rows_more n m other next row h row_is is well_formed = record {
  field = ap (λ (x : MatrixValue). x.order) is ∙ h.field;
  columns = ap (λ (x : MatrixValue). x.cols) is ∙ h.columns;
  count =
      let grown = length_push other.rows row.entries in
      ap (λ (x : MatrixValue). length x.rows) is ∙ omega (arith, grown, h.count);
  done = λ t below. ap (λ (x : MatrixValue). get_or x.rows t []) is ∙ elim (cases_eq t n) [
    | inl last ↦
        get_or_push other.rows row.entries [] t (h.count ∙ sym last) ∙ ap (λ (r : RowValue). r.entries) row_is
        ∙ ap (λ k. reverse (get_or m.rows k [])) (sym last)
    | inr other_row ↦
        let before : t < n = omega (arith, below, other_row) in
        get_or_append_left other.rows (row.entries ∷ []) [] t (omega (arith, before, h.count)) ∙ h.done t before
  ];
  well_formed = well_formed;
}

pub mirrored_rows_all : (n : ℕ) (m other : MatrixValue) → HasMirroredRows n m other → IsMatrix m → n ≡ length m.rows → IsMirrored m other
mirrored_rows_all n m other h well_formed all = record {
  field = h.field;
  columns = h.columns;
  count = h.count ∙ all;
  rows = fun_ext λ t. row t;
  well_formed = h.well_formed;
}
  where
    K : NumberField
    K = number_field m.order

    row : (t : ℕ) → matrix_of K other.rows t ≡ mirrored (gf m.order) m.cols (matrix_of K m.rows t)
    row t = elim (dec_lt t n) [
      | yes inside ↦
          ap (vector_of K) (h.done t inside)
          ∙ vector_of_reverse K m.cols (get_or m.rows t []) (length-row_of m t well_formed (omega (arith, inside, all)))
      | no past ↦
          let none : (j : ℕ) → matrix_of K m.rows t j ≡ (gf m.order).zero = row_past K m.rows t (omega (arith, past, all)) in
          let no_row : (j : ℕ) → matrix_of K other.rows t j ≡ (gf m.order).zero = row_past K other.rows t (omega (arith, past, h.count)) in
          same_as_mirrored (gf m.order) m.cols (matrix_of K m.rows t) (matrix_of K other.rows t) (λ j _. no_row j)
          (λ j _. no_row j ∙ sym (none (m.cols - 1 - j)))
    ]
