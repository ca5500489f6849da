-- Rows, each less the combination of reduced rows that has the row's entries at the pivots as its coefficients.
use Rattle.std.specs.Prelude.{◌≡◌, ℕ, ◌<◌, List, [], length, get_or, map}
use Rattle.std.proofs.lemmas.List.{length-map, get_or-map}
use Rattle.std.proofs.lemmas.List.FromFn.{fill_by_all}
use Rattle.axe_algebra.specs.NumberField.{NumberField}
use Rattle.axe_algebra.specs.Field.{Field}
use Rattle.axe_algebra.specs.Vectors.{Vector, Matrix, HasShape, multiply}
use Rattle.axe_algebra.specs.Bridge.{field_of, element, matrix_of}
use Rattle.axe_algebra.specs.Lists.{entry, listed, IsMatrixOver}
use Rattle.axe_algebra.specs.ListArithmetic.{product_entry}
use Rattle.axe_algebra.proofs.FieldLaws.{neg-mul, one-mul}
use Rattle.axe_algebra.proofs.ProductLaws.{times_same, times_zero_coefficients, times_length}
use Rattle.axe_algebra.proofs.ElementNumbers.{element_add, element_mul}
use Rattle.axe_algebra.proofs.ListEntries.{listed_at, table_over, table_length, matrix_entry-below, matrix_shape, matrix_of_table}
use Rattle.axe_algebra.proofs.ListProducts.{product_entry-below, element_product_entry}
use Rattle.axe_matrix.specs.Matrices.{entries_at}
use Rattle.axe_matrix.specs.Products.{rows_with_product}
use Rattle.axe_reduction.specs.Forms.{less_rows}
use mathlib.Core.Path.{refl, sym, ◌∙◌, ap, ap₂, subst, fun_ext}
use native.Mathlib.Omega.{arith}

module _ (K : NumberField) where
  abbrev F : Field
  F = field_of K

  -- the entries of the rows at the pivots
  abbrev pub at_pivots : List ℕ → List (List ℕ) → List (List ℕ)
  at_pivots pivots rows = listed (length rows) (λ i. entries_at pivots (get_or rows i []))

  -- the rows, plus c times the product of these entries and the reduced rows: c is -1
  abbrev pub cleared_rows : ℕ → ℕ → List ℕ → List (List ℕ) → List (List ℕ) → List (List ℕ)
  cleared_rows columns c pivots reduced rows = rows_with_product K columns rows c (at_pivots pivots rows) reduced

  -- row by row, with the pivots' number given as that of the reduced rows
  abbrev pub less_reduced : List ℕ → List (List ℕ) → List (List ℕ) → Matrix F
  less_reduced pivots reduced rows =
      λ i. less_rows F (length reduced) (λ t. get_or pivots t 0) (matrix_of K reduced) (matrix_of K rows i)

  pub at_pivots_over : (columns : ℕ) (pivots : List ℕ) (rows : List (List ℕ)) → IsMatrixOver K columns rows →
      IsMatrixOver K (length pivots) (at_pivots pivots rows)
  at_pivots_over columns pivots rows over =
      subst (IsMatrixOver K (length pivots)) (sym (ap (listed (length rows)) (fun_ext row_at)))
      (table_over K (length rows) (length pivots) (λ i t. entry rows i (get_or pivots t 0))
      (λ i t below inside. matrix_entry-below K columns rows i (get_or pivots t 0) over))
    where
      row_at : (i : ℕ) → entries_at pivots (get_or rows i []) ≡ listed (length pivots) (λ t. entry rows i (get_or pivots t 0))
      row_at i =
          fill_by_all (λ t. entry rows i (get_or pivots t 0)) (map (entry rows i) pivots) (length pivots) 0 (length-map pivots (entry rows i))
          (λ t below. get_or-map (entry rows i) pivots t 0 0 below)

  at_pivots_entry : (pivots : List ℕ) (rows : List (List ℕ)) (i t : ℕ) → i < length rows → t < length pivots →
      entry (at_pivots pivots rows) i t ≡ entry rows i (get_or pivots t 0)
  at_pivots_entry pivots rows i t below inside =
      ap (λ (row : List ℕ). get_or row t 0) (listed_at (length rows) (λ i. entries_at pivots (get_or rows i [])) i [] below)
      ∙ get_or-map (entry rows i) pivots t 0 0 inside

  pub cleared_length : (columns c : ℕ) (pivots : List ℕ) (reduced rows : List (List ℕ)) →
      length (cleared_rows columns c pivots reduced rows) ≡ length rows
  unfolding rows_with_product
  cleared_length columns c pivots reduced rows =
      table_length (length rows) columns
      (λ i j. K.add (entry rows i j) (K.mul c (product_entry K (at_pivots pivots rows) reduced (length reduced) i j)))

  less_shape : (columns : ℕ) (pivots : List ℕ) (reduced rows : List (List ℕ)) → IsMatrixOver K columns reduced → IsMatrixOver K columns rows →
      HasShape F (length rows) columns (less_reduced pivots reduced rows)
  less_shape columns pivots reduced rows over_reduced over_rows = record {
    rows = λ i j past.
        ap₂ (λ x y. F.add x (F.neg y)) (shape.rows i j past)
        (ap (λ (x : Vector F). x j)
        (times_zero_coefficients F (length reduced) (λ t. matrix_of K rows i (get_or pivots t 0)) (matrix_of K reduced)
        (λ t below. shape.rows i (get_or pivots t 0) past)))
        ∙ F.add-neg F.zero;
    columns = λ i j past.
        ap₂ (λ x y. F.add x (F.neg y)) (shape.columns i j past)
        (times_length F (length reduced) columns (λ t. matrix_of K rows i (get_or pivots t 0)) (matrix_of K reduced)
        (matrix_shape K columns reduced over_reduced).columns j past)
        ∙ F.add-neg F.zero;
  }
    where
      shape : HasShape F (length rows) columns (matrix_of K rows)
      shape = matrix_shape K columns rows over_rows

  cleared_entry : (columns c : ℕ) (pivots : List ℕ) (reduced rows : List (List ℕ)) (i j : ℕ) → c < K.order → element K c ≡ F.neg F.one →
      length pivots ≡ length reduced → IsMatrixOver K columns reduced → IsMatrixOver K columns rows → i < length rows →
      element K (K.add (entry rows i j) (K.mul c (product_entry K (at_pivots pivots rows) reduced (length reduced) i j)))
      ≡ less_reduced pivots reduced rows i j
  cleared_entry columns c pivots reduced rows i j small minus_one count over_reduced over_rows below =
      element_add K (entry rows i j) (K.mul c s) (matrix_entry-below K columns rows i j over_rows) (K.mul-below c s small s_small)
      ∙ ap (F.add (matrix_of K rows i j))
      (element_mul K c s small s_small
      ∙ ap₂ F.mul minus_one (element_product_entry K (length reduced) columns entries reduced i j over_entries over_reduced)
      ∙ neg-mul F F.one (multiply F (length reduced) (matrix_of K entries) (matrix_of K reduced) i j)
      ∙ ap F.neg (one-mul F (multiply F (length reduced) (matrix_of K entries) (matrix_of K reduced) i j)
      ∙ ap (λ (x : Vector F). x j)
      (times_same F (length reduced) (matrix_of K entries i) (λ t. matrix_of K rows i (get_or pivots t 0)) (matrix_of K reduced) (matrix_of K reduced)
      (λ t inside. ap (element K) (at_pivots_entry pivots rows i t below (omega arith)))
      (λ t inside. refl))))
    where
      entries : List (List ℕ)
      entries = at_pivots pivots rows

      over_entries : IsMatrixOver K (length reduced) entries
      over_entries = subst (λ n. IsMatrixOver K n entries) count (at_pivots_over columns pivots rows over_rows)

      s : ℕ
      s = product_entry K entries reduced (length reduced) i j

      s_small : s < K.order
      s_small = product_entry-below K (length reduced) columns entries reduced i j over_entries over_reduced

  -- the cleared rows as a matrix
  pub matrix_of_cleared : (columns c : ℕ) (pivots : List ℕ) (reduced rows : List (List ℕ)) → c < K.order → element K c ≡ F.neg F.one →
      length pivots ≡ length reduced → IsMatrixOver K columns reduced → IsMatrixOver K columns rows →
      matrix_of K (cleared_rows columns c pivots reduced rows) ≡ less_reduced pivots reduced rows
  unfolding rows_with_product
  matrix_of_cleared columns c pivots reduced rows small minus_one count over_reduced over_rows =
      matrix_of_table K (length rows) columns
      (λ i j. K.add (entry rows i j) (K.mul c (product_entry K (at_pivots pivots rows) reduced (length reduced) i j)))
      (less_reduced pivots reduced rows) (less_shape columns pivots reduced rows over_reduced over_rows)
      (λ i j below inside. cleared_entry columns c pivots reduced rows i j small minus_one count over_reduced over_rows below)
