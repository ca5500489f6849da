-- The action of a generator modulo a span, by the entries of the span's reduced basis at the columns that are no pivots.
use Rattle.std.specs.Prelude.{◌≡◌, ℕ, ◌<◌, List, [], length, get_or}
use Rattle.std.proofs.lemmas.List.Elements.{All-from_get_or}
use Rattle.axe_algebra.specs.NumberField.{NumberField}
use Rattle.axe_algebra.specs.Field.{Field}
use Rattle.axe_algebra.specs.Vectors.{Vector, subtract, times}
use Rattle.axe_algebra.specs.Bridge.{vector_of, matrix_of, element}
use Rattle.axe_algebra.specs.Lists.{entry, IsVectorOver, IsMatrixOver}
use Rattle.axe_algebra.specs.ListArithmetic.{product_entry}
use Rattle.axe_algebra.specs.SpansOfLists.{IsPivot}
use Rattle.axe_algebra.specs.Reduced
use Rattle.axe_algebra.proofs.FieldLaws.{neg-mul, one-mul}
use Rattle.axe_algebra.proofs.Sums.{sum_same}
use Rattle.axe_algebra.proofs.ProductLaws.{times-at}
use Rattle.axe_algebra.proofs.ReducedBases.{same_size}
use Rattle.axe_algebra.proofs.ElementNumbers.{entry-below, element_add, element_mul}
use Rattle.axe_algebra.proofs.ListEntries.{row_over, table_length, table_entry}
use Rattle.axe_algebra.proofs.ListProducts.{product_entry-below, element_product_entry}
use Rattle.axe_field.specs.Arithmetic.{field_neg}
use Rattle.axe_field.specs.NumberFields.{number_field, gf}
use Rattle.axe_matrix.specs.Matrices.{MatrixValue, IsMatrix, entries_at, columns_at}
use Rattle.axe_matrix.specs.Products.{rows_with_product}
use Rattle.axe_reduction.proofs.ClearLaws.{minus_one-below}
use Rattle.axe_reduction.proofs.ReductionLaws.{minus_one-is}
use Rattle.axe_echelon.specs.Echelons.{EchelonValue, IsReducedMatrix}
use Rattle.axe_echelon.proofs.InverseLaws.{matrix_over}
use Rattle.axe_action.specs.Coordinates.{ArePivotColumns}
use Rattle.axe_action.specs.FreeColumns.{AreFreeColumns, HasRowsModulo, row_at, matrix_modulo}
use Rattle.axe_action.proofs.RepresentativeLaws.{row_by_basis}
use Rattle.axe_action.proofs.EntryLaws.{lists_at, lists_at_length, lists_at_row, lists_at_entry, lists_at_over, chosen, chosen_length, chosen_row, chosen_over}
use mathlib.Core.Path.{sym, ◌∙◌, ap, ap₂, subst}
use native.Mathlib.Omega.{arith}

-- the pivots of a span, the other columns, and the entries of the span's reduced basis there
pub record AreCosets (e : EchelonValue) (pivots columns : List ℕ) (entries : MatrixValue) : Type 0 where
  pub basis : MatrixValue
  pub basis_over : IsMatrixOver (number_field e.order) e.cols basis.rows
  pub reduced : IsReducedMatrix e basis
  pub are_pivots : ArePivotColumns e pivots
  pub free : AreFreeColumns e columns
  pub entries_are : entries ≡ columns_at columns basis

-- there are as many pivots as entries' rows
pub cosets_count : (e : EchelonValue) (pivots columns : List ℕ) (entries : MatrixValue) → AreCosets e pivots columns entries →
    length entries.rows ≡ length pivots
cosets_count e pivots columns entries are =
    ap (λ (x : MatrixValue). length x.rows) are.entries_are ∙ lists_at_length columns are.basis.rows
    ∙ sym (same_size (IsPivot (number_field e.order) e.rows) (length pivots) (λ t. get_or pivots t 0) (length are.basis.rows) is_reduced.pivots are.are_pivots
    is_reduced.are_pivots)
  where
    is_reduced : Reduced.IsReducedBasis (gf e.order) (length e.rows) (matrix_of (number_field e.order) e.rows) (length are.basis.rows)
        (matrix_of (number_field e.order) are.basis.rows)
    is_reduced = are.reduced.basis

module _ (e : EchelonValue) (pivots columns : List ℕ) (entries g : MatrixValue) (are : AreCosets e pivots columns entries) (field : g.order ≡ e.order)
    (fits : g.cols ≡ e.cols) (square : length g.rows ≡ g.cols) (g_h : IsMatrix g) where
  abbrev K : NumberField
  K = number_field e.order

  abbrev F : Field
  F = gf e.order

  abbrev m : ℕ
  m = length columns

  abbrev c : ℕ
  c = field_neg e.order 1

  abbrev w : List (List ℕ)
  w = are.basis.rows

  abbrev f : List (List ℕ)
  f = lists_at columns w

  -- the rows of the generator at the columns, and their entries at the columns and at the pivots
  abbrev at_columns : List (List ℕ)
  at_columns = lists_at columns (chosen columns g.rows)

  abbrev at_pivots : List (List ℕ)
  at_pivots = lists_at pivots (chosen columns g.rows)

  abbrev v : ℕ → List ℕ
  v t = row_at g.rows columns t

  g_over : IsMatrixOver K e.cols g.rows
  g_over = subst (λ k. IsMatrixOver K k g.rows) fits (subst (λ o. IsMatrixOver (number_field o) g.cols g.rows) field (matrix_over g g_h))

  place_below : (t : ℕ) → t < m → get_or columns t 0 < length g.rows
  place_below t below = let inside : get_or columns t 0 < e.cols = (are.free.each t below).below in omega (arith, inside, square, fits)

  v_over : (t : ℕ) → t < m → IsVectorOver K e.cols (v t)
  v_over t below = row_over K e.cols g.rows (get_or columns t 0) g_over (place_below t below)

  chosen_h : IsMatrixOver K e.cols (chosen columns g.rows)
  chosen_h = chosen_over K e.cols columns g.rows g_over (All-from_get_or (λ index. index < length g.rows) columns 0 place_below)

  count : length f ≡ length pivots
  count = sym (ap (λ (x : MatrixValue). length x.rows) are.entries_are) ∙ cosets_count e pivots columns entries are

  many : length w ≡ length f
  many = sym (lists_at_length columns w)

  f_over : IsMatrixOver K m f
  f_over = lists_at_over K e.cols columns w are.basis_over

  p_over : IsMatrixOver K (length f) at_pivots
  p_over = subst (λ k. IsMatrixOver K k at_pivots) (sym count) (lists_at_over K e.cols pivots (chosen columns g.rows) chosen_h)

  -- the rows of the action
  abbrev rows : List (List ℕ)
  rows = rows_with_product K m at_columns c at_pivots f

  row_inside : (t : ℕ) → t < m → t < length (chosen columns g.rows)
  row_inside t below = omega (arith, below, chosen_length columns g.rows)

  q_entry : (t s : ℕ) → t < m → s < m → entry at_columns t s ≡ get_or (v t) (get_or columns s 0) 0
  q_entry t s below inside =
      lists_at_entry columns (chosen columns g.rows) t s (row_inside t below) inside
      ∙ ap (λ (row : List ℕ). get_or row (get_or columns s 0) 0) (chosen_row columns g.rows t below)

  p_row : (t : ℕ) → t < m → get_or at_pivots t [] ≡ entries_at pivots (v t)
  p_row t below =
      lists_at_row pivots (chosen columns g.rows) t (row_inside t below) ∙ ap (entries_at pivots) (chosen_row columns g.rows t below)

  rows_entry : (t s : ℕ) → t < m → s < m → entry rows t s ≡ K.add (entry at_columns t s) (K.mul c (product_entry K at_pivots f (length f) t s))
  unfolding rows_with_product
  rows_entry t s below inside =
      table_entry (length at_columns) m (λ i j. K.add (entry at_columns i j) (K.mul c (product_entry K at_pivots f (length f) i j))) t s
      (omega (arith, row_inside t below, lists_at_length columns (chosen columns g.rows))) inside

  rows_count : length rows ≡ m
  unfolding rows_with_product
  rows_count =
      table_length (length at_columns) m (λ i j. K.add (entry at_columns i j) (K.mul c (product_entry K at_pivots f (length f) i j)))
      ∙ lists_at_length columns (chosen columns g.rows) ∙ chosen_length columns g.rows

  -- the part of a row at the pivots
  abbrev part : ℕ → Vector F
  part t = times F (length w) (vector_of K (entries_at pivots (v t))) (matrix_of K w)

  part_entry : (t s : ℕ) → t < m → s < m → element K (product_entry K at_pivots f (length f) t s) ≡ part t (get_or columns s 0)
  part_entry t s below inside =
      element_product_entry K (length f) m at_pivots f t s p_over f_over
      ∙ ap (λ k. times F k (matrix_of K at_pivots t) (matrix_of K f) s) (sym many)
      ∙ times-at F (length w) (matrix_of K at_pivots t) (matrix_of K f) s
      ∙ sum_same F (length w) (λ i. F.mul (matrix_of K at_pivots t i) (matrix_of K f i s))
      (λ i. F.mul (vector_of K (entries_at pivots (v t)) i) (matrix_of K w i (get_or columns s 0)))
      (λ i small. ap₂ F.mul (ap (λ (row : List ℕ). vector_of K row i) (p_row t below)) (ap (element K) (lists_at_entry columns w i s small inside)))
      ∙ sym (times-at F (length w) (vector_of K (entries_at pivots (v t))) (matrix_of K w) (get_or columns s 0))

  row_is : (t s : ℕ) → t < m → s < m → element K (entry rows t s) ≡ subtract F (vector_of K (v t)) (part t) (get_or columns s 0)
  row_is t s below inside =
      ap (element K) (rows_entry t s below inside)
      ∙ element_add K (entry at_columns t s) (K.mul c s_t) q_below (K.mul-below c s_t (minus_one-below e.order) s_below)
      ∙ ap₂ F.add (ap (element K) (q_entry t s below inside))
      (element_mul K c s_t (minus_one-below e.order) s_below
      ∙ ap₂ F.mul (minus_one-is e.order) (part_entry t s below inside)
      ∙ neg-mul F F.one (part t (get_or columns s 0)) ∙ ap F.neg (one-mul F (part t (get_or columns s 0))))
    where
      s_t : ℕ
      s_t = product_entry K at_pivots f (length f) t s

      s_below : s_t < K.order
      s_below = product_entry-below K (length f) m at_pivots f t s p_over f_over

      q_below : entry at_columns t s < K.order
      q_below = subst (λ number. number < K.order) (sym (q_entry t s below inside)) (entry-below K (v t) (get_or columns s 0) (v_over t below).elements)

  -- so the rows of the action are the generator's rows at the columns, modulo the span
  pub rows_modulo : (action : MatrixValue) → action ≡ matrix_modulo pivots columns entries g → IsMatrix action →
      HasRowsModulo e columns (row_at g.rows columns) m action
  rows_modulo action is formed = record {
    field = action_field;
    width = action_width;
    count = action_count;
    well_formed = formed;
    each = λ t below. row_by_basis e are.basis pivots columns (v t) (get_or action.rows t []) are.basis_over are.reduced are.are_pivots are.free
        (v_over t below) (row_over K m action.rows t action_over (omega (arith, below, action_count)))
        (λ s inside. ap (λ (l : List (List ℕ)). element K (entry l t s)) rows_are ∙ row_is t s below inside);
  }
    where
      action_field : action.order ≡ e.order
      action_field = ap (λ (x : MatrixValue). x.order) is ∙ field

      action_width : action.cols ≡ m
      action_width = ap (λ (x : MatrixValue). x.cols) is

      rows_are : action.rows ≡ rows
      rows_are =
          ap (λ (x : MatrixValue). x.rows) is
          ∙ ap (λ o. rows_with_product (number_field o) m at_columns (field_neg o 1) at_pivots entries.rows) field
          ∙ ap (λ (x : MatrixValue). rows_with_product K m at_columns c at_pivots x.rows) are.entries_are

      action_count : length action.rows ≡ m
      action_count = ap (λ (l : List (List ℕ)). length l) rows_are ∙ rows_count

      action_over : IsMatrixOver K m action.rows
      action_over = subst (λ k. IsMatrixOver K k action.rows) action_width
          (subst (λ o. IsMatrixOver (number_field o) action.cols action.rows) action_field (matrix_over action formed))
