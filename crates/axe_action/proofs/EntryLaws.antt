-- The entries of chosen rows at some columns, and of products at some columns.
use Rattle.std.specs.Prelude.{◌≡◌, ℕ, ◌<◌, List, [], length, get_or, map, All}
use Rattle.std.proofs.lemmas.List.{length-map, get_or-map, ext_get_or}
use Rattle.axe_algebra.specs.NumberField.{NumberField}
use Rattle.axe_algebra.specs.Lists.{entry, listed, IsVectorOver, IsMatrixOver}
use Rattle.axe_algebra.specs.ListArithmetic.{combination, combination_entry, product}
use Rattle.axe_algebra.proofs.ElementNumbers.{number_sum_same}
use Rattle.axe_algebra.proofs.ListEntries.{listed_length, listed_at, row_over}
use Rattle.axe_field.specs.NumberFields.{number_field}
use Rattle.axe_matrix.specs.Matrices.{MatrixValue, matrix_product, entries_at, columns_at}
use Rattle.axe_matrix.proofs.MatrixLaws.{same_matrix}
use Rattle.axe_row.proofs.CombinationLaws.{length-combination}
use Rattle.axe_matrix.proofs.ProductLaws.{length-product, get_or-product, get_or-combination}
use Rattle.axe_action.proofs.ColumnLaws.{entries_over}
use mathlib.Core.Path.{refl, sym, ◌∙◌, ap, subst}
use native.Mathlib.Omega.{arith}

-- the rows of their entries at some columns
abbrev pub lists_at : List ℕ → List (List ℕ) → List (List ℕ)
lists_at columns rows = listed (length rows) (λ i. entries_at columns (get_or rows i []))

pub lists_at_length : (columns : List ℕ) (rows : List (List ℕ)) → length (lists_at columns rows) ≡ length rows
lists_at_length columns rows = listed_length (length rows) (λ i. entries_at columns (get_or rows i []))

pub lists_at_row : (columns : List ℕ) (rows : List (List ℕ)) (t : ℕ) → t < length rows → get_or (lists_at columns rows) t [] ≡ entries_at columns (get_or rows t [])
lists_at_row columns rows t below = listed_at (length rows) (λ i. entries_at columns (get_or rows i [])) t [] below

pub lists_at_entry : (columns : List ℕ) (rows : List (List ℕ)) (t s : ℕ) → t < length rows → s < length columns →
    entry (lists_at columns rows) t s ≡ entry rows t (get_or columns s 0)
lists_at_entry columns rows t s below inside =
    ap (λ (row : List ℕ). get_or row s 0) (lists_at_row columns rows t below)
    ∙ get_or-map (λ column. get_or (get_or rows t []) column 0) columns s 0 0 inside

pub lists_at_over : (K : NumberField) (n : ℕ) (columns : List ℕ) (rows : List (List ℕ)) → IsMatrixOver K n rows →
    IsMatrixOver K (length columns) (lists_at columns rows)
lists_at_over K n columns rows over i d below =
    let small : i < length rows = omega (arith, below, lists_at_length columns rows) in
    subst (IsVectorOver K (length columns)) (sym (listed_at (length rows) (λ i. entries_at columns (get_or rows i [])) i d small))
    (entries_over K n columns (get_or rows i []) (row_over K n rows i over small))

-- the rows with some indices
abbrev pub chosen : List ℕ → List (List ℕ) → List (List ℕ)
chosen indices rows = map (λ index. get_or rows index []) indices

pub chosen_length : (indices : List ℕ) (rows : List (List ℕ)) → length (chosen indices rows) ≡ length indices
chosen_length indices rows = length-map indices (λ index. get_or rows index [])

pub chosen_row : (indices : List ℕ) (rows : List (List ℕ)) (t : ℕ) → t < length indices → get_or (chosen indices rows) t [] ≡ get_or rows (get_or indices t 0) []
chosen_row indices rows t below = get_or-map (λ index. get_or rows index []) indices t 0 [] below

pub chosen_over : (K : NumberField) (n : ℕ) (indices : List ℕ) (rows : List (List ℕ)) → IsMatrixOver K n rows → All (λ index. index < length rows) indices →
    IsMatrixOver K n (chosen indices rows)
chosen_over K n indices rows over within i d below =
    let small : i < length indices = omega (arith, below, chosen_length indices rows) in
    subst (IsVectorOver K n) (sym (get_or-map (λ index. get_or rows index []) indices i 0 d small))
    (row_over K n rows (get_or indices i 0) over (within i 0 small))

-- a combination of the entries at columns is that of the rows, there
pub combination_at_columns : (K : NumberField) (n : ℕ) (columns c : List ℕ) (rows : List (List ℕ)) → All (λ column. column < n) columns →
    combination K (length columns) c (lists_at columns rows) ≡ entries_at columns (combination K n c rows)
unfolding combination_entry
combination_at_columns K n columns c rows within =
    ext_get_or 0 (combination K (length columns) c (lists_at columns rows)) (entries_at columns (combination K n c rows))
    (long ∙ sym (length-map columns (λ column. get_or (combination K n c rows) column 0)))
    (λ s below. at s (omega (arith, below, long)))
  where
    long : length (combination K (length columns) c (lists_at columns rows)) ≡ length columns
    long = length-combination K (length columns) c (lists_at columns rows)

    at : (s : ℕ) → s < length columns →
        get_or (combination K (length columns) c (lists_at columns rows)) s 0 ≡ get_or (entries_at columns (combination K n c rows)) s 0
    at s inside =
        get_or-combination K (length columns) c (lists_at columns rows) s inside
        ∙ ap (λ k. combination_entry K c (lists_at columns rows) k s) (lists_at_length columns rows)
        ∙ number_sum_same K (length rows) (λ t. K.mul (get_or c t 0) (entry (lists_at columns rows) t s)) (λ t. K.mul (get_or c t 0) (entry rows t (get_or columns s 0)))
        (λ t below. ap (K.mul (get_or c t 0)) (lists_at_entry columns rows t s below inside))
        ∙ sym (get_or-combination K n c rows (get_or columns s 0) (within s 0 inside))
        ∙ sym (get_or-map (λ column. get_or (combination K n c rows) column 0) columns s 0 0 inside)

-- the product with the entries at columns is that of the matrices, there
pub product_at_columns : (a b : MatrixValue) (columns : List ℕ) → All (λ column. column < b.cols) columns →
    matrix_product a (columns_at columns b) ≡ columns_at columns (matrix_product a b)
product_at_columns a b columns within =
    same_matrix (matrix_product a (columns_at columns b)) (columns_at columns (matrix_product a b)) refl refl
    (ext_get_or [] (product K (length columns) a.rows (lists_at columns b.rows)) (lists_at columns (product K b.cols a.rows b.rows))
    (first ∙ sym (lists_at_length columns (product K b.cols a.rows b.rows) ∙ second))
    (λ i below. at i (omega (arith, below, first))))
  where
    K : NumberField
    K = number_field a.order

    first : length (product K (length columns) a.rows (lists_at columns b.rows)) ≡ length a.rows
    first = length-product K (length columns) a.rows (lists_at columns b.rows)

    second : length (product K b.cols a.rows b.rows) ≡ length a.rows
    second = length-product K b.cols a.rows b.rows

    at : (i : ℕ) → i < length a.rows →
        get_or (product K (length columns) a.rows (lists_at columns b.rows)) i [] ≡ get_or (lists_at columns (product K b.cols a.rows b.rows)) i []
    at i below =
        get_or-product K (length columns) a.rows (lists_at columns b.rows) i below
        ∙ combination_at_columns K b.cols columns (get_or a.rows i []) b.rows within
        ∙ ap (entries_at columns) (sym (get_or-product K b.cols a.rows b.rows i below))
        ∙ sym (lists_at_row columns (product K b.cols a.rows b.rows) i (omega (arith, below, second)))
