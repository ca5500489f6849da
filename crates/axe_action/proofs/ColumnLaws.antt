-- Coordinates of the vectors of a span by their entries at its pivots.
use Rattle.std.specs.Prelude.{◌≡◌, ℕ, ◌+◌, ◌<◌, ◌≤◌, List, [], length, get_or}
use Rattle.std.proofs.lemmas.List.{length-map, get_or-map, ext_get_or}
use Rattle.std.proofs.lemmas.List.Elements.{All-from_get_or}
use Rattle.axe_algebra.specs.NumberField.{NumberField}
use Rattle.axe_algebra.specs.Field.{Field}
use Rattle.axe_algebra.specs.Reduced.{IsReducedBasis}
use Rattle.axe_algebra.specs.Bridge.{vector_of, matrix_of, element}
use Rattle.axe_algebra.specs.Lists.{IsVectorOver, IsMatrixOver}
use Rattle.axe_algebra.specs.ListArithmetic.{combination, product}
use Rattle.axe_algebra.specs.SpansOfLists.{IsSpanned, IsPivot}
use Rattle.axe_algebra.proofs.ProductLaws.{times_same}
use Rattle.axe_algebra.proofs.Spanning.{span_within}
use Rattle.axe_algebra.proofs.ElementNumbers.{entry-below}
use Rattle.axe_algebra.proofs.ReducedBases.{by_reduced_basis, same_size, same_places}
use Rattle.axe_algebra.proofs.ListEntries.{rows_length, row_over, same_vector, listed_length, listed_at}
use Rattle.axe_algebra.proofs.ListProducts.{vector_of_combination, combination_over}
use Rattle.axe_field.specs.Order.{Order}
use Rattle.axe_field.specs.NumberFields.{number_field, gf}
use Rattle.axe_matrix.specs.Matrices.{MatrixValue, IsMatrix, matrix_product, entries_at, columns_at}
use Rattle.axe_matrix.proofs.MatrixLaws.{same_matrix}
use Rattle.axe_matrix.proofs.PartialMatrices.{IsPartialMatrix, IsPartialMatrix-none, IsPartialMatrix-more, IsPartialMatrix-all}
use Rattle.axe_matrix.proofs.ProductLaws.{length-product, get_or-product}
use Rattle.axe_echelon.specs.Echelons.{EchelonValue, IsEchelon, IsReducedMatrix}
use Rattle.axe_echelon.proofs.InverseLaws.{matrix_over}
use Rattle.axe_echelon.proofs.ReducedLaws.{pivot-below}
use Rattle.axe_action.specs.Coordinates.{row_times, HasImagesIn, HasActionRows}
use Rattle.axe_action.specs.Coordinates.{ArePivotColumns, AreCoordinateColumns}
use Rattle.axe_action.specs.Blocks.{with_entries}
use Rattle.axe_action.proofs.ColumnLists.{AreColumnsBelow}
use Rattle.axe_action.proofs.Images.{images_count}
use mathlib.Core.Path.{refl, sym, ◌∙◌, ap, subst}
use native.Mathlib.Omega.{arith}

-- all pivots
pub pivots_all : (e : EchelonValue) (i : ℕ) (columns : List ℕ) → IsEchelon e → AreColumnsBelow (IsPivot (number_field e.order) e.rows) i columns → e.cols ≤ i →
    ArePivotColumns e columns
pivots_all e i columns h so_far whole = record {
  ascending = so_far.ascending;
  each = so_far.each;
  all = λ j pivot. let inside : j < e.cols = pivot-below e h j pivot in so_far.all j (omega arith) pivot;
}

-- the entries of a vector at columns
pub entries_over : (K : NumberField) (n : ℕ) (columns v : List ℕ) → IsVectorOver K n v → IsVectorOver K (length columns) (entries_at columns v)
entries_over K n columns v over = record {
  length_is = length-map columns (λ column. get_or v column 0);
  elements = All-from_get_or (λ number. number < K.order) (entries_at columns v) 0 (λ t below.
      subst (λ number. number < K.order) (sym (get_or-map (λ column. get_or v column 0) columns t 0 0 (omega (arith, below, length-map columns (λ column. get_or v column 0)))))
      (entry-below K v (get_or columns t 0) over.elements));
}

-- the coordinates over the reduced basis are the entries at the pivots
pub coordinates_of_reduced : (e : EchelonValue) (basis : MatrixValue) (columns : List ℕ) → IsEchelon e → IsReducedMatrix e basis → IsMatrix basis →
    ArePivotColumns e columns → AreCoordinateColumns (number_field basis.order) basis.cols basis.rows columns
coordinates_of_reduced e basis columns h reduced basis_h pivots =
    subst (λ n. AreCoordinateColumns (number_field basis.order) n basis.rows columns) (sym reduced.columns)
    (subst (λ o. AreCoordinateColumns (number_field o) e.cols basis.rows columns) (sym reduced.field) (record {
      count = count;
      within = All-from_get_or (λ column. column < e.cols) columns 0 (λ t below. pivot-below e h (get_or columns t 0) (pivots.each t below));
      combine = λ v over_v spanned. same_vector K e.cols v (combination K e.cols (entries_at columns v) basis.rows) over_v
          (combination_over K e.cols (entries_at columns v) basis.rows (entries_fit v over_v) over)
          (combines v over_v spanned);
    }))
  where
    K : NumberField
    K = number_field e.order

    F : Field
    F = gf e.order

    over : IsMatrixOver K e.cols basis.rows
    over = subst (λ n. IsMatrixOver K n basis.rows) reduced.columns
        (subst (λ o. IsMatrixOver (number_field o) basis.cols basis.rows) reduced.field (matrix_over basis basis_h))

    is_reduced : IsReducedBasis F (length e.rows) (matrix_of K e.rows) (length basis.rows) (matrix_of K basis.rows)
    is_reduced = reduced.basis

    count : length columns ≡ length basis.rows
    count = same_size (IsPivot K e.rows) (length columns) (λ t. get_or columns t 0) (length basis.rows) is_reduced.pivots pivots is_reduced.are_pivots

    entries_fit : (v : List ℕ) → IsVectorOver K e.cols v → IsVectorOver K (length basis.rows) (entries_at columns v)
    entries_fit v over_v = subst (λ k. IsVectorOver K k (entries_at columns v)) count (entries_over K e.cols columns v over_v)

    entry_at : (v : List ℕ) (t : ℕ) → t < length basis.rows → vector_of K v (is_reduced.pivots t) ≡ vector_of K (entries_at columns v) t
    entry_at v t below =
        ap (vector_of K v) (sym (same_places (IsPivot K e.rows) (length columns) (λ t. get_or columns t 0) (length basis.rows) is_reduced.pivots pivots is_reduced.are_pivots
        t (omega (arith, below, count))))
        ∙ ap (element K) (sym (get_or-map (λ column. get_or v column 0) columns t 0 0 (omega (arith, below, count))))

    combines : (v : List ℕ) → IsVectorOver K e.cols v → IsSpanned K basis.rows v →
        vector_of K v ≡ vector_of K (combination K e.cols (entries_at columns v) basis.rows)
    combines v over_v spanned =
        by_reduced_basis F e.cols (length e.rows) (matrix_of K e.rows) (length basis.rows) (matrix_of K basis.rows) (vector_of K v)
        (rows_length K e.cols e.rows h.over) is_reduced
        (span_within F (length basis.rows) (matrix_of K basis.rows) (length e.rows) (matrix_of K e.rows) (vector_of K v) is_reduced.in_span spanned)
        ∙ times_same F (length basis.rows) (λ t. vector_of K v (is_reduced.pivots t)) (vector_of K (entries_at columns v)) (matrix_of K basis.rows) (matrix_of K basis.rows)
        (entry_at v) (λ t below. refl)
        ∙ sym (vector_of_combination K e.cols (entries_at columns v) basis.rows (entries_fit v over_v) over)

-- the matrix of the entries at columns
pub entries_count : (columns : List ℕ) (m entries : MatrixValue) → entries ≡ columns_at columns m → length entries.rows ≡ length m.rows
entries_count columns m entries is =
    ap (λ (x : MatrixValue). length x.rows) is ∙ listed_length (length m.rows) (λ i. entries_at columns (get_or m.rows i []))

pub entries_row : (columns : List ℕ) (m entries : MatrixValue) (t : ℕ) → entries ≡ columns_at columns m → t < length m.rows →
    get_or entries.rows t [] ≡ entries_at columns (get_or m.rows t [])
entries_row columns m entries t is below =
    ap (λ (x : MatrixValue). get_or x.rows t []) is ∙ listed_at (length m.rows) (λ i. entries_at columns (get_or m.rows i [])) t [] below

-- the entries at columns of the first i rows
abbrev pub HasFirstEntries : List ℕ → MatrixValue → ℕ → MatrixValue → Type 0
HasFirstEntries columns m i entries = IsPartialMatrix m.order (length columns) (λ t. entries_at columns (get_or m.rows t [])) i entries

pub entries_none : (columns : List ℕ) (m : MatrixValue) (o : Order) (n : ℕ) (entries : MatrixValue) → o ≡ m.order → n ≡ length columns →
    entries ≡ record { order = o; cols = n; rows = [] } → IsMatrix entries → HasFirstEntries columns m 0 entries
entries_none columns m o n entries field width is formed = IsPartialMatrix-none _ _ _ _ _ _ is formed field width

pub entries_more : (columns : List ℕ) (m : MatrixValue) (i : ℕ) (entries next : MatrixValue) (v : List ℕ) → HasFirstEntries columns m i entries →
    v ≡ get_or m.rows i [] → next ≡ with_entries entries columns v → IsMatrix next → HasFirstEntries columns m (i + 1) next
entries_more columns m i entries next v so_far row_is is formed =
    IsPartialMatrix-more _ _ _ _ _ _ _ so_far is formed (ap (entries_at columns) row_is)

pub entries_all : (columns : List ℕ) (m : MatrixValue) (i : ℕ) (entries : MatrixValue) → HasFirstEntries columns m i entries → i ≡ length m.rows →
    entries ≡ columns_at columns m
entries_all columns m i entries so_far whole = IsPartialMatrix-all _ _ _ _ _ _ so_far whole

-- the rows, their images, and the images' entries at the columns of the coordinates
pub record AreImagesAt (g rows images action : MatrixValue) (columns : List ℕ) : Type 0 where
  pub field : rows.order ≡ g.order
  pub fits : rows.cols ≡ g.cols
  pub coordinates : AreCoordinateColumns (number_field rows.order) rows.cols rows.rows columns
  pub made : images ≡ matrix_product rows g
  pub images_well_formed : IsMatrix images
  pub entries : action ≡ columns_at columns images
  pub well_formed : IsMatrix action

module _ (g rows images action : MatrixValue) (columns : List ℕ) (are : AreImagesAt g rows images action columns) where
  order_of : action.order ≡ rows.order
  order_of = ap (λ (x : MatrixValue). x.order) are.entries ∙ ap (λ (x : MatrixValue). x.order) are.made

  width_of : action.cols ≡ length rows.rows
  width_of = ap (λ (x : MatrixValue). x.cols) are.entries ∙ are.coordinates.count

  images_many : length images.rows ≡ length rows.rows
  images_many = images_count rows g images are.made

  count_of : length action.rows ≡ length rows.rows
  count_of = entries_count columns images action are.entries ∙ images_many

  -- row t of the images
  image_is : (t : ℕ) → t < length rows.rows → get_or images.rows t [] ≡ row_times g rows.rows t
  image_is t below =
      ap (λ (m : MatrixValue). get_or m.rows t []) are.made
      ∙ get_or-product (number_field rows.order) g.cols rows.rows g.rows t below
      ∙ ap (λ (o : Order). combination (number_field o) g.cols (get_or rows.rows t []) g.rows) are.field

  image_over : (t : ℕ) → t < length rows.rows → IsVectorOver (number_field rows.order) rows.cols (get_or images.rows t [])
  image_over t below = row_over (number_field rows.order) rows.cols images.rows t over (omega (arith, below, images_many))
    where
      over : IsMatrixOver (number_field rows.order) rows.cols images.rows
      over = subst (λ n. IsMatrixOver (number_field rows.order) n images.rows) (ap (λ (x : MatrixValue). x.cols) are.made ∙ sym are.fits)
          (subst (λ o. IsMatrixOver (number_field o) images.cols images.rows) (ap (λ (x : MatrixValue). x.order) are.made) (matrix_over images are.images_well_formed))

  combined_row : (t : ℕ) → t < length rows.rows →
      get_or (product (number_field action.order) rows.cols action.rows rows.rows) t [] ≡ combination (number_field action.order) rows.cols (get_or action.rows t []) rows.rows
  combined_row t below = get_or-product (number_field action.order) rows.cols action.rows rows.rows t (omega (arith, below, count_of))

  -- where the rows combine to the images, the entries are the action
  pub action_if_combined : matrix_product action rows ≡ images → HasActionRows g rows.rows (length rows.rows) action
  action_if_combined same = record {
    field = order_of ∙ are.field;
    columns = width_of;
    count = count_of;
    well_formed = are.well_formed;
    each = λ t below. record {
      over = subst (λ o. IsVectorOver (number_field o) (length rows.rows) (get_or action.rows t [])) (order_of ∙ are.field)
          (row_over (number_field action.order) (length rows.rows) action.rows t
          (subst (λ n. IsMatrixOver (number_field action.order) n action.rows) width_of (matrix_over action are.well_formed)) (omega (arith, below, count_of)));
      combine = sym (image_is t below) ∙ sym (ap (λ (m : MatrixValue). get_or m.rows t []) same) ∙ combined_row t below
          ∙ ap (λ (o : Order). combination (number_field o) rows.cols (get_or action.rows t []) rows.rows) (order_of ∙ are.field)
          ∙ ap (λ n. combination (number_field g.order) n (get_or action.rows t []) rows.rows) are.fits;
    };
  }

  -- where the images are in the span, the rows combine to them
  pub combined_if_within : HasImagesIn g rows.rows rows.rows → matrix_product action rows ≡ images
  combined_if_within within =
      same_matrix (matrix_product action rows) images
      (order_of ∙ sym (ap (λ (x : MatrixValue). x.order) are.made))
      (are.fits ∙ sym (ap (λ (x : MatrixValue). x.cols) are.made))
      (ext_get_or [] (product (number_field action.order) rows.cols action.rows rows.rows) images.rows (long ∙ sym images_many)
      (λ t below. row t (omega (arith, below, long))))
    where
      long : length (product (number_field action.order) rows.cols action.rows rows.rows) ≡ length rows.rows
      long = length-product (number_field action.order) rows.cols action.rows rows.rows ∙ count_of

      spanned : (t : ℕ) → t < length rows.rows → IsSpanned (number_field rows.order) rows.rows (get_or images.rows t [])
      spanned t below =
          subst (IsSpanned (number_field rows.order) rows.rows) (sym (image_is t below))
          (subst (λ o. IsSpanned (number_field o) rows.rows (row_times g rows.rows t)) (sym are.field) (within t below))

      row : (t : ℕ) → t < length rows.rows →
          get_or (product (number_field action.order) rows.cols action.rows rows.rows) t [] ≡ get_or images.rows t []
      row t below =
          combined_row t below
          ∙ ap (λ (o : Order). combination (number_field o) rows.cols (get_or action.rows t []) rows.rows) order_of
          ∙ ap (λ (c : List ℕ). combination (number_field rows.order) rows.cols c rows.rows)
          (entries_row columns images action t are.entries (omega (arith, below, images_many)))
          ∙ sym (are.coordinates.combine (get_or images.rows t []) (image_over t below) (spanned t below))
