-- Points of a null space that are gone over: how many there are, and those that are skipped since no homomorphism takes the first unit vector to them.
use Rattle.std.proofs.Common.{◌≡◌, ◌≢◌, ℕ, ◌<◌, ◌≤◌, ◌↔◌, Bool, false, IsTrue, List, [], All, length, get_or, Option, sym, ap, subst, ◌∙◌}
use Rattle.std.proofs.lemmas.Bool.{false≢true}
use Rattle.axe_algebra.specs.Vectors.{zero_vector, times}
use Rattle.axe_algebra.specs.Spans.{InSpan}
use Rattle.axe_algebra.specs.Actions.{IsSubAction}
use Rattle.axe_algebra.specs.Bridge.{vector_of, matrix_of, module_of}
use Rattle.axe_algebra.specs.Lists.{IsVectorOver}
use Rattle.axe_algebra.specs.SpansOfLists.{HaveSameSpan, IsSpanned, IsRepresentative}
use Rattle.axe_algebra.specs.PointTheorems.{IsNonzeroSpanned}
use Rattle.axe_algebra.proofs.ProductLaws.{times_none}
use Rattle.axe_algebra.proofs.Spanning.{span_within}
use Rattle.axe_echelon.specs.Echelons.{EchelonValue, IsEchelon, IsRowSpace}
use Rattle.axe_echelon.proofs.SubspaceLaws.{spanned_if_zero, zero_if_spanned}
use Rattle.axe_field.specs.Order.{Order, order_number}
use Rattle.axe_field.specs.NumberFields.{number_field, gf}
use Rattle.axe_field.proofs.NumberFields.{number_field-order}
use Rattle.axe_row.specs.Operations.{IsZeroVector}
use Rattle.axe_row.specs.Rows.{RowValue, IsRow}
use Rattle.axe_matrix.specs.Matrices.{MatrixValue}
use Rattle.axe_poly.specs.Polys.{PolyValue}
use Rattle.axe_spin.specs.Modules.{ModuleValue}
use Rattle.axe_word.specs.PointsOfMatrix.{point_count, points_of}
use Rattle.axe_iso.specs.Forms.{FormValue, IsNullSpaceOf}
use Rattle.axe_iso.specs.Images.{HasImages, IsSpaceOfImages}
use Rattle.axe_iso.specs.Matches.{HasStandardMatrices, point_row}
use Rattle.axe_iso.proofs.FormLaws.{deciding_space, point_in_module}

-- ---- how many points there are

-- said of numbers that are the order of a field and the number of rows
pub few_said : (o : Order) (rows : ℕ) (order number bound : ℕ) (few : Bool) → order ≡ order_number o → number ≡ rows →
    (IsTrue few ↔ (point_count order number ≤ bound)) → IsTrue few ↔ (point_count (order_number o) rows ≤ bound)
few_said o rows order number bound few order_is rows_is exactly =
    subst (λ q. IsTrue few ↔ (point_count q rows ≤ bound)) order_is
    (subst (λ n. IsTrue few ↔ (point_count order n ≤ bound)) rows_is exactly)

pub not_few : (o : Order) (rows : ℕ) (order number bound : ℕ) (few : Bool) → order ≡ order_number o → number ≡ rows →
    (IsTrue few ↔ (point_count order number ≤ bound)) → few ≡ false → ¬ (point_count (order_number o) rows ≤ bound)
not_few o rows order number bound few order_is rows_is exactly fails holds =
    false≢true (sym fails ∙ (few_said o rows order number bound few order_is rows_is exactly).1 holds)

pub space_field : (m : ModuleValue) (seed number : ℕ) (poly : Option PolyValue) (space : MatrixValue) → IsNullSpaceOf m seed number poly space →
    space.order ≡ m.order
space_field m seed number poly space is = (deciding_space m seed number poly space is).field

pub space_columns : (m : ModuleValue) (seed number : ℕ) (poly : Option PolyValue) (space : MatrixValue) → IsNullSpaceOf m seed number poly space →
    space.cols ≡ m.dim
space_columns m seed number poly space is = (deciding_space m seed number poly space is).columns

-- ---- spaces that have images

-- a space of one dimension has its own vectors
pub own_space_has_images : (m matrices : ModuleValue) (space : MatrixValue) (e : EchelonValue) → space.order ≡ m.order → space.cols ≡ m.dim → IsRowSpace space e →
    IsSpaceOfImages m matrices space e
own_space_has_images m matrices space e field columns is = record {
  field = is.field ∙ field;
  columns = is.columns ∙ columns;
  all = λ c hom spanned.
      let same : HaveSameSpan (number_field m.order) space.rows e.rows = subst (λ o. HaveSameSpan (number_field o) space.rows e.rows) field is.same in
      span_within (gf m.order) (length space.rows) (matrix_of (number_field m.order) space.rows) (length e.rows) (matrix_of (number_field m.order) e.rows)
      (c 0) same.forth spanned;
}

-- the row space of rows that span the images
pub space_of_images : (m matrices : ModuleValue) (space found : MatrixValue) (e : EchelonValue) → HasImages m matrices space found → IsRowSpace found e →
    IsSpaceOfImages m matrices space e
space_of_images m matrices space found e has is = record {
  field = is.field ∙ has.field;
  columns = is.columns ∙ has.columns;
  all = λ c hom spanned.
      let same : HaveSameSpan (number_field m.order) found.rows e.rows = subst (λ o. HaveSameSpan (number_field o) found.rows e.rows) has.field is.same in
      span_within (gf m.order) (length found.rows) (matrix_of (number_field m.order) found.rows) (length e.rows) (matrix_of (number_field m.order) e.rows)
      (c 0) same.forth (has.all c hom spanned);
}

-- a vector is in a space where its representative is zero, and else not
module _ (e : EchelonValue) (h : IsEchelon e) (first row : RowValue) (represents : IsRepresentative (number_field e.order) e.rows first.entries row.entries)
    (field : row.order ≡ e.order) (long : length row.entries ≡ e.cols) (well : IsRow row) where
  over : IsVectorOver (number_field e.order) e.cols row.entries
  over = record {
    length_is = long;
    elements = subst (λ o. All (λ number. number < (number_field o).order) row.entries) field
        (subst (λ q. All (λ number. number < q) row.entries) (sym (number_field-order row.order)) well.elements);
  }

  pub tells_spanned : (zero : Bool) → (IsTrue zero ↔ IsZeroVector row.entries) → IsTrue zero ↔ IsSpanned (number_field e.order) e.rows first.entries
  tells_spanned zero exactly = (
    λ is. spanned_if_zero e h first row represents field over (exactly.0 is),
    λ spanned. exactly.1 (zero_if_spanned e h first row represents field over spanned),
  )

-- ---- points that are skipped

module _ (m matrices : ModuleValue) (space : MatrixValue) (images : EchelonValue) (is : IsSpaceOfImages m matrices space images)
    (v : List ℕ) (spanned : IsSpanned (number_field m.order) space.rows v) where
  -- a vector of which the matrices are the standard matrices is the image of the first unit vector
  matched_is_image : HasStandardMatrices m v matrices → IsSpanned (number_field m.order) images.rows v
  matched_is_image S =
      subst (InSpan (gf m.order) (length images.rows) (matrix_of (number_field m.order) images.rows)) S.standard.first
      (is.all S.basis (subst (λ k. IsSubAction (gf m.order) (module_of (number_field m.order) m.dim m.generators) k S.basis
      (module_of (number_field m.order) matrices.dim matrices.generators)) (sym S.acts.dimension) S.acts)
      (subst (InSpan (gf m.order) (length space.rows) (matrix_of (number_field m.order) space.rows)) (sym S.standard.first) spanned))

  pub skipped_unmatched : (found : Bool) → (IsTrue found ↔ IsSpanned (number_field images.order) images.rows v) → found ≡ false →
      ¬ (HasStandardMatrices m v matrices)
  skipped_unmatched found exactly fails has =
      false≢true (sym fails ∙ exactly.1 (subst (λ o. IsSpanned (number_field o) images.rows v) (sym is.field) (matched_is_image has)))

  -- a space of no dimension has no vector other than zero
  pub none_matched : length images.rows ≡ 0 → vector_of (number_field m.order) v ≢ zero_vector (gf m.order) → ¬ (HasStandardMatrices m v matrices)
  none_matched none nonzero has =
      let image = matched_is_image has in
      nonzero (image.combines ∙ ap (λ k. times (gf m.order) k image.coefficients (matrix_of (number_field m.order) images.rows)) none
      ∙ times_none (gf m.order) image.coefficients (matrix_of (number_field m.order) images.rows))

-- where no dimension is left, no point matches
pub none_of_no_image : (form : FormValue) (m : ModuleValue) (space : MatrixValue) (images : EchelonValue) →
    IsNullSpaceOf m form.seed form.word form.poly space → IsSpaceOfImages m form.matrices space images → length images.rows ≡ 0 →
    (j : ℕ) → j < length (points_of space) → ¬ (HasStandardMatrices m (point_row space j).entries form.matrices)
none_of_no_image form m space images is_space is none j inside =
    none_matched m form.matrices space images is (get_or (points_of space) j []) point.spanned none point.nonzero
  where
    point : IsNonzeroSpanned (number_field m.order) m.dim space.rows (get_or (points_of space) j [])
    point = point_in_module m _ space (deciding_space m form.seed form.word form.poly space is_space) j inside
