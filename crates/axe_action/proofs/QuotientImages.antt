-- The rows of a generator modulo a span, all by one product, and the images of the rows that span it.
use Rattle.std.specs.Prelude.{◌≡◌, ℕ, ◌<◌, List, [], length, get_or, Bool, true, false, None, Ok, All}
use Rattle.std.proofs.lemmas.List.Elements.{All-from_get_or}
use Rattle.axe_algebra.specs.NumberField.{NumberField}
use Rattle.axe_algebra.specs.Field.{Field}
use Rattle.axe_algebra.specs.Vectors.{unit_matrix, times}
use Rattle.axe_algebra.specs.Bridge.{vector_of, matrix_of}
use Rattle.axe_algebra.specs.Lists.{IsVectorOver, IsMatrixOver, unit_row}
use Rattle.axe_algebra.specs.ListArithmetic.{combination}
use Rattle.axe_algebra.specs.SpansOfLists.{IsSpanned}
use Rattle.axe_algebra.proofs.ProductLaws.{times_same, times_identity, identity_row}
use Rattle.axe_algebra.proofs.ListEntries.{row_over, vector_length}
use Rattle.axe_algebra.proofs.ListProducts.{vector_of_combination}
use Rattle.axe_algebra.proofs.ListVectors.{vector_of_unit_row}
use Rattle.axe_field.specs.Order.{Order, order_number}
use Rattle.axe_field.specs.NumberFields.{number_field, gf}
use Rattle.axe_row.specs.Refusals.{Answers}
use Rattle.axe_matrix.specs.Matrices.{MatrixValue, IsMatrix, product_refusal, matrix_product, rows_at, has_only_zeros}
use Rattle.axe_matrix.proofs.OnlyZeros.{only_zeros, row_of_zeros}
use Rattle.axe_matrix.proofs.ProductLaws.{product_refusal-none, length-product, get_or-product}
use Rattle.axe_echelon.specs.Echelons.{EchelonValue}
use Rattle.axe_echelon.proofs.InverseLaws.{matrix_over}
use Rattle.axe_action.specs.Coordinates.{row_times, HasImagesIn}
use Rattle.axe_action.specs.FreeColumns.{AreFreeColumns, IsRowModulo, HasRowsModulo, HasUnitsModulo, rows_to_span, row_at}
use Rattle.axe_action.proofs.EntryLaws.{chosen_length, chosen_row}
use Rattle.axe_action.proofs.ModuloLaws.{row_combines, spanned_if_zero, zero_if_spanned}
use mathlib.Core.Path.{refl, sym, ◌∙◌, ap, subst}
use native.Mathlib.Omega.{arith}

-- nothing refuses the product of a generator with the unit vectors modulo a span
pub units_accepted : (rows g units : MatrixValue) (columns : List ℕ) → rows.order ≡ g.order → rows.cols ≡ g.cols →
    HasUnitsModulo (rows_to_span rows) columns units → product_refusal g units ≡ None
units_accepted rows g units columns field fits all = product_refusal-none g units (ap order_number (sym (all.field ∙ field))) (sym (all.count ∙ fits))

pub units_made : (rows g units images : MatrixValue) (columns : List ℕ) → rows.order ≡ g.order → rows.cols ≡ g.cols →
    HasUnitsModulo (rows_to_span rows) columns units →
    Answers (product_refusal g units) (λ product. product ≡ matrix_product g units) (Ok images) → images ≡ matrix_product g units
units_made rows g units images columns field fits all answer =
    subst (λ why. Answers why (λ product. product ≡ matrix_product g units) (Ok images)) (units_accepted rows g units columns field fits all) answer

-- rows that span a space, a generator, the unit vectors modulo the space, and their product
pub record AreImagesModulo (rows g units images : MatrixValue) (columns : List ℕ) : Type 0 where
  pub field : rows.order ≡ g.order
  pub fits : rows.cols ≡ g.cols
  pub square : length g.rows ≡ g.cols
  pub generator_well_formed : IsMatrix g
  pub rows_well_formed : IsMatrix rows
  pub free : AreFreeColumns (rows_to_span rows) columns
  pub all_units : HasUnitsModulo (rows_to_span rows) columns units
  pub made : images ≡ matrix_product g units
  pub images_well_formed : IsMatrix images

module _ (rows g units images : MatrixValue) (columns : List ℕ) (are : AreImagesModulo rows g units images columns) where
  abbrev K : NumberField
  K = number_field rows.order

  abbrev F : Field
  F = gf rows.order

  abbrev n : ℕ
  n = rows.cols

  abbrev space : EchelonValue
  space = rows_to_span rows

  space_over : IsMatrixOver K n rows.rows
  space_over = matrix_over rows are.rows_well_formed

  g_over : IsMatrixOver K n g.rows
  g_over = subst (λ k. IsMatrixOver K k g.rows) (sym are.fits)
      (subst (λ o. IsMatrixOver (number_field o) g.cols g.rows) (sym are.field) (matrix_over g are.generator_well_formed))

  g_many : length g.rows ≡ n
  g_many = are.square ∙ sym are.fits

  units_over : IsMatrixOver K (length columns) units.rows
  units_over = subst (λ k. IsMatrixOver K k units.rows) are.all_units.width
      (subst (λ o. IsMatrixOver (number_field o) units.cols units.rows) are.all_units.field (matrix_over units are.all_units.well_formed))

  image_is : (t : ℕ) → t < length g.rows → get_or images.rows t [] ≡ combination K (length columns) (get_or g.rows t []) units.rows
  image_is t below =
      ap (λ (x : MatrixValue). get_or x.rows t []) are.made
      ∙ get_or-product (number_field g.order) units.cols g.rows units.rows t below
      ∙ ap (λ (o : Order). combination (number_field o) units.cols (get_or g.rows t []) units.rows) (sym are.field)
      ∙ ap (λ k. combination K k (get_or g.rows t []) units.rows) are.all_units.width

  -- a vector is the combination of the unit vectors with its entries
  by_units : (v : List ℕ) → IsVectorOver K n v → vector_of K v ≡ times F n (vector_of K v) (λ t. vector_of K (unit_row n t))
  by_units v over = sym (
      times_same F n (vector_of K v) (vector_of K v) (λ t. vector_of K (unit_row n t)) (unit_matrix F n) (λ t below. refl)
      (λ t below. vector_of_unit_row K n t below ∙ sym (identity_row F n t below))
      ∙ times_identity F n (vector_of K v) (vector_length K n v over.length_is))

  image_modulo : (t : ℕ) → t < n → IsRowModulo space columns (get_or g.rows t []) (get_or images.rows t [])
  image_modulo t below =
      let inside : t < length g.rows = omega (arith, below, g_many) in
      let v_over : IsVectorOver K n (get_or g.rows t []) = row_over K n g.rows t g_over inside in
      subst (IsRowModulo space columns (get_or g.rows t [])) (sym (image_is t inside))
      (row_combines space columns space_over are.free n (get_or g.rows t []) (unit_row n) units.rows (get_or g.rows t []) v_over units_over are.all_units.count
      are.all_units.each (by_units (get_or g.rows t []) v_over))

  pub images_many : length images.rows ≡ n
  images_many =
      ap (λ (x : MatrixValue). length x.rows) are.made ∙ length-product (number_field g.order) units.cols g.rows units.rows ∙ g_many

  pub images_field : images.order ≡ rows.order
  images_field = ap (λ (x : MatrixValue). x.order) are.made ∙ sym are.field

  images_width : images.cols ≡ length columns
  images_width = ap (λ (x : MatrixValue). x.cols) are.made ∙ are.all_units.width

  images_over : IsMatrixOver K (length columns) images.rows
  images_over = subst (λ k. IsMatrixOver K k images.rows) images_width
      (subst (λ o. IsMatrixOver (number_field o) images.cols images.rows) images_field (matrix_over images are.images_well_formed))

  -- row t times the generator, modulo the space
  moved_modulo : (t : ℕ) → t < length rows.rows →
      IsRowModulo space columns (row_times g rows.rows t) (get_or (matrix_product rows images).rows t [])
  moved_modulo t below =
      subst (IsRowModulo space columns (row_times g rows.rows t)) (sym product_is)
      (row_combines space columns space_over are.free n (get_or rows.rows t []) (λ i. get_or g.rows i []) images.rows (row_times g rows.rows t) v_over images_over
      images_many image_modulo moved_is)
    where
      v_over : IsVectorOver K n (get_or rows.rows t [])
      v_over = row_over K n rows.rows t space_over below

      product_is : get_or (matrix_product rows images).rows t [] ≡ combination K (length columns) (get_or rows.rows t []) images.rows
      product_is =
          get_or-product K images.cols rows.rows images.rows t below
          ∙ ap (λ k. combination K k (get_or rows.rows t []) images.rows) images_width

      moved_is : vector_of K (row_times g rows.rows t) ≡ times F n (vector_of K (get_or rows.rows t [])) (λ i. vector_of K (get_or g.rows i []))
      moved_is =
          ap (λ (o : Order). vector_of K (combination (number_field o) g.cols (get_or rows.rows t []) g.rows)) (sym are.field)
          ∙ ap (λ k. vector_of K (combination K k (get_or rows.rows t []) g.rows)) (sym are.fits)
          ∙ vector_of_combination K n (get_or rows.rows t []) g.rows (subst (λ k. IsVectorOver K k (get_or rows.rows t [])) (sym g_many) v_over) g_over
          ∙ ap (λ k. times F k (vector_of K (get_or rows.rows t [])) (matrix_of K g.rows)) g_many

  moved_many : length (matrix_product rows images).rows ≡ length rows.rows
  moved_many = length-product K images.cols rows.rows images.rows

  -- the product of the rows with the images is zero exactly where the generator takes the rows into their span
  pub images_if_zero : has_only_zeros (matrix_product rows images).rows ≡ true → HasImagesIn g rows.rows rows.rows
  images_if_zero zeros t below =
      subst (λ o. IsSpanned (number_field o) rows.rows (row_times g rows.rows t)) are.field
      (spanned_if_zero space columns space_over are.free (row_times g rows.rows t) (get_or (matrix_product rows images).rows t []) (moved_modulo t below)
      (row_of_zeros (matrix_product rows images).rows t zeros (omega (arith, below, moved_many))))

  pub zero_if_images : HasImagesIn g rows.rows rows.rows → has_only_zeros (matrix_product rows images).rows ≡ true
  zero_if_images within = only_zeros (matrix_product rows images).rows (λ t below.
      let inside : t < length rows.rows = omega (arith, below, moved_many) in
      zero_if_spanned space columns space_over are.free (row_times g rows.rows t) (get_or (matrix_product rows images).rows t []) (moved_modulo t inside)
      (subst (λ o. IsSpanned (number_field o) rows.rows (row_times g rows.rows t)) (sym are.field) (within t inside)))

  pub moved_out : (zero : Bool) → zero ≡ has_only_zeros (matrix_product rows images).rows → zero ≡ false → ¬ (HasImagesIn g rows.rows rows.rows)
  moved_out zero is not = λ within. different zero (is ∙ zero_if_images within) not
    where
      different : (b : Bool) → b ≡ true → b ≡ false → ⊥
      different b first second = cc

  -- the images' rows at the columns are the action
  pub action_at : (action : MatrixValue) → action ≡ rows_at columns images → IsMatrix action →
      HasRowsModulo space columns (row_at g.rows columns) (length columns) action
  action_at action at formed = record {
    field = ap (λ (x : MatrixValue). x.order) at ∙ images_field;
    width = ap (λ (x : MatrixValue). x.cols) at ∙ images_width;
    count = ap (λ (x : MatrixValue). length x.rows) at ∙ chosen_length columns images.rows;
    well_formed = formed;
    each = λ t below. subst (IsRowModulo space columns (row_at g.rows columns t))
        (sym (ap (λ (x : MatrixValue). get_or x.rows t []) at ∙ chosen_row columns images.rows t below))
        (image_modulo (get_or columns t 0) (are.free.each t below).below);
  }

  pub columns_in_images : All (λ column. column < length images.rows) columns
  columns_in_images = All-from_get_or (λ column. column < length images.rows) columns 0 (λ t below.
      let inside : get_or columns t 0 < n = (are.free.each t below).below in omega (arith, inside, images_many))
