-- Layers as lists of matrices: an image less a combination of them, their products with a matrix, and what narrows them.
use Rattle.std.proofs.Common.{◌≡◌, ◌≢◌, ℕ, ◌+◌, ◌<◌, List, [], ◌∷◌, All, length, get_or, set, false, None, Ok, Err, refl, sym, ap, subst, ◌∙◌, add-one, arith}
use Rattle.std.proofs.lemmas.List.{get_or-map, get_or_default, get_or-set_same, get_or-set_other, length-set}
use Rattle.std.proofs.lemmas.Bool.{false≢true}
use Rattle.axe_algebra.specs.NumberField.{NumberField}
use Rattle.axe_algebra.specs.Field.{Field}
use Rattle.axe_algebra.specs.Vectors.{Vector, Matrix, HasShape, add_matrices, scale, multiply}
use Rattle.axe_algebra.specs.Spans.{InSpan, IsNullVector}
use Rattle.axe_algebra.specs.Bridge.{field_of, vector_of, matrix_of, element}
use Rattle.axe_algebra.specs.Lists.{entry, IsMatrixOver}
use Rattle.axe_algebra.specs.ListArithmetic.{product}
use Rattle.axe_algebra.proofs.ElementNumbers.{element_add, element_mul, element_neg}
use Rattle.axe_algebra.proofs.FieldLaws.{zero-add, mul-zero}
use Rattle.axe_algebra.proofs.ListEntries.{table_length, matrix_shape, matrix_of_table, matrix_entry-below}
use Rattle.axe_algebra.proofs.ListLaws.{matrix_of_product_of}
use Rattle.axe_algebra.proofs.ListProducts.{product_length}
use Rattle.axe_echelon.specs.Echelons.{null_space_refusal, IsNullSpaceMatrix}
use Rattle.axe_echelon.proofs.Exits.{memory_if_accepted}
use Rattle.axe_echelon.proofs.InverseLaws.{matrix_over}
use Rattle.axe_field.specs.Order.{Order, order_number, IsElement}
use Rattle.axe_field.specs.NumberFields.{number_field, gf}
use Rattle.axe_row.specs.Refusals.{Answers}
use Rattle.axe_row.specs.declared.refusals.Refusal.{Refusal}
use Rattle.axe_row.specs.declared.refusals.Refusal.TheVariants.{Memory}
use Rattle.axe_matrix.specs.Matrices.{MatrixValue, IsMatrix, product_refusal, matrix_product, has_only_zeros}
use Rattle.axe_matrix.specs.Multiples.{rows_with_multiple, matrix_with_multiple}
use Rattle.axe_matrix.proofs.ProductLaws.{product_refusal-none}
use Rattle.axe_spin.specs.Modules.{rows_of_each}
use Rattle.axe_word.proofs.TestedLaws.{null_accepted}
use Rattle.axe_iso.specs.Images.{image_without, IsLayer, layer_matrix, layer_size, IsImageWithout, AreProductsUpTo, AreNarrowed}
use Rattle.axe_iso.proofs.ImageLayers.{without_none, without_more, null_of_difference, narrowed_combination}
use mathlib.Core.Path.{ap₂}
use native.Mathlib.Decide.{ℕ_discrete}

-- ---- layers

-- the rows of a layer
pub rows_of_layer : (layers : List MatrixValue) (t : ℕ) (d : MatrixValue) → t < length layers → get_or (rows_of_each layers) t [] ≡ (get_or layers t d).rows
rows_of_layer layers t d below = get_or-map (λ (m : MatrixValue). m.rows) layers t d [] below

pub layer_over : (o : Order) (n r : ℕ) (layer : MatrixValue) → IsLayer o n r layer → IsMatrixOver (number_field o) n layer.rows
layer_over o n r layer is =
    subst (λ q. IsMatrixOver (number_field q) n layer.rows) is.field
    (subst (λ k. IsMatrixOver (number_field layer.order) k layer.rows) is.columns (matrix_over layer is.well_formed))

-- a layer of other, equal sizes
pub layers_of_sizes : (o p : Order) (n k r s : ℕ) (layers : List MatrixValue) → o ≡ p → n ≡ k → r ≡ s → All (IsLayer o n r) layers →
    All (IsLayer p k s) layers
layers_of_sizes o p n k r s layers field columns count each =
    subst (λ q. All (IsLayer q k s) layers) field
    (subst (λ j. All (IsLayer o j s) layers) columns (subst (λ j. All (IsLayer o n j) layers) count each))

-- layers that are the same from the first on have the size of the first
pub size_of_layers : (o : Order) (n r : ℕ) (layers : List MatrixValue) → 0 < length layers → All (IsLayer o n r) layers → layer_size layers ≡ r
size_of_layers o n r layers some each = sizes layers some each
  where
    sizes : (xs : List MatrixValue) → 0 < length xs → All (IsLayer o n r) xs → layer_size xs ≡ r
    sizes [] none all = absurd (omega (arith, none))
    sizes (x ∷ xs) positive all = (all 0 x positive).count

-- ---- an image less a combination of layers

-- a number that is an element
below_order : (o : Order) (number : ℕ) → IsElement o number → number < (number_field o).order
unfolding number_field
below_order o number is = is

module _ (K : NumberField) (n c : ℕ) (a b : List (List ℕ)) (below : c < K.order) (lengths : length b ≡ length a) (over_a : IsMatrixOver K n a)
    (over_b : IsMatrixOver K n b) where
  abbrev F : Field
  F = field_of K

  matrix_with_term : matrix_of K (rows_with_multiple K n a c b) ≡ add_matrices F (matrix_of K a) (λ i. scale F (element K c) (matrix_of K b i))
  unfolding rows_with_multiple
  matrix_with_term =
      matrix_of_table K (length a) n (λ i j. K.add (entry a i j) (K.mul c (entry b i j))) _ shape
      (λ i j row column.
      element_add K (entry a i j) (K.mul c (entry b i j)) (matrix_entry-below K n a i j over_a)
      (K.mul-below c (entry b i j) below (matrix_entry-below K n b i j over_b))
      ∙ ap (F.add (element K (entry a i j))) (element_mul K c (entry b i j) below (matrix_entry-below K n b i j over_b)))
    where
      sa : HasShape F (length a) n (matrix_of K a)
      sa = matrix_shape K n a over_a

      sb : HasShape F (length b) n (matrix_of K b)
      sb = matrix_shape K n b over_b

      shape : HasShape F (length a) n (add_matrices F (matrix_of K a) (λ i. scale F (element K c) (matrix_of K b i)))
      shape = record {
        rows = λ i j past.
            ap₂ F.add (sa.rows i j past) (ap (F.mul (element K c)) (sb.rows i j (omega (arith, past, lengths))) ∙ mul-zero F (element K c))
            ∙ zero-add F F.zero;
        columns = λ i j past.
            ap₂ F.add (sa.columns i j past) (ap (F.mul (element K c)) (sb.columns i j past) ∙ mul-zero F (element K c)) ∙ zero-add F F.zero;
      }

  length_with_term : length (rows_with_multiple K n a c b) ≡ length a
  unfolding rows_with_multiple
  length_with_term = table_length (length a) n (λ i j. K.add (entry a i j) (K.mul c (entry b i j)))

module _ (coefficients : List ℕ) (layers : List MatrixValue) (image : MatrixValue)
    (each : All (IsLayer image.order image.cols (length image.rows)) layers) where
  abbrev K' : NumberField
  K' = number_field image.order

  -- less no layer
  pub without_first : IsMatrix image → IsImageWithout coefficients layers 0 image image
  without_first well = record {
    layer = record { field = refl; columns = refl; count = refl; well_formed = well };
    rows = sym (without_none (gf image.order) (vector_of K' coefficients) (layer_matrix K' layers) (matrix_of K' image.rows));
  }

  -- less one layer more
  module _ (k coefficient scalar : ℕ) (layer difference new : MatrixValue) (inside : k < length layers)
      (before : IsImageWithout coefficients layers k image difference) (layer_is : layer ≡ get_or layers k layer)
      (coefficient_is : coefficient ≡ get_or coefficients k 0) (element_is : IsElement image.order coefficient) (scalar_is : scalar ≡ K'.neg coefficient)
      (new_is : new ≡ matrix_with_multiple difference scalar layer) (well : IsMatrix new) where
    is_layer : IsLayer image.order image.cols (length image.rows) layer
    is_layer = subst (IsLayer image.order image.cols (length image.rows)) (sym layer_is) (each k layer inside)

    scalar_below : scalar < K'.order
    scalar_below = subst (λ x. x < K'.order) (sym scalar_is) (K'.neg-below coefficient (below_order image.order coefficient element_is))

    rows_are : new.rows ≡ rows_with_multiple K' image.cols difference.rows scalar layer.rows
    rows_are =
        ap (λ (x : MatrixValue). x.rows) new_is
        ∙ ap₂ (λ o n. rows_with_multiple (number_field o) n difference.rows scalar layer.rows) before.layer.field before.layer.columns

    same_count : length layer.rows ≡ length difference.rows
    same_count = is_layer.count ∙ sym before.layer.count

    difference_over : IsMatrixOver K' image.cols difference.rows
    difference_over = layer_over image.order image.cols (length image.rows) difference before.layer

    over : IsMatrixOver K' image.cols layer.rows
    over = layer_over image.order image.cols (length image.rows) layer is_layer

    layer_rows : matrix_of K' layer.rows ≡ layer_matrix K' layers k
    layer_rows = ap (matrix_of K') (ap (λ (x : MatrixValue). x.rows) layer_is ∙ sym (rows_of_layer layers k layer inside))

    scalar_element : element K' scalar ≡ (gf image.order).neg (vector_of K' coefficients k)
    scalar_element =
        ap (element K') scalar_is ∙ element_neg K' coefficient (below_order image.order coefficient element_is)
        ∙ ap (λ x. (gf image.order).neg (element K' x)) coefficient_is

    pub without_next : IsImageWithout coefficients layers (k + 1) image new
    without_next = record {
      layer = record {
        field = ap (λ (x : MatrixValue). x.order) new_is ∙ before.layer.field;
        columns = ap (λ (x : MatrixValue). x.cols) new_is ∙ before.layer.columns;
        count =
            ap length rows_are
            ∙ length_with_term K' image.cols scalar difference.rows layer.rows scalar_below same_count difference_over over
            ∙ before.layer.count;
        well_formed = well;
      };
      rows =
          ap (matrix_of K') rows_are
          ∙ matrix_with_term K' image.cols scalar difference.rows layer.rows scalar_below same_count difference_over over
          ∙ ap₂ (add_matrices (gf image.order)) before.rows
          (ap₂ (λ x (b : Matrix (gf image.order)). λ i. scale (gf image.order) x (b i)) scalar_element layer_rows)
          ∙ sym (without_more (gf image.order) k (vector_of K' coefficients) (layer_matrix K' layers) (matrix_of K' image.rows))
          ∙ ap (λ n. image_without (gf image.order) n (vector_of K' coefficients) (layer_matrix K' layers) (matrix_of K' image.rows)) (sym (add-one k));
    }

-- ---- products of layers

module _ (kept : MatrixValue) (old : List MatrixValue) where
  pub products_first : AreProductsUpTo kept old old 0
  products_first = record {
    count = refl;
    products = λ t d below inside. absurd (omega (arith, below));
    well_formed = λ t d below inside. absurd (omega (arith, below));
    others = λ t d past. refl;
  }

  pub products_next : (k : ℕ) (new next : List MatrixValue) (layer product : MatrixValue) → AreProductsUpTo kept old new k → k < length old →
      layer ≡ get_or new k layer → product ≡ matrix_product kept layer → IsMatrix product → next ≡ set new k product →
      AreProductsUpTo kept old next (k + 1)
  products_next k new next layer product before inside layer_is product_is well next_is = record {
    count = ap length next_is ∙ length-set new k product ∙ before.count;
    products = λ t d below within. at t d below within (ℕ_discrete t k);
    well_formed = λ t d below within. well_at t d below within (ℕ_discrete t k);
    others = λ t d past.
        ap (λ (xs : List MatrixValue). get_or xs t d) next_is
        ∙ get_or-set_other new k t product d (omega (arith, past)) ∙ before.others t d (omega (arith, past));
  }
    where
      inside_too : k < length new
      inside_too = omega (arith, inside, before.count)

      here : (d : MatrixValue) → get_or next k d ≡ product
      here d = ap (λ (xs : List MatrixValue). get_or xs k d) next_is ∙ get_or-set_same new k product d inside_too

      there : (t : ℕ) (d : MatrixValue) → t ≢ k → get_or next t d ≡ get_or new t d
      there t d other = ap (λ (xs : List MatrixValue). get_or xs t d) next_is ∙ get_or-set_other new k t product d other

      old_layer : (d : MatrixValue) → layer ≡ get_or old k d
      old_layer d = layer_is ∙ before.others k layer (omega arith) ∙ get_or_default old k layer d inside

      at : (t : ℕ) (d : MatrixValue) → t < k + 1 → t < length old → Dec (t ≡ k) → get_or next t d ≡ matrix_product kept (get_or old t d)
      at t d below within (yes e) =
          subst (λ x. get_or next x d ≡ matrix_product kept (get_or old x d)) (sym e) (here d ∙ product_is ∙ ap (matrix_product kept) (old_layer d))
      at t d below within (no other) = there t d other ∙ before.products t d (omega (arith, below, other)) within

      well_at : (t : ℕ) (d : MatrixValue) → t < k + 1 → t < length old → Dec (t ≡ k) → IsMatrix (get_or next t d)
      well_at t d below within (yes e) = subst (λ x. IsMatrix (get_or next x d)) (sym e) (subst IsMatrix (sym (here d)) well)
      well_at t d below within (no other) = subst IsMatrix (sym (there t d other)) (before.well_formed t d (omega (arith, below, other)) within)

-- ---- what narrows layers

module _ (coefficients : List ℕ) (image : MatrixValue) (old : List MatrixValue)
    (each : All (IsLayer image.order image.cols (length image.rows)) old) where
  abbrev o : Order
  o = image.order

  -- nothing does, where the image is the combination for all vectors
  pub not_narrowed : AreNarrowed coefficients image old old
  not_narrowed = record {
    count = refl;
    size = length image.rows;
    each = each;
    kept = λ e fits same. record { coefficients = e; fits = fits; combines = λ t below. refl };
  }

  module _ (difference kept : MatrixValue) (new : List MatrixValue) (without : IsImageWithout coefficients old (length old) image difference)
      (null : IsNullSpaceMatrix difference kept) (products : AreProductsUpTo kept old new (length old)) where
    kept_order : kept.order ≡ o
    kept_order = null.field ∙ without.layer.field

    kept_over : IsMatrix kept → IsMatrixOver (number_field o) (length image.rows) kept.rows
    kept_over well = layer_over o (length image.rows) (length kept.rows) kept
        (record { field = kept_order; columns = null.columns ∙ without.layer.count; count = refl; well_formed = well })

    made : (t : ℕ) (d : MatrixValue) → t < length old → get_or new t d ≡ matrix_product kept (get_or old t d)
    made t d below = products.products t d below below

    is_layer_new : (t : ℕ) (d : MatrixValue) → t < length new → IsLayer o image.cols (length kept.rows) (get_or new t d)
    is_layer_new t d below = record {
      field = ap (λ (x : MatrixValue). x.order) (made t d within) ∙ kept_order;
      columns = ap (λ (x : MatrixValue). x.cols) (made t d within) ∙ (each t d within).columns;
      count =
          ap (λ (x : MatrixValue). length x.rows) (made t d within)
          ∙ product_length (number_field kept.order) (get_or old t d).cols kept.rows (get_or old t d).rows;
      well_formed = products.well_formed t d within within;
    }
      where
        within : t < length old
        within = omega (arith, below, products.count)

    null_at : (e : Vector (gf o)) → IsNullVector (gf o) (length image.rows) (matrix_of (number_field o) difference.rows) e →
        InSpan (gf o) (length kept.rows) (matrix_of (number_field o) kept.rows) e
    null_at = subst (λ q. (e : Vector (gf q)) → IsNullVector (gf q) (length image.rows) (matrix_of (number_field q) difference.rows) e →
        InSpan (gf q) (length kept.rows) (matrix_of (number_field q) kept.rows) e) without.layer.field
        (subst (λ n. (e : Vector (gf difference.order)) →
        IsNullVector (gf difference.order) n (matrix_of (number_field difference.order) difference.rows) e →
        InSpan (gf difference.order) (length kept.rows) (matrix_of (number_field difference.order) kept.rows) e) without.layer.count
        null.basis_of_null_space.back)

    new_layer : IsMatrix kept → (t : ℕ) → t < length old →
        layer_matrix (number_field o) new t ≡ multiply (gf o) (length image.rows) (matrix_of (number_field o) kept.rows) (layer_matrix (number_field o) old t)
    new_layer well t below =
        ap (matrix_of (number_field o)) (rows_of_layer new t image (omega (arith, below, products.count)))
        ∙ ap (λ (x : MatrixValue). matrix_of (number_field o) x.rows) (made t image below)
        ∙ ap₂ (λ q n. matrix_of (number_field o) (product (number_field q) n kept.rows (get_or old t image).rows)) kept_order (each t image below).columns
        ∙ matrix_of_product_of (number_field o) (length image.rows) image.cols kept.rows (get_or old t image).rows (each t image below).count
        (kept_over well) (layer_over o image.cols (length image.rows) (get_or old t image) (each t image below))
        ∙ ap (λ (x : List (List ℕ)). multiply (gf o) (length image.rows) (matrix_of (number_field o) kept.rows) (matrix_of (number_field o) x))
        (sym (rows_of_layer old t image below))

    pub narrowed : IsMatrix kept → AreNarrowed coefficients image old new
    narrowed well = record {
      count = products.count;
      size = length kept.rows;
      each = is_layer_new;
      kept = λ e fits same.
          narrowed_combination (gf o) (length image.rows) (length kept.rows) (length new) (matrix_of (number_field o) kept.rows)
          (layer_matrix (number_field o) old) (layer_matrix (number_field o) new) e
          (null_at e (subst (λ (x : Matrix (gf o)). IsNullVector (gf o) (length image.rows) x e) (sym without.rows)
          (null_of_difference (gf o) (length image.rows) (length old) e (vector_of (number_field o) coefficients) (layer_matrix (number_field o) old)
          (matrix_of (number_field o) image.rows) fits same)))
          (λ t below. new_layer well t (omega (arith, below, products.count)));
    }

-- ---- products that are given

module _ (a b : MatrixValue) (field : b.order ≡ a.order) (fits : length b.rows ≡ a.cols) where
  none_refused : product_refusal a b ≡ None
  none_refused = product_refusal-none a b (sym (ap order_number field)) (sym fits)

  pub product_given : (p : MatrixValue) → Answers (product_refusal a b) (λ whole. whole ≡ matrix_product a b) (Ok p) → p ≡ matrix_product a b
  product_given p h = subst (λ why. Answers why (λ whole. whole ≡ matrix_product a b) (Ok p)) none_refused h

  pub product_memory : (refusal : Refusal) → Answers (product_refusal a b) (λ whole. whole ≡ matrix_product a b) (Err refusal) → refusal ≡ Memory
  product_memory refusal h = memory_if_accepted (product_refusal a b) (λ whole. whole ≡ matrix_product a b) refusal none_refused h

-- ---- a null space that is given

-- rows with an entry other than 0 are some
some_row : (rows : List (List ℕ)) → has_only_zeros rows ≡ false → 0 < length rows
some_row [] fails = absurd (false≢true (sym fails))
some_row (row ∷ rest) fails = omega arith

pub narrowed_by_null_space : (coefficients : List ℕ) (image : MatrixValue) (old : List MatrixValue) →
    All (IsLayer image.order image.cols (length image.rows)) old → (difference kept : MatrixValue) (new : List MatrixValue) →
    IsImageWithout coefficients old (length old) image difference → has_only_zeros difference.rows ≡ false →
    Answers (null_space_refusal difference) (IsNullSpaceMatrix difference) (Ok kept) → IsMatrix kept → AreProductsUpTo kept old new (length old) →
    AreNarrowed coefficients image old new
narrowed_by_null_space coefficients image old each difference kept new without some null well products =
    narrowed coefficients image old each difference kept new without
    (null_accepted difference (Ok kept) (some_row difference.rows some) null) products well
