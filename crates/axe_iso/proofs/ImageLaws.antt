-- Layers that a form's matrices tell of, for a module: one image more, the first layer, and what spans the images of the first unit vector.
use Rattle.std.proofs.Common.{◌≡◌, ◌≢◌, ℕ, ◌+◌, ◌<◌, ◌≤◌, inl, inr, List, [], ◌∷◌, ◌++◌, All, length, get_or, Ok, Err, refl, sym, ap, subst, ◌∙◌, arith}
use Rattle.std.proofs.lemmas.List.{get_or_append_left, get_or_push, length_push, map-append}
use Rattle.std.proofs.lemmas.List.Elements.{All-push}
use Rattle.axe_algebra.specs.NumberField.{NumberField}
use Rattle.axe_algebra.specs.Field.{Field}
use Rattle.axe_algebra.specs.Vectors.{Matrix, HasLength, unit_vector, times, multiply}
use Rattle.axe_algebra.specs.Spans.{InSpan}
use Rattle.axe_algebra.specs.Modules.{Module}
use Rattle.axe_algebra.specs.Standard.{Precedes}
use Rattle.axe_algebra.specs.Bridge.{matrix_of, module_of, element}
use Rattle.axe_algebra.specs.Lists.{IsVectorOver, IsSquareOver}
use Rattle.axe_algebra.specs.ListArithmetic.{product}
use Rattle.axe_algebra.proofs.ElementNumbers.{element_zero, same_number, zero-below, entry-below}
use Rattle.axe_algebra.proofs.ListEntries.{row_over}
use Rattle.axe_algebra.proofs.ListLaws.{matrix_of_product_of}
use Rattle.axe_algebra.proofs.ListModules.{generator_over}
use Rattle.axe_algebra.proofs.ListProducts.{product_length}
use Rattle.axe_field.specs.Order.{Order}
use Rattle.axe_field.specs.NumberFields.{number_field, gf}
use Rattle.axe_row.specs.Rows.{RowValue}
use Rattle.axe_row.specs.Refusals.{Answers}
use Rattle.axe_row.specs.declared.refusals.Refusal.{Refusal}
use Rattle.axe_row.specs.declared.refusals.Refusal.TheVariants.{Memory}
use Rattle.axe_matrix.specs.Matrices.{MatrixValue, IsMatrix, row_of, product_refusal, matrix_product}
use Rattle.axe_spin.specs.Modules.{ModuleValue, IsModule, generator_of, rows_of_each}
use Rattle.axe_iso.specs.Following.{AreFormMatrices}
use Rattle.axe_iso.specs.Images.{IsHomomorphism, HasImages, HasCombination, IsLayer, layer_matrix, layer_size, LayersCombine, KeepCombinations, AreNarrowed, IsNextLayer, IsKnownLayer, TakesImage, AreLayersUpTo, KeepHomomorphisms}
use Rattle.axe_iso.proofs.FollowLaws.{own, squares}
use Rattle.axe_iso.proofs.StillToCome.{all_to_come, next_within, next_unit, to_come_past_next, to_come_past_known, row_is_there}
use Rattle.axe_iso.proofs.ImageLayers.{first_combination, same_rows_combine, next_image, known_image}
use Rattle.axe_iso.proofs.LayerLaws.{rows_of_layer, layer_over, layers_of_sizes, size_of_layers, product_given, product_memory}
use native.Mathlib.Decide.{dec_lt}

-- what a homomorphism's first image is in, when the images of the pairs before (r, 0) were taken
pub record AreImagesUpTo (m matrices : ModuleValue) (space : MatrixValue) (layers : List MatrixValue) (r : ℕ) : Type 0 where
  pub layers_up_to : AreLayersUpTo m matrices layers r 0
  pub all : (c : Matrix (gf m.order)) → IsHomomorphism m matrices c →
      InSpan (gf m.order) (length space.rows) (matrix_of (number_field m.order) space.rows) (c 0) → LayersCombine (number_field m.order) layers c

-- one more layer
module _ (layers : List MatrixValue) (image : MatrixValue) where
  rows_pushed : rows_of_each (layers ++ image ∷ []) ≡ rows_of_each layers ++ image.rows ∷ []
  rows_pushed = map-append (λ (x : MatrixValue). x.rows) layers (image ∷ [])

  rows_before : (t : ℕ) → t < length layers → get_or (rows_of_each (layers ++ image ∷ [])) t [] ≡ get_or (rows_of_each layers) t []
  rows_before t below =
      rows_of_layer (layers ++ image ∷ []) t image (omega (arith, below, length_push layers image))
      ∙ ap (λ (x : MatrixValue). x.rows) (get_or_append_left layers (image ∷ []) image t below) ∙ sym (rows_of_layer layers t image below)

  rows_last : get_or (rows_of_each (layers ++ image ∷ [])) (length layers) [] ≡ image.rows
  rows_last =
      rows_of_layer (layers ++ image ∷ []) (length layers) image (omega (arith, length_push layers image))
      ∙ ap (λ (x : MatrixValue). x.rows) (get_or_push layers image image (length layers) refl)

-- the narrowing keeps combinations over an equal field, of as many rows
kept_at : (o : Order) (r : ℕ) (coefficients other : List ℕ) (image : MatrixValue) (old new : List MatrixValue) → image.order ≡ o → length image.rows ≡ r →
    coefficients ≡ other → (narrowed : AreNarrowed coefficients image old new) → KeepCombinations o r narrowed.size other image.rows old new
kept_at o r coefficients other image old new field count same narrowed =
    subst (λ (v : List ℕ). KeepCombinations o r narrowed.size v image.rows old new) same
    (subst (λ q. KeepCombinations q r narrowed.size coefficients image.rows old new) field
    (subst (λ n. KeepCombinations image.order n narrowed.size coefficients image.rows old new) count narrowed.kept))

module _ (m matrices : ModuleValue) (is_module : IsModule m) (form : AreFormMatrices m matrices) where
  abbrev K : NumberField
  K = number_field m.order

  abbrev F : Field
  F = gf m.order

  abbrev M : Module F
  M = module_of K m.dim m.generators

  abbrev A : Module F
  A = module_of K matrices.dim matrices.generators

  -- ---- the first layer

  pub space_is_layer : (space : MatrixValue) → space.order ≡ m.order → space.cols ≡ m.dim → IsMatrix space → AreImagesUpTo m matrices space (space ∷ []) 0
  space_is_layer space field columns well = record {
    layers_up_to = record {
      each = each;
      some = omega arith;
      no_more = form.well_formed.over.positive;
      to_come = λ any. all_to_come F A any 1;
    };
    all = λ c hom spanned. first_combination F (length space.rows) (layer_matrix K (space ∷ [])) c spanned;
  }
    where
      each : (t : ℕ) (d : MatrixValue) → t < length (space ∷ []) → IsLayer m.order m.dim (length space.rows) (get_or (space ∷ []) t d)
      each t d below =
          subst (λ n. IsLayer m.order m.dim (length space.rows) (get_or (space ∷ []) n d))
          (let first : 0 ≡ t = omega (arith, below) in first)
          (record { field = field; columns = columns; count = refl; well_formed = well })

  -- ---- one image more

  module _ (layers : List MatrixValue) (r i : ℕ) (is : AreLayersUpTo m matrices layers r i) (inside : r < m.dim) (below : i < length m.generators) where
    inside_too : r < matrices.dim
    inside_too = omega (arith, inside, form.dimension)

    below_too : i < length matrices.generators
    below_too = omega (arith, below, form.count)

    pub layer_is_there : r < length layers
    layer_is_there = row_is_there F A (own m matrices is_module form) (length layers) r i is.some (is.to_come (own m matrices is_module form)) inside_too

    abbrev told : List ℕ
    told = get_or (get_or matrices.generators i []) r []

    square : IsSquareOver K matrices.dim (get_or matrices.generators i [])
    square = generator_over K matrices.dim matrices.generators i (squares m matrices is_module form) below_too

    told_over : IsVectorOver K matrices.dim told
    told_over = row_over K matrices.dim (get_or matrices.generators i []) r square.matrix (omega (arith, inside_too, square.length_is))

    own_square : IsSquareOver K m.dim (get_or m.generators i [])
    own_square = generator_over K m.dim m.generators i is_module.over.square below

    -- the layer and the generator have a product
    module _ (layer generator : MatrixValue) (layer_is : layer ≡ get_or layers r layer) (generator_is : generator ≡ generator_of m i) where
      factor : IsLayer m.order m.dim (layer_size layers) layer
      factor = subst (IsLayer m.order m.dim (layer_size layers)) (sym layer_is) (is.each r layer layer_is_there)

      same_field : generator.order ≡ layer.order
      same_field = ap (λ (x : MatrixValue). x.order) generator_is ∙ sym factor.field

      fits : length generator.rows ≡ layer.cols
      fits = ap (λ (x : MatrixValue). length x.rows) generator_is ∙ own_square.length_is ∙ sym factor.columns

      pub image_memory : (refusal : Refusal) → Answers (product_refusal layer generator) (λ whole. whole ≡ matrix_product layer generator) (Err refusal) →
          refusal ≡ Memory
      image_memory = product_memory layer generator same_field fits

      pub image_given : (image : MatrixValue) → Answers (product_refusal layer generator) (λ whole. whole ≡ matrix_product layer generator) (Ok image) →
          image ≡ matrix_product layer generator
      image_given = product_given layer generator same_field fits

    -- the image and its coefficients, as calls give them
    module _ (layer generator image matrix : MatrixValue) (coefficients : RowValue) (layer_is : layer ≡ get_or layers r layer)
        (generator_is : generator ≡ generator_of m i) (image_is : image ≡ matrix_product layer generator) (matrix_is : matrix ≡ generator_of matrices i)
        (coefficients_are : coefficients ≡ row_of matrix r) where
      is_layer : IsLayer m.order m.dim (layer_size layers) layer
      is_layer = subst (IsLayer m.order m.dim (layer_size layers)) (sym layer_is) (is.each r layer layer_is_there)

      pub image_field : image.order ≡ m.order
      image_field = ap (λ (x : MatrixValue). x.order) image_is ∙ is_layer.field

      image_columns : image.cols ≡ m.dim
      image_columns = ap (λ (x : MatrixValue). x.cols) image_is ∙ ap (λ (x : MatrixValue). x.cols) generator_is

      image_count : length image.rows ≡ layer_size layers
      image_count =
          ap (λ (x : MatrixValue). length x.rows) image_is
          ∙ product_length (number_field layer.order) generator.cols layer.rows generator.rows ∙ is_layer.count

      pub layers_of_image : All (IsLayer image.order image.cols (length image.rows)) layers
      layers_of_image =
          layers_of_sizes m.order image.order m.dim image.cols (layer_size layers) (length image.rows) layers (sym image_field) (sym image_columns)
          (sym image_count) is.each

      pub coefficients_field : coefficients.order ≡ image.order
      coefficients_field =
          ap (λ (x : RowValue). x.order) coefficients_are ∙ ap (λ (x : MatrixValue). x.order) matrix_is ∙ form.field ∙ sym image_field

      coefficients_told : coefficients.entries ≡ told
      coefficients_told = ap (λ (x : RowValue). x.entries) coefficients_are ∙ ap (λ (x : MatrixValue). get_or x.rows r []) matrix_is

      pub enough_coefficients : length layers ≤ length coefficients.entries
      enough_coefficients = omega (arith, ap length coefficients_told, told_over.length_is, is.no_more)

      image_matrix : matrix_of K image.rows ≡ multiply F m.dim (layer_matrix K layers r) (M.generator i)
      image_matrix =
          ap (λ (x : MatrixValue). matrix_of K x.rows) image_is
          ∙ ap (λ (g : MatrixValue). matrix_of K (product (number_field layer.order) g.cols layer.rows g.rows)) generator_is
          ∙ ap (λ o. matrix_of K (product (number_field o) m.dim layer.rows (get_or m.generators i []))) is_layer.field
          ∙ matrix_of_product_of K m.dim m.dim layer.rows (get_or m.generators i []) own_square.length_is
          (layer_over m.order m.dim (layer_size layers) layer is_layer) own_square.matrix
          ∙ ap (λ (x : List (List ℕ)). multiply F m.dim (matrix_of K x) (M.generator i))
          (ap (λ (x : MatrixValue). x.rows) layer_is ∙ sym (rows_of_layer layers r layer layer_is_there))

      -- ---- the image is the next layer

      module _ (new : List MatrixValue) (well : IsMatrix image) (next : IsNextLayer coefficients.entries image layers new) where
        index_inside : next.index < matrices.dim
        index_inside = omega (arith, next.within, ap length coefficients_told, told_over.length_is)

        nonzero : element K (get_or told next.index 0) ≢ F.zero
        nonzero e = next.nonzero (ap (λ (v : List ℕ). get_or v next.index 0) coefficients_told
            ∙ same_number K (get_or told next.index 0) 0 (entry-below K told next.index told_over.elements) (zero-below K) (e ∙ sym (element_zero K)))

        within : length layers < matrices.dim
        within = next_within F A (own m matrices is_module form) (length layers) r i is.some (is.to_come (own m matrices is_module form)) inside_too below_too
            next.index next.past index_inside nonzero

        longer : length layers + 1 ≡ length (layers ++ image ∷ [])
        longer = omega (arith, length_push layers image)

        size_is : layer_size (layers ++ image ∷ []) ≡ layer_size layers
        size_is = ap length (rows_before layers image 0 is.some)

        next_up_to : AreLayersUpTo m matrices (layers ++ image ∷ []) r (i + 1)
        next_up_to = record {
          each = subst (λ n. All (IsLayer m.order m.dim n) (layers ++ image ∷ [])) (sym size_is)
              (All-push (IsLayer m.order m.dim (layer_size layers)) layers image is.each
              (record { field = image_field; columns = image_columns; count = image_count; well_formed = well }));
          some = omega (arith, longer);
          no_more = omega (arith, longer, within);
          to_come = λ any.
              subst (λ n. (t : ℕ) → n ≤ t → t < matrices.dim → ¬ (Precedes (any.standard.rows t) (any.standard.generators t) r (i + 1))) longer
              (to_come_past_next F A any (length layers) r i is.some (is.to_come any) inside_too below_too next.index next.past index_inside nonzero);
        }

        next_keeps : KeepHomomorphisms m matrices layers (layers ++ image ∷ [])
        next_keeps c hom has = record {
          coefficients = has.coefficients;
          fits = subst (λ n. HasLength F n has.coefficients) (sym size_is) has.fits;
          combines = λ t small. ap (λ n. times F n has.coefficients (layer_matrix K (layers ++ image ∷ []) t)) size_is ∙ at t small (dec_lt t (length layers));
        }
          where
            unit : A.generator i r ≡ unit_vector F (length layers)
            unit = next_unit F A (own m matrices is_module form) (length layers) r i is.some (is.to_come (own m matrices is_module form)) inside_too below_too
                next.index next.past index_inside nonzero

            last : times F (layer_size layers) has.coefficients (layer_matrix K (layers ++ image ∷ []) (length layers)) ≡ c (length layers)
            last =
                ap (λ (x : List (List ℕ)). times F (layer_size layers) has.coefficients (matrix_of K x)) (rows_last layers image)
                ∙ ap (times F (layer_size layers) has.coefficients) image_matrix
                ∙ next_image F M A c hom (layer_size layers) (layer_matrix K layers) has.coefficients r i inside_too below (has.combines r layer_is_there)
                (length layers) within unit

            at : (t : ℕ) → t < length (layers ++ image ∷ []) → Dec (t < length layers) →
                times F (layer_size layers) has.coefficients (layer_matrix K (layers ++ image ∷ []) t) ≡ c t
            at t small (yes before) =
                ap (λ (x : List (List ℕ)). times F (layer_size layers) has.coefficients (matrix_of K x)) (rows_before layers image t before)
                ∙ has.combines t before
            at t small (no past) =
                subst (λ n. times F (layer_size layers) has.coefficients (layer_matrix K (layers ++ image ∷ []) n) ≡ c n)
                (let same : length layers ≡ t = omega (arith, small, past, longer) in same) last

      -- ---- the image is known

      module _ (new : List MatrixValue) (known : IsKnownLayer coefficients.entries image layers new) where
        zeros : (t : ℕ) → length layers ≤ t → A.generator i r t ≡ F.zero
        zeros t from =
            ap (λ (v : List ℕ). element K (get_or v t 0)) (sym coefficients_told) ∙ ap (element K) (known.within t from) ∙ element_zero K

        each_new : All (IsLayer m.order m.dim known.narrowed.size) new
        each_new = layers_of_sizes image.order m.order image.cols m.dim known.narrowed.size known.narrowed.size new image_field image_columns refl known.narrowed.each

        some_new : 0 < length new
        some_new = omega (arith, known.narrowed.count, is.some)

        new_size : layer_size new ≡ known.narrowed.size
        new_size = size_of_layers m.order m.dim known.narrowed.size new some_new each_new

        known_up_to : AreLayersUpTo m matrices new r (i + 1)
        known_up_to = record {
          each = subst (λ n. All (IsLayer m.order m.dim n) new) (sym new_size) each_new;
          some = some_new;
          no_more = omega (arith, known.narrowed.count, is.no_more);
          to_come = λ any.
              subst (λ n. (t : ℕ) → n ≤ t → t < matrices.dim → ¬ (Precedes (any.standard.rows t) (any.standard.generators t) r (i + 1)))
              (sym known.narrowed.count)
              (to_come_past_known F A any (length layers) r i is.some (is.to_come any) inside_too below_too zeros);
        }

        known_keeps : KeepHomomorphisms m matrices layers new
        known_keeps c hom has =
            subst (λ n. HasCombination F n (length new) (layer_matrix K new) c) (sym new_size)
            (same_rows_combine F known.narrowed.size (length new) (layer_matrix K new)
            (λ t. times F (layer_size layers) has.coefficients (layer_matrix K layers t)) c
            (λ t small. has.combines t (omega (arith, small, known.narrowed.count)))
            (kept_at m.order (layer_size layers) coefficients.entries told image layers new image_field image_count coefficients_told known.narrowed
            has.coefficients has.fits
            (ap (times F (layer_size layers) has.coefficients) image_matrix
            ∙ known_image F M A c hom (layer_size layers) (layer_matrix K layers) has.coefficients r i inside_too below (has.combines r layer_is_there)
            (length layers) is.no_more zeros has.combines)))

      -- ---- one or the other

      pub image_taken : (new : List MatrixValue) → IsMatrix image → TakesImage coefficients.entries image layers new → AreLayersUpTo m matrices new r (i + 1)
      image_taken new well (inl next) =
          subst (λ (xs : List MatrixValue). AreLayersUpTo m matrices xs r (i + 1)) (sym next.appended) (next_up_to new well next)
      image_taken new well (inr known) = known_up_to new known

      pub image_keeps : (new : List MatrixValue) → IsMatrix image → TakesImage coefficients.entries image layers new → KeepHomomorphisms m matrices layers new
      image_keeps new well (inl next) = subst (KeepHomomorphisms m matrices layers) (sym next.appended) (next_keeps new well next)
      image_keeps new well (inr known) = known_keeps new known

  -- ---- the layers of one row more

  pub images_followed : (space : MatrixValue) (old new : List MatrixValue) (r s : ℕ) → AreImagesUpTo m matrices space old r → AreLayersUpTo m matrices new s 0 →
      KeepHomomorphisms m matrices old new → AreImagesUpTo m matrices space new s
  images_followed space old new r s before after keep = record {
    layers_up_to = after;
    all = λ c hom spanned. keep c hom (before.all c hom spanned);
  }

  -- ---- the end

  pub first_layer_has_images : (space found : MatrixValue) (layers : List MatrixValue) (r : ℕ) → AreImagesUpTo m matrices space layers r →
      found ≡ get_or layers 0 found → HasImages m matrices space found
  first_layer_has_images space found layers r is found_is = record {
    field = is_first.field;
    columns = is_first.columns;
    well_formed = is_first.well_formed;
    all = λ c hom spanned.
        let has = is.all c hom spanned in
        subst (λ (x : List (List ℕ)). InSpan F (length x) (matrix_of K x) (c 0)) (sym rows_are)
        (record { coefficients = has.coefficients; combines = sym (has.combines 0 is.layers_up_to.some) });
  }
    where
      is_first : IsLayer m.order m.dim (layer_size layers) found
      is_first = subst (IsLayer m.order m.dim (layer_size layers)) (sym found_is) (is.layers_up_to.each 0 found is.layers_up_to.some)

      rows_are : found.rows ≡ get_or (rows_of_each layers) 0 []
      rows_are = ap (λ (x : MatrixValue). x.rows) found_is ∙ sym (rows_of_layer layers 0 found is.layers_up_to.some)
