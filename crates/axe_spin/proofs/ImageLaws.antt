-- Images of rows that are made before they are taken: rows of products, and rows that grow meanwhile.
use Rattle.std.specs.Prelude.{◌≡◌, ℕ, ◌+◌, ◌<◌, ◌≤◌, List, [], ◌∷◌, ◌++◌, length, get_or, None, Ok, Err}
use Rattle.std.proofs.lemmas.List.{ext_get_or, get_or_append_left, get_or_push, length_push}
use Rattle.axe_algebra.specs.Lists.{entry, listed}
use Rattle.axe_algebra.specs.ListArithmetic.{combination}
use Rattle.axe_algebra.proofs.ListEntries.{listed_length, listed_at, table_length, table_row, row_over}
use Rattle.axe_field.specs.Order.{Order, order_number}
use Rattle.axe_field.specs.NumberFields.{number_field}
use Rattle.axe_row.specs.Rows.{RowValue}
use Rattle.axe_row.proofs.CombinationLaws.{length-combination}
use Rattle.axe_row.specs.Refusals.{Answers}
use Rattle.axe_row.specs.declared.refusals.Refusal.{Refusal}
use Rattle.axe_row.specs.declared.refusals.Refusal.TheVariants.{Memory}
use Rattle.axe_matrix.specs.Matrices.{MatrixValue, IsMatrix, row_of, matrix_block, matrix_product, product_refusal}
use Rattle.axe_matrix.proofs.ProductLaws.{product_refusal-none, length-product, get_or-product}
use Rattle.axe_echelon.specs.Echelons.{EchelonValue}
use Rattle.axe_echelon.specs.Subspaces.{BeginWith}
use Rattle.axe_echelon.proofs.Exits.{memory_if_accepted}
use Rattle.axe_echelon.proofs.InverseLaws.{matrix_over}
use Rattle.axe_spin.specs.Modules.{ModuleValue, generator_of}
use Rattle.axe_spin.specs.Origins.{HaveOrigins}
use Rattle.axe_spin.specs.declared.spinning.Origin.{Origin}
use Rattle.axe_spin.specs.Images.{AreImagesAt, AreImagesOfBlock}
use Rattle.axe_spin.specs.Spun.{IsSpanOf, IsOffered, image_of_row, SpinsOn}
use Rattle.axe_spin.proofs.SpunLaws.{spins_on}
use mathlib.Core.Logic.{inl, inr}
use mathlib.Core.Path.{refl, sym, ◌∙◌, ap, ap₂, subst}
use native.Mathlib.Omega.{arith}
use native.Mathlib.Decide.{ℕ_discrete}

-- ---- rows that grow

pub begin_with_itself : (rows : List (List ℕ)) → BeginWith rows rows
begin_with_itself rows t below = refl

pub begin_on : (old mid new : List (List ℕ)) → length old ≤ length mid → BeginWith old mid → BeginWith mid new → BeginWith old new
begin_on old mid new grown first then t below = then t (omega (arith, grown, below)) ∙ first t below

-- rows to which one was offered begin with the old ones
pub begin_offered : (old new : MatrixValue) (row : List ℕ) → IsOffered old row new → BeginWith old.rows new.rows
begin_offered old new row (inl (spanned, same)) t below = ap (λ (x : MatrixValue). get_or x.rows t []) same
begin_offered old new row (inr (outside, appended)) t below =
    ap (λ (x : MatrixValue). get_or x.rows t []) appended ∙ get_or_append_left old.rows (row ∷ []) [] t below

-- the images of a row stay when rows come after it
pub image_stays : (m : ModuleValue) (old new : List (List ℕ)) (r i : ℕ) → BeginWith old new → r < length old →
    image_of_row m new r i ≡ image_of_row m old r i
image_stays m old new r i begin below =
    ap (λ (x : List ℕ). combination (number_field m.order) m.dim x (get_or m.generators i [])) (begin r below)

pub images_stay : (m : ModuleValue) (old new : List (List ℕ)) (source index : ℕ) (images : List MatrixValue) → BeginWith old new → source < length old →
    AreImagesAt m old source index images → AreImagesAt m new source index images
images_stay m old new source index images begin below h = record {
  count = h.count;
  field = h.field;
  below = h.below;
  image = λ i other inside. h.image i other inside ∙ sym (image_stays m old new source i begin below);
}

-- steps that end at a row, by whatever name
pub spins_until : (m : ModuleValue) (old new : MatrixValue) (r i s t : ℕ) → SpinsOn m old new r i s 0 → s ≡ t → SpinsOn m old new r i t 0
spins_until m old new r i s t spins same = subst (λ x. SpinsOn m old new r i x 0) same spins

-- ---- a loop that takes the rows in turn

-- the first rows were taken, so many of them, and what was appended is known
pub record HaveTaken (m : ModuleValue) (first : MatrixValue) (space : EchelonValue) (rows : MatrixValue) (sources : List Origin) (taken : ℕ) : Type 0 where
  pub spins : SpinsOn m first rows 0 0 taken 0
  pub span : IsSpanOf space rows
  pub well_formed : IsMatrix rows
  pub origins : HaveOrigins m rows.rows sources
  pub within : taken ≤ length rows.rows

pub have_taken_more : (m : ModuleValue) (first rows next : MatrixValue) (span : EchelonValue) (origins : List Origin) (taken count : ℕ) →
    SpinsOn m first rows 0 0 taken 0 → taken + count ≤ length rows.rows → SpinsOn m rows next taken 0 (taken + count) 0 → IsSpanOf span next →
    IsMatrix next → HaveOrigins m next.rows origins → HaveTaken m first span next origins (taken + count)
have_taken_more m first rows next span origins taken count before within step is formed have = record {
  spins = spins_on m first rows next 0 0 taken 0 (taken + count) 0 before step;
  span = is;
  well_formed = formed;
  origins = have;
  within = omega (arith, within, step.grown);
}

-- ---- a made image that is taken

module _ (m : ModuleValue) (rows : List (List ℕ)) (source index i : ℕ) (images : List MatrixValue) (made : MatrixValue) (row copy : RowValue)
    (are : AreImagesAt m rows source index images) (inside : i < length images) (made_is : made ≡ get_or images i made)
    (row_is : row ≡ row_of made index) (copied : copy ≡ row) where
  pub taken_field : copy.order ≡ m.order
  taken_field =
      ap (λ (x : RowValue). x.order) (copied ∙ row_is) ∙ ap (λ (x : MatrixValue). x.order) made_is ∙ are.field i made inside

  pub taken_image : copy.entries ≡ image_of_row m rows source i
  taken_image =
      ap (λ (x : RowValue). x.entries) (copied ∙ row_is) ∙ ap (λ (x : MatrixValue). get_or x.rows index []) made_is
      ∙ are.image i made inside

  pub taken_length : length copy.entries ≡ m.dim
  taken_length = ap (λ (x : List ℕ). length x) taken_image ∙ length-combination _ _ _ _

-- ---- images that are rows of products

-- the matrices are the products of a block with the first generators, so many of them
pub record AreProducts (m : ModuleValue) (block : MatrixValue) (images : List MatrixValue) (number : ℕ) : Type 0 where
  pub count : length images ≡ number
  pub each : (i : ℕ) (other : MatrixValue) → i < number → get_or images i other ≡ matrix_product block (generator_of m i)

pub no_products : (m : ModuleValue) (block : MatrixValue) (images : List MatrixValue) → images ≡ [] → AreProducts m block images 0
no_products m block images none = record {
  count = ap (λ (x : List MatrixValue). length x) none;
  each = λ i other below. absurd (omega (arith, below));
}

pub products_more : (m : ModuleValue) (block image : MatrixValue) (images more : List MatrixValue) (number : ℕ) → AreProducts m block images number →
    image ≡ matrix_product block (generator_of m number) → more ≡ images ++ image ∷ [] → AreProducts m block more (number + 1)
products_more m block image images more number h is pushed = record {
  count = ap (λ (x : List MatrixValue). length x) pushed ∙ length_push images image ∙ ap (λ n. n + 1) h.count;
  each = λ i other below.
      ap (λ (x : List MatrixValue). get_or x i other) pushed ∙ at i other below (ℕ_discrete i number);
}
  where
    at : (i : ℕ) (other : MatrixValue) → i < number + 1 → Dec (i ≡ number) →
        get_or (images ++ image ∷ []) i other ≡ matrix_product block (generator_of m i)
    at i other below (yes same) =
        get_or_push images image other i (h.count ∙ sym same) ∙ is ∙ ap (λ n. matrix_product block (generator_of m n)) (sym same)
    at i other below (no different) =
        let old : i < number = omega (arith, below, different) in
        get_or_append_left images (image ∷ []) other i (omega (arith, old, h.count)) ∙ h.each i other old

-- rows of a matrix, all columns of them
abbrev pub whole_rows : MatrixValue → ℕ → ℕ → MatrixValue
whole_rows rows source count = matrix_block rows source count 0 rows.cols

module _ (m : ModuleValue) (rows : MatrixValue) (source count : ℕ) where
  module _ (block generator : MatrixValue) (columns number : ℕ) (columns_are : columns ≡ rows.cols) (block_is : block ≡ matrix_block rows source count 0 columns)
      (generator_is : generator ≡ generator_of m number) (square : length generator.rows ≡ m.dim) (field : rows.order ≡ m.order)
      (fits : rows.cols ≡ m.dim) where
    block_same : block ≡ whole_rows rows source count
    block_same = block_is ∙ ap (λ n. matrix_block rows source count 0 n) columns_are

    none_refused : product_refusal block generator ≡ None
    none_refused =
        product_refusal-none block generator
        (ap (λ (x : MatrixValue). order_number x.order) block_same ∙ ap order_number field
        ∙ sym (ap (λ (x : MatrixValue). order_number x.order) generator_is))
        (ap (λ (x : MatrixValue). x.cols) block_same ∙ fits ∙ sym square)

    pub product_made : (image : MatrixValue) →
        Answers (product_refusal block generator) (λ whole. whole ≡ matrix_product block generator) (Ok image) →
        image ≡ matrix_product (whole_rows rows source count) (generator_of m number)
    product_made image h =
        subst (λ why. Answers why (λ whole. whole ≡ matrix_product block generator) (Ok image)) none_refused h
        ∙ ap₂ matrix_product block_same generator_is

    pub product_memory : (refusal : Refusal) →
        Answers (product_refusal block generator) (λ whole. whole ≡ matrix_product block generator) (Err refusal) → refusal ≡ Memory
    product_memory refusal h =
        memory_if_accepted (product_refusal block generator) (λ whole. whole ≡ matrix_product block generator) refusal none_refused h

  module _ (formed : IsMatrix rows) (field : rows.order ≡ m.order) (within : source + count ≤ length rows.rows) where
    -- a row of the block is one of the matrix
    row_of_block : (i : ℕ) → i < count → get_or (whole_rows rows source count).rows i [] ≡ get_or rows.rows (source + i) []
    row_of_block i below =
        table_row count rows.cols (λ i j. entry rows.rows (source + i) (0 + j)) i below
        ∙ ext_get_or 0 (listed rows.cols (λ j. entry rows.rows (source + i) (0 + j))) (get_or rows.rows (source + i) [])
        (listed_length rows.cols (λ j. entry rows.rows (source + i) (0 + j))
        ∙ sym (row_over (number_field rows.order) rows.cols rows.rows (source + i) (matrix_over rows formed) (omega (arith, below, within))).length_is)
        (λ j inside.
        let same : 0 + j ≡ j = omega arith in
        listed_at rows.cols (λ j. entry rows.rows (source + i) (0 + j)) j 0
        (omega (arith, inside, listed_length rows.cols (λ j. entry rows.rows (source + i) (0 + j))))
        ∙ ap (λ n. get_or (get_or rows.rows (source + i) []) n 0) same)

    count_is : length (whole_rows rows source count).rows ≡ count
    count_is = table_length count rows.cols (λ i j. entry rows.rows (source + i) (0 + j))

    order_is : (whole_rows rows source count).order ≡ m.order
    order_is = field

    -- a row of a product with a generator is the image of a row
    row_of_product : (index i : ℕ) → index < count →
        get_or (matrix_product (whole_rows rows source count) (generator_of m i)).rows index [] ≡ image_of_row m rows.rows (source + index) i
    row_of_product index i below =
        get_or-product (number_field (whole_rows rows source count).order) m.dim (whole_rows rows source count).rows (get_or m.generators i []) index (omega (arith, below, count_is))
        ∙ ap₂ (λ (o : Order) (v : List ℕ). combination (number_field o) m.dim v (get_or m.generators i [])) order_is (row_of_block index below)

    pub images_of_products : (images : List MatrixValue) (number : ℕ) → AreProducts m (whole_rows rows source count) images number → number ≡ length m.generators →
        AreImagesOfBlock m rows.rows source count images
    images_of_products images number h all index below = record {
      count = h.count ∙ all;
      field = λ i other inside. ap (λ (x : MatrixValue). x.order) (is i other inside) ∙ order_is;
      below = λ i other inside.
          let long = length-product (number_field (whole_rows rows source count).order) m.dim (whole_rows rows source count).rows (get_or m.generators i []) in
          omega (arith, below, count_is, ap (λ (x : MatrixValue). length x.rows) (is i other inside), long);
      image = λ i other inside. ap (λ (x : MatrixValue). get_or x.rows index []) (is i other inside) ∙ row_of_product index i below;
    }
      where
        is : (i : ℕ) (other : MatrixValue) → i < length images → get_or images i other ≡ matrix_product (whole_rows rows source count) (generator_of m i)
        is i other inside = h.each i other (omega (arith, inside, h.count))
