-- Points that are seen to generate everything: images, pairings, and what their combinations span.
use Rattle.std.specs.Prelude.{◌≡◌, ◌≢◌, ℕ, ◌<◌, ◌≤◌, List, [], ◌∷◌, ◌++◌, length, get_or, ◌%◌, Bool, true, false, Option, None, Ok}
use Rattle.std.specs.List.{All}
use Rattle.std.proofs.lemmas.List.{get_or-map, length-map}
use Rattle.axe_algebra.specs.NumberField.{NumberField}
use Rattle.axe_algebra.specs.Field.{Field}
use Rattle.axe_algebra.specs.Vectors.{Vector, Matrix, zero_vector, transposed, times}
use Rattle.axe_algebra.specs.Spans
use Rattle.axe_algebra.specs.Modules.{Module, InGenerated}
use Rattle.axe_algebra.specs.Words.{word_value}
use Rattle.axe_algebra.specs.Bridge.{field_of, vector_of, matrix_of, module_of, word_of}
use Rattle.axe_algebra.specs.Lists.{IsVectorOver, IsMatrixOver, IsSquareOver}
use Rattle.axe_algebra.specs.ListArithmetic.{combination, product, transpose}
use Rattle.axe_algebra.specs.SpansOfLists.{IsSpanned, IsIndependent, HaveSameSpan, SpansEverything}
use Rattle.axe_algebra.specs.PointTheorems.{IsNonzeroSpanned}
use Rattle.axe_algebra.proofs.ProductLaws.{times_times}
use Rattle.axe_algebra.proofs.Generated.{row_in_generated, image_in_generated}
use Rattle.axe_algebra.proofs.ListEntries.{vector_length}
use Rattle.axe_algebra.proofs.ListProducts.{vector_of_combination, combination_over, matrix_of_product, product_over, product_length, matrix_of_transpose, transpose_over}
use Rattle.axe_algebra.proofs.Spanning.{span_within}
use Rattle.axe_algebra.proofs.ListSpans.{row_spanned, appended_length, appended_before, appended_last, enough_rows_span}
use Rattle.axe_algebra.proofs.ListModules.{module_shape}
use Rattle.axe_algebra.proofs.ListWords.{is_word}
use Rattle.axe_algebra.proofs.ListIrreducible.{transpose_length}
use Rattle.axe_field.specs.Order.{Order, order_number}
use Rattle.axe_field.specs.NumberFields.{number_field, gf}
use Rattle.axe_row.specs.Rows.{RowValue}
use Rattle.axe_row.specs.Refusals.{Answers}
use Rattle.axe_row.specs.declared.refusals.Refusal.{Refusal}
use Rattle.axe_matrix.specs.Matrices.{MatrixValue, IsMatrix, transposed_matrix, matrix_product, vector_product, product_refusal, transpose_refusal}
use Rattle.axe_matrix.proofs.ProductLaws.{product_refusal-none}
use Rattle.axe_matrix.proofs.TransposeLaws.{transpose_refusal-none}
use Rattle.axe_echelon.specs.Echelons.{EchelonValue, IsEchelon}
use Rattle.axe_echelon.specs.Subspaces.{SpansOneMore}
use Rattle.axe_echelon.proofs.FormLaws.{below_or_at}
use Rattle.axe_spin.specs.Modules.{ModuleValue, IsModule, generator_of}
use Rattle.axe_word.specs.Tested.{IsTestedBy}
use Rattle.axe_word.proofs.ReducedNullSpaces.{null_is_reduced}
use Rattle.axe_norton.specs.Spaces.{GeneratesModule, point_of}
use Rattle.axe_norton.specs.Searches.{IsReducedIn, IsSquareIn}
use Rattle.axe_norton.specs.Pairings.{AreNullSpaces, GeneratesVector, IsPaired, IsPairing, TakesTo, combinations, AreCoordinatesOfPoint}
use Rattle.axe_norton.proofs.TestedLaws.{IsNullSpaceOver, null_space_over, value_square, null_in_module, transposed_over, null_point}
use Rattle.axe_norton.proofs.TruthLaws.{rows_over_field}
use Rattle.axe_norton.proofs.OpenLaws.{own_square}
use Rattle.axe_norton.proofs.SearchLaws.{point_in, some_point_in, transposed_null_rows}
use Rattle.axe_norton.proofs.DecisionLaws.{singular_with_rows}
use Rattle.axe_norton.proofs.PairingLaws.{HasProducts, generates_by_products}
use mathlib.Core.Path.{refl, sym, ◌∙◌, ap, subst}
use native.Mathlib.Nat.{mod-lt}
use native.Mathlib.Omega.{arith}

-- ---- images and their dot products

module _ (K : NumberField) where
  -- the combination of the rows of a product is that of the first one's rows, times the second
  pub combination_of_product : (p n : ℕ) (a b : List (List ℕ)) (c : List ℕ) → length b ≡ n → IsVectorOver K (length a) c → IsMatrixOver K n a →
      IsMatrixOver K p b → vector_of K (combination K p c (product K p a b)) ≡ times (field_of K) n (vector_of K (combination K n c a)) (matrix_of K b)
  combination_of_product p n a b c same over_c over_a over_b =
      vector_of_combination K p c (product K p a b) (subst (λ k. IsVectorOver K k c) (sym (product_length K p a b)) over_c) (product_over K p a b fits over_b)
      ∙ ap (λ k. times (field_of K) k (vector_of K c) (matrix_of K (product K p a b))) (product_length K p a b)
      ∙ ap (times (field_of K) (length a) (vector_of K c)) (matrix_of_product K p a b fits over_b)
      ∙ sym (times_times (field_of K) (length b) (length a) (vector_of K c) (matrix_of K a) (matrix_of K b))
      ∙ ap (λ (x : Vector (field_of K)). times (field_of K) (length b) x (matrix_of K b)) (sym (vector_of_combination K (length b) c a over_c fits))
      ∙ ap (λ k. times (field_of K) k (vector_of K (combination K k c a)) (matrix_of K b)) same
    where
      fits : IsMatrixOver K (length b) a
      fits = subst (λ k. IsMatrixOver K k a) (sym same) over_a

-- with any coordinates over the basis, the combination of the images is in what that of the basis generates
pub record AreImages (m : ModuleValue) (basis images : MatrixValue) : Type 0 where
  pub field : images.order ≡ m.order
  pub columns : images.cols ≡ m.dim
  pub count : length images.rows ≡ length basis.rows
  pub over : IsMatrixOver (number_field m.order) m.dim images.rows
  pub generated : (c : List ℕ) → IsVectorOver (number_field m.order) (length basis.rows) c →
      GeneratesVector m (combination (number_field m.order) m.dim c basis.rows) (combination (number_field m.order) m.dim c images.rows)

module _ (m : ModuleValue) where
  abbrev K : NumberField
  K = number_field m.order

  abbrev F : Field
  F = gf m.order

  abbrev M : Module F
  M = module_of K m.dim m.generators

  -- the basis itself
  pub images_at_start : (basis images : MatrixValue) → IsReducedIn m basis → IsMatrix basis → images ≡ basis → AreImages m basis images
  images_at_start basis images is well_formed same = subst (AreImages m basis) (sym same) (record {
    field = is.field;
    columns = is.columns;
    count = refl;
    over = over_basis;
    generated = λ c over.
        row_in_generated F M 1 (λ i. vector_of K (combination K m.dim c basis.rows))
        (λ i. vector_length K m.dim (combination K m.dim c basis.rows) (combination_over K m.dim c basis.rows over over_basis).length_is) 0 (omega arith);
  })
    where
      over_basis : IsMatrixOver K m.dim basis.rows
      over_basis = rows_over_field m.order m.dim basis is.field is.columns well_formed

  module _ (basis images : MatrixValue) (are : AreImages m basis images) where
    over_images : (c : List ℕ) → IsVectorOver K (length basis.rows) c → IsVectorOver K (length images.rows) c
    over_images c over = subst (λ k. IsVectorOver K k c) (sym are.count) over

    -- their images under a generator
    pub images_more : IsModule m → (i : ℕ) (next : MatrixValue) → i < length m.generators → next ≡ matrix_product images (generator_of m i) →
        AreImages m basis next
    images_more formed i next below is = subst (AreImages m basis) (sym next_is) (record {
      field = are.field;
      columns = refl;
      count = product_length K m.dim images.rows generator ∙ are.count;
      over = product_over K m.dim images.rows generator (subst (λ k. IsMatrixOver K k images.rows) (sym square.length_is) are.over) square.matrix;
      generated = λ c over.
          subst (InGenerated F M 1 (λ j. vector_of K (combination K m.dim c basis.rows)))
          (sym (combination_of_product K m.dim m.dim images.rows generator c square.length_is (over_images c over) are.over square.matrix))
          (image_in_generated F M (module_shape K m.dim m.generators formed.over.square) 1 (λ j. vector_of K (combination K m.dim c basis.rows))
          (vector_of K (combination K m.dim c images.rows)) i (are.generated c over) below);
    })
      where
        generator : List (List ℕ)
        generator = get_or m.generators i []

        square : IsSquareOver K m.dim generator
        square = formed.over.square i [] below

        next_is : next ≡ record { order = images.order; cols = m.dim; rows = product K m.dim images.rows generator }
        next_is = is ∙ ap (λ o. record { order = images.order; cols = m.dim; rows = product (number_field o) m.dim images.rows generator }) are.field

    -- their dot products with the rows of a matrix
    pub pairing_is : (others columns pairing : MatrixValue) → IsReducedIn m others → IsMatrix others → columns ≡ transposed_matrix others →
        pairing ≡ matrix_product images columns → IsPairing m basis others pairing
    pairing_is others columns pairing is well_formed columns_are pairing_are = subst (IsPairing m basis others) (sym same) (record {
      field = are.field;
      columns = refl;
      count = product_length K (length others.rows) images.rows (transpose m.dim others.rows) ∙ are.count;
      paired = λ c over. record {
        image = combination K m.dim c images.rows;
        generated = are.generated c over;
        products =
            combination_of_product K (length others.rows) m.dim images.rows (transpose m.dim others.rows) c (transpose_length m.dim others.rows) (over_images c over) are.over
            (transpose_over K m.dim others.rows over_others)
            ∙ ap (times F m.dim (vector_of K (combination K m.dim c images.rows))) (matrix_of_transpose K m.dim others.rows over_others);
      };
    })
      where
        over_others : IsMatrixOver K m.dim others.rows
        over_others = rows_over_field m.order m.dim others is.field is.columns well_formed

        same : pairing ≡ record { order = images.order; cols = length others.rows; rows = product K (length others.rows) images.rows (transpose m.dim others.rows) }
        same =
            pairing_are ∙ ap (matrix_product images) columns_are
            ∙ ap (λ o. record { order = images.order; cols = length others.rows; rows = product (number_field o) (length others.rows) images.rows (transpose others.cols others.rows) })
            are.field
            ∙ ap (λ k. record { order = images.order; cols = length others.rows; rows = product K (length others.rows) images.rows (transpose k others.rows) }) is.columns

  -- ---- the null spaces of the value of a word and of its transpose

  module _ (basis others : MatrixValue) (spaces : AreNullSpaces m basis others) where
    tested : IsTestedBy m spaces.tested.word (record { matrix = spaces.matrix; null_space = basis })
    tested = spaces.tested.is_tested

    square : IsSquareIn m spaces.matrix
    square = value_square m spaces.tested.word spaces.matrix tested.value

    pub basis_formed : IsMatrix basis
    basis_formed = tested.tested.well_formed

    pub basis_in : IsReducedIn m basis
    basis_in = null_in_module m spaces.matrix basis square tested.tested.null_space

    pub others_in : IsReducedIn m others
    others_in = record {
      field = spaces.of_transpose.field ∙ square.field;
      columns = spaces.of_transpose.columns ∙ transpose_length spaces.matrix.cols spaces.matrix.rows ∙ square.columns;
      reduced = null_is_reduced (transposed_matrix spaces.matrix) others spaces.of_transpose;
    }

    pub some_other : 0 < length others.rows
    some_other = transposed_null_rows spaces.matrix others (own_square m spaces.matrix square)
        (singular_with_rows m spaces.matrix basis square tested.tested.null_space basis_formed spaces.some_row) spaces.of_transpose

    value : matrix_of K spaces.matrix.rows ≡ word_value F M (word_of K spaces.tested.word)
    value = tested.value.value.value

    -- the first point is a null vector of the word's value
    first_is_null : Spans.IsNullVector F m.dim (word_value F M (word_of K spaces.tested.word)) (vector_of K (point_of basis 0))
    first_is_null =
        subst (λ (a : Matrix F). Spans.IsNullVector F m.dim a (vector_of K (point_of basis 0))) value
        (subst (λ k. Spans.IsNullVector F k (matrix_of K spaces.matrix.rows) (vector_of K (point_of basis 0))) square.square.length_is
        (null.basis.forth (vector_of K (point_of basis 0))
        (null_point m.order m.dim spaces.matrix.rows basis null 0 (some_point_in m basis basis_in basis_formed spaces.some_row)).spanned))
      where
        null : IsNullSpaceOver m.order m.dim spaces.matrix.rows basis
        null = null_space_over m.order m.dim spaces.matrix basis square.field square.square tested.tested.null_space basis_formed

    -- the null vectors of the transpose are the span of the other matrix
    others_span : (w : Vector F) → Spans.IsNullVector F m.dim (transposed F (word_value F M (word_of K spaces.tested.word))) w →
        Spans.InSpan F (length others.rows) (matrix_of K others.rows) w
    others_span w is_null =
        (transposed_over m spaces.matrix others square spaces.of_transpose spaces.well_formed).basis.back w
        (subst (λ k. Spans.IsNullVector F k (matrix_of K (transpose m.dim spaces.matrix.rows)) w) (sym (transpose_length m.dim spaces.matrix.rows))
        (subst (λ (a : Matrix F). Spans.IsNullVector F m.dim a w)
        (sym (matrix_of_transpose K m.dim spaces.matrix.rows square.square.matrix ∙ ap (λ (a : Matrix F). transposed F a) value)) is_null))

    module _ (formed : IsModule m) (first : GeneratesModule m (point_of basis 0)) where
      -- a vector whose dot products span all generates everything
      pub seen_to_generate : (v : List ℕ) → IsVectorOver K m.dim v → vector_of K v ≢ zero_vector F → (rows : List (List ℕ)) →
          ((t : ℕ) → t < length rows → IsPaired m others v (get_or rows t [])) → SpansEverything K (length others.rows) rows → GeneratesModule m v
      seen_to_generate v over nonzero rows each all =
          generates_by_products F M (module_shape K m.dim m.generators formed.over.square) (word_of K spaces.tested.word)
          (is_word K m.dim m.generators spaces.tested.word spaces.tested.is_word.over) (vector_of K (point_of basis 0)) first_is_null first
          (length others.rows) (matrix_of K others.rows) others_span (vector_of K v) (vector_length K m.dim v over.length_is) nonzero
          (length rows) (matrix_of K rows) products all
        where
          products : (t : ℕ) → t < length rows → HasProducts F M (matrix_of K others.rows) (vector_of K v) (matrix_of K rows t)
          products t below =
              let paired = each t below in
              record { image = vector_of K paired.image; generated = paired.generated; products = paired.products }

      -- a point whose pairings span all does
      pub seen_point : (c : RowValue) (pairings : List MatrixValue) → AreCoordinatesOfPoint m basis c → All (IsPairing m basis others) pairings →
          SpansEverything (number_field c.order) (length others.rows) (combinations c pairings) → GeneratesModule m (vector_product c basis).entries
      seen_point c pairings of_point are all =
          seen_to_generate (vector_product c basis).entries (subst (IsVectorOver K m.dim) (sym of_point.combine) point.over)
          (subst (λ (v : List ℕ). vector_of K v ≢ zero_vector F) (sym of_point.combine) point.nonzero) (combinations c pairings) each
          (subst (λ o. SpansEverything (number_field o) (length others.rows) (combinations c pairings)) of_point.field all)
        where
          point : IsNonzeroSpanned K m.dim basis.rows (point_of basis of_point.number)
          point = point_in m basis basis_in basis_formed of_point.number of_point.below

          vector_is : (vector_product c basis).entries ≡ combination K m.dim c.entries basis.rows
          vector_is =
              ap (λ o. combination (number_field o) basis.cols c.entries basis.rows) basis_in.field
              ∙ ap (λ k. combination K k c.entries basis.rows) basis_in.columns

          each : (t : ℕ) → t < length (combinations c pairings) → IsPaired m others (vector_product c basis).entries (get_or (combinations c pairings) t [])
          each t below =
              let inside : t < length pairings = omega (arith, length-map pairings (λ (matrix : MatrixValue). (vector_product c matrix).entries)) in
              let pairing : IsPairing m basis others (get_or pairings t basis) = are t basis inside in
              let row : get_or (combinations c pairings) t [] ≡ combination K (length others.rows) c.entries (get_or pairings t basis).rows =
              get_or-map (λ (matrix : MatrixValue). (vector_product c matrix).entries) pairings t basis [] inside
              ∙ ap (λ o. combination (number_field o) (get_or pairings t basis).cols c.entries (get_or pairings t basis).rows) pairing.field
              ∙ ap (λ k. combination K k c.entries (get_or pairings t basis).rows) pairing.columns in
              subst (IsPaired m others (vector_product c basis).entries) (sym row)
              (subst (λ (v : List ℕ). IsPaired m others v (combination K (length others.rows) c.entries (get_or pairings t basis).rows)) (sym vector_is)
              (pairing.paired c.entries of_point.over))

-- ---- the products that are made

-- an accepted call's value
pub value_if_accepted : {T : Type 0} (why : Option Refusal) (P : T → Type 0) (value : T) → why ≡ None → Answers why P (Ok value) → P value
value_if_accepted why P value none answer = subst (λ w. Answers w P (Ok value)) none answer

pub some_columns : (m : ModuleValue) (basis others : MatrixValue) → AreNullSpaces m basis others → transpose_refusal others ≡ None
some_columns m basis others spaces = transpose_refusal-none others (λ none. omega (arith, none, some_other m basis others spaces))

-- some generator has this number
pub number_below : (x n count : ℕ) → n ≡ count → 1 ≤ count → x % n < count
number_below x n count same some = subst (λ k. x % n < k) same (mod-lt x (omega arith))

pub image_accepted : (m : ModuleValue) (basis images g : MatrixValue) (i : ℕ) → AreImages m basis images → g ≡ generator_of m i → length g.rows ≡ m.dim →
    product_refusal images g ≡ None
image_accepted m basis images g i are is square =
    product_refusal-none images g (ap order_number (are.field ∙ sym (ap (λ (a : MatrixValue). a.order) is))) (are.columns ∙ sym square)

pub pairing_accepted : (m : ModuleValue) (basis images others columns : MatrixValue) → AreImages m basis images → IsReducedIn m others →
    columns ≡ transposed_matrix others → product_refusal images columns ≡ None
pairing_accepted m basis images others columns are is same =
    product_refusal-none images columns (ap order_number (are.field ∙ sym (ap (λ (a : MatrixValue). a.order) same ∙ is.field)))
    (are.columns ∙ sym (ap (λ (a : MatrixValue). length a.rows) same ∙ transpose_length others.cols others.rows ∙ is.columns))

-- where the call is accepted, its value has the images under a generator
pub images_next : (m : ModuleValue) (basis images g next : MatrixValue) (i : ℕ) → AreImages m basis images → IsModule m → g ≡ generator_of m i →
    length g.rows ≡ m.dim → i < length m.generators →
    Answers (product_refusal images g) (λ (made : MatrixValue). made ≡ matrix_product images g) (Ok next) → AreImages m basis next
images_next m basis images g next i are formed is square below answer =
    images_more m basis images are formed i next below
    (value_if_accepted (product_refusal images g) (λ (made : MatrixValue). made ≡ matrix_product images g) next
    (image_accepted m basis images g i are is square) answer
    ∙ ap (matrix_product images) is)

-- where the calls are accepted, the value of the last is a pairing: it has the dot products of the images with the null
-- vectors of the transpose
pub pairing_made : (m : ModuleValue) (basis images others columns pairing : MatrixValue) → AreNullSpaces m basis others → AreImages m basis images →
    Answers (transpose_refusal others) (λ (made : MatrixValue). made ≡ transposed_matrix others) (Ok columns) →
    Answers (product_refusal images columns) (λ (made : MatrixValue). made ≡ matrix_product images columns) (Ok pairing) →
    IsPairing m basis others pairing
pairing_made m basis images others columns pairing spaces are transpose_answer product_answer =
    pairing_is m basis images are others columns pairing within spaces.well_formed same
    (value_if_accepted (product_refusal images columns) (λ (made : MatrixValue). made ≡ matrix_product images columns) pairing
    (pairing_accepted m basis images others columns are within same) product_answer)
  where
    within : IsReducedIn m others
    within = others_in m basis others spaces

    same : columns ≡ transposed_matrix others
    same = value_if_accepted (transpose_refusal others) (λ (made : MatrixValue). made ≡ transposed_matrix others) columns
        (some_columns m basis others spaces) transpose_answer

-- ---- spans of pairings

-- a pairing takes the coordinates of a point to its dot products
pub pairings_take : (m : ModuleValue) (basis others : MatrixValue) (c : RowValue) (pairings : List MatrixValue) → AreCoordinatesOfPoint m basis c →
    All (IsPairing m basis others) pairings → All (TakesTo c (length others.rows)) pairings
pairings_take m basis others c pairings of_point are i d below =
    let pairing : IsPairing m basis others (get_or pairings i d) = are i d below in
    record {
      field = pairing.field ∙ sym of_point.field;
      columns_are = pairing.columns;
      count = pairing.count ∙ sym of_point.over.length_is;
    }

-- the rows of an echelon form are in the span of others
pub record IsWithin (o : Order) (columns : ℕ) (rows : List (List ℕ)) (e : EchelonValue) : Type 0 where
  pub field : e.order ≡ o
  pub columns_are : e.cols ≡ columns
  pub within : (t : ℕ) → t < length e.rows → IsSpanned (number_field o) rows (get_or e.rows t [])

module _ (o : Order) (columns : ℕ) (rows : List (List ℕ)) where
  -- with one more vector of that span
  pub within_more : (old next : EchelonValue) (v : List ℕ) (new : Bool) → IsWithin o columns rows old → SpansOneMore new old v next → IsSpanned (number_field o) rows v →
      IsWithin o columns rows next
  within_more old next v new is more spanned = record {
    field = more.field ∙ is.field;
    columns_are = more.columns ∙ is.columns_are;
    within = by_new new more;
  }
    where
      within_old : (t : ℕ) → t < length old.rows → IsSpanned (number_field o) rows (get_or old.rows t [])
      within_old = is.within

      appended : (t : ℕ) → t < length (old.rows ++ v ∷ []) → IsSpanned (number_field o) rows (get_or (old.rows ++ v ∷ []) t [])
      appended t below = below_or_at (λ s. IsSpanned (number_field o) rows (get_or (old.rows ++ v ∷ []) s [])) (length old.rows)
          (λ s early. subst (Spans.InSpan (gf o) (length rows) (matrix_of (number_field o) rows)) (sym (appended_before (number_field o) old.rows v s early)) (within_old s early))
          (subst (Spans.InSpan (gf o) (length rows) (matrix_of (number_field o) rows)) (sym (appended_last (number_field o) old.rows v)) spanned)
          t (omega (arith, below, appended_length (number_field o) old.rows v))

      by_new : (b : Bool) → SpansOneMore b old v next → (t : ℕ) → t < length next.rows → IsSpanned (number_field o) rows (get_or next.rows t [])
      by_new true one_more t below =
          span_within (gf o) (length (old.rows ++ v ∷ [])) (matrix_of (number_field o) (old.rows ++ v ∷ [])) (length rows) (matrix_of (number_field o) rows) (matrix_of (number_field o) next.rows t) appended
          ((subst (λ q. HaveSameSpan (number_field q) (old.rows ++ v ∷ []) next.rows) is.field one_more.same).back t below)
      by_new false one_more t below =
          span_within (gf o) (length old.rows) (matrix_of (number_field o) old.rows) (length rows) (matrix_of (number_field o) rows) (matrix_of (number_field o) next.rows t) within_old
          ((subst (λ q. HaveSameSpan (number_field q) old.rows next.rows) is.field one_more.same).back t below)

  -- as many independent ones as columns: the others span everything
  pub within_full : (e : EchelonValue) → IsWithin o columns rows e → IsEchelon e → length e.rows ≡ columns → SpansEverything (number_field o) columns rows
  within_full e is formed full x long =
      span_within (gf o) (length e.rows) (matrix_of (number_field o) e.rows) (length rows) (matrix_of (number_field o) rows) x is.within
      (enough_rows_span (number_field o) columns e.rows
      (subst (λ q. IsMatrixOver (number_field q) columns e.rows) is.field (subst (λ k. IsMatrixOver (number_field e.order) k e.rows) is.columns_are formed.over))
      (subst (λ q. IsIndependent (number_field q) e.rows) is.field formed.independent) full x long)

-- the row times one of the matrices is one of the combinations
pub combination_spanned : (c : RowValue) (matrices : List MatrixValue) (i : ℕ) (matrix : MatrixValue) (v : RowValue) → i < length matrices →
    matrix ≡ get_or matrices i matrix → v ≡ vector_product c matrix → IsSpanned (number_field c.order) (combinations c matrices) v.entries
combination_spanned c matrices i matrix v below is row =
    subst (IsSpanned (number_field c.order) (combinations c matrices))
    (get_or-map (λ (a : MatrixValue). (vector_product c a).entries) matrices i matrix [] below
    ∙ ap (λ (a : MatrixValue). (vector_product c a).entries) (sym is) ∙ sym (ap (λ (r : RowValue). r.entries) row))
    (row_spanned (number_field c.order) (combinations c matrices) i
    (omega (arith, below, length-map matrices (λ (a : MatrixValue). (vector_product c a).entries))))

-- one of the matrices takes the row to rows of so many entries
pub item_columns : (c : RowValue) (columns : ℕ) (matrices : List MatrixValue) (i : ℕ) (matrix : MatrixValue) → All (TakesTo c columns) matrices →
    i < length matrices → matrix ≡ get_or matrices i matrix → matrix.cols ≡ columns
item_columns c columns matrices i matrix each below is =
    ap (λ (a : MatrixValue). a.cols) is ∙ (let takes : TakesTo c columns (get_or matrices i matrix) = each i matrix below in takes.columns_are)
